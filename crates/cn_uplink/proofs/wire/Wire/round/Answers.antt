use Rattle.std.proofs.Common.{◌+◌}
use Rattle.cn_uplink.proofs.wire.Wire.round.Goals as goal

pub deliver-requires-clause-room : goal.deliver-requires-clause-room
deliver-requires-clause-room c = c.offer.ensures.room 0 1 c.requires.room

pub returns-clause-room : goal.returns-clause-room
returns-clause-room c = λ packets acks room. c.acknowledge.ensures.room packets acks (c.deliver.ensures.room packets acks (c.offer.ensures.room packets (acks + 1) room))
