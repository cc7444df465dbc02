use Rattle.std.proofs.Common.{◌+◌, arith}
use Rattle.cn_uplink.proofs.Wires.{less}
use Rattle.cn_uplink.proofs.wire.Wire.step.Goals as goal

pub returns-in-Grow-clause-room : goal.returns-in-Grow-clause-room
returns-in-Grow-clause-room c = λ p a h. c.grow.ensures.room p a (less (p + 1) (a + 1) p a c.args.self.now h (omega arith) (omega arith))

pub returns-in-Send-clause-room : goal.returns-in-Send-clause-room
returns-in-Send-clause-room c = λ p a h. c.send.ensures.room p a (less (p + 1) (a + 1) (p + 1) a c.args.self.now h (omega arith) (omega arith))

pub returns-in-Again-clause-room : goal.returns-in-Again-clause-room
returns-in-Again-clause-room c = λ p a h. c.again.ensures.room p a (less (p + 1) (a + 1) (p + 1) a c.args.self.now h (omega arith) (omega arith))

pub returns-in-Deliver-clause-room : goal.returns-in-Deliver-clause-room
returns-in-Deliver-clause-room c = λ p a h. c.deliver.ensures.room p a (less (p + 1) (a + 1) p (a + 1) c.args.self.now h (omega arith) (omega arith))

pub returns-in-Ack-clause-room : goal.returns-in-Ack-clause-room
returns-in-Ack-clause-room c = λ p a h. c.acknowledge.ensures.room p a (less (p + 1) (a + 1) p a c.args.self.now h (omega arith) (omega arith))

pub returns-in-Restart-clause-room : goal.returns-in-Restart-clause-room
returns-in-Restart-clause-room c = λ p a h. c.restart.ensures.room p a (less (p + 1) (a + 1) p a c.args.self.now h (omega arith) (omega arith))
