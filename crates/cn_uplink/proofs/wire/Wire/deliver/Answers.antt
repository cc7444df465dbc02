use Rattle.std.proofs.Common.{◌∙◌, sym, subst, arith}
use Rattle.std.proofs.lemmas.Option.{slice_get_within}
use Rattle.cn_uplink.specs.Faithful.{Carries, IsSound}
use Rattle.cn_uplink.specs.Wire.{link_of}
use Rattle.cn_uplink.proofs.Lists.{All-at}
use Rattle.cn_uplink.proofs.Steps.{packet-goes}
use Rattle.cn_uplink.proofs.Wires.{packet-is, read-at}
use Rattle.cn_uplink.proofs.wire.Wire.deliver.Goals as goal

pub receive-requires : goal.receive-requires
receive-requires c = λ next.
    let w = c.args.self.now in
    let p = c.in-Some.packet.now in
    let at = read-at w.sent.items c.as_slice.result.now c.args.n p c.as_slice.ensures.value c.in-Some.ensures.lookup.3.0 c.in-Some.ensures.lookup.1 in
    let carried = All-at (Carries w.log.entries) w.sent.items c.args.n p at c.requires.wire.sound.faithful.sent in
    omega (arith, slice_get_within w.log.entries p.place p.entry carried, next, c.requires.wire.room)

pub returns-clause-link : goal.returns-clause-link
returns-clause-link c =
    let w = c.args.self.now in
    let p = c.in-Some.packet.now in
    let at = read-at w.sent.items c.as_slice.result.now c.args.n p c.as_slice.ensures.value c.in-Some.ensures.lookup.3.0 c.in-Some.ensures.lookup.1 in
    packet-is (link_of w) c.args.n p c.entries.result.now c.receive.new.host.entries c.keep.new.items.items at c.receive.ensures.entries c.entries.ensures c.keep.ensures.items

pub returns-clause-wire : goal.returns-clause-wire
returns-clause-wire c = record {
  sound = subst IsSound (sym (returns-clause-link c)) (packet-goes (link_of c.args.self.now) c.args.n c.requires.wire.sound).sound;
  capacity = c.requires.wire.capacity;
  room = c.receive.ensures.room ∙ c.requires.wire.room;
  few = c.requires.wire.few;
}
