use Rattle.std.proofs.Common.{◌∙◌, sym, subst, arith}
use Rattle.cn_uplink.specs.Faithful.{IsSound}
use Rattle.cn_uplink.specs.Wire.{link_of}
use Rattle.cn_uplink.proofs.Steps.{ack-goes}
use Rattle.cn_uplink.proofs.Wires.{ack-told, raise-is, read-at}
use Rattle.cn_uplink.proofs.wire.Wire.acknowledge.Goals as goal

pub returns-then-held-self-clause-link : goal.returns-then-held-self-clause-link
returns-then-held-self-clause-link c =
    let w = c.args.self.now in
    let at = read-at w.acknowledgements.items c.as_slice.result.now c.args.n c.in-Some.held.now c.as_slice.ensures.value c.in-Some.ensures.lookup.3.0 c.in-Some.ensures.lookup.1 in
    raise-is (link_of w) c.args.n c.in-Some.held.now c.max-self.result c.forget_below.new.window.items at c.if-held-self.true (omega arith) c.forget_below.ensures.items

pub returns-then-held-self-clause-wire : goal.returns-then-held-self-clause-wire
returns-then-held-self-clause-wire c = record {
  sound = subst IsSound (sym (returns-then-held-self-clause-link c)) (ack-goes (link_of c.args.self.now) c.args.n c.requires.sound).sound;
  capacity = c.forget_below.ensures.capacity ∙ c.requires.capacity;
  room = c.requires.room;
  few = c.requires.few;
}

pub returns-else-held-self-clause-link : goal.returns-else-held-self-clause-link
returns-else-held-self-clause-link c =
    let w = c.args.self.now in
    let at = read-at w.acknowledgements.items c.as_slice.result.now c.args.n c.in-Some.held.now c.as_slice.ensures.value c.in-Some.ensures.lookup.3.0 c.in-Some.ensures.lookup.1 in
    ack-told (link_of w) c.args.n c.in-Some.held.now at (omega arith)
