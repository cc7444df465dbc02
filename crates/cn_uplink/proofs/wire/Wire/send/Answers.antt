use Rattle.std.proofs.Common.{◌∙◌, sym, ap, subst, arith}
use Rattle.circular_buffer.specs.Buffer.{Buffer}
use Rattle.cn_uplink.specs.declared.packet.Packet.{Packet}
use Rattle.cn_uplink.specs.Faithful.{IsSound}
use Rattle.cn_uplink.specs.Wire.{link_of}
use Rattle.cn_uplink.proofs.Steps.{send-goes}
use Rattle.cn_uplink.proofs.Wires.{send-is}
use Rattle.cn_uplink.proofs.wire.Wire.send.Goals as goal

pub returns-clause-link : goal.returns-clause-link
returns-clause-link c =
    send-is (link_of c.args.self.now) c.entries.result.now _ c.args.self.now.window.capacity c.push_back.new.self c.keep.new.items.items
    (omega arith) c.requires.wire.sound.visible (omega arith) c.requires.wire.capacity c.entries.ensures c.push_back.ensures.items c.keep.ensures.items

pub returns-clause-wire : goal.returns-clause-wire
returns-clause-wire c = record {
  sound = subst IsSound (sym (returns-clause-link c)) (send-goes (link_of c.args.self.now) c.requires.wire.sound).sound;
  capacity = ap (λ (b : Buffer Packet). b.capacity) c.push_back.ensures.items ∙ c.requires.wire.capacity;
  room = c.requires.wire.room;
  few = c.requires.wire.few;
}
