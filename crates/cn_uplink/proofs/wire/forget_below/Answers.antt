use Rattle.std.proofs.Common.{◌∙◌, sym, ap, arith}
use Rattle.std.specs.Option.{option_copied}
use Rattle.circular_buffer.specs.Buffer.{Buffer}
use Rattle.cn_uplink.specs.declared.packet.Packet.{Packet}
use Rattle.cn_uplink.proofs.Windows.{none-left, stays, leaves-run, leaves-same}
use Rattle.cn_uplink.proofs.wire.forget_below.Goals as goal

pub returns-in_default-clause-items : goal.returns-in_default-clause-items
returns-in_default-clause-items c =
    let window = c.packets.window.items in
    stays c.args.place c.packets.invariant.0.0 c.args.next window c.in-Some.packet.now c.packets.invariant.0.1 (sym c.front.ensures ∙ ap option_copied c.in-Some.is) (omega arith) ∙ c.packets.invariant.1

pub returns-in_default-2-clause-items : goal.returns-in_default-2-clause-items
returns-in_default-2-clause-items c = none-left c.args.place c.packets.window.items (sym c.front.ensures ∙ ap option_copied c.in_default.is) ∙ c.packets.invariant.1

pub packets-preserved : goal.packets-preserved
packets-preserved c =
    let window = c.packets.window.items in
    let items = ap (λ (b : Buffer Packet). b.items) c.pop_front.ensures.items in
    rw items (
      leaves-run c.packets.invariant.0.0 c.args.next window c.packets.invariant.0.1,
      leaves-same c.args.place window c.in-Some.packet.now (sym c.front.ensures ∙ ap option_copied c.in-Some.is) (omega arith) ∙ c.packets.invariant.1,
      ap (λ (b : Buffer Packet). b.capacity) c.pop_front.ensures.items ∙ c.packets.invariant.2,
    )
