use Rattle.std.proofs.Common.{◌≡◌, ℕ, length, nat_le}
use Rattle.std.specs.List.{filter}
use Rattle.cn_uplink.specs.declared.packet.Packet.{Packet}
use Rattle.cn_uplink.specs.Faithful.{IsRun}
use Rattle.cn_uplink.proofs.wire.forget_below.Given as goal

-- some packets have left, all of them below the place
abbrev pub invariant-packets : goal.invariant-packets
invariant-packets l =
    ((from : ℕ) × IsRun from l.next l.window.items)
    × (filter (λ (p : Packet). nat_le l.place p.place) l.window.items ≡ filter (λ (p : Packet). nat_le l.place p.place) l.fn.window.items)
    × (l.window.capacity ≡ l.fn.window.capacity)

abbrev pub decreases-packets : goal.decreases-packets
decreases-packets l = length l.window.items
