-- A window from which packets leave at the front.
use Rattle.std.proofs.Common.{◌≡◌, ℕ, ◌+◌, ◌≤◌, ◌<◌, nat_le, List, [], ◌∷◌, drop, Some, None, refl, sym, ap, arith}
use Rattle.std.specs.Prelude.{slice_get}
use Rattle.std.specs.List.{filter}
use Rattle.std.proofs.lemmas.Option.{none-some}
use Rattle.cn_uplink.specs.declared.packet.Packet.{Packet}
use Rattle.cn_uplink.specs.Faithful.{IsRun}
use Rattle.cn_uplink.proofs.Lists.{filter-all, filter-drops}

-- the packets from a place on
abbrev from : ℕ → List Packet → List Packet
from a window = filter (λ p. nat_le a p.place) window

-- nothing is left
pub none-left : (a : ℕ) (window : List Packet) → slice_get window 0 ≡ None → window ≡ filter (λ p. nat_le a p.place) window
none-left a [] e = refl
none-left a (p ∷ window) e = absurd (none-some p (sym e))

-- the front stays, and so do all behind it
pub stays : (a base next : ℕ) (window : List Packet) (p : Packet) → IsRun base next window → slice_get window 0 ≡ Some p → a ≤ p.place → window ≡ filter (λ p. nat_le a p.place) window
stays a base next [] p h e le = refl
stays a base next (q ∷ window) p h e le =
    let same : q ≡ p = grind arith in
    sym (filter-all a base next (q ∷ window) h (omega (arith, h.0, ap (λ (p : Packet). p.place) same)))

pub leaves-run : (base next : ℕ) (window : List Packet) → IsRun base next window → (start : ℕ) × IsRun start next (drop 1 window)
leaves-run base next [] h = (base, h)
leaves-run base next (q ∷ window) h = (base + 1, h.1)

pub leaves-same : (a : ℕ) (window : List Packet) (p : Packet) → slice_get window 0 ≡ Some p → p.place < a → from a (drop 1 window) ≡ from a window
leaves-same a [] p e lt = refl
leaves-same a (q ∷ window) p e lt =
    let same : q ≡ p = grind arith in
    sym (filter-drops a q window (omega (arith, ap (λ (p : Packet). p.place) same)))
