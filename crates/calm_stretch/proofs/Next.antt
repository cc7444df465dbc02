-- The job that is due first, by counts of arrivals.
use Rattle.std.proofs.Common.{ℕ, ◌+◌, ◌-◌, ◌<◌, min, List, refl, arith}
use Rattle.demand_core.specs.declared.Load.{Load}
use Rattle.event_arrivals.specs.Counts.{AreCounted}
use Rattle.calm_stretch.specs.Loads.{IsAt}
use Rattle.calm_stretch.specs.Moment.{Outside, came, IsArrival}
use Rattle.calm_stretch.proofs.Worlds.{World, IsNext, IsPending, due}

-- the arrival with index k comes before x where more than k do
pub counted : (out : Outside) → AreCounted out.arrivals → (e k a x : ℕ) → IsArrival out e k a → a < x → k < came out e x
counted out counts e k a x is early = let at = is.2 in counts.counted e k x is.0 is.1 (omega arith)

-- and the other way round
pub counted_one : (out : Outside) → AreCounted out.arrivals → (e k x : ℕ) → k < came out e x → (a : ℕ) × IsArrival out e k a × (a < x)
counted_one out counts e k x some =
    let one = counts.has_come e k x some in
    (one.0.tick, (one.0, one.1, refl), one.2)

pub next_pending : (loads : List Load) (out : Outside) → AreCounted out.arrivals → (w : World) (j : ℕ) (x : Load) → IsNext loads out w j x → IsPending out w j
next_pending loads out counts w j x next =
    let early = next.pending in
    counted out counts j (w.done j) next.arrival (w.tick + 1) next.is (omega arith)

pub next_first : (loads : List Load) (out : Outside) → AreCounted out.arrivals → (w : World) (j : ℕ) (x : Load) →
    IsNext loads out w j x → (d e : ℕ) (y : Load) → IsAt loads e y → w.done e < due out w d e y → w.done j < due out w d j x
next_first loads out counts w j x next d e y at waits =
    let one = counted_one out counts e (w.done e) (min (w.tick + 1) (d + 1 - y.deadline)) waits in
    let soon : one.0 < min (w.tick + 1) (d + 1 - y.deadline) = one.2 in
    let least = next.first e y one.0 at one.1 (omega arith) in
    let early = next.pending in
    counted out counts j (w.done j) next.arrival (min (w.tick + 1) (d + 1 - x.deadline)) next.is (omega arith)
