-- What follows where Held holds.
use Rattle.std.proofs.Common.{◌≡◌, ◌≢◌, ℕ, zero, suc, ◌+◌, ◌-◌, ◌*◌, ◌/◌, ◌<◌, ◌≤◌, inl, inr, min, List, sum_by, refl, ap, subst, ◌∙◌, arith, mul-le-mul_right}
use Rattle.std.proofs.lemmas.Bool.{cases_lt}
use Rattle.std.proofs.lemmas.Bool.Decides.{nat_tests}
use Rattle.std.proofs.lemmas.Nat.{div_below}
use native.Mathlib.Nat.{add-div_right}
use Rattle.demand_core.specs.declared.Load.{Load}
use Rattle.demand_core.specs.declared.Base.{Base}
use Rattle.demand_core.specs.Demand.{sbf, rbf, dbf}
use Rattle.calm_stretch.specs.Loads.{IsAt, over, units_of}
use Rattle.calm_stretch.specs.Moment.{Outside, came, gained, Doing, taken_in}
use Rattle.calm_stretch.proofs.Worlds.{World, taken, kept_in, IsShort}
use Rattle.calm_stretch.specs.Moment.Doing.{Free, Job, Section, Wake, Save, Sleep}
use Rattle.calm_stretch.proofs.Sums.{over-le, over-add, over-step, over-zero, over_is, all_at}
use Rattle.calm_stretch.proofs.Supply.{gained-sbf}
use Rattle.event_arrivals.specs.Counts.{AreCounted}
use Rattle.event_arrivals.specs.Kept.{spacing_at}
use Rattle.calm_stretch.proofs.Demands.{rbf_is, dbf_is}
use Rattle.calm_stretch.proofs.Held.{Premises, arrived, work_left, Fits, Held}

-- ---- arrivals

came_spaced : (out : Outside) → AreCounted out.arrivals → (e t a n : ℕ) → 0 < t → spacing_at out.arrivals.timings e ≡ t →
    came out e (a + n) ≤ came out e a + (n + t - 1) / t
came_spaced out counts e t a n pos is =
    subst (λ (m : ℕ). came out e (a + n) ≤ came out e a + (n + m - 1) / m) is (counts.spaced e a n (omega arith))

-- in a closed interval of length l
pub came_within : (out : Outside) → AreCounted out.arrivals → (e t a l : ℕ) → 0 < t → spacing_at out.arrivals.timings e ≡ t → came out e (a + l + 1) ≤ came out e a + (l / t + 1)
came_within out counts e t a l pos spaced =
    let some = came_spaced out counts e t a (l + 1) pos spaced in
    let same : a + l + 1 ≡ a + (l + 1) = omega arith in
    let whole : l + 1 + t - 1 ≡ l + t = omega arith in
    let more : (l + t) / t ≡ l / t + 1 = add-div_right l pos in
    rw same (subst (λ (n : ℕ). came out e (a + (l + 1)) ≤ came out e a + n) (ap (λ (n : ℕ). n / t) whole ∙ more) some)

-- those that arrive from tick b on and are due by d
pub came_due : (out : Outside) → AreCounted out.arrivals → (e : ℕ) (x : Load) (b d : ℕ) → 0 < x.spacing → spacing_at out.arrivals.timings e ≡ x.spacing → x.deadline ≤ x.spacing → b ≤ d →
    came out e (d + 1 - x.deadline) ≤ came out e (min b (d + 1 - x.deadline)) + (d - b + x.spacing - x.deadline) / x.spacing
came_due out counts e x b d pos spaced within le =
    elim (cases_lt b (d + 1 - x.deadline)) [
      | inl some_left ↦
          let some = came_spaced out counts e x.spacing b (d + 1 - x.deadline - b) pos spaced in
          let end : b + (d + 1 - x.deadline - b) ≡ d + 1 - x.deadline = omega arith in
          let length : d + 1 - x.deadline - b + x.spacing - 1 ≡ d - b + x.spacing - x.deadline = omega arith in
          let least : min b (d + 1 - x.deadline) ≡ b = omega arith in
          let stated : came out e (b + (d + 1 - x.deadline - b)) ≤ came out e b + (d - b + x.spacing - x.deadline) / x.spacing =
          subst (λ (n : ℕ). came out e (b + (d + 1 - x.deadline - b)) ≤ came out e b + n / x.spacing) length some in
          rw least (subst (λ (n : ℕ). came out e n ≤ came out e b + (d - b + x.spacing - x.deadline) / x.spacing) end stated)
      | inr shut ↦
          let least : min b (d + 1 - x.deadline) ≡ d + 1 - x.deadline = omega arith in
          rw least (omega arith)
    ]

-- ---- sums

pub units_of-le : (loads : List Load) (f g : ℕ → ℕ) → ((e : ℕ) (x : Load) → IsAt loads e x → f e ≤ g e) → units_of loads f ≤ units_of loads g
unfolding units_of
units_of-le loads f g le = over-le loads (λ e x. f e * x.units) (λ e x. g e * x.units) (λ e x at. mul-le-mul_right x.units (le e x at))

-- one event has jobs of c units more
pub units_of-step : (loads : List Load) (f g : ℕ → ℕ) (j c : ℕ) (y : Load) → IsAt loads j y →
    ((e : ℕ) (x : Load) → IsAt loads e x → e ≢ j → f e ≤ g e) → f j * y.units + c ≤ g j * y.units → units_of loads f + c ≤ units_of loads g
unfolding units_of
units_of-step loads f g j c y at others one =
    over-step loads (λ e x. f e * x.units) (λ e x. g e * x.units) j c y at (λ e x at apart. mul-le-mul_right x.units (others e x at apart)) one

-- one job more of each
pub units_of-each : (loads : List Load) (f : ℕ → ℕ) → units_of loads (λ e. f e + 1) ≡ units_of loads f + sum_by (λ x. x.units) loads
unfolding units_of
units_of-each loads f =
    over-add loads (λ e x. f e * x.units) (λ e x. x.units) (λ e x. (f e + 1) * x.units) (λ e x at. omega arith)
    ∙ ap (λ (n : ℕ). over loads (λ e x. f e * x.units) + n) (over_is loads (λ x. x.units))

-- what arrives in a closed interval
pub arrived-rbf : (base : Base) (loads : List Load) (reserve : ℕ) (out : Outside) (s z : ℕ) → Premises base loads reserve out s z →
    (a l : ℕ) → arrived loads out (a + l + 1) ≤ arrived loads out a + rbf loads l
unfolding arrived units_of
arrived-rbf base loads reserve out s z premises a l =
    let parts = over-add loads (λ e x. came out e a * x.units) (λ e x. (l / x.spacing + 1) * x.units) (λ e x. came out e a * x.units + (l / x.spacing + 1) * x.units) (λ e x at. refl) in
    let most = over-le loads (λ e x. came out e (a + l + 1) * x.units) (λ e x. came out e a * x.units + (l / x.spacing + 1) * x.units) each in
    omega (arith, rbf_is loads l)
  where
    each : (e : ℕ) (x : Load) → IsAt loads e x → came out e (a + l + 1) * x.units ≤ came out e a * x.units + (l / x.spacing + 1) * x.units
    each e x at =
        let pos : 0 < x.spacing = all_at (λ y. 0 < y.spacing) loads premises.are.spacings e x at in
        omega (arith, mul-le-mul_right x.units (came_within out premises.counts e x.spacing a l pos (premises.spaced e x at)))

-- the work that is left, where all that came before tick b and is due by d is taken
pub work_left-dbf : (base : Base) (loads : List Load) (reserve : ℕ) (out : Outside) (s z : ℕ) → Premises base loads reserve out s z →
    (f : ℕ → ℕ) (b d : ℕ) → b ≤ d → ((e : ℕ) (x : Load) → IsAt loads e x → came out e (min b (d + 1 - x.deadline)) ≤ f e) →
    work_left loads out f d ≤ dbf loads (d - b)
unfolding work_left
work_left-dbf base loads reserve out s z premises f b d le all_before =
    rw dbf_is (over-le loads (λ e x. (came out e (d + 1 - x.deadline) - f e) * x.ticks) (λ e x. (d - b + x.spacing - x.deadline) / x.spacing * x.ticks) each)
  where
    each : (e : ℕ) (x : Load) → IsAt loads e x → (came out e (d + 1 - x.deadline) - f e) * x.ticks ≤ (d - b + x.spacing - x.deadline) / x.spacing * x.ticks
    each e x at =
        let pos : 0 < x.spacing = all_at (λ y. 0 < y.spacing) loads premises.are.spacings e x at in
        let within : x.deadline ≤ x.spacing = all_at (λ y. y.deadline ≤ y.spacing) loads premises.are.within e x at in
        let few = came_due out premises.counts e x b d pos (premises.spaced e x at) within le in
        let rest = all_before e x at in
        mul-le-mul_right x.ticks (omega arith)

pub work_left-le : (loads : List Load) (out : Outside) (f g : ℕ → ℕ) (d : ℕ) → ((e : ℕ) (x : Load) → IsAt loads e x → f e ≤ g e) →
    work_left loads out g d ≤ work_left loads out f d
unfolding work_left
work_left-le loads out f g d le =
    over-le loads (λ e x. (came out e (d + 1 - x.deadline) - g e) * x.ticks) (λ e x. (came out e (d + 1 - x.deadline) - f e) * x.ticks)
    (λ e x at. let here = le e x at in mul-le-mul_right x.ticks (omega arith))

-- one job that is due by d is taken
pub work_left-step : (loads : List Load) (out : Outside) (f g : ℕ → ℕ) (d j : ℕ) (y : Load) → IsAt loads j y →
    ((e : ℕ) (x : Load) → IsAt loads e x → e ≢ j → f e ≤ g e) → g j ≡ f j + 1 → f j < came out j (d + 1 - y.deadline) →
    work_left loads out g d + y.ticks ≤ work_left loads out f d
unfolding work_left
work_left-step loads out f g d j y at others one some =
    over-step loads (λ e x. (came out e (d + 1 - x.deadline) - g e) * x.ticks) (λ e x. (came out e (d + 1 - x.deadline) - f e) * x.ticks) j y.ticks y at
    (λ e x at apart. let here = others e x at apart in mul-le-mul_right x.ticks (omega arith))
    (let more : came out j (d + 1 - y.deadline) - f j ≡ came out j (d + 1 - y.deadline) - g j + 1 = omega arith in rw more (omega arith))

-- ---- what is taken

pub taken-ge : (doing : Doing) (done : ℕ → ℕ) (e : ℕ) → done e ≤ taken_in doing done e
taken-ge Free done e = omega arith
taken-ge (Job j) done e = grind (arith, nat_tests)
taken-ge Section done e = omega arith
taken-ge Wake done e = omega arith
taken-ge Save done e = omega arith
taken-ge Sleep done e = omega arith

pub taken_here : (j : ℕ) (done : ℕ → ℕ) → taken_in (Job j) done j ≡ done j + 1
taken_here j done = grind (arith, nat_tests)

pub taken_other : (j : ℕ) (done : ℕ → ℕ) (e : ℕ) → e ≢ j → taken_in (Job j) done e ≡ done e
taken_other j done e apart = grind (arith, nat_tests)

-- where no tick is left, all that is taken is done
pub taken_done : (base : Base) (loads : List Load) (doing : Doing) (units ticks : ℕ) (done : ℕ → ℕ) (e : ℕ) → Fits base loads doing units ticks → ticks ≡ 0 →
    taken_in doing done e ≡ done e
taken_done base loads Free units ticks done e fits none = refl
taken_done base loads (Job j) units ticks done e fits none = absurd (omega (arith, fits.3))
taken_done base loads Section units ticks done e fits none = refl
taken_done base loads Wake units ticks done e fits none = refl
taken_done base loads Save units ticks done e fits none = refl
taken_done base loads Sleep units ticks done e fits none = refl

-- ---- what Held gives

-- there is enough for what is being done and for all that has come
pub enough : (base : Base) (loads : List Load) (reserve : ℕ) (out : Outside) (s z : ℕ) → Premises base loads reserve out s z →
    (w : World) → Held base loads reserve out s z w → w.tick ≤ z →
    w.units + kept_in base w.doing w.dirty + arrived loads out (w.tick + 1) ≤ w.stored + units_of loads (taken w)
enough base loads reserve out s z premises w held upto =
    let a : ℕ = held.energy.0 in
    let from : s ≤ a = held.energy.1 in
    let before : a ≤ w.tick = held.energy.2 in
    let length : a + (w.tick - a) ≡ w.tick = omega arith in
    let asked : arrived loads out (w.tick + 1) ≤ arrived loads out a + rbf loads (w.tick - a) =
    subst (λ (n : ℕ). arrived loads out (n + 1) ≤ arrived loads out a + rbf loads (w.tick - a)) length
    (arrived-rbf base loads reserve out s z premises a (w.tick - a)) in
    let given : gained out.harvest a + sbf base (w.tick - a) ≤ gained out.harvest w.tick =
    subst (λ (n : ℕ). gained out.harvest a + sbf base (w.tick - a) ≤ gained out.harvest n) length
    (gained-sbf base out s z premises.are.p premises.supplied a (w.tick - a) from (omega arith)) in
    let closes = premises.energy (w.tick - a) in
    let spent = held.energy.3 in
    omega arith

-- the unspent bound is stored
pub has_units : (base : Base) (loads : List Load) (reserve : ℕ) (out : Outside) (s z : ℕ) → Premises base loads reserve out s z →
    (w : World) → Held base loads reserve out s z w → w.tick ≤ z → w.units ≤ w.stored
has_units base loads reserve out s z premises w held upto =
    let some = enough base loads reserve out s z premises w held upto in
    let few : units_of loads (taken w) ≤ arrived loads out (w.tick + 1) =
    unfold arrived in units_of-le loads (taken w) (λ e. came out e (w.tick + 1)) held.came_first in
    omega arith

-- all that is due by now is done
pub met : (base : Base) (loads : List Load) (reserve : ℕ) (out : Outside) (s z : ℕ) → Premises base loads reserve out s z →
    (w : World) → Held base loads reserve out s z w → w.tick ≤ z →
    (e : ℕ) (x : Load) → IsAt loads e x → came out e (w.tick + 1 - x.deadline) ≤ w.done e
unfolding work_left
met base loads reserve out s z premises w held upto e x at =
    elim (held.time w.tick (omega arith) upto) [
      | inl idle ↦
          let least : min (w.tick + 1) (w.tick + 1 - x.deadline) ≡ w.tick + 1 - x.deadline = omega arith in
          subst (λ (n : ℕ). came out e n ≤ w.done e) least (idle.0 e x at)
      | inr in_time ↦
          let over_none : over loads (λ e x. (came out e (w.tick + 1 - x.deadline) - taken w e) * x.ticks) ≡ 0 = omega arith in
          let none = over-zero loads (λ e x. (came out e (w.tick + 1 - x.deadline) - taken w e) * x.ticks) over_none e x at in
          let pos : 0 < x.ticks = all_at (λ y. 0 < y.ticks) loads premises.are.ticks e x at in
          let rest : came out e (w.tick + 1 - x.deadline) - taken w e ≡ 0 = factor (came out e (w.tick + 1 - x.deadline) - taken w e) x.ticks pos none in
          let done = taken_done base loads w.doing w.units w.ticks w.done e held.fits (omega arith) in
          omega arith
    ]
  where
    factor : (m n : ℕ) → 0 < n → m * n ≡ 0 → m ≡ 0
    factor zero n pos is = refl
    factor (suc m) n pos is = absurd (omega arith)

-- at most one of each is pending
pub one_each : (base : Base) (loads : List Load) (reserve : ℕ) (out : Outside) (s z : ℕ) → Premises base loads reserve out s z →
    (w : World) → Held base loads reserve out s z w → w.tick ≤ z →
    (e : ℕ) (x : Load) → IsAt loads e x → came out e (w.tick + 1) ≤ w.done e + 1
one_each base loads reserve out s z premises w held upto e x at =
    let pos : 0 < x.spacing = all_at (λ y. 0 < y.spacing) loads premises.are.spacings e x at in
    let within : x.deadline ≤ x.spacing = all_at (λ y. y.deadline ≤ y.spacing) loads premises.are.within e x at in
    let done = met base loads reserve out s z premises w held upto e x at in
    let n : ℕ = w.tick + 1 - (w.tick + 1 - x.deadline) in
    let end : w.tick + 1 - x.deadline + n ≡ w.tick + 1 = omega arith in
    let few : came out e (w.tick + 1) ≤ came out e (w.tick + 1 - x.deadline) + (n + x.spacing - 1) / x.spacing =
    subst (λ (m : ℕ). came out e m ≤ came out e (w.tick + 1 - x.deadline) + (n + x.spacing - 1) / x.spacing) end
    (came_spaced out premises.counts e x.spacing (w.tick + 1 - x.deadline) n pos (premises.spaced e x at)) in
    let one : (n + x.spacing - 1) / x.spacing < 2 = div_below (n + x.spacing - 1) x.spacing 2 pos (omega arith) in
    omega arith

-- nothing that is pending is too dear
pub not_short : (base : Base) (loads : List Load) (reserve : ℕ) (out : Outside) (s z : ℕ) → Premises base loads reserve out s z →
    (w : World) → Held base loads reserve out s z (record w { doing = Free }) → w.tick ≤ z → IsShort out loads w → ⊥
unfolding arrived
not_short base loads reserve out s z premises w held upto short =
    let e : ℕ = short.0 in
    let x : Load = short.1 in
    let pending : w.done e < came out e (w.tick + 1) = short.3 in
    let some = enough base loads reserve out s z premises (record w { doing = Free }) held upto in
    let more : units_of loads w.done + x.units ≤ units_of loads (λ e. came out e (w.tick + 1)) =
    units_of-step loads w.done (λ e. came out e (w.tick + 1)) e x.units x short.2 (λ i y at apart. held.came_first i y at)
    (omega (arith, mul-le-mul_right x.units pending)) in
    omega (arith, short.4)
