-- What holds before a decision holds after it.
use Rattle.std.proofs.Common.{◌≡◌, ℕ, ◌+◌, ◌-◌, ◌<◌, ◌≤◌, ◌⊎◌, inl, inr, min, List, sym, ap, subst, arith, le_refl, Bool}
use Rattle.std.proofs.lemmas.Bool.{cases_lt, cases_eq}
use Rattle.demand_core.specs.declared.Load.{Load}
use Rattle.demand_core.specs.declared.Base.{Base}
use Rattle.calm_stretch.specs.Loads.{IsAt, units_of}
use Rattle.calm_stretch.specs.Moment.{Outside, came, Doing, taken_in}
use Rattle.calm_stretch.proofs.Worlds.{World, due, kept_in, IsShort, NonePending, MayBegin}
use Rattle.calm_stretch.specs.Moment.Doing.{Free, Job, Section, Wake, Save, Sleep}
use Rattle.event_arrivals.specs.Counts.{AreCounted}
use Rattle.calm_stretch.proofs.Sums.{all_at}
use Rattle.calm_stretch.proofs.Held.{Blocks, Premises, arrived, work_left, IsIdle, Held}
use Rattle.calm_stretch.proofs.Facts.{units_of-le, units_of-step, work_left-step, taken_here, taken_other, not_short}

-- where nothing is pending, no more has arrived before now than is done
arrived_done : (loads : List Load) (out : Outside) → AreCounted out.arrivals → (w : World) → NonePending out loads w → arrived loads out w.tick ≤ units_of loads w.done
unfolding arrived
arrived_done loads out counts w none =
    units_of-le loads (λ e. came out e w.tick) w.done (λ e x at. let here = none e x at in omega (arith, counts.later e w.tick (w.tick + 1) (omega arith)))

-- where nothing is pending, nothing waits
idle_none : (base : Base) (loads : List Load) → Blocks base loads → (out : Outside) → AreCounted out.arrivals → (w : World) (doing : Doing) (units ticks : ℕ) (d : ℕ) → NonePending out loads w → ticks ≤ base.longest →
    IsIdle base loads out (record w { doing = doing; units = units; ticks = ticks }) d
idle_none base loads blocks out counts w doing units ticks d none short = (
  (λ e x at. let here = none e x at in omega (arith, counts.later e (min (w.tick + 1) (d + 1 - x.deadline)) (w.tick + 1) (omega arith))),
  omega (arith, blocks.chunk (d - (w.tick + 1))),
)

-- a job that is due later blocks no longer than it may
idle_job : (base : Base) (loads : List Load) → Blocks base loads → (out : Outside) (w : World) (j : ℕ) (units ticks : ℕ) (d : ℕ) (x : Load) → IsAt loads j x →
    0 < x.deadline → w.done j < came out j (w.tick + 1) →
    ((e : ℕ) (y : Load) → IsAt loads e y → w.done e < due out w d e y → w.done j < due out w d j x) → ticks ≤ x.ticks →
    due out w d j x ≤ w.done j →
    IsIdle base loads out (record w { doing = Job j; units = units; ticks = ticks }) d
idle_job base loads blocks out w j units ticks d x at pos pending first short later = (
  (λ e y here. elim (cases_lt (w.done e) (due out w d e y)) [
    | inl waits ↦ let earlier = first e y here waits in absurd (omega arith)
    | inr none ↦ none
  ]),
  (let far : d - (w.tick + 1) < x.deadline =
      elim (cases_lt (d - (w.tick + 1)) x.deadline) [
        | inl near ↦ near
        | inr beyond ↦
            let least : min (w.tick + 1) (d + 1 - x.deadline) ≡ w.tick + 1 = omega arith in
            let later' : came out j (w.tick + 1) ≤ w.done j = subst (λ (n : ℕ). came out j n ≤ w.done j) least later in
            absurd (omega arith)
      ] in
      let one = blocks.job (d - (w.tick + 1)) j x at far in
      omega arith),
)

-- the tick from which the energy is counted is in the stretch
from_start : (base : Base) (loads : List Load) (reserve : ℕ) (out : Outside) (s z : ℕ) (w : World) → Held base loads reserve out s z w → s ≤ w.tick
from_start base loads reserve out s z w held =
    let from : s ≤ held.energy.0 = held.energy.1 in
    let before : held.energy.0 ≤ w.tick = held.energy.2 in
    omega arith

pub begun : (base : Base) (loads : List Load) (reserve : ℕ) (out : Outside) (s z : ℕ) → Premises base loads reserve out s z →
    (w : World) → Held base loads reserve out s z (record w { doing = Free }) → w.tick ≤ z →
    (doing : Doing) (units ticks : ℕ) → 0 < ticks → MayBegin base loads reserve out w doing units ticks →
    Held base loads reserve out s z (record w { doing = doing; units = units; ticks = ticks })
begun base loads reserve out s z premises w held upto Free units ticks pos may = absurd may
begun base loads reserve out s z premises w held upto (Job j) units ticks pos may =
    let x : Load = may.0 in
    let at : IsAt loads j x = may.1 in
    let pending : w.done j < came out j (w.tick + 1) = may.2 in
    record {
      fits = (x, at, may.4, pos);
      came_first = λ e y here. elim (cases_eq e j) [
        | inl same ↦ let one = taken_here j w.done in
            subst (λ (i : ℕ). taken_in (Job j) w.done i ≤ came out i (w.tick + 1)) (sym same) (omega arith)
        | inr apart ↦ let other = taken_other j w.done e apart in let before = held.came_first e y here in omega arith
      ];
      energy = (
        held.energy.0,
        held.energy.1,
        held.energy.2,
        (let spent = held.energy.3 in
            let bounded : units ≤ x.units = may.4 in
            let none : w.units ≡ 0 = held.fits.0 in
            let one = taken_here j w.done in
            let more : units_of loads w.done + x.units ≤ units_of loads (taken_in (Job j) w.done) =
            units_of-step loads w.done (taken_in (Job j) w.done) j x.units x at
            (λ e y here apart. let other = taken_other j w.done e apart in omega arith) (rw one (omega arith)) in
            omega arith),
      );
      time = λ d from till. elim (cases_lt (w.done j) (due out w d j x)) [
        | inl waits ↦ elim (held.time d from till) [
          | inl idle ↦ let none = idle.0 j x at in absurd (omega arith)
          | inr in_time ↦ inr
              (let one = taken_here j w.done in
              let none : w.ticks ≡ 0 = held.fits.1 in
              let short : ticks ≤ x.ticks = may.5 in
              let all : w.done j < came out j (d + 1 - x.deadline) =
              omega (arith, premises.counts.later j (min (w.tick + 1) (d + 1 - x.deadline)) (d + 1 - x.deadline) (omega arith)) in
              let less : work_left loads out (taken_in (Job j) w.done) d + x.ticks ≤ work_left loads out w.done d =
              work_left-step loads out w.done (taken_in (Job j) w.done) d j x at
              (λ e y here apart. let other = taken_other j w.done e apart in omega arith) one all in
              omega arith)
        ]
        | inr later ↦ inl (idle_job base loads premises.blocks out w j units ticks d x at (all_at (λ y. 0 < y.deadline) loads premises.are.deadlines j x at) pending (may.3 d) may.5 later)
      ];
    }
begun base loads reserve out s z premises w held upto Section units ticks pos may =
    let none : NonePending out loads w = may.0 in
    record {
      fits = (may.2, pos);
      came_first = held.came_first;
      energy = (
        w.tick,
        from_start base loads reserve out s z (record w { doing = Free }) held,
        le_refl w.tick,
        (let enough_stored : reserve + base.checkpoint + base.section ≤ w.stored = may.1 in
            let bounded : units ≤ base.section = may.2 in
            let few = arrived_done loads out premises.counts w none in omega arith),
      );
      time = λ d from till. inl (idle_none base loads premises.blocks out premises.counts w Section units ticks d none may.3);
    }
begun base loads reserve out s z premises w held upto Wake units ticks pos may =
    let none : NonePending out loads w = may.0 in
    record {
      fits = (may.3, pos);
      came_first = held.came_first;
      energy = (
        w.tick,
        from_start base loads reserve out s z (record w { doing = Free }) held,
        le_refl w.tick,
        (let enough_stored : reserve + base.checkpoint + base.section + base.wake ≤ w.stored = may.1 in
            let bounded : units ≤ base.wake = may.3 in
            let few = arrived_done loads out premises.counts w none in omega arith),
      );
      time = λ d from till. inl (idle_none base loads premises.blocks out premises.counts w Wake units ticks d none may.4);
    }
begun base loads reserve out s z premises w held upto Save units ticks pos may =
    let none : NonePending out loads w = no_short may.0 in
    record {
      fits = (may.2, pos);
      came_first = held.came_first;
      energy = (
        held.energy.0,
        held.energy.1,
        held.energy.2,
        (let spent = held.energy.3 in
            let bounded : units ≤ base.checkpoint = may.2 in
            let none_open : w.units ≡ 0 = held.fits.0 in
            let kept : kept_in base Free w.dirty ≡ base.checkpoint = ap (λ (b : Bool). kept_in base Free b) may.1 in
            omega arith),
      );
      time = λ d from till. inl (idle_none base loads premises.blocks out premises.counts w Save units ticks d none may.3);
    }
  where
    no_short : NonePending out loads w ⊎ IsShort out loads w → NonePending out loads w
    no_short (inl none) = none
    no_short (inr short) = absurd (not_short base loads reserve out s z premises w held upto short)
begun base loads reserve out s z premises w held upto Sleep units ticks pos may =
    let none : NonePending out loads w = no_short may.0 in
    record {
      fits = (may.2, pos);
      came_first = held.came_first;
      energy = (
        held.energy.0,
        held.energy.1,
        held.energy.2,
        (let spent = held.energy.3 in
            let bounded : units ≡ 0 = may.2 in
            let none_open : w.units ≡ 0 = held.fits.0 in
            omega arith),
      );
      time = λ d from till. inl (idle_none base loads premises.blocks out premises.counts w Sleep units ticks d none may.3);
    }
  where
    no_short : NonePending out loads w ⊎ IsShort out loads w → NonePending out loads w
    no_short (inl none) = none
    no_short (inr short) = absurd (not_short base loads reserve out s z premises w held upto short)
