-- What holds before a tick holds after it.
use Rattle.std.proofs.Common.{◌≡◌, ◌≢◌, ℕ, ◌+◌, ◌-◌, ◌*◌, ◌<◌, ◌≤◌, ◌⊎◌, inl, inr, min, List, sum_by, refl, sym, ap, ap₂, subst, ◌∙◌, arith, true, false, le_trans, mul-le-mul_right, le_refl, Bool}
use Rattle.std.proofs.lemmas.Bool.{cases_lt}
use Rattle.demand_core.specs.declared.Load.{Load}
use Rattle.demand_core.specs.declared.Base.{Base}
use Rattle.demand_core.specs.Demand.{dbf}
use Rattle.calm_stretch.specs.Loads.{IsAt, units_of}
use Rattle.calm_stretch.specs.Moment.{Outside, came, gained, Doing, taken_in}
use Rattle.calm_stretch.proofs.Worlds.{World, taken, due, kept_in, Continues, Ends, Passes}
use Rattle.calm_stretch.specs.Moment.Doing.{Free, Job, Section, Wake, Save, Sleep}
use Rattle.calm_stretch.proofs.Sums.{each_or_one}
use Rattle.calm_stretch.proofs.Supply.{gained-suc}
use Rattle.calm_stretch.proofs.Held.{Premises, arrived, work_left, Fits, IsIdle, IsInTime, Held}
use Rattle.calm_stretch.proofs.Facts.{units_of-le, units_of-step, units_of-each, work_left-le, work_left-dbf, taken_here, taken_other, taken-ge, has_units, one_each}

-- what a tick leaves of what is being done, whether it goes on or ends
record Left (base : Base) (loads : List Load) (w v : World) (bound : ℕ) : Type 0 where
  fits : Fits base loads v.doing v.units v.ticks
  units : v.units + bound ≤ w.units
  ticks : v.ticks + 1 ≤ w.ticks
  kept : kept_in base v.doing v.dirty ≤ kept_in base w.doing w.dirty
  taken_same : (e : ℕ) → taken v e ≡ taken w e
  done : (e : ℕ) → w.done e ≤ v.done e

-- the bound of what is being done still holds for less
fits_less : (base : Base) (loads : List Load) (doing : Doing) (units ticks less fewer : ℕ) → Fits base loads doing units ticks → doing ≢ Free →
    less ≤ units → 0 < fewer → Fits base loads doing less fewer
fits_less base loads Free units ticks less fewer fits going le pos = absurd (going refl)
fits_less base loads (Job j) units ticks less fewer fits going le pos = (fits.0, fits.1, le_trans le fits.2, pos)
fits_less base loads Section units ticks less fewer fits going le pos = (le_trans le fits.0, pos)
fits_less base loads Wake units ticks less fewer fits going le pos = (le_trans le fits.0, pos)
fits_less base loads Save units ticks less fewer fits going le pos = (le_trans le fits.0, pos)
fits_less base loads Sleep units ticks less fewer fits going le pos = (let none = fits.0 in omega arith, pos)

fits_ticks : (base : Base) (loads : List Load) (doing : Doing) (units ticks : ℕ) → Fits base loads doing units ticks → doing ≢ Free → 0 < ticks
fits_ticks base loads Free units ticks fits going = absurd (going refl)
fits_ticks base loads (Job j) units ticks fits going = fits.3
fits_ticks base loads Section units ticks fits going = fits.1
fits_ticks base loads Wake units ticks fits going = fits.1
fits_ticks base loads Save units ticks fits going = fits.1
fits_ticks base loads Sleep units ticks fits going = fits.1

-- only a section leaves something to save
kept_less : (base : Base) (doing : Doing) (was dirty : Bool) → (dirty ≡ true → doing ≡ Section) → kept_in base Free dirty ≤ kept_in base doing was
kept_less base doing was false leaves = omega arith
kept_less base doing was true leaves = let same : doing ≡ Section = leaves refl in subst (λ (d : Doing). base.checkpoint ≤ kept_in base d was) (sym same) (le_refl base.checkpoint)

left : (base : Base) (loads : List Load) (w v : World) (bound : ℕ) → Fits base loads w.doing w.units w.ticks → w.doing ≢ Free → bound ≤ w.units →
    Continues w v bound ⊎ Ends w v → Left base loads w v bound
left base loads w v bound fits going within (inl on) =
    let units : v.units + bound ≤ w.units = on.units in
    record {
      fits = subst (λ (d : Doing). Fits base loads d v.units v.ticks) (sym on.doing) (fits_less base loads w.doing w.units w.ticks v.units v.ticks fits going (omega arith) on.some);
      units = on.units;
      ticks = on.ticks;
      kept = subst (λ (n : ℕ). n ≤ kept_in base w.doing w.dirty) (sym (ap₂ (λ (d : Doing) (b : Bool). kept_in base d b) on.doing on.dirty)) (le_refl (kept_in base w.doing w.dirty));
      taken_same = λ e. ap (λ (d : Doing). taken_in d v.done e) on.doing ∙ taken_along w.doing v.done w.done e (on.done e);
      done = λ e. let same = on.done e in omega arith;
    }
  where
    taken_along : (doing : Doing) (f g : ℕ → ℕ) (e : ℕ) → f e ≡ g e → taken_in doing f e ≡ taken_in doing g e
    taken_along Free f g e same = same
    taken_along (Job j) f g e same = rw same refl
    taken_along Section f g e same = same
    taken_along Wake f g e same = same
    taken_along Save f g e same = same
    taken_along Sleep f g e same = same
left base loads w v bound fits going within (inr ends) =
    let none : v.units ≡ 0 = ends.units in
    let no_tick : v.ticks ≡ 0 = ends.ticks in
    let pos = fits_ticks base loads w.doing w.units w.ticks fits going in
    record {
      fits = subst (λ (d : Doing). Fits base loads d v.units v.ticks) (sym ends.doing) (none, no_tick);
      units = omega arith;
      ticks = omega arith;
      kept = subst (λ (d : Doing). kept_in base d v.dirty ≤ kept_in base w.doing w.dirty) (sym ends.doing) (kept_less base w.doing w.dirty v.dirty ends.dirty);
      taken_same = λ e. ap (λ (d : Doing). taken_in d v.done e) ends.doing ∙ ends.done e;
      done = λ e. let same = ends.done e in omega (arith, taken-ge w.doing w.done e);
    }

kept_in-le : (base : Base) (doing : Doing) (dirty : Bool) → kept_in base doing dirty ≤ base.checkpoint
kept_in-le base Free false = omega arith
kept_in-le base Free true = omega arith
kept_in-le base (Job j) false = omega arith
kept_in-le base (Job j) true = omega arith
kept_in-le base Section dirty = omega arith
kept_in-le base Wake dirty = omega arith
kept_in-le base Save dirty = omega arith
kept_in-le base Sleep dirty = omega arith

-- the unspent bounds of all that is pending, of what is being done and of a checkpoint fit beside the reserve
full : (base : Base) (loads : List Load) (out : Outside) (w : World) (doing : Doing) (units ticks : ℕ) → Fits base loads doing units ticks →
    ((e : ℕ) (x : Load) → IsAt loads e x → came out e (w.tick + 1) ≤ w.done e + 1) →
    arrived loads out (w.tick + 1) + units + kept_in base doing w.dirty ≤
    units_of loads (taken_in doing w.done) + sum_by (λ x. x.units) loads + base.checkpoint + base.section + base.wake
unfolding arrived
full base loads out w (Job j) units ticks fits one =
    let x : Load = fits.0 in
    let bounded : units ≤ x.units = fits.2 in
    let here = taken_here j w.done in
    let most : units_of loads (λ e. came out e (w.tick + 1)) + units ≤ units_of loads (λ e. taken_in (Job j) w.done e + 1) =
    units_of-step loads (λ e. came out e (w.tick + 1)) (λ e. taken_in (Job j) w.done e + 1) j units x fits.1
    (λ e y at apart. let other = taken_other j w.done e apart in let only = one e y at in omega arith)
    (let only = one j x fits.1 in
    let le : came out j (w.tick + 1) * x.units ≤ (w.done j + 1) * x.units = mul-le-mul_right x.units only in
    rw here (omega arith)) in
    let each = units_of-each loads (taken_in (Job j) w.done) in
    let kept = kept_in-le base (Job j) w.dirty in
    omega arith
full base loads out w Free units ticks fits one =
    let most = units_of-le loads (λ e. came out e (w.tick + 1)) (λ e. w.done e + 1) one in
    let each = units_of-each loads w.done in let kept = kept_in-le base Free w.dirty in let bounded = fits.0 in omega arith
full base loads out w Section units ticks fits one =
    let most = units_of-le loads (λ e. came out e (w.tick + 1)) (λ e. w.done e + 1) one in
    let each = units_of-each loads w.done in let bounded = fits.0 in omega arith
full base loads out w Wake units ticks fits one =
    let most = units_of-le loads (λ e. came out e (w.tick + 1)) (λ e. w.done e + 1) one in
    let each = units_of-each loads w.done in let bounded = fits.0 in omega arith
full base loads out w Save units ticks fits one =
    let most = units_of-le loads (λ e. came out e (w.tick + 1)) (λ e. w.done e + 1) one in
    let each = units_of-each loads w.done in let bounded = fits.0 in omega arith
full base loads out w Sleep units ticks fits one =
    let most = units_of-le loads (λ e. came out e (w.tick + 1)) (λ e. w.done e + 1) one in
    let each = units_of-each loads w.done in let bounded = fits.0 in omega arith

energy_after : (base : Base) (loads : List Load) (reserve : ℕ) (out : Outside) (s z : ℕ) → Premises base loads reserve out s z →
    (w v : World) (bound : ℕ) → Held base loads reserve out s z w → w.tick < z → bound ≤ w.units → Passes base out w v bound → Left base loads w v bound →
    (a : ℕ) × (s ≤ a) × (a ≤ v.tick) ×
    (reserve + gained out.harvest v.tick + arrived loads out a + v.units + kept_in base v.doing v.dirty ≤
    v.stored + units_of loads (taken v) + gained out.harvest a)
energy_after base loads reserve out s z premises w v bound held before within passes after =
    let next : v.tick ≡ w.tick + 1 = passes.tick in
    let more : gained out.harvest v.tick ≡ gained out.harvest w.tick + out.harvest w.tick = ap (λ (n : ℕ). gained out.harvest n) next ∙ gained-suc out.harvest w.tick in
    let has : w.units ≤ w.stored = has_units base loads reserve out s z premises w held (omega arith) in
    let drawn : passes.drawn ≤ bound = passes.bounded in
    let stored : v.stored ≡ min base.cap (w.stored - passes.drawn + out.harvest w.tick) = passes.stored in
    let units : v.units + bound ≤ w.units = after.units in
    let kept : kept_in base v.doing v.dirty ≤ kept_in base w.doing w.dirty = after.kept in
    let taken_on : units_of loads (taken w) ≤ units_of loads (taken v) = units_of-le loads (taken w) (taken v) (λ e x at. let same = after.taken_same e in omega arith) in
    let start : s ≤ held.energy.0 = held.energy.1 in
    let start' : held.energy.0 ≤ w.tick = held.energy.2 in
    elim (cases_lt base.cap (w.stored - passes.drawn + out.harvest w.tick)) [
      | inl cut ↦
          let all : v.stored ≡ base.cap = omega arith in
          let fits = full base loads out w w.doing w.units w.ticks held.fits (one_each base loads reserve out s z premises w held (omega arith)) in
          let room = premises.room in (
            w.tick + 1,
            omega arith,
            omega arith,
            subst (λ (n : ℕ). reserve + gained out.harvest n + arrived loads out (w.tick + 1) + v.units + kept_in base v.doing v.dirty ≤
                v.stored + units_of loads (taken v) + gained out.harvest (w.tick + 1)) (sym next) (omega arith),
          )
      | inr uncut ↦
          let spent = held.energy.3 in
          (held.energy.0, held.energy.1, omega arith, omega arith)
    ]

time_after : (base : Base) (loads : List Load) (reserve : ℕ) (out : Outside) (s z : ℕ) → Premises base loads reserve out s z →
    (w v : World) (bound : ℕ) → Held base loads reserve out s z w → v.tick ≡ w.tick + 1 → Left base loads w v bound →
    (d : ℕ) → w.tick + 1 ≤ d → d ≤ z → IsIdle base loads out w d ⊎ IsInTime loads out w d → IsIdle base loads out v d ⊎ IsInTime loads out v d
time_after base loads reserve out s z premises w v bound held next after d from till (inr in_time) =
    let ticks : v.ticks + 1 ≤ w.ticks = after.ticks in
    let less : work_left loads out (taken v) d ≤ work_left loads out (taken w) d =
    work_left-le loads out (taken w) (taken v) d (λ e x at. let same = after.taken_same e in omega arith) in
    inr (omega arith)
time_after base loads reserve out s z premises w v bound held next after d from till (inl idle) =
    let ticks : v.ticks + 1 ≤ w.ticks = after.ticks in
    let blocked = idle.1 in
    elim (each_or_one loads (λ e x. due out v d e x) (λ e x. v.done e)) [
      | inl none ↦ inl (none, omega (arith, premises.blocks.falls (d - (v.tick + 1)) (d - (w.tick + 1)) (omega arith)))
      | inr one ↦
          let e : ℕ = one.0 in
          let x : Load = one.1 in
          let waits : v.done e < came out e (min (v.tick + 1) (d + 1 - x.deadline)) = one.3 in
          let done : w.done e ≤ v.done e = after.done e in
          let before : came out e (min (w.tick + 1) (d + 1 - x.deadline)) ≤ w.done e = idle.0 e x one.2 in
          let soon : x.deadline ≤ d - (w.tick + 1) =
          elim (cases_lt (w.tick + 1) (d + 1 - x.deadline)) [
            | inl yes' ↦ omega arith
            | inr not_yet ↦
                let same : min (v.tick + 1) (d + 1 - x.deadline) ≡ min (w.tick + 1) (d + 1 - x.deadline) = omega arith in
                let same' = ap (λ (n : ℕ). came out e n) same in
                absurd (omega arith)
          ] in
          let closes = premises.time (d - (w.tick + 1)) e x one.2 soon in
          let work : work_left loads out (taken v) d ≤ dbf loads (d - (w.tick + 1)) =
          work_left-dbf base loads reserve out s z premises (taken v) (w.tick + 1) d from
          (λ i y at. let taken_on = taken-ge v.doing v.done i in let done_on = after.done i in let earlier = idle.0 i y at in omega arith) in
          inr (omega arith)
    ]

pub passed : (base : Base) (loads : List Load) (reserve : ℕ) (out : Outside) (s z : ℕ) → Premises base loads reserve out s z →
    (w v : World) (bound : ℕ) → Held base loads reserve out s z w → w.doing ≢ Free → w.tick < z → bound ≤ w.units → Passes base out w v bound →
    Held base loads reserve out s z v
passed base loads reserve out s z premises w v bound held going before within passes =
    let after = left base loads w v bound held.fits going within passes.rest in
    let next : v.tick ≡ w.tick + 1 = passes.tick in
    record {
      fits = after.fits;
      came_first = λ e x at. let same = after.taken_same e in let first = held.came_first e x at in omega (arith, premises.counts.later e (w.tick + 1) (v.tick + 1) (omega arith));
      energy = energy_after base loads reserve out s z premises w v bound held before within passes after;
      time = λ d from till. time_after base loads reserve out s z premises w v bound held next after d (omega arith) till (held.time d (omega arith) till);
    }
