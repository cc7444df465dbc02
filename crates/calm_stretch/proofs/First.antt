-- What holds as a calm stretch begins, and the premises from the laws below.
use Rattle.std.proofs.Common.{All, ◌≡◌, ℕ, ◌+◌, ◌-◌, ◌*◌, ◌<◌, ◌≤◌, ◌⊎◌, inl, inr, min, List, [], ◌∷◌, length, refl, sym, ap, ◌∙◌, arith, le_refl}
use Rattle.std.proofs.lemmas.Bool.{cases_lt}
use Rattle.demand_core.specs.declared.Load.{Load}
use Rattle.demand_core.specs.declared.Base.{Base}
use Rattle.demand_core.specs.Demand.{sbf, rbf, dbf, block, reserve, least_deadline, CanRepeat, IsWindow, IsFeasible}
use Rattle.calm_stretch.specs.Loads.{AreLoads, IsAt, units_of}
use Rattle.calm_stretch.specs.Moment.{Outside, came, gained, Doing, Point, AreSpaced, IsSupplied, taken_in}
use Rattle.calm_stretch.proofs.Worlds.{World, at_point, taken, due}
use Rattle.event_arrivals.specs.Arrivals.{Lists}
use Rattle.event_arrivals.specs.Counts.{AreCounted}
use Rattle.event_arrivals.specs.Spaced.{AreSound}
use Rattle.calm_stretch.specs.Rows.{IsCalmStart}
use Rattle.calm_stretch.specs.Moment.Doing.{Free}
use Rattle.calm_stretch.proofs.Sums.{over-add, each_or_one, all_at}
use Rattle.calm_stretch.proofs.Held.{Premises, arrived, work_left, IsIdle, IsInTime, Held}
use Rattle.calm_stretch.proofs.Facts.{units_of-le, work_left-dbf}

-- ---- the beginning

-- no work is taken at s, and what is pending came then
time_first : (base : Base) (loads : List Load) (kept : ℕ) (out : Outside) (s z : ℕ) → Premises base loads kept out s z →
    (w : World) → w.doing ≡ Free → w.ticks ≡ 0 → w.tick ≡ s → ((e : ℕ) (x : Load) → IsAt loads e x → came out e s ≤ w.done e) →
    (d : ℕ) → w.tick ≤ d → IsIdle base loads out w d ⊎ IsInTime loads out w d
time_first base loads kept out s z premises w free ticks tick fresh d from =
    elim (each_or_one loads (λ e x. due out w d e x) (λ e x. w.done e)) [
      | inl none ↦ inl (none, omega arith)
      | inr one ↦
          let e : ℕ = one.0 in
          let x : Load = one.1 in
          let waits : w.done e < came out e (min (w.tick + 1) (d + 1 - x.deadline)) = one.3 in
          let done : came out e s ≤ w.done e = fresh e x one.2 in
          let soon : x.deadline ≤ d - w.tick =
          elim (cases_lt s (d + 1 - x.deadline)) [
            | inl yet ↦ omega arith
            | inr not_yet ↦ let few = premises.counts.later e (min (w.tick + 1) (d + 1 - x.deadline)) s (omega arith) in absurd (omega arith)
          ] in
          let closes = premises.time (d - w.tick) e x one.2 soon in
          let work : work_left loads out (taken w) d ≤ dbf loads (d - w.tick) =
          work_left-dbf base loads kept out s z premises (taken w) w.tick d from
          (λ i y at.
          let same : taken w i ≡ w.done i = ap (λ (f : Doing). taken_in f w.done i) free in
          let first : came out i s ≤ w.done i = fresh i y at in
          omega (arith, premises.counts.later i (min w.tick (d + 1 - y.deadline)) s (omega arith))) in
          inr (omega arith)
    ]

pub first : (base : Base) (loads : List Load) (kept : ℕ) (out : Outside) (s z : ℕ) → Premises base loads kept out s z →
    (p : Point) → IsCalmStart base loads kept out s p → Held base loads kept out s z (at_point p)
first base loads kept out s z premises p start =
    let at_s : p.tick ≡ s = start.tick in
    record {
      fits = (refl, refl);
      came_first = λ e x at. let done = start.done e x at in omega (arith, premises.counts.later e (s + 1) (p.tick + 1) (omega arith));
      energy = (
        s,
        le_refl s,
        omega arith,
        (let stored = start.stored in
            let gains : gained out.harvest p.tick ≡ gained out.harvest s = ap (λ (n : ℕ). gained out.harvest n) at_s in
            let few : arrived loads out s ≤ units_of loads p.done =
            unfold arrived in units_of-le loads (λ e. came out e s) p.done (λ e x at. let done = start.fresh e x at in omega arith) in
            omega arith),
      );
      time = λ d from till. time_first base loads kept out s z premises (at_point p) refl refl at_s start.fresh d from;
    }

-- ---- sums

-- what has come is what is done and what is pending
pub units_of-pending : (loads : List Load) (f g : ℕ → ℕ) → ((e : ℕ) (x : Load) → IsAt loads e x → f e ≤ g e) → units_of loads (λ e. g e - f e) + units_of loads f ≡ units_of loads g
unfolding units_of
units_of-pending loads f g le =
    sym (over-add loads (λ e x. (g e - f e) * x.units) (λ e x. f e * x.units) (λ e x. g e * x.units)
    (λ e x at. let here = le e x at in let parts : g e ≡ g e - f e + f e = omega arith in ap (λ (n : ℕ). n * x.units) parts ∙ omega arith))

pub arrived_is : (loads : List Load) (out : Outside) (t : ℕ) → arrived loads out t ≡ units_of loads (λ e. came out e t)
unfolding arrived
arrived_is loads out t = refl

-- ---- from the definitions

some_load : (loads : List Load) (e : ℕ) (x : Load) → IsAt loads e x → 0 < length loads
some_load [] e x at = elim at [ ]
some_load (y ∷ loads) e x at = omega arith

-- what the crates below say of demand, supply and arrivals
pub record LowerLaws : Type 0 where
  pub energy : (base : Base) (loads : List Load) (window l : ℕ) → CanRepeat base loads → IsWindow base.p loads window → IsFeasible base loads window →
      rbf loads l ≤ reserve base loads window + sbf base l
  pub time : (base : Base) (loads : List Load) (window l : ℕ) → CanRepeat base loads → IsWindow base.p loads window → IsFeasible base loads window →
      0 < length loads → least_deadline loads ≤ l → dbf loads l + block base loads l ≤ l
  pub least : (loads : List Load) → All (λ x. least_deadline loads ≤ x.deadline) loads
  pub falls : (base : Base) (loads : List Load) (l m : ℕ) → l ≤ m → block base loads m ≤ block base loads l
  pub chunk : (base : Base) (loads : List Load) (l : ℕ) → base.longest ≤ block base loads l + 1
  pub job : (base : Base) (loads : List Load) (l : ℕ) → All (λ x. l < x.deadline → x.ticks ≤ block base loads l + 1) loads
  pub counts : (lists : Lists) → AreSound lists → AreCounted lists

pub premises_of : LowerLaws → (base : Base) (loads : List Load) (window : ℕ) (out : Outside) (s z : ℕ) →
    AreLoads base loads → IsWindow base.p loads window → IsFeasible base loads window → AreSound out.arrivals → AreSpaced loads out → IsSupplied base out s z →
    Premises base loads (reserve base loads window) out s z
premises_of laws base loads window out s z are is feasible sound spaced supplied =
    record {
      are = are;
      energy = λ l. laws.energy base loads window l are.repeats is feasible;
      room = feasible.room;
      time = λ l e x at soon. laws.time base loads window l are.repeats is feasible (some_load loads e x at)
          (let least = all_at (λ y. least_deadline loads ≤ y.deadline) loads (laws.least loads) e x at in omega arith);
      blocks = record {
        falls = laws.falls base loads;
        chunk = laws.chunk base loads;
        job = λ l e x at. all_at (λ y. l < y.deadline → y.ticks ≤ block base loads l + 1) loads (laws.job base loads l) e x at;
      };
      counts = laws.counts out.arrivals sound;
      spaced = spaced;
      supplied = supplied;
    }
