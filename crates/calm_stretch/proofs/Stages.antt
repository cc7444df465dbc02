-- From a timeline of operations to one of ticks, and back with what is claimed.
use Rattle.std.proofs.Common.{◌≡◌, ℕ, zero, suc, ◌+◌, ◌-◌, ◌<◌, ◌≤◌, List, [], ◌∷◌, ◌++◌, length, refl, sym, ap, ap₂, subst, ◌∙◌, arith, replicate, nat_le, ◌&&◌, if◌then◌else◌}
use Rattle.demand_core.specs.declared.Load.{Load}
use Rattle.demand_core.specs.declared.Base.{Base}
use Rattle.calm_stretch.specs.Moment.{Outside, Point, taken_in}
use Rattle.calm_stretch.proofs.Worlds.{World, at_point}
use Rattle.calm_stretch.specs.Rows.{IsCalmStart}
use Rattle.calm_stretch.proofs.Ticks.{Moment, Chunk, tick_after, after_chunk, NoneLost, IsLawful, last_tick, done_at, NoneLostBefore, IsSafe}
use Rattle.calm_stretch.specs.Operations.{Operation, ticks_of_all, AllTake, Stage, after_stage, NoOperationLost, end_of, done_by, NoOperationLostBefore, AreSafe, MeetAt}
use Rattle.calm_stretch.proofs.Lawful.{moments_of_all, after_world, IsStage, AreLawful, AllStagesTake}
use Rattle.calm_stretch.proofs.Held.{Premises}
use Rattle.calm_stretch.specs.Moment.Doing.{Free}
use Rattle.calm_stretch.proofs.Entries.{quiet, bounds_of-operations, length-operations, stored_after-operations, calm-operations}
use Rattle.calm_stretch.proofs.Along.{tick_after_is, timeline_is_safe}

abbrev as_chunk : Stage → Chunk
as_chunk c = record { doing = c.doing; units = c.units; ticks = c.ticks; moments = moments_of_all c.operations; ended = c.ended; dirty = c.dirty }

abbrev as_chunks : List Stage → List Chunk
as_chunks [] = []
as_chunks (c ∷ stages) = as_chunk c ∷ as_chunks stages

tick_after-operations : (t : ℕ) (operations : List Operation) → AllTake operations → tick_after t (moments_of_all operations) ≡ t + ticks_of_all operations
tick_after-operations t operations take = tick_after_is t (moments_of_all operations) ∙ ap (λ (n : ℕ). t + n) (length-operations operations take)

-- both forms end at the same decision point
after_same : (base : Base) (out : Outside) (w : World) (c : Stage) → AllTake c.operations → after_chunk base out w (as_chunk c) ≡ after_world base out w c
after_same base out w c take =
    ap₂ (λ (t stored : ℕ). record { tick = t; stored = stored; doing = Free; units = 0; ticks = 0; dirty = c.dirty; done = λ e. taken_in c.doing w.done e })
    (tick_after-operations w.tick c.operations take) (stored_after-operations base out c.operations w.tick w.stored take)

some_moments : (operations : List Operation) → 0 < length operations → 0 < length (moments_of_all operations)
some_moments [] some = absurd (omega arith)
some_moments (o ∷ operations) some = omega arith

quiet_lost : (n : ℕ) (rest : List Moment) → NoneLost (replicate n quiet ++ rest) → NoneLost rest
quiet_lost zero rest none = none
quiet_lost (suc n) rest none = quiet_lost n rest none.1

none_lost : (operations : List Operation) → NoneLost (moments_of_all operations) → NoOperationLost operations
none_lost [] none = tt
none_lost (o ∷ operations) none = (none.0, none_lost operations (quiet_lost (o.ticks - 1) (moments_of_all operations) none.1))

quiet_before : (z n t : ℕ) (rest : List Moment) → NoneLostBefore z t (replicate n quiet ++ rest) → NoneLostBefore z (t + n) rest
quiet_before z zero t rest none = let e : t + zero ≡ t = omega arith in rw e none
quiet_before z (suc n) t rest none =
    let e : t + suc n ≡ t + 1 + n = omega arith in
    subst (λ (m : ℕ). NoneLostBefore z m rest) (sym e) (quiet_before z n (t + 1) rest none.1)

none_before : (z t : ℕ) (operations : List Operation) → AllTake operations → NoneLostBefore z t (moments_of_all operations) → NoOperationLostBefore z t operations
none_before z t [] take none = tt
none_before z t (o ∷ operations) take none =
    let some = take.0 in
    let e : t + 1 + (o.ticks - 1) ≡ t + o.ticks = omega arith in (
      none.0,
      none_before z (t + o.ticks) operations take.1
          (subst (λ (m : ℕ). NoneLostBefore z m (moments_of_all operations)) e (quiet_before z (o.ticks - 1) (t + 1) (moments_of_all operations) none.1)),
    )

lawful : (base : Base) (loads : List Load) (kept : ℕ) (out : Outside) (z : ℕ) (stages : List Stage) (w : World) →
    AreLawful base loads kept out z w stages → IsLawful base loads kept out z w (as_chunks stages)
lawful base loads kept out z [] w are = tt
lawful base loads kept out z (c ∷ stages) w are = (
  (λ is. some_moments c.operations (are.0 is)),
  (λ open_end. ap as_chunks (are.2 open_end)),
  (λ before.
      let here = are.3 before in
      let stage : IsStage base loads kept out w c = here.0 in
      let length_is = length-operations c.operations are.1 in
      let bounds_is = bounds_of-operations c.operations in (
        record { begins = stage.begins; units = (let most = stage.units in omega arith); ticks = (let most = stage.ticks in omega arith); dirty = stage.dirty },
        calm-operations base out z c.operations w.tick w.stored are.1 here.1,
        (λ none. subst (λ (u : World). IsLawful base loads kept out z u (as_chunks stages)) (sym (after_same base out w c are.1))
            (lawful base loads kept out z stages (after_world base out w c) (here.2 (none_lost c.operations none)))),
      )),
)

last_same : (stages : List Stage) (t : ℕ) → AllStagesTake stages → last_tick t (as_chunks stages) ≡ end_of t stages
last_same [] t take = refl
last_same (c ∷ stages) t take =
    last_same stages (tick_after t (moments_of_all c.operations)) take.1 ∙ ap (λ (n : ℕ). end_of n stages) (tick_after-operations t c.operations take.0)

done_same : (stages : List Stage) (done : ℕ → ℕ) (start t e : ℕ) → AllStagesTake stages → done_at done start (as_chunks stages) t e ≡ done_by done start stages t e
done_same [] done start t e take = refl
done_same (c ∷ stages) done start t e take =
    let at : tick_after start (moments_of_all c.operations) ≡ start + ticks_of_all c.operations = tick_after-operations start c.operations take.0 in
    ap (λ (n : ℕ). if c.ended && nat_le n t then done_at (λ i. taken_in c.doing done i) n (as_chunks stages) t e else done e) at
    ∙ ap (λ (n : ℕ). if c.ended && nat_le (start + ticks_of_all c.operations) t then n else done e)
    (done_same stages (λ i. taken_in c.doing done i) (start + ticks_of_all c.operations) t e take.1)

safe : (base : Base) (loads : List Load) (out : Outside) (z : ℕ) (stages : List Stage) (p : Point) → AllStagesTake stages →
    IsSafe base loads out z (at_point p) (as_chunks stages) → AreSafe base loads out z p stages
safe base loads out z [] p take is = is
safe base loads out z (c ∷ stages) p take is = (
  is.0,
  none_before z p.tick c.operations take.0 is.1,
  (λ ended. safe base loads out z stages (after_stage base out p c) take.1
      (subst (λ (u : World). IsSafe base loads out z u (as_chunks stages)) (after_same base out (at_point p) c take.0) (is.2 ended))),
)

pub stages_are_safe : (base : Base) (loads : List Load) (kept : ℕ) (out : Outside) (s z : ℕ) → Premises base loads kept out s z → (p : Point) (stages : List Stage) →
    IsCalmStart base loads kept out s p → AllStagesTake stages → AreLawful base loads kept out z (at_point p) stages →
    s ≤ z → z ≤ end_of s stages → AreSafe base loads out z p stages × MeetAt loads out s z p stages
stages_are_safe base loads kept out s z premises p stages start take lawful_stages ordered long =
    let last : last_tick s (as_chunks stages) ≡ end_of s stages = last_same stages s take in
    let both = timeline_is_safe base loads kept out s z premises p (as_chunks stages) start
    (lawful base loads kept out z stages (at_point p) lawful_stages) ordered (omega arith) in (
      safe base loads out z stages p take both.0,
      λ t from till e x at.
          let facts = both.1 t from till e x at in
          let same : done_at p.done p.tick (as_chunks stages) t e ≡ done_by p.done p.tick stages t e = done_same stages p.done p.tick t e take in
          (omega (arith, facts.0), omega (arith, facts.1)),
    )
