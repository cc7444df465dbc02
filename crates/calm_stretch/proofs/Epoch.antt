-- A calm stretch within one epoch goes by one row.
use Rattle.std.proofs.Common.{◌≡◌, ℕ, ◌+◌, ◌-◌, ◌<◌, ◌≤◌, ◌⊎◌, inl, inr, List, [], ◌∷◌, ◌++◌, sym, ap, subst, arith, false}
use Rattle.std.proofs.lemmas.Bool.{cases_lt}
use Rattle.event_arrivals.specs.Counts.{AreCounted}
use Rattle.demand_core.specs.declared.Load.{Load}
use Rattle.calm_stretch.specs.Loads.{IsAt}
use Rattle.calm_stretch.specs.Moment.{Outside, came, IsArrival, Doing, Point, NonePending, taken_in}
use Rattle.calm_stretch.specs.Moment.Doing.{Free, Job, Section, Wake, Save, Sleep}
use Rattle.calm_stretch.specs.Operations.{Stage, after_stage, ticks_of_all, MeetAt}
use Rattle.calm_stretch.specs.Rows.{Row, IsNextBy, IsShortBy, MayBeginBy, Turn, IsTurn, IsTimeline, point_after, IsCalmTo, stages_of, EachIsMet}
use Rattle.calm_stretch.specs.Laws.{DeadlinesLaw}
use Rattle.calm_stretch.proofs.Worlds.{NonePending as NoneWaits, IsNext, IsShort, MayBegin, at_point}
use Rattle.calm_stretch.proofs.Lawful.{AreLawful, AllStagesTake}
use Rattle.calm_stretch.proofs.Held.{Premises}
use Rattle.calm_stretch.proofs.First.{LowerLaws, premises_of}
use Rattle.calm_stretch.proofs.Facts.{taken-ge}
use Rattle.calm_stretch.proofs.Next.{counted, next_pending, next_first}
use Rattle.calm_stretch.proofs.Stages.{stages_are_safe}

module _ (rows : ℕ → Row) (row : Row) (out : Outside) (s z : ℕ) (counts : AreCounted out.arrivals)
    (one_row : (t : ℕ) → s ≤ t → t < z → rows t ≡ row) (same_events : (t e : ℕ) (x : Load) → IsAt (rows t).loads e x → (y : Load) × IsAt row.loads e y) where
  -- all that came before s is done
  abbrev IsFresh : Point → Type 0
  IsFresh p = (e : ℕ) (x : Load) → IsAt row.loads e x → came out e s ≤ p.done e

  -- so a pending arrival came in the stretch
  arrival_in : (p : Point) (j a : ℕ) (x : Load) → IsFresh p → IsAt row.loads j x → IsArrival out j (p.done j) a → s ≤ a
  arrival_in p j a x fresh at is =
      elim (cases_lt a s) [
        | inl early ↦ let few = counted out counts j (p.done j) a s is early in let most = fresh j x at in absurd (omega arith)
        | inr in_it ↦ in_it
      ]

  next_in : (p : Point) (j a : ℕ) (x : Load) → IsFresh p → p.tick < z → IsNextBy rows out p j a x → IsNext row.loads out (at_point p) j x
  next_in p j a x fresh before next =
      let event = same_events a j x next.at in
      let pending = next.pending in
      let from : s ≤ a = arrival_in p j a event.0 fresh event.1 next.is in
      let its_row : rows a ≡ row = one_row a from (omega arith) in
      let at : IsAt row.loads j x = subst (λ (r : Row). IsAt r.loads j x) its_row next.at in
      record {
        at = at;
        arrival = a;
        is = next.is;
        pending = next.pending;
        first = λ e y b at_e is soon.
            let in_it : s ≤ b = arrival_in p e b y fresh at_e is in
            next.first e b y is soon (subst (λ (r : Row). IsAt r.loads e y) (sym (one_row b in_it (omega arith))) at_e);
      }

  -- what the policy lets begin by the row in force, it lets begin by this row
  reason : (p : Point) → IsFresh p → s ≤ p.tick → p.tick < z → NonePending out (rows p.tick).loads p ⊎ IsShortBy rows out p →
      NoneWaits out row.loads (at_point p) ⊎ IsShort out row.loads (at_point p)
  reason p fresh from before (inl none) = inl (subst (λ (r : Row). NonePending out r.loads p) (one_row p.tick from before) none)
  reason p fresh from before (inr short) =
      let next = next_in p short.0 short.1 short.2 fresh before short.3 in
      inr (short.0, short.2, next.at, next_pending row.loads out counts (at_point p) short.0 short.2 next, short.4)

  may_begin : (p : Point) (doing : Doing) (units ticks : ℕ) → IsFresh p → s ≤ p.tick → p.tick < z → MayBeginBy rows out p doing units ticks →
      MayBegin row.base row.loads row.reserve out (at_point p) doing units ticks
  may_begin p Free units ticks fresh from before may = may
  may_begin p (Job j) units ticks fresh from before may =
      let next = next_in p j may.0 may.1 fresh before may.2 in (
        may.1,
        next.at,
        next_pending row.loads out counts (at_point p) j may.1 next,
        next_first row.loads out counts (at_point p) j may.1 next,
        may.3,
        may.4,
      )
  may_begin p Section units ticks fresh from before may =
      subst (λ (r : Row). NonePending out r.loads p × (r.reserve + r.base.checkpoint + r.base.section ≤ p.stored) × (units ≤ r.base.section) × (ticks ≤ r.base.longest))
      (one_row p.tick from before) may
  may_begin p Wake units ticks fresh from before may =
      subst (λ (r : Row). NonePending out r.loads p × (r.reserve + r.base.checkpoint + r.base.section + r.base.wake ≤ p.stored) × (p.dirty ≡ false) ×
      (units ≤ r.base.wake) × (ticks ≤ r.base.longest)) (one_row p.tick from before) may
  may_begin p Save units ticks fresh from before may =
      let same = one_row p.tick from before in
      (reason p fresh from before may.0, may.1, subst (λ (r : Row). units ≤ r.base.checkpoint) same may.2, subst (λ (r : Row). ticks ≤ r.base.longest) same may.3)
  may_begin p Sleep units ticks fresh from before may =
      let same = one_row p.tick from before in
      (reason p fresh from before may.0, may.1, may.2, subst (λ (r : Row). ticks ≤ r.base.longest) same may.3)

  in_epoch : (turns : List Turn) (p : Point) → IsFresh p → s ≤ p.tick → IsTimeline rows out p turns → IsCalmTo row.base out z p turns →
      AreLawful row.base row.loads row.reserve out z (at_point p) (stages_of turns)
  in_epoch [] p fresh from timeline calm = tt
  in_epoch (c ∷ turns) p fresh from timeline calm =
      let turn : IsTurn rows out p c = timeline.0 in (
        turn.some,
        turn.take,
        (λ open_end. ap stages_of (timeline.1 open_end)),
        (λ before. (
          record {
            begins = may_begin p c.stage.doing c.stage.units c.stage.ticks fresh from before turn.begins;
            units = turn.units;
            ticks = turn.ticks;
            dirty = turn.dirty;
          },
          calm.0,
          (λ none.
              let leads : c.after ≡ after_stage row.base out p c.stage =
              subst (λ (r : Row). c.after ≡ after_stage r.base out p c.stage) (one_row p.tick from before) (turn.leads none) in
              let at : c.after.tick ≡ p.tick + ticks_of_all c.stage.operations = ap (λ (u : Point). u.tick) leads in
              subst (λ (u : Point). AreLawful row.base row.loads row.reserve out z (at_point u) (stages_of turns)) leads
              (in_epoch turns c.after
              (λ e x here. let same : c.after.done e ≡ taken_in c.stage.doing p.done e = ap (λ (u : Point). u.done e) leads in
              let earlier = fresh e x here in omega (arith, taken-ge c.stage.doing p.done e))
              (omega arith) timeline.2 calm.1)),
        )),
      )

-- the rest of a timeline is one
rest_of : (rows : ℕ → Row) (out : Outside) (before : List Turn) (p : Point) (turns : List Turn) → IsTimeline rows out p (before ++ turns) → IsTimeline rows out (point_after p before) turns
rest_of rows out [] p turns timeline = timeline
rest_of rows out (c ∷ before) p turns timeline = rest_of rows out before c.after turns timeline.2

all_take : (rows : ℕ → Row) (out : Outside) (turns : List Turn) (p : Point) → IsTimeline rows out p turns → AllStagesTake (stages_of turns)
all_take rows out [] p timeline = tt
all_take rows out (c ∷ turns) p timeline = (timeline.0.take, all_take rows out turns c.after timeline.2)

-- each arrival by its own deadline
each_met : (loads : List Load) (out : Outside) → AreCounted out.arrivals → (s z : ℕ) (p : Point) (stages : List Stage) →
    MeetAt loads out s z p stages → EachIsMet loads out s z p stages
each_met loads out counts s z p stages meet e x k a at is from due =
    let facts = meet (a + x.deadline) (omega arith) due e x at in
    let early = counted out counts e k a (a + x.deadline + 1 - x.deadline) is (omega arith) in
    omega (arith, facts.1)

pub epoch_is_met : LowerLaws → DeadlinesLaw
epoch_is_met laws rows row window out s z first before turns sound fits epoch timeline calm =
    let p : Point = point_after first before in
    let counts = laws.counts out.arrivals sound in
    let start = calm.start in
    let at_s : p.tick ≡ s = start.tick in
    let rest = rest_of rows out before first turns timeline in
    let lawful = in_epoch rows row out s z counts epoch.in_force epoch.same_events turns p
    (λ e x at. let done = start.fresh e x at in omega arith) (omega arith) rest calm.calm in
    let premises : Premises row.base row.loads row.reserve out s z =
    subst (λ (r : ℕ). Premises row.base row.loads r out s z) (sym fits.reserve_is)
    (premises_of laws row.base row.loads window out s z fits.are fits.is_window fits.feasible sound fits.spaced calm.supplied) in
    let both = stages_are_safe row.base row.loads row.reserve out s z premises p (stages_of turns) start (all_take rows out turns p rest) lawful calm.ordered calm.within in
    record { safe = both.0; at_each_tick = both.1; met = each_met row.loads out counts s z p (stages_of turns) both.1 }
