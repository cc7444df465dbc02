-- What the policy names may begin.
use Rattle.std.proofs.Common.{◌≡◌, ℕ, ◌+◌, ◌<◌, ◌≤◌, ◌⊎◌, inl, inr, List, length, refl, sym, ap, subst, ◌∙◌, arith, true, false, le_refl, Bool, Option, Some, None}
use Rattle.std.specs.Prelude.{slice_index}
use Rattle.std.specs.Option.{option_map_or}
use Rattle.std.proofs.lemmas.Bool.{cases_lt}
use Rattle.cat_program.specs.Checked.{Checked}
use Rattle.nv_memory.specs.declared.device.Device.{Device}
use Rattle.nv_memory.specs.Board.{State}
use Rattle.event_arrivals.specs.Arrivals.{Lists, arrival_at}
use Rattle.event_arrivals.specs.Counts.{AreCounted}
use Rattle.event_arrivals.specs.Next.{IsNext}
use Rattle.event_arrivals.specs.Spaced.{AreSound}
use Rattle.event_arrivals.specs.declared.arrival.Arrival.{Arrival}
use Rattle.event_queue.specs.declared.queue.Due.{Due}
use Rattle.event_queue.specs.Queue.{IsDue, arrival_of}
use Rattle.cost_bounds.specs.BoundsValue.{BoundsValue}
use Rattle.demand_core.specs.declared.Load.{Load}
use Rattle.calm_stretch.specs.Loads.{IsAt}
use Rattle.calm_stretch.specs.Moment.{NonePending, came}
use Rattle.calm_stretch.specs.Rows.{IsNextBy, IsShortBy, MayBeginBy}
use Rattle.cn_scheduler.specs.declared.plan.Plan.{Plan}
use Rattle.cn_scheduler.specs.declared.plan.PlanRow.{PlanRow}
use Rattle.cn_scheduler.specs.declared.choice.Choice.{Choice}
use Rattle.cn_scheduler.specs.declared.choice.Choice.TheVariants.{Job, Section, Checkpoint, Wake, Sleep}
use Rattle.cn_scheduler.specs.InForce.{in_force, need_in, level_in, units_in, units_of, load_units}
use Rattle.cn_scheduler.specs.Point.{Point}
use Rattle.cn_scheduler.specs.Policy.{IsNextDue, Chooses}
use Rattle.cn_scheduler.specs.Belongs.{IsPlanOf}
use Rattle.calm_timeline.specs.Numbers.{base_with, IsPlanned}
use Rattle.calm_timeline.proofs.RowsInForce.{get_of, at_some}
use Rattle.calm_timeline.proofs.Warrants.{IsShort, Warrants, warranted}
use Rattle.calm_timeline.proofs.Setting.{moment_of, outside, doing_of, row_at, rows_of, load_ticks, ticks_in, ticks_due, units_for, ticks_for, event_within, in_force_at, load_facts, LoadFacts}

-- what the crates below say of arrivals
pub record ArrivalLaws : Type 0 where
  pub counts : (lists : Lists) → AreSound lists → AreCounted lists
  pub lowest : (lists : Lists) (deadlines : List ℕ) (done : ℕ → ℕ) (now event k : ℕ) (arrival : Arrival) → AreSound lists →
      IsNext lists deadlines done now event k arrival → k ≡ done event

module _ (laws : ArrivalLaws) (program : Checked) (device : Device) (b : BoundsValue) (plan : Plan) (p q origin : ℕ) (final : State)
    (planned : IsPlanned program device b plan) (plan_is : IsPlanOf program plan) where
  -- the load of an arrival's job
  pub record DueFacts (due : Due) : Type 0 where
    pub row : PlanRow
    pub row_is : in_force plan.rows due.arrived ≡ Some row
    pub load : Load
    pub at : IsAt row.loads due.event load
    pub facts : LoadFacts program device b plan p q planned plan_is row due.event load
    pub units : units_of plan.rows due ≡ load.units
    pub ticks : ticks_due plan due ≡ load.ticks

  pub due_facts : (due : Due) (k : ℕ) (arrival : Arrival) → arrival_at plan.queue.arrivals due.event k ≡ Some arrival → DueFacts due
  due_facts due k arrival is =
      let f = in_force_at program device b plan p q planned plan_is due.arrived in
      let within = event_within plan.queue.arrivals due.event k arrival is in
      let events : length plan.queue.arrivals.timings ≡ length program.events = plan_is.queue in
      let counts : length f.row.loads ≡ length program.events = f.counts in
      let x = at_some f.row.loads due.event (omega arith) in
      let get = get_of f.row.loads due.event x.0 x.1 in
      record {
        row = f.row;
        row_is = f.is;
        load = x.0;
        at = x.1;
        facts = load_facts program device b plan p q planned plan_is f.row due.event x.0 f.numbers x.1;
        units = ap (λ (o : Option PlanRow). option_map_or (units_in due.event) o 0) f.is ∙ ap (λ (o : Option Load). option_map_or load_units o 0) get;
        ticks = ap (λ (o : Option PlanRow). option_map_or (ticks_in due.event) o 0) f.is ∙ ap (λ (o : Option Load). option_map_or load_ticks o 0) get;
      }

  none_pending : (pt : Point) → IsNextDue plan.queue (slice_index pt.work.done) pt.board.tick None → (loads : List Load) →
      NonePending (outside plan origin final) loads (moment_of pt)
  none_pending pt none loads e x at =
      elim (cases_lt (slice_index pt.work.done e) (came_by e)) [
        | inl more ↦
            let counts = laws.counts plan.queue.arrivals planned.arrivals in
            let one = counts.has_come e (slice_index pt.work.done e) (pt.board.tick + 1) more in
            let early = one.2 in
            absurd (none e (slice_index pt.work.done e) one.0 (record { to_do = le_refl (slice_index pt.work.done e); is_it = one.1; come = omega arith }))
        | inr few ↦ few
      ]
    where
      came_by : ℕ → ℕ
      came_by e = came (outside plan origin final) e (pt.board.tick + 1)

  next_by : (pt : Point) (due : Due) → IsDue plan.queue (slice_index pt.work.done) pt.board.tick due → (f : DueFacts due) →
      IsNextBy (rows_of plan (base_with b device p q)) (outside plan origin final) (moment_of pt) due.event due.arrived f.load
  next_by pt due is f =
      let pending = is.next.pending in
      let lowest = laws.lowest plan.queue.arrivals plan.queue.deadlines (slice_index pt.work.done) pt.board.tick due.event due.index (arrival_of due) planned.arrivals is.next in
      record {
        is = (arrival_of due, ap (λ (k : ℕ). arrival_at plan.queue.arrivals due.event k) (sym lowest) ∙ pending.is_it, refl);
        pending = pending.come;
        at = subst (λ (o : Option PlanRow). IsAt (row_at (base_with b device p q) o).loads due.event f.load) (sym f.row_is) f.at;
        first = λ e t y other soon at.
            let g = in_force_at program device b plan p q planned plan_is t in
            let at' : IsAt g.row.loads e y = subst (λ (o : Option PlanRow). IsAt (row_at (base_with b device p q) o).loads e y) g.is at in
            let y_facts = load_facts program device b plan p q planned plan_is g.row e y g.numbers at' in
            let own : slice_index plan.queue.deadlines due.event ≡ f.load.deadline = f.facts.deadline in
            let its : slice_index plan.queue.deadlines e ≡ y.deadline = y_facts.deadline in
            let tick : other.0.tick ≡ t = other.2 in
            elim (is.next.first e (slice_index pt.work.done e) other.0 (record { to_do = le_refl (slice_index pt.work.done e); is_it = other.1; come = omega arith })) [
              | inl earlier ↦ omega arith
              | inr same ↦ let equal = same.0 in omega arith
            ];
      }

  reason : (pt : Point) (next : Option Due) → IsNextDue plan.queue (slice_index pt.work.done) pt.board.tick next → IsShort plan pt next →
      NonePending (outside plan origin final) (rows_of plan (base_with b device p q) pt.board.tick).loads (moment_of pt)
      ⊎ IsShortBy (rows_of plan (base_with b device p q)) (outside plan origin final) (moment_of pt)
  reason pt next is (inl none) =
      inl (none_pending pt (subst (λ (n : Option Due). IsNextDue plan.queue (slice_index pt.work.done) pt.board.tick n) none is) (rows_of plan (base_with b device p q) pt.board.tick).loads)
  reason pt next is (inr short) =
      let due : Due = short.0 in
      let is_due : IsDue plan.queue (slice_index pt.work.done) pt.board.tick due = subst (λ (n : Option Due). IsNextDue plan.queue (slice_index pt.work.done) pt.board.tick n) short.1 is in
      let f = due_facts due due.index (arrival_of due) is_due.next.pending.is_it in
      let dear : pt.board.stored < units_of plan.rows due = short.2 in
      let units = f.units in
      inr (due.event, due.arrived, f.load, next_by pt due is_due f, omega arith)

  begins_with : (pt : Point) (next : Option Due) (choice : Choice) → IsNextDue plan.queue (slice_index pt.work.done) pt.board.tick next → (pt.dirty ≡ true → pt.board.on ≡ true) →
      Warrants plan pt next choice →
      MayBeginBy (rows_of plan (base_with b device p q)) (outside plan origin final) (moment_of pt) (doing_of choice)
      (units_for plan (base_with b device p q) choice) (ticks_for plan (base_with b device p q) choice)
  begins_with pt next (Job due) is on may =
      let is_due : IsDue plan.queue (slice_index pt.work.done) pt.board.tick due = subst (λ (n : Option Due). IsNextDue plan.queue (slice_index pt.work.done) pt.board.tick n) may.0 is in
      let f = due_facts due due.index (arrival_of due) is_due.next.pending.is_it in
      let units = f.units in
      let ticks = f.ticks in
      (due.arrived, f.load, next_by pt due is_due f, omega arith, omega arith)
  begins_with pt next Section is on may =
      let f = in_force_at program device b plan p q planned plan_is pt.board.tick in
      let none = none_pending pt (subst (λ (n : Option Due). IsNextDue plan.queue (slice_index pt.work.done) pt.board.tick n) may.0 is) in
      let need : f.row.numbers.reserve + f.row.numbers.checkpoint + f.row.numbers.section ≤ pt.board.stored =
      subst (λ (o : Option PlanRow). option_map_or need_in o 0 ≤ pt.board.stored) f.is may.1 in
      let checkpoint = f.numbers.checkpoint in
      let section = f.numbers.section in
      subst (λ (o : Option PlanRow).
      let row = row_at (base_with b device p q) o in
      NonePending (outside plan origin final) row.loads (moment_of pt) × (row.reserve + row.base.checkpoint + row.base.section ≤ pt.board.stored) ×
      (b.section.units ≤ row.base.section) × ((base_with b device p q).longest ≤ row.base.longest)) (sym f.is)
      (none f.row.loads, omega arith, le_refl b.section.units, le_refl (base_with b device p q).longest)
  begins_with pt next Wake is on may =
      let f = in_force_at program device b plan p q planned plan_is pt.board.tick in
      let none = none_pending pt (subst (λ (n : Option Due). IsNextDue plan.queue (slice_index pt.work.done) pt.board.tick n) may.0 is) in
      let level : f.row.numbers.level ≤ pt.board.stored = subst (λ (o : Option PlanRow). option_map_or level_in o 0 ≤ pt.board.stored) f.is may.2 in
      let numbers = f.numbers.level in
      subst (λ (o : Option PlanRow).
      let row = row_at (base_with b device p q) o in
      NonePending (outside plan origin final) row.loads (moment_of pt) × (row.reserve + row.base.checkpoint + row.base.section + row.base.wake ≤ pt.board.stored) ×
      (pt.dirty ≡ false) × (b.wake.units ≤ row.base.wake) × ((base_with b device p q).longest ≤ row.base.longest)) (sym f.is)
      (none f.row.loads, omega arith, is_clean pt.dirty refl, le_refl b.wake.units, le_refl (base_with b device p q).longest)
    where
      is_clean : (d : Bool) → pt.dirty ≡ d → d ≡ false
      is_clean true is' = absurd (let lit : pt.board.on ≡ true = on is' in let off : pt.board.on ≡ false = may.1 in cc)
      is_clean false is' = refl
  begins_with pt next Checkpoint is on may =
      let f = in_force_at program device b plan p q planned plan_is pt.board.tick in
      (reason pt next is may.1, may.0, same_checkpoint (in_force plan.rows pt.board.tick), same_longest (in_force plan.rows pt.board.tick))
    where
      same_checkpoint : (o : Option PlanRow) → (base_with b device p q).checkpoint ≤ (row_at (base_with b device p q) o).base.checkpoint
      same_checkpoint None = le_refl (base_with b device p q).checkpoint
      same_checkpoint (Some r) = le_refl (base_with b device p q).checkpoint

      same_longest : (o : Option PlanRow) → (base_with b device p q).longest ≤ (row_at (base_with b device p q) o).base.longest
      same_longest None = le_refl (base_with b device p q).longest
      same_longest (Some r) = le_refl (base_with b device p q).longest
  begins_with pt next Sleep is on may =
      (reason pt next is may.1, may.0, refl, same_longest (in_force plan.rows pt.board.tick))
    where
      same_longest : (o : Option PlanRow) → (base_with b device p q).longest ≤ (row_at (base_with b device p q) o).base.longest
      same_longest None = le_refl (base_with b device p q).longest
      same_longest (Some r) = le_refl (base_with b device p q).longest

  pub begins : (pt : Point) (choice : Choice) → Chooses plan pt choice → (pt.dirty ≡ true → pt.board.on ≡ true) →
      MayBeginBy (rows_of plan (base_with b device p q)) (outside plan origin final) (moment_of pt) (doing_of choice)
      (units_for plan (base_with b device p q) choice) (ticks_for plan (base_with b device p q) choice)
  begins pt choice chosen on = begins_with pt chosen.next choice chosen.is_next on (warranted plan pt chosen.next choice chosen.choice_is)
