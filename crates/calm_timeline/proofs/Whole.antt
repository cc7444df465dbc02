-- Every calm stretch of a run meets its deadlines.
use Rattle.std.proofs.Common.{◌≡◌, ℕ, ◌+◌, ◌<◌, ◌≤◌, inl, inr, List, [], ◌∷◌, ◌++◌, length, refl, sym, ap, subst, arith, if◌then◌else◌, Option, Some, le_refl}
use Rattle.std.specs.Prelude.{slice_index}
use Rattle.std.proofs.lemmas.Bool.{cases_lt}
use Rattle.std.proofs.lemmas.List.Elements.{recursion_from_All, All-from_recursion}
use Rattle.cat_program.specs.Checked.{Checked}
use Rattle.nv_memory.specs.declared.device.Class.TheVariants as class
use Rattle.nv_memory.specs.declared.device.Device.{Device}
use Rattle.nv_memory.specs.declared.entry.Entry.{Entry}
use Rattle.event_arrivals.specs.Arrivals.{arrival_at}
use Rattle.event_arrivals.specs.Counts.{came as came_of}
use Rattle.event_arrivals.specs.declared.arrival.Arrival.{Arrival}
use Rattle.cost_bounds.specs.BoundsValue.{BoundsValue}
use Rattle.calm_stretch.specs.Loads.{IsAt}
use Rattle.calm_stretch.specs.Moment.{kept_at}
use Rattle.calm_stretch.specs.Operations.{AreSafe}
use Rattle.calm_stretch.specs.Rows.{stages_of, IsCalmStart}
use Rattle.calm_stretch.specs.Laws as turns
use Rattle.cn_scheduler.specs.declared.plan.Plan.{Plan}
use Rattle.cn_scheduler.specs.declared.plan.PlanRow.{PlanRow}
use Rattle.cn_scheduler.specs.Point.{Point}
use Rattle.cn_scheduler.specs.Chunks.{Link, IsLawful, entries_of, point_after}
use Rattle.cn_scheduler.specs.Belongs.{IsPlanOf, BelongTogether}
use Rattle.calm_timeline.specs.Calm.{IsCalm, IsCalmEntry, kept_by, board_after}
use Rattle.calm_timeline.specs.Claims.{waiting, done_by, IsServed, MeetsDeadlines}
use Rattle.calm_timeline.specs.Numbers.{base_with, IsPlanned, IsFeasibleRow, IsRowOf, IsBoardOf, AtEachPoint, DoneHasCome}
use Rattle.calm_timeline.specs.Laws.{CalmLaw, EntriesEnd}
use Rattle.calm_timeline.proofs.RowsInForce.{at_some, at_below}
use Rattle.calm_timeline.proofs.Setting.{moment_of, outside, row_at, rows_of, event_within, in_force_at, load_facts, are_loads}
use Rattle.calm_timeline.proofs.Begins.{ArrivalLaws}
use Rattle.calm_timeline.proofs.Within.{RunsLaw}
use Rattle.calm_timeline.proofs.Turns.{turns_of, Follows, is_timeline, is_calm, end_is}
use Rattle.calm_timeline.proofs.Back.{IsKept, none_lost, enough, done_same, served, follows_on, each_on, all_ended}

first_of : (P : Point → Type 0) (pt : Point) (links : List Link) → AtEachPoint P pt links → P pt
first_of P pt [] each = each
first_of P pt (c ∷ links) each = each.0

-- a decision point and what follows it
pub record IsRest (program : Checked) (device : Device) (plan : Plan) (origin : ℕ) (start : Point) (links : List Link) : Type 0 where
  pub lawful : IsLawful plan start links
  pub belong : AtEachPoint (BelongTogether program plan) start links
  pub board : IsBoardOf device origin start.board
  pub done : DoneHasCome plan start

module _ (laws : ArrivalLaws) (runs : RunsLaw) (deadlines : turns.DeadlinesLaw) (program : Checked) (device : Device) (b : BoundsValue) (plan : Plan) (row : PlanRow) (p q origin : ℕ)
    (start : Point) (links : List Link) (z : ℕ) (planned : IsPlanned program device b plan) (fits : IsFeasibleRow b device p q row) (run : IsRest program device plan origin start links)
    (calm : IsCalm device plan row p q origin start links z) where
  plan_is : IsPlanOf program plan
  plan_is = (first_of (BelongTogether program plan) start links run.belong).plan_is

  follows : Follows laws runs program device b plan p q origin (board_after start links) planned plan_is start links
  follows =
      record {
        lawful = run.lawful;
        belong = run.belong;
        has = record { ticks = run.board.ticks; some = run.board.some_ticks };
        cap = sym run.board.cap;
        began = run.board.passed;
        ends = refl;
      }

  -- the row of the stretch is one of the plan's
  its_row : IsRowOf program b row
  its_row =
      let f = in_force_at program device b plan p q planned plan_is start.board.tick in
      let same : f.row ≡ row = let a = f.is in let c = calm.here in cc in
      subst (λ (r : PlanRow). IsRowOf program b r) same f.numbers

  its_count : length row.loads ≡ length program.events
  its_count =
      let f = in_force_at program device b plan p q planned plan_is start.board.tick in
      let same : f.row ≡ row = let a = f.is in let c = calm.here in cc in
      subst (λ (r : PlanRow). length r.loads ≡ length program.events) same f.counts

  wake_takes : 1 ≤ device.wake.ticks
  wake_takes = subst (λ (n : ℕ). 1 ≤ n) (run.board.ticks class.Wake) (run.board.some_ticks class.Wake)

  feasible_row : turns.IsFeasibleRow (row_at (base_with b device p q) (Some row)) row.numbers.window (outside plan origin (board_after start links))
  feasible_row =
      record {
        are = are_loads program device b plan p q planned plan_is row its_row fits.positive wake_takes;
        is_window = fits.window;
        feasible = fits.feasible;
        reserve_is = fits.reserve_is;
        spaced = λ e x at. (load_facts program device b plan p q planned plan_is row e x its_row at).spacing;
      }

  epoch : turns.IsEpoch (rows_of plan (base_with b device p q)) (row_at (base_with b device p q) (Some row)) start.board.tick z
  epoch =
      record {
        in_force = λ t from till. ap (λ (o : Option PlanRow). row_at (base_with b device p q) o) (calm.epoch t from till);
        same_events = λ t e x at.
            let f = in_force_at program device b plan p q planned plan_is t in
            let at' : IsAt f.row.loads e x = subst (λ (o : Option PlanRow). IsAt (row_at (base_with b device p q) o).loads e x) f.is at in
            let less = at_below f.row.loads e x at' in
            let counts : length f.row.loads ≡ length program.events = f.counts in
            let its = its_count in
            at_some row.loads e (omega arith);
      }

  -- what came before is done
  fresh : (e : ℕ) → came_of plan.queue.arrivals e start.board.tick ≤ slice_index start.work.done e
  fresh e =
      elim (cases_lt (slice_index start.work.done e) (came_of plan.queue.arrivals e start.board.tick)) [
        | inl more ↦
            let one = (laws.counts plan.queue.arrivals planned.arrivals).has_come e (slice_index start.work.done e) start.board.tick more in
            let early = one.2 in
            let at = calm.fresh e (slice_index start.work.done e) one.0 (record { to_do = le_refl (slice_index start.work.done e); is_it = one.1; come = omega arith }) in
            absurd (omega arith)
        | inr few ↦ few
      ]

  starts : IsCalmStart (base_with b device p q) row.loads row.numbers.reserve (outside plan origin (board_after start links)) start.board.tick (moment_of start)
  starts =
      let checkpoint = its_row.checkpoint in
      let kept : kept_by row start.dirty ≡ kept_at (base_with b device p q) start.dirty = ap (λ (n : ℕ). if start.dirty then n else 0) checkpoint in
      let stored = calm.stored in
      record { tick = refl; fresh = λ e x at. fresh e; done = λ e x at. run.done e; stored = omega arith }

  all_met : turns.IsMet (row_at (base_with b device p q) (Some row)) (outside plan origin (board_after start links)) start.board.tick z (moment_of start)
      (turns_of plan (base_with b device p q) device (outside plan origin (board_after start links)) start links)
  all_met =
      let last = end_is laws runs program device b plan p q origin (board_after start links) planned plan_is links start follows in
      let within = calm.within in
      deadlines (rows_of plan (base_with b device p q)) (row_at (base_with b device p q) (Some row)) row.numbers.window (outside plan origin (board_after start links)) start.board.tick z (moment_of start) []
      (turns_of plan (base_with b device p q) device (outside plan origin (board_after start links)) start links) planned.arrivals feasible_row epoch
      (is_timeline laws runs program device b plan p q origin (board_after start links) planned plan_is links start follows)
      (record {
        start = starts;
        calm = is_calm laws runs program device b plan p q origin (board_after start links) planned plan_is z links start follows
            (recursion_from_All (λ (entry : Entry). entry.tick < z → IsCalmEntry device entry) (entries_of links) calm.calm);
        supplied = calm.supplied;
        ordered = calm.ordered;
        within = omega arith;
      })

  one_each : (t e : ℕ) → start.board.tick ≤ t → t ≤ z → waiting plan (done_by start links t) t e ≤ 1
  one_each t e from till =
      elim (cases_lt e (length row.loads)) [
        | inl less ↦
            let x = at_some row.loads e less in
            let facts = (all_met.at_each_tick t from till e x.0 x.1).0 in
            let same = done_same laws runs program device b plan p q origin (board_after start links) planned plan_is row.loads z links start t e till follows all_met.safe in
            omega arith
        | inr past ↦
            elim (cases_lt 0 (came_of plan.queue.arrivals e (t + 1))) [
              | inl some ↦
                  let one = (laws.counts plan.queue.arrivals planned.arrivals).has_come e 0 (t + 1) some in
                  let within = event_within plan.queue.arrivals e 0 one.0 one.1 in
                  let events : length plan.queue.arrivals.timings ≡ length program.events = plan_is.queue in
                  let its = its_count in
                  absurd (omega arith)
              | inr none ↦ omega arith
            ]
      ]

  met : (e k : ℕ) (arrival : Arrival) → arrival_at plan.queue.arrivals e k ≡ Some arrival → start.board.tick ≤ arrival.tick → slice_index start.work.done e ≤ k → arrival.tick + slice_index plan.queue.deadlines e ≤ z →
      IsServed links e k (arrival.tick + slice_index plan.queue.deadlines e)
  met e k arrival is from first till =
      let within = event_within plan.queue.arrivals e k arrival is in
      let events : length plan.queue.arrivals.timings ≡ length program.events = plan_is.queue in
      let its = its_count in
      let x = at_some row.loads e (omega arith) in
      let deadline = (load_facts program device b plan p q planned plan_is row e x.0 its_row x.1).deadline in
      let facts = all_met.met e x.0 k arrival.tick x.1 (arrival, is, refl) from (omega arith) in
      let d : ℕ = arrival.tick + slice_index plan.queue.deadlines e in
      let due : arrival.tick + x.0.deadline ≡ arrival.tick + slice_index plan.queue.deadlines e = ap (λ (n : ℕ). arrival.tick + n) (sym deadline) in
      let same = done_same laws runs program device b plan p q origin (board_after start links) planned plan_is row.loads z links start (arrival.tick + x.0.deadline) e (omega arith) follows all_met.safe in
      let done : k < done_by start links (arrival.tick + x.0.deadline) e = omega arith in
      served laws runs program device b plan p q origin (board_after start links) planned plan_is row.loads z links start e k (arrival.tick + slice_index plan.queue.deadlines e) till follows all_met.safe first
      (subst (λ (n : ℕ). k < done_by start links n e) due done)

  abbrev Safe_with : List Link → Type 0
  Safe_with ls = AreSafe (base_with b device p q) row.loads (outside plan origin (board_after start links)) z (moment_of start) (stages_of (turns_of plan (base_with b device p q) device (outside plan origin (board_after start links)) start ls))

  pub meets : MeetsDeadlines plan row start links z
  meets =
      record {
        none_lost = All-from_recursion (IsKept z) (entries_of links)
            (none_lost laws runs program device b plan p q origin (board_after start links) planned plan_is row.loads z links start follows all_met.safe);
        enough = λ before after chunk is till. enough laws runs program device b plan p q origin (board_after start links) planned plan_is row.loads z before chunk after start row refl its_row.checkpoint
            (subst (λ (ls : List Link). Follows laws runs program device b plan p q origin (board_after start links) planned plan_is start ls) is follows)
            (subst (λ (ls : List Link). Safe_with ls) is all_met.safe) till;
        one_each = one_each;
        met = met;
      }

pub calm_runs : ArrivalLaws → RunsLaw → turns.DeadlinesLaw → CalmLaw
calm_runs laws runs deadlines program device b plan origin first links planned run before after chunk row p q z is fits calm =
    meets laws runs deadlines program device b plan row p q origin (point_after first before) (chunk ∷ after) z planned fits
    (record {
      lawful = rest.lawful;
      belong = rest.belong;
      board = record { cap = sym rest.cap; ticks = rest.has.ticks; some_ticks = rest.has.some; passed = rest.began };
      done = each_on laws runs program device b plan p q origin (board_after first (before ++ chunk ∷ after)) planned its_plan row.loads z (DoneHasCome plan) before chunk after first whole
          (subst (λ (ls : List Link). AtEachPoint (DoneHasCome plan) first ls) is run.done);
    }) calm
  where
    its_plan : IsPlanOf program plan
    its_plan = (first_of (BelongTogether program plan) first links run.belong).plan_is

    whole : Follows laws runs program device b plan p q origin (board_after first (before ++ chunk ∷ after)) planned its_plan first (before ++ chunk ∷ after)
    whole =
        record {
          lawful = subst (λ (ls : List Link). IsLawful plan first ls) is run.lawful;
          belong = subst (λ (ls : List Link). AtEachPoint (BelongTogether program plan) first ls) is run.belong;
          has = record { ticks = run.board.ticks; some = run.board.some_ticks };
          cap = sym run.board.cap;
          began = run.board.passed;
          ends = refl;
        }

    rest : Follows laws runs program device b plan p q origin (board_after first (before ++ chunk ∷ after)) planned its_plan (point_after first before) (chunk ∷ after)
    rest = follows_on laws runs program device b plan p q origin (board_after first (before ++ chunk ∷ after)) planned its_plan row.loads z before chunk after first whole

pub entries_end : ArrivalLaws → RunsLaw → EntriesEnd
entries_end laws runs program device b plan origin first links planned run =
    All-from_recursion (λ (entry : Entry). entry.tick + entry.ticks ≤ (board_after first links).tick) (entries_of links)
    (all_ended laws runs program device b plan 0 0 origin (board_after first links) planned its_plan [] 0 links first (board_after first links).tick
    (record {
      lawful = run.lawful;
      belong = run.belong;
      has = record { ticks = run.board.ticks; some = run.board.some_ticks };
      cap = sym run.board.cap;
      began = run.board.passed;
      ends = refl;
    }) (le_refl (board_after first links).tick))
  where
    its_plan : IsPlanOf program plan
    its_plan = (first_of (BelongTogether program plan) first links run.belong).plan_is
