-- A job, from a decision point where all belongs together.
use Rattle.std.proofs.Common.{◌≡◌, ◌≢◌, inl, inr, ℕ, ◌+◌, ◌≤◌, ◌<◌, ℤ, List, [], ◌∷◌, ◌++◌, Bool, true, false, length, Option, Some, None, zero, suc, refl, sym, ap, ap₂, ◌∙◌, subst, arith, length-append}
use Rattle.std.specs.Prelude.{nat_le, map, All, filter, slice_get, slice_index, slice_index_or, slice_set, count_by, cond, if◌then◌else◌, ◌==◌}
use Rattle.std.specs.List.{last_or}
use Rattle.std.specs.Option.{option_map_or}
use Rattle.std.proofs.lemmas.Bool.{cases_eq}
use Rattle.std.proofs.lemmas.Bool.Decides.{nat_tests}
use Rattle.std.proofs.lemmas.Option.{slice_get_within, get_or_from_slice_get}
use Rattle.std.proofs.lemmas.List.{length-map, get_or-set_same, get_or-set_other}
use Rattle.std.proofs.lemmas.List.Sums.{sum_by-append}
use Rattle.std.proofs.Math.ListN.{length-set}
use Rattle.cat_program.specs.declared.headers.Timing.{Timing}
use Rattle.cat_program.specs.declared.outs.LogEntry.{LogEntry}
use Rattle.cat_program.specs.declared.outs.LogEntry.TheVariants.{Ran}
use Rattle.cat_program.specs.Checked.{Checked, HasVersion}
use Rattle.cat_program.specs.OutsValue.{entry_of}
use Rattle.cat_program.specs.Meaning.{Output}
use Rattle.nv_memory.specs.declared.layout.Layout.{Layout}
use Rattle.nv_memory.specs.Board.{State}
use Rattle.event_arrivals.specs.Arrivals.{Lists, arrival_at, arrival_by}
use Rattle.event_arrivals.specs.declared.arrival.Arrival.{Arrival}
use Rattle.event_queue.specs.declared.queue.Due.{Due}
use Rattle.nv_memory.specs.Layout.{size_of}
use Rattle.nv_log.specs.Append.{AppendsAreSafe}
use Rattle.nv_log.specs.Record.{IsOf, EntryFits}
use Rattle.cat_machine.specs.Fits.{Fits, IsIdle}
use Rattle.recovery.specs.Committed.{Committed, IsCommitted, is_ran}
use Rattle.recovery.specs.Laws.{CommitsLast}
use Rattle.cn_scheduler.proofs.Back.{fits_rest, belongs_back, not_last}
use Rattle.cn_scheduler.proofs.Going.{Fit, are_fit, outs_are}
use Rattle.cn_scheduler.proofs.Recorded.{IsSame, Hold, same_image, changed, roomy, done_record, lost_record, path_same, hold_more, hold_image, path_hold, count_more}
use Rattle.cat_machine.specs.declared.instr.Mode.TheVariants.{Handler}
use Rattle.cat_machine.specs.CodeValue.{CodeValue, EntryAt}
use Rattle.cat_machine.specs.Held.{Held}
use Rattle.cat_machine.specs.Machine.{Ended', until, entered}
use Rattle.cat_machine.specs.Ends.{RunsEnd, IsWhole}
use Rattle.nv_log.specs.declared.log.By.TheVariants as by
use Rattle.event_queue.specs.Queue.{arrival_of}
use Rattle.cn_scheduler.specs.declared.engine.Engine.{Engine}
use Rattle.cn_scheduler.specs.declared.engine.Chunk.{Chunk}
use Rattle.cn_scheduler.specs.declared.engine.Chunk.TheVariants.{Ended, Dropped, Lost, Over, Full}
use Rattle.cn_scheduler.specs.Point.{Work, Point, FitsSlot, held_of, work_of}
use Rattle.cn_scheduler.specs.Paths.{run_acts, run_outs, IsHandler}
use Rattle.cn_scheduler.specs.Asked.{Ask, recording, path_asks, Limits, Asked}
use Rattle.cn_scheduler.specs.Chunks.{no_floor, wake_asks, ran_of, job_asks, after_job, Commits, Leaves, JobDoes}
use Rattle.cn_scheduler.specs.Chunks.JobAsks.{Late}
use Rattle.cn_scheduler.specs.Parts.{Serves}
use Rattle.checkpoint_slots.specs.declared.slot.Slot.{Slot}
use Rattle.checkpoint_slots.specs.Slot.{IsMadeFor, NumbersFit}
use Rattle.checkpoint_slots.specs.Image.{committed_slot}
use Rattle.cn_scheduler.specs.EnginePoint.{work_in, point_of, IsAtRest}
use Rattle.cn_scheduler.specs.Warrants.{IsNextAt}
use Rattle.cn_scheduler.proofs.Asking.{asked_joined, asked_stopped, asked_split, asked_later, never_dropped}
use Rattle.cn_scheduler.proofs.Sections.{held_at, fits_now}
use Rattle.cn_scheduler.specs.declared.plan.Plan.{Plan}
use Rattle.cn_scheduler.specs.declared.plan.PlanRow.{PlanRow}
use Rattle.cn_scheduler.specs.InForce.{begins_by, in_force, version_in, version_of}
use Rattle.cn_scheduler.specs.Belongs.{IsRowOf, IsPlanOf, IsReady, BelongTogether}

-- ---- the version of an arrival

le_true : (a b : ℕ) → a ≤ b → nat_le a b ≡ true
le_true a b h = grind (arith, nat_tests)

-- what holds of all rows holds of the last one that passes
last_passes : (P : PlanRow → Type 0) (t : ℕ) (rows : List PlanRow) (first : PlanRow) → P first → ((k : ℕ) (row : PlanRow) → slice_get rows k ≡ Some row → P row)
    → (row : PlanRow) × (last_or (Some first) (filter (begins_by t) rows) ≡ Some row) × P row
last_passes P t [] first p all = (first, refl, p)
last_passes P t (row ∷ rows) first p all = by_test (nat_le row.from t) refl (λ other q. last_passes P t rows other q (λ k r is. all (suc k) r is))
  where
    by_test : (b : Bool) → nat_le row.from t ≡ b → ((other : PlanRow) → P other → (r : PlanRow) × (last_or (Some other) (filter (begins_by t) rows) ≡ Some r) × P r)
        → (r : PlanRow) × (last_or (Some first) (filter (begins_by t) (row ∷ rows)) ≡ Some r) × P r
    by_test true e again = let r = again row (all zero row refl) in (r.0, ap (λ (b : Bool). last_or (Some first) (if b then row ∷ filter (begins_by t) rows else filter (begins_by t) rows)) e ∙ r.1, r.2)
    by_test false e again = let r = again first p in (r.0, ap (λ (b : Bool). last_or (Some first) (if b then row ∷ filter (begins_by t) rows else filter (begins_by t) rows)) e ∙ r.1, r.2)

all_at : (P : PlanRow → Type 0) (rows : List PlanRow) → All P rows → (k : ℕ) (row : PlanRow) → slice_get rows k ≡ Some row → P row
all_at P rows all k row is = subst P (get_or_from_slice_get rows k row row is) (all k row (slice_get_within rows k row is))

pub row_there : (program : Checked) (plan : Plan) (t : ℕ) → IsPlanOf program plan → (row : PlanRow) × (in_force plan.rows t ≡ Some row) × IsRowOf program row
row_there program plan t is = by_rows plan.rows is.first (all_at (IsRowOf program) plan.rows is.rows)
  where
    by_rows : (rows : List PlanRow) → (row : PlanRow) × (slice_get rows 0 ≡ Some row) × (row.from ≡ 0) → ((k : ℕ) (row : PlanRow) → slice_get rows k ≡ Some row → IsRowOf program row)
        → (row : PlanRow) × (in_force rows t ≡ Some row) × IsRowOf program row
    by_rows [] f all = let no = f.1 in cc
    by_rows (row ∷ rows) f all =
        let same : row ≡ f.0 = let e = f.1 in cc in
        let from : nat_le row.from t ≡ true = le_true row.from t (omega (arith, ap (λ (r : PlanRow). r.from) same, f.2)) in
        let r = last_passes (IsRowOf program) t rows row (all 0 row refl) (λ k r is. all (suc k) r is) in
        (r.0, ap (λ (b : Bool). last_or None (if b then row ∷ filter (begins_by t) rows else filter (begins_by t) rows)) from ∙ r.1, r.2)

pub known_event : (lists : Lists) (event k : ℕ) (arrival : Arrival) → arrival_at lists event k ≡ Some arrival → event < length lists.timings
known_event lists event k arrival is = by_timing (slice_get lists.timings event) refl
  where
    by_timing : (o : Option Timing) → slice_get lists.timings event ≡ o → event < length lists.timings
    by_timing None e = let no = ap (λ (t : Option Timing). arrival_by t (slice_index_or lists.kept event []) lists.trace k) (sym e) ∙ is in cc
    by_timing (Some t) e = slice_get_within lists.timings event t e

pub version_there : (program : Checked) (plan : Plan) (due : Due) → IsPlanOf program plan → due.event < length program.events → HasVersion program due.event (version_of plan.rows due)
version_there program plan due is known =
    let r = row_there program plan due.arrived is in
    subst (HasVersion program due.event) (sym (ap (λ (o : Option PlanRow). option_map_or (version_in due.event) o 0) r.1)) (r.2.there due.event known)

-- ---- the handler

module _ (plan : Plan) (program : Checked) (e : Engine) (old : State) (due : Due) (rest : IsAtRest plan.layout e) (b : BelongTogether program plan (point_of e old))
    (next : IsNextAt plan (point_of e old) (Some due)) where
  abbrev l : Layout
  l = plan.layout

  abbrev w : Work
  w = work_in e

  pub known : due.event < length program.events
  known = omega (arith, known_event plan.queue.arrivals due.event due.index (arrival_of due) next.next.pending.is_it, b.plan_is.queue)

  pub there : HasVersion program due.event (version_of plan.rows due)
  there = version_there program plan due b.plan_is known

  pub entry_now : RunsEnd → (entry : ℕ) × EntryAt plan.code due.event (version_of plan.rows due) entry
  entry_now runs =
      let fits = fits_now plan program e old rest b in
      subst (λ (c : CodeValue). (entry : ℕ) × EntryAt c due.event (version_of plan.rows due) entry) (sym fits.code_is) (runs.entries program due.event (version_of plan.rows due) there)

  module _ (runs : RunsEnd) (entry : ℕ) (at : EntryAt plan.code due.event (version_of plan.rows due) entry) where
    pub whole_job : IsWhole program Handler plan.code (entered e.working entry due.payload)
    whole_job = runs.handler program plan.code e.working due.event (version_of plan.rows due) entry due.payload (fits_now plan program e old rest b) rest.free rest.empty at

    abbrev run : Ended'
    run = whole_job.run

    pub is_handler : IsHandler plan w due run
    is_handler = record {
      payload = e.working.payload;
      entry = entry;
      there = at;
      ends = ap (λ (h : Held). until 1000000 Handler plan.code (entered h entry due.payload)) (sym (held_at l e rest)) ∙ whole_job.ends;
    }

  -- a wake where the board is off, and the handler behind it
  module _ (run : Ended') where
    abbrev path : List Ask
    path = path_asks l w.len (run_acts plan.code run)

    abbrev ran : Ask
    ran = recording l (w.len + length (run_outs run)) (ran_of plan (point_of e old) due) by.Write

    abbrev IsAsked : Chunk → State → Type 0
    IsAsked o new = Asked (no_floor plan) old (job_asks plan (point_of e old) due run) o new

    pub at_wake : (o : Chunk) (new : State) → o ≢ Ended → Asked (no_floor plan) old (wake_asks old.on) o new → IsAsked o new
    at_wake o new not a = asked_stopped (no_floor plan) (wake_asks old.on ++ path) (ran ∷ []) o old new not (asked_stopped (no_floor plan) (wake_asks old.on) path o old new not a)

    pub at_path : (o : Chunk) (mid new : State) → o ≢ Ended → Asked (no_floor plan) old (wake_asks old.on) Ended mid → Asked (no_floor plan) mid path o new → IsAsked o new
    at_path o mid new not a c = asked_stopped (no_floor plan) (wake_asks old.on ++ path) (ran ∷ []) o old new not (asked_joined (no_floor plan) (wake_asks old.on) path o old mid new a c)

    pub at_record : (o : Chunk) (mid last new : State) → Asked (no_floor plan) old (wake_asks old.on) Ended mid → Asked (no_floor plan) mid path Ended last → Asked (no_floor plan) last (ran ∷ []) o new → IsAsked o new
    at_record o mid last new a c d = asked_joined (no_floor plan) (wake_asks old.on ++ path) (ran ∷ []) o old last new (asked_joined (no_floor plan) (wake_asks old.on) path Ended old mid last a c) d

-- ---- what is left of a job

wake_same : (l : Limits) (on : Bool) (o : Chunk) (old new : State) → Asked l old (wake_asks on) o new → new.image ≡ old.image
wake_same l true Ended old new a = ap (λ (s : State). s.image) a
wake_same l true Dropped old new a = absurd a
wake_same l true Lost old new a = absurd a
wake_same l true Over old new a = absurd a
wake_same l true Full old new a = absurd a
wake_same l false Ended old new (inl s) = absurd s
wake_same l false Dropped old new (inl s) = ap (λ (x : State). x.image) s.1
wake_same l false Lost old new (inl s) = ap (λ (x : State). x.image) s.2.becomes
wake_same l false Over old new (inl s) = ap (λ (x : State). x.image) s.2.same
wake_same l false Full old new (inl s) = ap (λ (x : State). x.image) s.2
wake_same l false Ended old new (inr r) = ap (λ (x : State). x.image) r.2 ∙ ap (λ (x : State). x.image) r.1.done.becomes
wake_same l false Dropped old new (inr r) = absurd r.2
wake_same l false Lost old new (inr r) = absurd r.2
wake_same l false Over old new (inr r) = absurd r.2
wake_same l false Full old new (inr r) = absurd r.2

-- the record of a job, behind its outputs
module _ (l : Layout) (program : Checked) (limits : Limits) (size : limits.size ≡ l.log) (safe : AppendsAreSafe) (last : CommitsLast) (first at : ℕ) (entry : LogEntry) (old new : State)
    (long : size_of l ≤ length old.image) (v : Committed) (le : v.slot.len ≤ first) (up : first ≤ at) (is : IsCommitted l program old.image v) where
  record_same : (o : Chunk) → Asked limits old (recording l at entry by.Write ∷ []) o new → IsSame l program limits size safe last first old.image new.image v
  record_same Ended (inl s) = absurd s
  record_same Dropped (inl s) = same_image l program limits size safe last first old new v (ap (λ (t : State). t.image) s.1) is
  record_same Lost (inl s) = changed l program limits size safe last first at old.image new.image v le up is (lost_record l program limits size safe last at entry by.Write old new (roomy l program limits size safe last at s.1) long s.2)
  record_same Over (inl s) = same_image l program limits size safe last first old new v (ap (λ (t : State). t.image) s.2.same) is
  record_same Full (inl s) = same_image l program limits size safe last first old new v (ap (λ (t : State). t.image) s.2) is
  record_same Dropped (inr r) = absurd r.2
  record_same Lost (inr r) = absurd r.2
  record_same Over (inr r) = absurd r.2
  record_same Full (inr r) = absurd r.2
  record_same Ended (inr r) =
      let d = done_record l program limits size safe last at entry by.Write old r.0 (roomy l program limits size safe last at r.1.room) long r.1.done in
      subst (λ (i : List ℕ). IsSame l program limits size safe last first old.image i v) (sym (ap (λ (t : State). t.image) r.2)) (changed l program limits size safe last first at old.image r.0.image v le up is d.0)

  record_hold : (entries : List LogEntry) → length entries ≡ at → IsOf program entry → EntryFits l entry → Asked limits old (recording l at entry by.Write ∷ []) Ended new
      → Hold l program limits size safe last old.image entries → Hold l program limits size safe last new.image (entries ++ entry ∷ [])
  record_hold entries many of fits (inl s) h = absurd s
  record_hold entries many of fits (inr r) h =
      let d = done_record l program limits size safe last at entry by.Write old r.0 (roomy l program limits size safe last at r.1.room) long r.1.done in
      subst (λ (i : List ℕ). Hold l program limits size safe last i (entries ++ entry ∷ [])) (sym (ap (λ (t : State). t.image) r.2))
      (hold_more l program limits size safe last at entry entries old.image r.0.image many d.0 d.1 of fits h)

-- counts with one entry more of an event
eq_true : (a b : ℕ) → a ≡ b → (a == b) ≡ true
eq_true a b h = grind (arith, nat_tests)

eq_false : (a b : ℕ) → a ≢ b → (a == b) ≡ false
eq_false a b h = grind (arith, nat_tests)

ran_count : (ev : ℕ) (entries : List LogEntry) (event version steps start index : ℕ) → count_by (is_ran ev) (entries ++ Ran event version steps start index ∷ []) ≡ count_by (is_ran ev) entries + cond (ev == event) 1 0
ran_count ev entries event version steps start index =
    sum_by-append (λ x. cond (is_ran ev x) 1 0) entries (Ran event version steps start index ∷ []) ∙ omega arith

counted_more : (done : List ℕ) (ev event count : ℕ) → event < length done → slice_index done ev ≡ count → slice_index (slice_set done event (slice_index done event + 1)) ev ≡ count + cond (ev == event) 1 0
counted_more done ev event count below is = elim (cases_eq ev event) [
  | inl same ↦
      ap (slice_index (slice_set done event (slice_index done event + 1))) same ∙ get_or-set_same done event (slice_index done event + 1) 0 below ∙ ap (λ (n : ℕ). n + 1) (ap (slice_index done) (sym same) ∙ is)
      ∙ ap (λ (b : Bool). count + cond b 1 0) (sym (eq_true ev event same))
  | inr other ↦ get_or-set_other done event ev (slice_index done event + 1) 0 other ∙ is ∙ sym (ap (λ (b : Bool). count + cond b 1 0) (eq_false ev event other) ∙ omega arith)
]

module _ (plan : Plan) (program : Checked) (e : Engine) (old : State) (due : Due) (rest : IsAtRest plan.layout e) (b : BelongTogether program plan (point_of e old))
    (next : IsNextAt plan (point_of e old) (Some due)) (runs : RunsEnd) (safe : AppendsAreSafe) (last : CommitsLast) (run : Ended') (is_handler : IsHandler plan (work_in e) due run) where
  abbrev limits : Limits
  limits = no_floor plan

  abbrev ly : Layout
  ly = plan.layout

  abbrev work : Work
  work = work_in e

  abbrev asks : List Ask
  asks = path_asks ly work.len (run_acts plan.code run)

  abbrev place : ℕ
  place = work.len + length (run_outs run)

  abbrev entry : LogEntry
  entry = ran_of plan (point_of e old) due

  -- the handler leaves an idle machine
  pub idle_after : IsIdle program run.after
  idle_after =
      let w = runs.handler program plan.code (held_of work is_handler.payload) due.event (version_of plan.rows due) is_handler.entry due.payload (b.fits is_handler.payload) refl refl is_handler.there in
      let same : w.run ≡ run = let both = sym w.ends ∙ is_handler.ends in cc in
      subst (λ (r : Ended'). IsIdle program r.after) same w.idle

  abbrev Same : State → Type 0
  Same new = IsSame ly program limits refl safe last work.len old.image new.image b.committed

  woken_same : (o : Chunk) (new : State) → Asked limits old (wake_asks old.on) o new → Same new
  woken_same o new a = same_image ly program limits refl safe last work.len old new b.committed (wake_same limits old.on o old new a) b.is_committed

  path_after : (o : Chunk) (new : State) → Asked limits old (wake_asks old.on ++ asks) o new → Same new
  path_after o new a = elim (asked_split limits (wake_asks old.on) asks o old new a) [
    | inl stop ↦ woken_same o new stop.1
    | inr on ↦
        let woken = woken_same Ended on.0 on.1 in
        let after = path_same ly program limits refl safe last (run_acts plan.code run) work.len work.len o on.0 new b.committed (omega (arith, woken.long, b.image)) b.len (omega arith) woken.committed on.2 in
        record { committed = after.committed; long = after.long ∙ woken.long; below = λ k less. after.below k less ∙ woken.below k less }
  ]

  pub job_same : (o : Chunk) (new : State) → Asked limits old (job_asks plan (point_of e old) due run) o new → Same new
  job_same o new a = elim (asked_split limits (wake_asks old.on ++ asks) (recording ly place entry by.Write ∷ []) o old new a) [
    | inl stop ↦ path_after o new stop.1
    | inr on ↦
        let path = path_after Ended on.0 on.1 in
        let after = record_same ly program limits refl safe last work.len place entry on.0 new (omega (arith, path.long, b.image)) b.committed b.len (omega arith) path.committed o on.2 in
        record { committed = after.committed; long = after.long ∙ path.long; below = λ k less. after.below k less ∙ path.below k less }
  ]

  pub job_later : (o : Chunk) (new : State) → Asked limits old (job_asks plan (point_of e old) due run) o new → old.tick ≤ new.tick
  job_later o new a = asked_later limits (job_asks plan (point_of e old) due run) o old new a

  -- all records of the job stand
  abbrev outs : List LogEntry
  outs = b.ready.entries ++ map entry_of (run_outs run)

  outs_many : length outs ≡ place
  outs_many = length-append b.ready.entries (map entry_of (run_outs run)) ∙ ap₂ (λ (x y : ℕ). x + y) b.ready.recorded.many (length-map (run_outs run) entry_of)

  pub job_hold : (new : State) → All Fit (run_outs run) → EntryFits ly entry → Asked limits old (job_asks plan (point_of e old) due run) Ended new → Hold ly program limits refl safe last new.image (outs ++ entry ∷ [])
  job_hold new fit fits a = elim (asked_split limits (wake_asks old.on ++ asks) (recording ly place entry by.Write ∷ []) Ended old new a) [
    | inl stop ↦ absurd (stop.0 refl)
    | inr on ↦ elim (asked_split limits (wake_asks old.on) asks Ended old on.0 on.1) [
      | inl stop ↦ absurd (stop.0 refl)
      | inr mid ↦
          let woken = woken_same Ended mid.0 mid.1 in
          let path = path_after Ended on.0 on.1 in
          let are = outs_are runs Handler plan.code 1000000 (entered (held_of work is_handler.payload) is_handler.entry due.payload) run is_handler.ends in
          let held = hold_image ly program limits refl safe last b.ready.entries old mid.0 (wake_same limits old.on Ended old mid.0 mid.1) b.ready.recorded.entries_are in
          let hold = path_hold ly program limits refl safe last (run_acts plan.code run) work.len b.ready.entries mid.0 on.0 (omega (arith, woken.long, b.image)) b.ready.recorded.many (subst (All Fit) (sym are) fit) mid.2 held in
          record_hold ly program limits refl safe last work.len place entry on.0 new (omega (arith, path.long, b.image)) b.committed b.len (omega arith) path.committed outs outs_many (there plan program e old due rest b next) fits on.2
          (subst (λ (xs : List Output). Hold ly program limits refl safe last on.0.image (b.ready.entries ++ map entry_of xs)) are hold)
    ]
  ]

  -- what a commit of it commits
  pub job_ready : (mid : State) → All Fit (run_outs run) → EntryFits ly entry → Asked limits old (job_asks plan (point_of e old) due run) Ended mid → work.len + length (run_outs run) + 1 ≤ ly.log → IsReady program plan mid.image (after_job work due run)
  job_ready mid fit fits a few = record {
    current = idle_after.state.current;
    entries = outs ++ entry ∷ [];
    rests = idle_after.corresponds.place;
    recorded = record {
      many = length-append outs (entry ∷ []) ∙ ap (λ (n : ℕ). n + 1) outs_many;
      entries_are = job_hold mid fit fits a;
      counted = λ ev below.
          let start = b.ready.recorded.counted ev below ∙ sym (count_more ev b.ready.entries (run_outs run)) in
          let known = known plan program e old due rest b next in
          counted_more work.done ev due.event (count_by (is_ran ev) outs) (omega (arith, known, b.events)) start ∙ sym (ran_count ev outs due.event (version_of plan.rows due) work.steps old.tick due.index);
    };
    len_fits = few;
  }

  pub job_fits : Fits program plan.code run.after → (payload : ℤ) → Fits program plan.code (held_of (after_job work due run) payload)
  job_fits after = fits_rest program plan.code (after_job work due run) idle_after.state.current after.checked after.code_is after.shape.words_are after.shape.posts_are idle_after.corresponds.place

  pub job_events : length (after_job work due run).done ≡ length program.events
  job_events = length-set work.done due.event (slice_index work.done due.event + 1) ∙ b.events

-- what a job that stopped before its commit leaves
pub stopped_leaves : (plan : Plan) (p : Point) (w : Work) (all : List Ask) (o : Chunk) (q : Point) → o ≢ Ended → o ≢ Lost → Asked (no_floor plan) p.board all o q.board → Leaves plan p w false o q
stopped_leaves plan p w all Ended q ended lost a = absurd (ended refl)
stopped_leaves plan p w all Dropped q ended lost a = absurd (never_dropped plan all p.board q.board a)
stopped_leaves plan p w all Lost q ended lost a = absurd (lost refl)
stopped_leaves plan p w all Over q ended lost a = tt
stopped_leaves plan p w all Full q ended lost a = tt

pub not_kept : (plan : Plan) (all : List Ask) (o : Chunk) (old new : State) → o ≢ Ended → o ≢ Lost → Asked (no_floor plan) old all o new → o ≢ Over → o ≢ Full → ⊥
not_kept plan all Ended old new ended lost a over full = ended refl
not_kept plan all Dropped old new ended lost a over full = never_dropped plan all old new a
not_kept plan all Lost old new ended lost a over full = lost refl
not_kept plan all Over old new ended lost a over full = over refl
not_kept plan all Full old new ended lost a over full = full refl

-- ---- the engine after its handler

module _ (plan : Plan) (program : Checked) (e : Engine) (old : State) (due : Due) (rest : IsAtRest plan.layout e) (b : BelongTogether program plan (point_of e old))
    (next : IsNextAt plan (point_of e old) (Some due)) (runs : RunsEnd) (safe : AppendsAreSafe) (last : CommitsLast) (e' : Engine) (mid : State) where
  pub served_same : (o : Chunk) (s : Serves plan e old due o e' mid) → IsSame plan.layout program (no_floor plan) refl safe last e.slot.len old.image mid.image b.committed
  served_same o s = job_same plan program e old due rest b next runs safe last s.run s.is_handler o mid s.asked

  pub served_made : (o : Chunk) → Serves plan e old due o e' mid → IsMadeFor plan.layout e'.slot
  served_made o s = record {
    words = ap (λ (x : Slot). length x.words) s.slot ∙ rest.made.words;
    tasks = ap (λ (x : Slot). length x.posts) s.slot ∙ rest.made.tasks;
    events = ap (λ (x : Slot). length x.done) s.slot ∙ rest.made.events;
  }

  pub served_later : (o : Chunk) → Serves plan e old due o e' mid → old.tick ≤ mid.tick
  served_later o s = job_later plan program e old due rest b next runs safe last s.run s.is_handler o mid s.asked

  -- power went
  pub lost_job : (q : Point) → Serves plan e old due Lost e' q.board → q.board ≡ mid → q.work ≡ work_of (committed_slot plan.layout q.board.image) → q.dirty ≡ false → NumbersFit (committed_slot plan.layout q.board.image) → BelongTogether program plan q
  lost_job q s is work clean numbers =
      let same = job_same plan program e old due rest b next runs safe last s.run s.is_handler Lost q.board s.asked in
      let t = job_later plan program e old due rest b next runs safe last s.run s.is_handler Lost q.board s.asked in
      let fits = fits_now plan program e old rest b in
      belongs_back program plan fits.checked fits.code_is b.plan_is q b.committed (omega (arith, same.long, b.image)) same.committed (omega (arith, t, b.committed_steps)) work clean numbers

  -- one more arrival of the event counts as done
  module _ (s : Serves plan e old due Ended e' mid) (slot : Slot) (n : ℕ) (count : n ≡ slice_index e'.slot.done due.event + 1) (set : slot ≡ record e'.slot { done = slice_set e'.slot.done due.event n }) where
    abbrev e2 : Engine
    e2 = record { working = e'.working; slot = slot; dirty = e'.dirty }

    pub now_is : work_in e2 ≡ after_job (work_in e) due s.run
    now_is =
        let end = s.ended refl in
        let h = end.held_is in
        let len : slot.len ≡ e.slot.len + length (run_outs s.run) + 1 = omega (arith, ap (λ (x : Slot). x.len) set, end.len_is) in
        let steps = ap (λ (x : Slot). x.steps) set ∙ ap (λ (x : Slot). x.steps) s.slot in
        let done = ap (λ (x : Slot). x.done) set ∙ ap (λ (m : ℕ). slice_set e'.slot.done due.event m) count ∙ ap (λ (d : List ℕ). slice_set d due.event (slice_index d due.event + 1)) (ap (λ (x : Slot). x.done) s.slot) in
        λ i. record { words = (h i).words; posts = (h i).posts; place = (h i).place; len = len i; steps = steps i; done = done i }

    abbrev idle : IsIdle program s.run.after
    idle = idle_after plan program e old due rest b next runs safe last s.run s.is_handler

    pub now_rests : IsAtRest plan.layout e2
    now_rests =
        let end = s.ended refl in
        let m = served_made Ended s in
        record {
          free = ap (λ (h : Held). h.kept) end.held_is ∙ idle.corresponds.free;
          empty = ap (λ (h : Held). h.stack) end.held_is ∙ idle.corresponds.empty;
          made = record {
            words = ap (λ (x : Slot). length x.words) set ∙ m.words;
            tasks = ap (λ (x : Slot). length x.posts) set ∙ m.tasks;
            events = ap (λ (x : Slot). length x.done) set ∙ length-set e'.slot.done due.event n ∙ m.events;
          };
        }

    pub now_place : e'.working.place ≢ Some 4294967295
    now_place same =
        let end = s.ended refl in
        not_last runs program s.run.after.place idle.state.current (fits_now plan program e old rest b).checked idle.corresponds.place (sym (ap (λ (h : Held). h.place) end.held_is) ∙ same)

    pub now_ready : slot.len ≤ plan.layout.log → IsReady program plan mid.image (work_in e2)
    now_ready few =
        let end = s.ended refl in
        subst (IsReady program plan mid.image) (sym now_is)
        (job_ready plan program e old due rest b next runs safe last s.run s.is_handler mid end.fits s.entry s.asked (omega (arith, few, ap (λ (w : Work). w.len) now_is)))

    pub now_fits : Fits program plan.code e'.working → (payload : ℤ) → Fits program plan.code (held_of (work_in e2) payload)
    now_fits f =
        let end = s.ended refl in
        subst (λ (w : Work). (payload : ℤ) → Fits program plan.code (held_of w payload)) (sym now_is)
        (job_fits plan program e old due rest b next runs safe last s.run s.is_handler (subst (Fits program plan.code) end.held_is f))

    pub now_events : length (work_in e2).done ≡ length program.events
    now_events = ap (λ (w : Work). length w.done) now_is ∙ job_events plan program e old due rest b next runs safe last s.run s.is_handler

    pub now_steps : (work_in e2).steps ≤ mid.tick
    now_steps = omega (arith, ap (λ (w : Work). w.steps) now_is, b.steps, served_later Ended s)

    -- a job that came to its commit
    pub job_does : (o : Chunk) (q : Point) → FitsSlot plan.layout (work_in e2) → Commits plan (work_in e2) mid o q.board → Leaves plan (point_of e old) (work_in e2) false o q → JobDoes plan (point_of e old) due o q
    job_does o q fits commits leaves =
        let end = s.ended refl in
        record {
          run = s.run;
          is_handler = s.is_handler;
          asks = Late mid s.asked (are_fit (run_outs s.run) end.fits) s.entry (subst (FitsSlot plan.layout) now_is fits) (subst (λ (w : Work). Commits plan w mid o q.board) now_is commits);
          leaves = subst (λ (w : Work). Leaves plan (point_of e old) w false o q) now_is leaves;
        }
