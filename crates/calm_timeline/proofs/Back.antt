-- What the law of turns claims, said of the timeline's chunks.
use Rattle.std.proofs.Common.{◌≡◌, ◌≢◌, ℕ, ◌+◌, ◌-◌, ◌<◌, ◌≤◌, ◌⊎◌, inl, inr, List, [], ◌∷◌, ◌++◌, length, refl, sym, ap, ap₂, subst, ◌∙◌, arith, Bool, true, false, not, ◌&&◌, nat_le, nat_eq, if◌then◌else◌, Option}
use Rattle.std.specs.Prelude.{slice_index}
use Rattle.std.specs.List.{AllByRecursion}
use Rattle.std.proofs.lemmas.Bool.{cases_lt, cases_eq}
use Rattle.std.proofs.lemmas.Bool.Decides.{nat_tests}
use Rattle.cat_program.specs.Checked.{Checked}
use Rattle.nv_memory.specs.declared.device.Device.{Device}
use Rattle.nv_memory.specs.declared.entry.Entry.{Entry}
use Rattle.nv_memory.specs.Board.{State}
use Rattle.event_queue.specs.declared.queue.Due.{Due}
use Rattle.event_queue.specs.Queue.{IsDue, arrival_of}
use Rattle.cost_bounds.specs.BoundsValue.{BoundsValue}
use Rattle.demand_core.specs.declared.Load.{Load}
use Rattle.calm_stretch.specs.Loads.{units_of}
use Rattle.calm_stretch.specs.Moment.{came, taken_in}
use Rattle.calm_stretch.specs.Moment.Doing.{Job as DoJob, Section as DoSection}
use Rattle.calm_stretch.specs.Operations.{Operation, ticks_of_all, AllTake, NoOperationLost, NoOperationLostBefore, AreSafe, done_by as stages_done_by}
use Rattle.calm_stretch.specs.Rows.{stages_of}
use Rattle.cn_scheduler.specs.declared.plan.Plan.{Plan}
use Rattle.cn_scheduler.specs.declared.plan.PlanRow.{PlanRow}
use Rattle.cn_scheduler.specs.declared.choice.Choice.{Choice}
use Rattle.cn_scheduler.specs.declared.choice.Choice.TheVariants.{Job, Section, Checkpoint, Wake, Sleep}
use Rattle.cn_scheduler.specs.declared.engine.Chunk.{Chunk}
use Rattle.cn_scheduler.specs.declared.engine.Chunk.TheVariants.{Ended, Dropped, Lost, Over, Full}
use Rattle.cn_scheduler.specs.Point.{Point}
use Rattle.cn_scheduler.specs.Policy.{IsNextDue, Chooses}
use Rattle.cn_scheduler.specs.Chunks.{Link, is_last, Does, entries_of, point_after}
use Rattle.cn_scheduler.specs.Belongs.{IsPlanOf}
use Rattle.calm_timeline.specs.Calm.{kept_by}
use Rattle.calm_timeline.specs.Claims.{HasEnough, done_by, IsServed}
use Rattle.calm_timeline.specs.Numbers.{base_with, IsPlanned, AtEachPoint}
use Rattle.calm_timeline.proofs.Asks.{operations_of, PassesAll, all_take}
use Rattle.calm_timeline.proofs.Setting.{moment_of, outside, doing_of}
use Rattle.calm_timeline.proofs.Warrants.{warranted}
use Rattle.calm_timeline.proofs.Begins.{ArrivalLaws}
use Rattle.calm_timeline.proofs.Within.{RunsLaw}
use Rattle.calm_timeline.proofs.Moves.{job_not_dropped}
use Rattle.calm_timeline.proofs.Turns.{turns_of, Follows, Step, step, next, leads_on, all_on}

-- ---- entries

-- an entry that begins before z was not lost
abbrev pub IsKept : ℕ → Entry → Type 0
IsKept z entry = entry.tick < z → entry.lost ≡ false

kept_entries : (device : Device) (z t : ℕ) (entries : List Entry) (old new : State) → PassesAll old entries new → old.tick ≡ t → NoOperationLostBefore z t (operations_of device entries) →
    AllByRecursion (IsKept z) entries
kept_entries device z t [] old new passes at none = tt
kept_entries device z t (e ∷ entries) old new passes at none =
    let first = passes.1 in
    let tick_is : e.tick ≡ old.tick = first.tick_is in
    let ticks : e.ticks ≡ length first.passed = first.ticks_are in
    let tick : passes.0.tick ≡ old.tick + length first.passed = first.tick in (
      (λ early. none.0 (omega arith)),
      kept_entries device z (t + e.ticks) entries passes.0 new passes.2 (omega arith) none.1,
    )

late_entries : (z : ℕ) (entries : List Entry) (old new : State) → PassesAll old entries new → z ≤ old.tick → AllByRecursion (IsKept z) entries
late_entries z [] old new passes late = tt
late_entries z (e ∷ entries) old new passes late =
    let first = passes.1 in
    let tick_is : e.tick ≡ old.tick = first.tick_is in
    let tick : passes.0.tick ≡ old.tick + length first.passed = first.tick in
    ((λ early. absurd (omega arith)), late_entries z entries passes.0 new passes.2 (omega arith))

-- each entry has ended by then
pub ended_entries : (t : ℕ) (entries : List Entry) (old new : State) → PassesAll old entries new → new.tick ≤ t → AllByRecursion (λ entry. entry.tick + entry.ticks ≤ t) entries
ended_entries t [] old new passes till = tt
ended_entries t (e ∷ entries) old new passes till =
    let first = passes.1 in
    let tick_is : e.tick ≡ old.tick = first.tick_is in
    let ticks : e.ticks ≡ length first.passed = first.ticks_are in
    let tick : passes.0.tick ≡ old.tick + length first.passed = first.tick in
    let rest = never_back entries passes.0 new passes.2 in
    (omega arith, ended_entries t entries passes.0 new passes.2 till)
  where
    never_back : (entries : List Entry) (old new : State) → PassesAll old entries new → old.tick ≤ new.tick
    never_back [] old new same = let at = ap (λ (s : State). s.tick) same in omega arith
    never_back (e ∷ entries) old new passes = let tick = passes.1.tick in let rest = never_back entries passes.0 new passes.2 in omega arith

none_within : (z t : ℕ) (operations : List Operation) → AllTake operations → t + ticks_of_all operations ≤ z → NoOperationLostBefore z t operations → NoOperationLost operations
none_within z t [] take within none = tt
none_within z t (o ∷ operations) take within none =
    let some = take.0 in
    (none.0 (omega arith), none_within z (t + o.ticks) operations take.1 (omega arith) none.1)

some_entries : (device : Device) (entries : List Entry) → 0 < ticks_of_all (operations_of device entries) → 0 < length entries
some_entries device [] some = absurd (omega arith)
some_entries device (e ∷ entries) some = omega arith

-- ---- tests

if_last : (l : Bool) (a t x y : ℕ) → l ≡ true → (if not l && nat_le a t then x else y) ≡ y
if_last true a t x y is = refl
if_last false a t x y is = absurd (cc)

if_passed : (l : Bool) (a t x y : ℕ) → l ≡ false → a ≤ t → (if not l && nat_le a t then x else y) ≡ x
if_passed true a t x y is le = absurd (cc)
if_passed false a t x y is le = let yes' : nat_le a t ≡ true = grind (arith, nat_tests) in rw yes' refl

if_later : (l : Bool) (a t x y : ℕ) → l ≡ false → t < a → (if not l && nat_le a t then x else y) ≡ y
if_later true a t x y is less = absurd (cc)
if_later false a t x y is less = let no' : nat_le a t ≡ false = grind (arith, nat_tests) in rw no' refl

true_or_false : (x : Bool) → (x ≡ true) ⊎ (x ≡ false)
true_or_false true = inl refl
true_or_false false = inr refl

some_more : (xs : List Link) (y : Link) (ys : List Link) → xs ++ y ∷ ys ≡ [] → ⊥
some_more [] y ys is = cc
some_more (x ∷ xs) y ys is = cc

is_ended : (o : Chunk) → is_last o ≡ false → o ≢ Lost → o ≢ Dropped → o ≡ Ended
is_ended Ended goes kept whole = refl
is_ended Dropped goes kept whole = absurd (whole refl)
is_ended Lost goes kept whole = absurd (kept refl)
is_ended Over goes kept whole = absurd (cc)
is_ended Full goes kept whole = absurd (cc)

-- what raises the count of an event
by_job : (choice : Choice) (done : ℕ → ℕ) (e k : ℕ) → done e ≤ k → k < taken_in (doing_of choice) done e → (due : Due) × (choice ≡ Job due) × (due.event ≡ e) × (k ≡ done e)
by_job (Job due) done e k from more =
    elim (cases_eq e due.event) [
      | inl same ↦
          let yes' : nat_eq e due.event ≡ true = grind (arith, nat_tests) in
          let more' : k < done e + 1 = subst (λ (x : Bool). k < (if x then done e + 1 else done e)) yes' more in
          (due, refl, sym same, omega arith)
      | inr other ↦
          let no' : nat_eq e due.event ≡ false = grind (arith, nat_tests) in
          let more' : k < done e = subst (λ (x : Bool). k < (if x then done e + 1 else done e)) no' more in
          absurd (omega arith)
    ]
by_job Section done e k from more = absurd (omega arith)
by_job Checkpoint done e k from more = absurd (omega arith)
by_job Wake done e k from more = absurd (omega arith)
by_job Sleep done e k from more = absurd (omega arith)

-- a job leaves nothing to save
job_clean : (choice : Choice) (due : Due) (dirty : Bool) → choice ≡ Job due → (dirty ≡ true → doing_of choice ≡ DoSection) → dirty ≡ false
job_clean choice due false is leaves = refl
job_clean choice due true is leaves =
    let section : doing_of choice ≡ DoSection = leaves refl in
    let job : doing_of choice ≡ DoJob due.event = ap doing_of is in
    absurd (cc)

module _ (laws : ArrivalLaws) (runs : RunsLaw) (program : Checked) (device : Device) (b : BoundsValue) (plan : Plan) (p q origin : ℕ) (final : State)
    (planned : IsPlanned program device b plan) (plan_is : IsPlanOf program plan) (loads : List Load) (z : ℕ) where
  abbrev Goes_on : Point → List Link → Type 0
  Goes_on pt links = Follows laws runs program device b plan p q origin final planned plan_is pt links

  abbrev Safe : Point → List Link → Type 0
  Safe pt links = AreSafe (base_with b device p q) loads (outside plan origin final) z (moment_of pt) (stages_of (turns_of plan (base_with b device p q) device (outside plan origin final) pt links))

  abbrev One : (pt : Point) (c : Link) (links : List Link) → Goes_on pt (c ∷ links) → Step laws runs program device b plan p q origin final planned plan_is pt c
  One pt c links f = step laws runs program device b plan p q origin final planned plan_is pt c links f

  abbrev Next : (pt : Point) (c : Link) (links : List Link) → Goes_on pt (c ∷ links) → is_last c.outcome ≡ false → Goes_on c.after links
  Next pt c links f on = next laws runs program device b plan p q origin final planned plan_is pt c links f on

  -- a chunk that ends by z loses nothing
  none_here : (pt : Point) (c : Link) (links : List Link) → Goes_on pt (c ∷ links) → Safe pt (c ∷ links) → c.after.board.tick ≤ z → NoOperationLost (operations_of device c.entries)
  none_here pt c links f safe till =
      let s = One pt c links f in
      let tick = s.tick in
      none_within z pt.board.tick (operations_of device c.entries) (all_take device c.entries pt.board c.after.board s.passes) (omega arith) safe.1

  safe_next : (pt : Point) (c : Link) (links : List Link) → Goes_on pt (c ∷ links) → Safe pt (c ∷ links) → is_last c.outcome ≡ false → c.after.board.tick ≤ z → Safe c.after links
  safe_next pt c links f safe on till =
      let leads = leads_on laws runs program device b plan p q origin final planned plan_is pt c links f on (none_here pt c links f safe till) in
      subst (λ m. AreSafe (base_with b device p q) loads (outside plan origin final) z m (stages_of (turns_of plan (base_with b device p q) device (outside plan origin final) c.after links))) (sym leads)
      (safe.2 (ap not on))

  kept : (pt : Point) (c : Link) (links : List Link) → Goes_on pt (c ∷ links) → Safe pt (c ∷ links) → c.after.board.tick ≤ z → c.outcome ≢ Lost
  kept pt c links f safe till is = (One pt c links f).loses is (none_here pt c links f safe till)

  -- ---- no operation is lost

  late : (links : List Link) (pt : Point) → Goes_on pt links → z ≤ pt.board.tick → AllByRecursion (IsKept z) (entries_of links)
  late [] pt f past = tt
  late (c ∷ links) pt f past =
      let s = One pt c links f in
      let tick = s.tick in
      all_on (IsKept z) c.entries (entries_of links) (late_entries z c.entries pt.board c.after.board s.passes past)
      (go (true_or_false (is_last c.outcome)) (λ on. late links c.after (Next pt c links f on) (omega arith)))
    where
      go : (is_last c.outcome ≡ true) ⊎ (is_last c.outcome ≡ false) → (is_last c.outcome ≡ false → AllByRecursion (IsKept z) (entries_of links)) → AllByRecursion (IsKept z) (entries_of links)
      go (inl last) rest = subst (λ (ls : List Link). AllByRecursion (IsKept z) (entries_of ls)) (sym (f.lawful.1 last)) tt
      go (inr on) rest = rest on

  pub none_lost : (links : List Link) (pt : Point) → Goes_on pt links → Safe pt links → AllByRecursion (IsKept z) (entries_of links)
  none_lost [] pt f safe = tt
  none_lost (c ∷ links) pt f safe =
      let s = One pt c links f in
      all_on (IsKept z) c.entries (entries_of links) (kept_entries device z pt.board.tick c.entries pt.board c.after.board s.passes refl safe.1)
      (go (true_or_false (is_last c.outcome)) (cases_lt z c.after.board.tick)
      (λ on till. none_lost links c.after (Next pt c links f on) (safe_next pt c links f safe on till)))
    where
      go : (is_last c.outcome ≡ true) ⊎ (is_last c.outcome ≡ false) → (z < c.after.board.tick) ⊎ (c.after.board.tick ≤ z) →
          (is_last c.outcome ≡ false → c.after.board.tick ≤ z → AllByRecursion (IsKept z) (entries_of links)) → AllByRecursion (IsKept z) (entries_of links)
      go (inl last) where_is rest = subst (λ (ls : List Link). AllByRecursion (IsKept z) (entries_of ls)) (sym (f.lawful.1 last)) tt
      go (inr on) (inl past) rest = late links c.after (Next pt c links f on) (omega arith)
      go (inr on) (inr till) rest = rest on till

  -- ---- there is enough

  pub goes_further : (d : Link) (before : List Link) (chunk : Link) (after : List Link) (pt : Point) → Goes_on pt (d ∷ before ++ chunk ∷ after) → is_last d.outcome ≡ false
  goes_further d before chunk after pt f =
      elim (true_or_false (is_last d.outcome)) [
        | inl last ↦ absurd (some_more before chunk after (f.lawful.1 last))
        | inr on ↦ on
      ]

  later : (before : List Link) (chunk : Link) (after : List Link) (pt : Point) → Goes_on pt (before ++ chunk ∷ after) → pt.board.tick ≤ (point_after pt before).board.tick
  later [] chunk after pt f = omega arith
  later (d ∷ before) chunk after pt f =
      let s = One pt d (before ++ chunk ∷ after) f in
      let tick = s.tick in
      let on = goes_further d before chunk after pt f in
      let rest = later before chunk after d.after (Next pt d (before ++ chunk ∷ after) f on) in
      omega arith

  pub enough : (before : List Link) (chunk : Link) (after : List Link) (pt : Point) (row : PlanRow) → row.loads ≡ loads → row.numbers.checkpoint ≡ b.checkpoint.units →
      Goes_on pt (before ++ chunk ∷ after) → Safe pt (before ++ chunk ∷ after) → (point_after pt before).board.tick ≤ z → HasEnough plan row (point_after pt before)
  enough [] chunk after pt row same checkpoint f safe till =
      let here = safe.0 till in
      let kept_is : kept_by row pt.dirty ≡ (if pt.dirty then b.checkpoint.units else 0) = ap (λ (n : ℕ). if pt.dirty then n else 0) checkpoint in
      let units_is = ap (λ (ls : List Load). units_of ls (λ e. came (outside plan origin final) e (pt.board.tick + 1) - slice_index pt.work.done e)) same in
      omega arith
  enough (d ∷ before) chunk after pt row same checkpoint f safe till =
      let on = goes_further d before chunk after pt f in
      let f' = Next pt d (before ++ chunk ∷ after) f on in
      let first = later before chunk after d.after f' in
      enough before chunk after d.after row same checkpoint f' (safe_next pt d (before ++ chunk ∷ after) f safe on (omega arith)) till

  -- ---- what is done by a tick

  pub done_same : (links : List Link) (pt : Point) (t e : ℕ) → t ≤ z → Goes_on pt links → Safe pt links →
      done_by pt links t e ≡ stages_done_by (λ i. slice_index pt.work.done i) pt.board.tick (stages_of (turns_of plan (base_with b device p q) device (outside plan origin final) pt links)) t e
  done_same [] pt t e till f safe = refl
  done_same (c ∷ links) pt t e till f safe =
      go (true_or_false (is_last c.outcome)) (cases_lt t c.after.board.tick)
      (λ on past. done_same links c.after t e till (Next pt c links f on) (safe_next pt c links f safe on (omega arith)))
    where
      one : Step laws runs program device b plan p q origin final planned plan_is pt c
      one = One pt c links f

      ends : ℕ
      ends = pt.board.tick + ticks_of_all (operations_of device c.entries)

      rest_of : (ℕ → ℕ) → ℕ → ℕ
      rest_of done start = stages_done_by done start (stages_of (turns_of plan (base_with b device p q) device (outside plan origin final) c.after links)) t e

      go : (is_last c.outcome ≡ true) ⊎ (is_last c.outcome ≡ false) → (t < c.after.board.tick) ⊎ (c.after.board.tick ≤ t) →
          (is_last c.outcome ≡ false → c.after.board.tick ≤ t → done_by c.after links t e ≡ rest_of (λ i. slice_index c.after.work.done i) c.after.board.tick) →
          (if not (is_last c.outcome) && nat_le c.after.board.tick t then done_by c.after links t e else slice_index pt.work.done e)
          ≡ (if not (is_last c.outcome) && nat_le ends t then rest_of (λ i. taken_in (doing_of c.choice) (λ j. slice_index pt.work.done j) i) ends else slice_index pt.work.done e)
      go (inl last) where_is rest =
          if_last (is_last c.outcome) c.after.board.tick t (done_by c.after links t e) (slice_index pt.work.done e) last
          ∙ sym (if_last (is_last c.outcome) ends t (rest_of (λ i. taken_in (doing_of c.choice) (λ j. slice_index pt.work.done j) i) ends) (slice_index pt.work.done e) last)
      go (inr on) (inl before) rest =
          let tick = one.tick in
          if_later (is_last c.outcome) c.after.board.tick t (done_by c.after links t e) (slice_index pt.work.done e) on before
          ∙ sym (if_later (is_last c.outcome) ends t (rest_of (λ i. taken_in (doing_of c.choice) (λ j. slice_index pt.work.done j) i) ends) (slice_index pt.work.done e) on (omega arith))
      go (inr on) (inr past) rest =
          let tick = one.tick in
          let whole = kept pt c links f safe (omega arith) in
          let counts : (λ (i : ℕ). slice_index c.after.work.done i) ≡ (λ (i : ℕ). taken_in (doing_of c.choice) (λ j. slice_index pt.work.done j) i) =
          λ x. λ i. one.goes.done on whole i x in
          if_passed (is_last c.outcome) c.after.board.tick t (done_by c.after links t e) (slice_index pt.work.done e) on past
          ∙ rest on past ∙ ap₂ (λ (done : ℕ → ℕ) (n : ℕ). rest_of done n) counts tick
          ∙ sym (if_passed (is_last c.outcome) ends t (rest_of (λ i. taken_in (doing_of c.choice) (λ j. slice_index pt.work.done j) i) ends) (slice_index pt.work.done e) on (omega arith))

  -- ---- each is served

  in_front : (c : Link) (links : List Link) (e k d : ℕ) → IsServed links e k d → IsServed (c ∷ links) e k d
  in_front c links e k d served =
      record {
        before = c ∷ served.before;
        job = served.job;
        after = served.after;
        is_one = ap (λ (ls : List Link). c ∷ ls) served.is_one;
        due = served.due;
        choice_is = served.choice_is;
        event_is = served.event_is;
        index_is = served.index_is;
        ended = served.ended;
        some = served.some;
        in_time = served.in_time;
        counted = served.counted;
        saved = served.saved;
      }

  served_here : (pt : Point) (c : Link) (links : List Link) (e k d : ℕ) → Goes_on pt (c ∷ links) → Safe pt (c ∷ links) → d ≤ z → is_last c.outcome ≡ false → c.after.board.tick ≤ d →
      slice_index pt.work.done e ≤ k → k < slice_index c.after.work.done e → IsServed (c ∷ links) e k d
  served_here pt c links e k d f safe till on past from more =
      let s = One pt c links f in
      let whole = kept pt c links f safe (omega arith) in
      let counts = s.goes.done on whole e in
      let job = by_job c.choice (λ j. slice_index pt.work.done j) e k from (omega arith) in
      let due : Due = job.0 in
      let chosen : Chooses plan pt (Job job.0) = subst (λ (x : Choice). Chooses plan pt x) job.1 f.lawful.0.chosen in
      let warrant = warranted plan pt chosen.next (Job job.0) chosen.choice_is in
      let is_due : IsDue plan.queue (slice_index pt.work.done) pt.board.tick job.0 =
      subst (λ (n : Option Due). IsNextDue plan.queue (slice_index pt.work.done) pt.board.tick n) warrant.0 chosen.is_next in
      let lowest = laws.lowest plan.queue.arrivals plan.queue.deadlines (slice_index pt.work.done) pt.board.tick job.0.event job.0.index (arrival_of job.0) planned.arrivals is_due.next in
      let its : slice_index pt.work.done job.0.event ≡ slice_index pt.work.done e = ap (λ (i : ℕ). slice_index pt.work.done i) job.2 in
      let last : k ≡ slice_index pt.work.done e = job.3 in
      let does : Does plan pt (Job job.0) c.outcome c.after = subst (λ (x : Choice). Does plan pt x c.outcome c.after) job.1 f.lawful.0.does in
      record {
        before = [];
        job = c;
        after = links;
        is_one = refl;
        due = job.0;
        choice_is = job.1;
        event_is = job.2;
        index_is = lowest ∙ its ∙ sym last;
        ended = is_ended c.outcome on whole (λ is. job_not_dropped device plan pt c.after job.0 (subst (λ (o : Chunk). Does plan pt (Job job.0) o c.after) is does));
        some = some_entries device c.entries (let on' = s.goes.moves_on on in let tick = s.tick in omega arith);
        in_time = past;
        counted = more;
        saved = job_clean c.choice job.0 c.after.dirty job.1 (s.goes.dirty on);
      }

  pub served : (links : List Link) (pt : Point) (e k d : ℕ) → d ≤ z → Goes_on pt links → Safe pt links → slice_index pt.work.done e ≤ k → k < done_by pt links d e → IsServed links e k d
  served [] pt e k d till f safe from more = absurd (omega arith)
  served (c ∷ links) pt e k d till f safe from more =
      go (true_or_false (is_last c.outcome)) (cases_lt d c.after.board.tick) (cases_lt k (slice_index c.after.work.done e))
      (λ on past from' more'. served links c.after e k d till (Next pt c links f on) (safe_next pt c links f safe on (omega arith)) from' more')
    where
      go : (is_last c.outcome ≡ true) ⊎ (is_last c.outcome ≡ false) → (d < c.after.board.tick) ⊎ (c.after.board.tick ≤ d) →
          (k < slice_index c.after.work.done e) ⊎ (slice_index c.after.work.done e ≤ k) →
          (is_last c.outcome ≡ false → c.after.board.tick ≤ d → slice_index c.after.work.done e ≤ k → k < done_by c.after links d e → IsServed links e k d) → IsServed (c ∷ links) e k d
      go (inl last) where_is raised rest =
          let same = if_last (is_last c.outcome) c.after.board.tick d (done_by c.after links d e) (slice_index pt.work.done e) last in absurd (omega arith)
      go (inr on) (inl before) raised rest =
          let same = if_later (is_last c.outcome) c.after.board.tick d (done_by c.after links d e) (slice_index pt.work.done e) on before in absurd (omega arith)
      go (inr on) (inr past) (inl here) rest = served_here pt c links e k d f safe till on past from here
      go (inr on) (inr past) (inr yet) rest =
          let same = if_passed (is_last c.outcome) c.after.board.tick d (done_by c.after links d e) (slice_index pt.work.done e) on past in
          in_front c links e k d (rest on past yet (omega arith))

  -- what follows a later decision point
  pub follows_on : (before : List Link) (chunk : Link) (after : List Link) (pt : Point) → Goes_on pt (before ++ chunk ∷ after) → Goes_on (point_after pt before) (chunk ∷ after)
  follows_on [] chunk after pt f = f
  follows_on (d ∷ before) chunk after pt f = follows_on before chunk after d.after (Next pt d (before ++ chunk ∷ after) f (goes_further d before chunk after pt f))

  pub each_on : (P : Point → Type 0) (before : List Link) (chunk : Link) (after : List Link) (pt : Point) → Goes_on pt (before ++ chunk ∷ after) → AtEachPoint P pt (before ++ chunk ∷ after) → P (point_after pt before)
  each_on P [] chunk after pt f each = each.0
  each_on P (d ∷ before) chunk after pt f each =
      let on = goes_further d before chunk after pt f in each_on P before chunk after d.after (Next pt d (before ++ chunk ∷ after) f on) (each.1 on)

  -- each operation has ended in the end
  never_before : (links : List Link) (pt : Point) → Goes_on pt links → pt.board.tick ≤ (point_after pt links).board.tick
  never_before [] pt f = omega arith
  never_before (c ∷ links) pt f = go (true_or_false (is_last c.outcome)) (λ on. never_before links c.after (Next pt c links f on))
    where
      go : (is_last c.outcome ≡ true) ⊎ (is_last c.outcome ≡ false) → (is_last c.outcome ≡ false → c.after.board.tick ≤ (point_after c.after links).board.tick) → pt.board.tick ≤ (point_after c.after links).board.tick
      go (inl last) rest =
          let tick = (One pt c links f).tick in
          subst (λ (ls : List Link). pt.board.tick ≤ (point_after c.after ls).board.tick) (sym (f.lawful.1 last)) (omega arith)
      go (inr on) rest = let tick = (One pt c links f).tick in let more = rest on in omega arith

  pub all_ended : (links : List Link) (pt : Point) (t : ℕ) → Goes_on pt links → (point_after pt links).board.tick ≤ t → AllByRecursion (λ (entry : Entry). entry.tick + entry.ticks ≤ t) (entries_of links)
  all_ended [] pt t f till = tt
  all_ended (c ∷ links) pt t f till =
      all_on (λ (entry : Entry). entry.tick + entry.ticks ≤ t) c.entries (entries_of links)
      (ended_entries t c.entries pt.board c.after.board (One pt c links f).passes (go (true_or_false (is_last c.outcome))))
      (rest_of (true_or_false (is_last c.outcome)) (λ on. all_ended links c.after t (Next pt c links f on) till))
    where
      go : (is_last c.outcome ≡ true) ⊎ (is_last c.outcome ≡ false) → c.after.board.tick ≤ t
      go (inl last) = subst (λ (ls : List Link). (point_after c.after ls).board.tick ≤ t) (f.lawful.1 last) till
      go (inr on) = let later = never_before links c.after (Next pt c links f on) in omega arith

      rest_of : (is_last c.outcome ≡ true) ⊎ (is_last c.outcome ≡ false) → (is_last c.outcome ≡ false → AllByRecursion (λ (entry : Entry). entry.tick + entry.ticks ≤ t) (entries_of links)) →
          AllByRecursion (λ (entry : Entry). entry.tick + entry.ticks ≤ t) (entries_of links)
      rest_of (inl last) rest = subst (λ (ls : List Link). AllByRecursion (λ (entry : Entry). entry.tick + entry.ticks ≤ t) (entries_of ls)) (sym (f.lawful.1 last)) tt
      rest_of (inr on) rest = rest on
