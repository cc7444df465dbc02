-- What the end-to-end theorem and the law of calm stretches say together.
use Rattle.std.specs.List.{AllByRecursion}
use Rattle.std.proofs.lemmas.List.Elements.{recursion_from_All, All-from_recursion, All-same}
use Rattle.nv_memory.specs.declared.entry.Entry.{Entry}
use Rattle.nv_memory.specs.Board.{State, image_by}
use Rattle.std.proofs.Common.{All, append_assoc, take, length-append, ◌≡◌, ℕ, ◌+◌, ◌<◌, ◌≤◌, inl, inr, List, [], ◌∷◌, ◌++◌, length, refl, sym, ap, subst, ◌∙◌, arith, false, Some, None}
use Rattle.std.specs.Prelude.{slice_get, slice_index}
use Rattle.std.proofs.lemmas.Bool.{cases_lt, cases_Bool}
use Rattle.std.proofs.lemmas.List.{get_or_past}
use Rattle.std.proofs.lemmas.Option.{slice_get_past, slice_get_within}
use Rattle.std.proofs.Math.Seq.{take-append_seam}
use Rattle.checkpoint_slots.specs.declared.slot.Slot.{Slot}
use Rattle.checkpoint_slots.specs.Image.{committed_slot}
use Rattle.nv_memory.specs.declared.layout.Layout.{Layout}
use Rattle.image_meaning.specs.Standing.{StandsFor}
use Rattle.reference_run.specs.Reference.{Moment}
use Rattle.cat_program.specs.declared.outs.LogEntry.{LogEntry}
use Rattle.cat_program.specs.Checked.{Checked}
use Rattle.recovery.specs.Past.{Past, committed_at, done_at, end_of, image_at}
use Rattle.timely_commits.proofs.InTime.{commits_in_time}
use Rattle.cat_program.specs.declared.outs.LogEntry.TheVariants.{Ran}
use Rattle.nv_memory.specs.declared.device.Device.{Device}
use Rattle.event_arrivals.specs.Arrivals.{Lists, arrival_at}
use Rattle.event_arrivals.specs.Counts.{AreCounted}
use Rattle.event_arrivals.specs.Spaced.{AreSound}
use Rattle.event_arrivals.specs.declared.arrival.Arrival.{Arrival}
use Rattle.cost_bounds.specs.BoundsValue.{BoundsValue}
use Rattle.logged_runs.specs.Reference.{Setting, version_for}
use Rattle.logged_runs.specs.Laws.{last_start_of, OwnRunsGoOn, OwnRunsHandleArrivals}
use Rattle.cn_scheduler.specs.declared.plan.Plan.{Plan}
use Rattle.cn_scheduler.specs.Point.{Point}
use Rattle.cn_scheduler.specs.Chunks.{Link, IsLawful, is_last, point_after, entries_of}
use Rattle.cn_scheduler.specs.Belongs.{BelongTogether, IsPlanOf}
use Rattle.lawful_timeline.specs.Working.{IsSetUp, setting_of}
use Rattle.lawful_timeline.specs.Claims.{Begins, EachPoint, IsAtWork, LawfulTimelinesHold}
use Rattle.lawful_timeline.specs.Points.{PointsHold}
use Rattle.calm_timeline.specs.Calm.{board_after}
use Rattle.calm_timeline.specs.Claims.{IsServed}
use Rattle.calm_timeline.specs.Numbers.{IsPlanned, AtEachPoint, DoneHasCome}
use Rattle.calm_timeline.specs.Laws.{IsRun, CalmLaw, EntriesEnd}
use Rattle.timely_commits.specs.Timely.{past_of, IsToldBy, TimelyLaw}

-- ---- decision points

-- what follows from two facts at a point holds at each point where both do
each_with : (P Q R : Point → Type 0) → ((pt : Point) → P pt → Q pt → R pt) → (links : List Link) (pt : Point) → EachPoint P pt links → AtEachPoint Q pt links → AtEachPoint R pt links
each_with P Q R both [] pt p q = both pt p q
each_with P Q R both (c ∷ links) pt p q = (both pt p.0 q.0, λ on. each_with P Q R both links c.after (p.1 on) (q.1 on))

to_each : (P : Point → Type 0) (links : List Link) (pt : Point) → EachPoint P pt links → AtEachPoint P pt links
to_each P [] pt each = each
to_each P (c ∷ links) pt each = (each.0, λ on. to_each P links c.after (each.1 on))

some_more : (xs : List Link) (y : Link) (ys : List Link) → xs ++ y ∷ ys ≡ [] → ⊥
some_more [] y ys is = cc
some_more (x ∷ xs) y ys is = cc

goes_on : (plan : Plan) (d : Link) (before : List Link) (chunk : Link) (after : List Link) (pt : Point) → IsLawful plan pt (d ∷ before ++ chunk ∷ after) → is_last d.outcome ≡ false
goes_on plan d before chunk after pt lawful =
    elim (cases_Bool (is_last d.outcome)) [
      | inl last ↦ absurd (some_more before chunk after (lawful.1 last))
      | inr on ↦ on
    ]

pub rest_lawful : (plan : Plan) (before : List Link) (chunk : Link) (after : List Link) (pt : Point) → IsLawful plan pt (before ++ chunk ∷ after) → IsLawful plan (point_after pt before) (chunk ∷ after)
rest_lawful plan [] chunk after pt lawful = lawful
rest_lawful plan (d ∷ before) chunk after pt lawful = rest_lawful plan before chunk after d.after lawful.2

pub rest_each : (P : Point → Type 0) (plan : Plan) (before : List Link) (chunk : Link) (after : List Link) (pt : Point) → IsLawful plan pt (before ++ chunk ∷ after) → EachPoint P pt (before ++ chunk ∷ after) →
    EachPoint P (point_after pt before) (chunk ∷ after)
rest_each P plan [] chunk after pt lawful each = each
rest_each P plan (d ∷ before) chunk after pt lawful each = rest_each P plan before chunk after d.after lawful.2 (each.1 (goes_on plan d before chunk after pt lawful))

pub first_each : (P : Point → Type 0) (pt : Point) (links : List Link) → EachPoint P pt links → P pt
first_each P pt [] each = each
first_each P pt (c ∷ links) each = each.0

first_of : (P : Point → Type 0) (pt : Point) (links : List Link) → AtEachPoint P pt links → P pt
first_of P pt [] each = each
first_of P pt (c ∷ links) each = each.0

-- ---- the front of a timeline

none_in_front : (xs ys : List Link) → xs ++ ys ≡ [] → xs ≡ []
none_in_front [] ys is = refl
none_in_front (x ∷ xs) ys is = absurd (cc)

pub front_lawful : (plan : Plan) (xs ys : List Link) (pt : Point) → IsLawful plan pt (xs ++ ys) → IsLawful plan pt xs
front_lawful plan [] ys pt lawful = tt
front_lawful plan (c ∷ xs) ys pt lawful = (lawful.0, (λ last. none_in_front xs ys (lawful.1 last)), front_lawful plan xs ys c.after lawful.2)

front_each : (P : Point → Type 0) (xs ys : List Link) (pt : Point) → AtEachPoint P pt (xs ++ ys) → AtEachPoint P pt xs
front_each P [] ys pt each = first_of P pt ys each
front_each P (c ∷ xs) ys pt each = (each.0, λ on. front_each P xs ys c.after (each.1 on))

pub point_on : (xs ys : List Link) (pt : Point) → point_after pt (xs ++ ys) ≡ point_after (point_after pt xs) ys
point_on [] ys pt = refl
point_on (c ∷ xs) ys pt = point_on xs ys c.after

pub entries_on : (xs ys : List Link) → entries_of (xs ++ ys) ≡ entries_of xs ++ entries_of ys
entries_on [] ys = refl
entries_on (c ∷ xs) ys = ap (λ (es : List Entry). c.entries ++ es) (entries_on xs ys) ∙ sym (append_assoc c.entries (entries_of xs) (entries_of ys))

pub last_of : (xs : List Link) (c : Link) (pt : Point) → point_after pt (xs ++ c ∷ []) ≡ c.after
last_of [] c pt = refl
last_of (d ∷ xs) c pt = last_of xs c d.after

committed_is : (past : Past) (n : ℕ) → committed_at past n ≡ committed_slot past.layout (image_by (take n past.timeline) past.first)
unfolding committed_at image_at
committed_is past n = refl

-- the entries of a moment are as many as the records that are committed
placed : {l : Layout} {program : Checked} {image : List ℕ} {m : Moment} → StandsFor l program image m → (place : ℕ) (entry : LogEntry) → slice_get m.entries place ≡ Some entry →
    place < (committed_slot l image).len
placed stands place entry at =
    let v = stands.value in
    let less = slice_get_within _ place entry at in
    let same = ap (λ (m : Moment). length m.entries) stands.is in
    let many = stands.committed.recorded.many in
    let slot = ap (λ (s : Slot). s.len) stands.committed.slot_is in
    omega (arith, less, same, many, slot)

-- ---- what is done has come

pub record LowerLaws : Type 0 where
  pub calm : CalmLaw
  pub ends : EntriesEnd
  pub hold : (program : Checked) (plan : Plan) → LawfulTimelinesHold program plan
  pub points : (program : Checked) (plan : Plan) → PointsHold program plan
  pub counts : (lists : Lists) → AreSound lists → AreCounted lists
  pub go_on : (s : Setting) → OwnRunsGoOn s
  pub arrivals : (s : Setting) → OwnRunsHandleArrivals s

module _ (laws : LowerLaws) (program : Checked) (device : Device) (b : BoundsValue) (plan : Plan) (planned : IsPlanned program device b plan) where
  done_has_come : (pt : Point) → IsAtWork program plan pt → BelongTogether program plan pt → DoneHasCome plan pt
  done_has_come pt work belong e =
      elim (cases_lt e (length program.events)) [
        | inl within ↦
            let events = belong.plan_is.layout.events in
            let counts = work.works.done e (omega arith) in
            let come = (laws.arrivals (setting_of program plan)).come work.moment e planned.arrivals work.works.own in
            let start = work.start in
            let later = (laws.counts plan.queue.arrivals planned.arrivals).later e (last_start_of work.moment.entries + 1) (pt.board.tick + 1) (omega arith) in
            omega arith
        | inr past ↦
            let count : length pt.work.done ≡ length program.events = belong.events in
            let none : slice_index pt.work.done e ≡ 0 = get_or_past pt.work.done e 0 (omega arith) in
            omega arith
      ]

  -- ---- the log tells each arrival

  -- what is committed at the end of a job was committed by then
  in_time : (origin : ℕ) (first : Point) (front : List Link) (job : Link) (after : List Link) (d place : ℕ) → IsSetUp program plan → Begins program plan first →
      IsRun program device plan origin first (front ++ job ∷ [] ++ after) → job.after.board.tick ≤ d → 0 < length job.entries →
      place < (committed_slot plan.layout job.after.board.image).len → done_at (past_of plan first (front ++ job ∷ [] ++ after)) place ≤ d
  in_time origin first front job after d place set_up begins run till some committed =
      commits_in_time (past_of plan first (front ++ job ∷ [] ++ after)) place (length (entries_of (front ++ job ∷ []))) d
      any within (subst (λ (s : Slot). place < s.len) (sym slot) committed) operations
    where
      lawful : IsLawful plan first (front ++ job ∷ [])
      lawful = front_lawful plan (front ++ job ∷ []) after first run.lawful

      parts : entries_of (front ++ job ∷ [] ++ after) ≡ entries_of (front ++ job ∷ []) ++ entries_of after
      parts = entries_on (front ++ job ∷ []) after

      own : entries_of (front ++ job ∷ []) ≡ entries_of front ++ (job.entries ++ [])
      own = entries_on front (job ∷ [])

      any : 0 < length (entries_of (front ++ job ∷ []))
      any = let all = ap (λ (es : List Entry). length es) own in omega (arith, length-append (entries_of front) (job.entries ++ []), length-append job.entries [])

      within : length (entries_of (front ++ job ∷ [])) ≤ length (entries_of (front ++ job ∷ [] ++ after))
      within = let all = ap (λ (es : List Entry). length es) parts in omega (arith, length-append (entries_of (front ++ job ∷ [])) (entries_of after))

      taken : take (length (entries_of (front ++ job ∷ []))) (entries_of (front ++ job ∷ [] ++ after)) ≡ entries_of (front ++ job ∷ [])
      taken = ap (λ (es : List Entry). take (length (entries_of (front ++ job ∷ []))) es) parts ∙ take-append_seam (entries_of (front ++ job ∷ [])) (entries_of after)

      last : board_after first (front ++ job ∷ []) ≡ job.after.board
      last = ap (λ (pt : Point). pt.board) (last_of front job first)

      slot : committed_at (past_of plan first (front ++ job ∷ [] ++ after)) (length (entries_of (front ++ job ∷ []))) ≡ committed_slot plan.layout job.after.board.image
      slot =
          let all = (laws.hold program plan).holds first (front ++ job ∷ []) set_up begins lawful in
          committed_is (past_of plan first (front ++ job ∷ [] ++ after)) (length (entries_of (front ++ job ∷ [])))
          ∙ ap (λ (es : List Entry). committed_slot plan.layout (image_by es first.board.image)) taken
          ∙ ap (λ (im : List ℕ). committed_slot plan.layout im) (sym all.image)
          ∙ ap (λ (s : State). committed_slot plan.layout s.image) last

      ends : All (λ (entry : Entry). entry.tick + entry.ticks ≤ (board_after first (front ++ job ∷ [])).tick) (entries_of (front ++ job ∷ []))
      ends = laws.ends program device b plan origin first (front ++ job ∷ []) planned
          (record {
            lawful = lawful;
            board = run.board;
            belong = front_each (BelongTogether program plan) (front ++ job ∷ []) after first run.belong;
            done = front_each (DoneHasCome plan) (front ++ job ∷ []) after first run.done;
          })

      later : (es : List Entry) → AllByRecursion (λ (entry : Entry). entry.tick + entry.ticks ≤ job.after.board.tick) es → AllByRecursion (λ (entry : Entry). end_of entry ≤ d) es
      later [] all = tt
      later (e ∷ es) all = (let here = all.0 in omega arith, later es all.1)

      operations : All (λ (entry : Entry). end_of entry ≤ d) (take (length (entries_of (front ++ job ∷ []))) (entries_of (front ++ job ∷ [] ++ after)))
      operations =
          All-same (λ (entry : Entry). end_of entry ≤ d) (take (length (entries_of (front ++ job ∷ []))) (entries_of (front ++ job ∷ [] ++ after))) (entries_of (front ++ job ∷ [])) taken
          (All-from_recursion (λ (entry : Entry). end_of entry ≤ d) (entries_of (front ++ job ∷ []))
          (later (entries_of (front ++ job ∷ []))
          (subst (λ (s : State). AllByRecursion (λ (entry : Entry). entry.tick + entry.ticks ≤ s.tick) (entries_of (front ++ job ∷ []))) last
          (recursion_from_All (λ (entry : Entry). entry.tick + entry.ticks ≤ (board_after first (front ++ job ∷ [])).tick) (entries_of (front ++ job ∷ [])) ends))))

  told_by : (past : Past) (start : Point) (links : List Link) (event k d : ℕ) (arrival : Arrival) → IsPlanOf program plan →
      ((served : IsServed links event k d) (place : ℕ) → place < (committed_slot plan.layout served.job.after.board.image).len → done_at past place ≤ d) →
      IsLawful plan start links → EachPoint (IsAtWork program plan) start links →
      arrival_at plan.queue.arrivals event k ≡ Some arrival → event < length program.events → IsServed links event k d → IsToldBy program plan past links event k d arrival
  told_by past start links event k d arrival plan_is by_then lawful each is within served =
      let its = subst (λ (ls : List Link). IsLawful plan start ls) served.is_one lawful in
      let points = rest_each (IsAtWork program plan) plan served.before served.job served.after start its (subst (λ (ls : List Link). EachPoint (IsAtWork program plan) start ls) served.is_one each) in
      let on : is_last served.job.outcome ≡ false = ap is_last served.ended in
      let work = first_each (IsAtWork program plan) served.job.after served.after (points.1 on) in
      let events = plan_is.layout.events in
      let counts = work.works.done event (omega arith) in
      let counted = served.counted in
      let handles = laws.arrivals (setting_of program plan) in
      let has = handles.told work.moment event k work.works.own (omega arith) in
      let once = (laws.go_on (setting_of program plan)).served work.moment work.works.own in
      let version = once.version has.0 event k has.1 has.2 has.3 has.4 in
      let same : version.0 ≡ arrival = let a = version.1 in cc in
      let chosen : has.1 ≡ version_for (setting_of program plan) event arrival = sym version.2 ∙ ap (λ (x : Arrival). version_for (setting_of program plan) event x) same in
      record {
        served = served;
        logged = record {
          moment = work.moment;
          stands = work.saved served.saved;
          place = has.0;
          steps = has.2;
          begun = has.3;
          entry = subst (λ (v : ℕ). slice_get work.moment.entries has.0 ≡ Some (Ran event v has.2 has.3 k)) chosen has.4;
          only = λ i v n t at. once.once i has.0 event k v n t has.1 has.2 has.3 at has.4;
          in_time = by_then served has.0 (placed (work.saved served.saved) has.0 (Ran event has.1 has.2 has.3 k) has.4);
        };
      }

split : (before xs : List Link) (job : Link) (after : List Link) → before ++ (xs ++ job ∷ after) ≡ before ++ xs ++ job ∷ [] ++ after
split before xs job after =
    sym (append_assoc before xs (job ∷ after)) ∙ sym (append_assoc (before ++ xs) (job ∷ []) after)

-- the chunks up to a job's, that one, and those behind it
pub whole : (links before : List Link) (chunk : Link) (after : List Link) → links ≡ before ++ chunk ∷ after → {event k d : ℕ} → (served : IsServed (chunk ∷ after) event k d) →
    links ≡ before ++ served.before ++ served.job ∷ [] ++ served.after
whole links before chunk after is served = is ∙ ap (λ (ls : List Link). before ++ ls) served.is_one ∙ split before served.before served.job served.after

-- an arrival is one of a declared event
pub declared : (program : Checked) (plan : Plan) → IsPlanOf program plan → (event k : ℕ) (arrival : Arrival) → arrival_at plan.queue.arrivals event k ≡ Some arrival → event < length program.events
declared program plan plan_is event k arrival at =
    let events = plan_is.queue in
    elim (cases_lt event (length plan.queue.arrivals.timings)) [
      | inl less ↦ omega arith
      | inr past ↦
          let none = slice_get_past plan.queue.arrivals.timings event past in
          let none' : arrival_at plan.queue.arrivals event k ≡ None = rw none refl in
          absurd (cc)
    ]

pub timely : LowerLaws → TimelyLaw
timely laws program device b plan origin first links planned set_up begins few board lawful before after chunk row p q z is fits calm =
    let holds = (laws.hold program plan).holds first links set_up begins lawful in
    let belong = to_each (BelongTogether program plan) links first ((laws.points program plan).belong first links set_up begins board.some_ticks few lawful) in
    let run : IsRun program device plan origin first links =
    record {
      lawful = lawful;
      board = board;
      belong = to_each (BelongTogether program plan) links first ((laws.points program plan).belong first links set_up begins board.some_ticks few lawful);
      done = each_with (IsAtWork program plan) (BelongTogether program plan) (DoneHasCome plan) (done_has_come laws program device b plan planned) links first holds.points belong;
    } in
    let meets = laws.calm program device b plan origin first links planned run before after chunk row p q z is fits calm in
    let its = subst (λ (ls : List Link). IsLawful plan first ls) is lawful in
    record {
      meets = meets;
      told = λ event k arrival at from first_time till.
          told_by laws program device b plan planned (past_of plan first links) (point_after first before) (chunk ∷ after) event k (arrival.tick + slice_index plan.queue.deadlines event) arrival set_up.plan_is
          (λ served place committed.
          subst (λ (ls : List Link). done_at (past_of plan first ls) place ≤ arrival.tick + slice_index plan.queue.deadlines event) (sym (whole links before chunk after is served))
          (in_time laws program device b plan planned origin first (before ++ served.before) served.job served.after (arrival.tick + slice_index plan.queue.deadlines event) place set_up begins
          (subst (λ (ls : List Link). IsRun program device plan origin first ls) (whole links before chunk after is served) run) served.in_time served.some committed))
          (rest_lawful plan before chunk after first its)
          (rest_each (IsAtWork program plan) plan before chunk after first its (subst (λ (ls : List Link). EachPoint (IsAtWork program plan) first ls) is holds.points))
          at (declared program plan set_up.plan_is event k arrival at) (meets.met event k arrival at from first_time till);
    }
