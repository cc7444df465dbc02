-- What is due in a calm stretch of a life is met.
use Rattle.std.proofs.Common.{◌≡◌, ℕ, zero, suc, ◌+◌, ◌≤◌, List, [], ◌∷◌, ◌++◌, true, false, nat_le, nat_lt, Bool, Option, Some, None, refl, sym, ap, ◌∙◌, subst, arith}
use Rattle.std.specs.Prelude.{slice_get, slice_index, codes, if◌then◌else◌}
use Rattle.std.specs.Option.{option_map_or}
use Rattle.std.proofs.lemmas.Bool.Decides.{nat_tests}
use Rattle.cat_program.specs.declared.headers.Event.{Event}
use Rattle.cat_program.specs.declared.outs.LogEntry.{LogEntry}
use Rattle.cat_program.specs.declared.outs.LogEntry.TheVariants.{Ran}
use Rattle.degradation.specs.declared.chosen.Chosen.{Chosen}
use Rattle.nv_memory.specs.AnyBoard.{cost_of}
use Rattle.nv_memory.specs.Board.{image_by}
use Rattle.nv_memory.specs.declared.device.Class.{Class}
use Rattle.nv_memory.specs.declared.device.Class.TheVariants as class
use Rattle.nv_memory.specs.declared.device.Device.{Device}
use Rattle.nv_memory.specs.declared.layout.Layout.{Layout}
use Rattle.board_core.specs.Reached.{first_state}
use Rattle.board_core.specs.Rules.{class_ticks}
use Rattle.board_core.specs.declared.origin.ModelOrigin.{ModelOrigin}
use Rattle.event_arrivals.specs.Arrivals.{Lists, arrival_at}
use Rattle.event_arrivals.specs.declared.arrival.Arrival.{Arrival}
use Rattle.recovery.specs.Past.{Past, done_at}
use Rattle.reference_run.specs.Reference.{Moment}
use Rattle.logged_runs.specs.Reference.{Setting, version_for}
use Rattle.image_meaning.specs.Laws.{ImagesStandForOne}
use Rattle.image_meaning.specs.Standing.{StandsFor}
use Rattle.cn_scheduler.specs.Chunks.{Link, entries_of, point_after}
use Rattle.cn_scheduler.specs.Point.{Point, Work}
use Rattle.lawful_timeline.specs.Claims.{HoldsThroughout}
use Rattle.lawful_timeline.specs.Working.{setting_of}
use Rattle.calm_timeline.specs.Numbers.{IsBoardOf}
use Rattle.timely_commits.specs.Timely as timely
use Rattle.timely_commits.specs.Timely.{AreOnTime, IsLoggedBy, IsOnTime}
use Rattle.cn_runtime.specs.Planned.{deadlines_in}
use Rattle.cn_scheduler.specs.declared.plan.PlanRow.{PlanRow}
use Rattle.cn_report.specs.Outcome.{arrived_at, due_at, known_at, log_line, ran_line, word_of}
use Rattle.cn_report.specs.Report.{name_of}
use Rattle.catnap_top.specs.declared.files.ReplayFiles.{ReplayFiles}
use Rattle.catnap_top.specs.Headline.{IsMet, MeetsDeadlines, past_in, point_behind, run_line, run_of}
use Rattle.catnap_top.specs.Lives.{Goes, Life, start_point}
use Rattle.catnap_top.proofs.HeadlineFiles.{PlanFacts}

-- ---- small facts

-- an event's deadline, by its header
deadline-is : (headers : List Event) (event : ℕ) → slice_index (deadlines_in headers) event ≡ option_map_or (λ header. header.deadline) (slice_get headers event) 0
deadline-is [] event = refl
deadline-is (h ∷ hs) zero = refl
deadline-is (h ∷ hs) (suc event) = deadline-is hs event

after-both : (p : Point) (before after : List Link) → point_after (point_after p before) after ≡ point_after p (before ++ after)
after-both p [] after = refl
after-both p (c ∷ cs) after = after-both c.after cs after

in_time : (done due : ℕ) → done ≤ due → word_of (nat_le done due) ≡ codes "met"
in_time done due less = let yes : nat_le done due ≡ true = grind (arith, nat_tests) in ap word_of yes

pub some_ticks : (device : Device) (kind : Class) → 1 ≤ (cost_of device kind).ticks
some_ticks device class.Basic = device.basic.some_ticks
some_ticks device class.Memory = device.memory.some_ticks
some_ticks device class.Out = device.out.some_ticks
some_ticks device class.Write = device.write.some_ticks
some_ticks device class.Wake = device.wake.some_ticks

-- a board as it begins is its device's
pub begins_as : (origin : ModelOrigin) (device : Device) → origin.device ≡ device → IsBoardOf device origin.tick (first_state origin)
begins_as origin device same =
    record {
      cap = ap (λ (d : Device). d.cap) same;
      ticks = λ kind. ap (λ (d : Device). class_ticks d kind) same;
      some_ticks = some_ticks origin.device;
      passed = let none : origin.tick + 0 ≡ origin.tick = omega arith in none;
    }

-- of a record that was not there before it is known when it was committed
known : (past : Past) (from place : ℕ) → from ≤ place → known_at past from place ≡ Some (done_at past place)
known past from place le =
    let no : nat_lt place from ≡ false = grind (arith, nat_tests) in
    ap (λ (b : Bool). if b then None else Some (done_at past place)) no

-- ---- the line of an entry that was done in time

module _ (files : ReplayFiles) (told : ℕ → Option ℕ) (done : ℕ) (entries : List LogEntry) (place event v n t k : ℕ) (arrival : Arrival)
    (entry : slice_get entries place ≡ Some (Ran event v n t k)) (comes : arrival_at files.arrivals event k ≡ Some arrival)
    (is_told : told place ≡ Some done) (soon : done ≤ due_at files.program.headers files.arrivals event k) where
  line_met : run_line files told entries place ≡ ran_line (name_of (slice_get files.program.headers event)) k v arrival.tick t done (codes "met")
  line_met =
      let headers = files.program.headers in
      let lists = files.arrivals in
      let came : arrived_at lists event k ≡ arrival.tick = ap (λ (o : Option Arrival). option_map_or (λ a. a.tick) o 0) comes in
      let word = in_time done (due_at headers lists event k) soon in
      ap (λ (o : Option LogEntry). option_map_or (log_line headers lists (told place)) o []) entry
      ∙ ap (λ (when : Option ℕ). log_line headers lists when (Ran event v n t k)) is_told
      ∙ (λ i. ran_line (name_of (slice_get headers event)) k v (came i) t done (word i))

-- ---- the stretches

module _ (files : ReplayFiles) (chosen : List Chosen) (begun : Layout → Work) (life : Life) (goes : Goes files chosen begun life) (facts : PlanFacts files chosen goes.plan)
    (on_time : AreOnTime files.program files.device facts.bounds goes.plan life.origin.tick (start_point life.origin (begun goes.plan.layout)) goes.chunks)
    (one : ImagesStandForOne goes.plan.layout files.program)
    (holds : HoldsThroughout files.program goes.plan (start_point life.origin (begun goes.plan.layout)) goes.chunks)
    (setting_is : setting_of files.program goes.plan ≡ run_of files chosen) (timeline_is : life.state.timeline ≡ entries_of goes.chunks)
    (final : Moment) (stands : StandsFor goes.plan.layout files.program (image_by (entries_of goes.chunks) life.origin.image) final) (from : ℕ)
    (later : (event k place n t : ℕ) (arrival : Arrival) → slice_get final.entries place ≡ Some (Ran event (version_for (run_of files chosen) event arrival) n t k) → arrival_at files.arrivals event k ≡ Some arrival
    → life.origin.tick ≤ arrival.tick → from ≤ place) where
  past_is : timely.past_of goes.plan (start_point life.origin (begun goes.plan.layout)) goes.chunks ≡ past_in life
  past_is =
      let layout : goes.plan.layout ≡ life.layout = sym goes.layout_is in
      let timeline : entries_of goes.chunks ≡ life.state.timeline = sym timeline_is in
      λ i. record { layout = layout i; first = life.origin.image; timeline = timeline i }

  due-is : (event k : ℕ) (arrival : Arrival) → arrival_at files.arrivals event k ≡ Some arrival
      → arrival.tick + slice_index goes.plan.queue.deadlines event ≡ due_at files.program.headers files.arrivals event k
  due-is event k arrival comes =
      let came : arrived_at files.arrivals event k ≡ arrival.tick = ap (λ (o : Option Arrival). option_map_or (λ a. a.tick) o 0) comes in
      let deadline : slice_index goes.plan.queue.deadlines event ≡ option_map_or (λ (header : Event). header.deadline) (slice_get files.program.headers event) 0 =
      ap (λ ds. slice_index ds event) goes.is_plan.deadlines_are ∙ deadline-is files.program.headers event in
      λ i. sym came i + deadline i

  logged_met : (event k : ℕ) (arrival : Arrival) (image : List ℕ) → image ≡ image_by (entries_of goes.chunks) life.origin.image → arrival_at files.arrivals event k ≡ Some arrival
      → life.origin.tick ≤ arrival.tick
      → IsLoggedBy files.program goes.plan (timely.past_of goes.plan (start_point life.origin (begun goes.plan.layout)) goes.chunks) image event k
      (arrival.tick + slice_index goes.plan.queue.deadlines event) arrival → IsMet files chosen life from final event k arrival
  logged_met event k arrival image same comes since is =
      let due : ℕ = arrival.tick + slice_index goes.plan.queue.deadlines event in
      let last : List ℕ = image_by (entries_of goes.chunks) life.origin.image in
      let moment : is.moment ≡ final =
      one.once last is.moment final (subst (λ i. StandsFor goes.plan.layout files.program i is.moment) same is.stands) stands in
      let version : version_for (setting_of files.program goes.plan) event arrival ≡ version_for (run_of files chosen) event arrival = ap (λ (s : Setting). version_for s event arrival) setting_is in
      let entry : slice_get final.entries is.place ≡ Some (Ran event (version_for (run_of files chosen) event arrival) is.steps is.begun k) =
      ap (λ (m : Moment). slice_get m.entries is.place) (sym moment) ∙ is.entry ∙ ap (λ v. Some (Ran event v is.steps is.begun k)) version in
      let soon : done_at (past_in life) is.place ≤ due_at files.program.headers files.arrivals event k =
      subst (λ n. done_at (past_in life) is.place ≤ n) (due-is event k arrival comes) (subst (λ (p : Past). done_at p is.place ≤ due) past_is is.in_time) in
      let behind : from ≤ is.place = later event k is.place is.steps is.begun arrival entry comes since in
      record {
        place = is.place;
        behind = behind;
        steps = is.steps;
        start = is.begun;
        entry = entry;
        only = λ i v n t at. is.only i v n t (ap (λ (m : Moment). slice_get m.entries i) moment ∙ at);
        met = line_met files (known_at (past_in life) from) (done_at (past_in life) is.place) final.entries is.place event (version_for (run_of files chosen) event arrival) is.steps is.begun k arrival entry comes
            (known (past_in life) from is.place behind) soon;
      }

  pub meets : (ordered : (before after : List Link) → goes.chunks ≡ before ++ after → life.origin.tick ≤ (point_behind files chosen begun life goes before).board.tick)
      → MeetsDeadlines files chosen begun life goes from final
  meets ordered before after chunk place epoch row z event k arrival split epoch_is row_is calm comes since due =
      let start : Point = start_point life.origin (begun goes.plan.layout) in
      let planned_row : slice_get goes.plan.rows place ≡ Some row = ap (λ (rows : List PlanRow). slice_get rows place) goes.is_plan.rows_are ∙ row_is in
      let is : IsOnTime files.program goes.plan (timely.past_of goes.plan start goes.chunks) row (point_after start before) (chunk ∷ after) z =
      on_time before after chunk row epoch.p epoch.q z split (facts.feasible place epoch row epoch_is planned_row) calm in
      let there : arrival_at goes.plan.queue.arrivals event k ≡ Some arrival = ap (λ (l : Lists). arrival_at l event k) goes.is_plan.arrivals_are ∙ comes in
      let last : (point_after (point_after start before) (chunk ∷ after)).board.image ≡ image_by (entries_of goes.chunks) life.origin.image =
      ap (λ (p : Point). p.board.image) (after-both start before (chunk ∷ after) ∙ ap (point_after start) (sym split)) ∙ holds.image in
      let begins : life.origin.tick ≤ (point_after start before).board.tick = ordered before (chunk ∷ after) split in
      logged_met event k arrival (point_after (point_after start before) (chunk ∷ after)).board.image last comes (omega (arith, begins, since))
      (is.logged event k arrival there since (subst (λ n. n ≤ z) (sym (due-is event k arrival comes)) due))
