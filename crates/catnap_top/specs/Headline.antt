-- What the report of a replay shows, and that of a life that goes on: one run of the program that never loses power.
use Rattle.std.specs.Prelude.{◌≡◌, ◌⊎◌, ℕ, ℤ, ◌+◌, ◌≤◌, false, List, [], ◌∷◌, ◌++◌, length, map, take, drop, get_or, Option, Some, None, IfSome, Ok, slice_get, codes, decimal}
use Rattle.std.specs.Fmt.{signed_decimal}
use Rattle.std.specs.Io.KnownBytes.{append_known}
use Rattle.std.specs.List.{flat_map}
use Rattle.std.specs.Option.{option_map_or}
use Rattle.cn_base.specs.Reading.{Files}
use Rattle.cat_program.specs.declared.headers.Variable.{Variable}
use Rattle.cat_program.specs.declared.outs.LogEntry.{LogEntry}
use Rattle.cat_program.specs.declared.outs.LogEntry.TheVariants.{Ran}
use Rattle.event_arrivals.specs.Arrivals.{arrival_at}
use Rattle.event_arrivals.specs.declared.arrival.Arrival.{Arrival}
use Rattle.nv_memory.specs.declared.entry.Entry.{Entry}
use Rattle.nv_memory.specs.declared.entry.Op.TheVariants.{Wake, Write}
use Rattle.nv_memory.specs.declared.layout.Layout.{Layout}
use Rattle.degradation.specs.declared.chosen.Chosen.{Chosen}
use Rattle.board_core.specs.Reached.{model_start}
use Rattle.reference_run.specs.Reference as fixed
use Rattle.reference_run.specs.Reference.{Moment}
use Rattle.logged_runs.specs.Reference.{Setting, IsReference, version_for}
use Rattle.logged_runs.specs.Own.{AreServedOnce, IsEarlier, IsOwn, schedule_of}
use Rattle.image_meaning.specs.Standing.{StandsFor}
use Rattle.cn_scheduler.specs.declared.choice.Choice.TheVariants.{Section}
use Rattle.cn_scheduler.specs.Chunks.{Link, point_after}
use Rattle.cn_scheduler.specs.Point.{Point, Work}
use Rattle.lawful_timeline.specs.Starting.{first_work}
use Rattle.calm_timeline.specs.Calm.{IsCalm}
use Rattle.cn_runtime.specs.Planned.{plan_rows}
use Rattle.forecast_table.specs.declared.epoch.Epoch.{Epoch}
use Rattle.lawful_timeline.specs.Working.{versions_at}
use Rattle.cn_scheduler.specs.InForce.{floor_at}
use Rattle.cn_scheduler.specs.declared.plan.PlanRow.{PlanRow}
use Rattle.cn_report.specs.Outcome.{due_at, end_line, known_at, log_line, ran_line}
use Rattle.recovery.specs.Past.{Past, done_at, end_of, image_at, past_of}
use Rattle.cn_base.specs.Texts.{in_turn, line}
use Rattle.cn_report.specs.Report.{name_of, rows_text}
use Rattle.cn_report.specs.Story.{dropped_text, moment_line, story_text}
use Rattle.catnap_top.specs.declared.files.ReplayFiles.{ReplayFiles}
use Rattle.catnap_top.specs.declared.status.Status.{Status}
use Rattle.catnap_top.specs.declared.status.Status.TheVariants.{Done, LogFull}
use Rattle.catnap_words.specs.declared.form.Form.{Form}
use Rattle.catnap_words.specs.declared.form.Form.TheVariants.{Replay, ReplayForecast, Resume}
use Rattle.catnap_top.specs.Answer.{Answer}
use Rattle.catnap_top.specs.Course.{Outside}
use Rattle.catnap_top.specs.Files.{files_in}
use Rattle.catnap_top.specs.Lives.{Goes, Life, Lives, reported, start_point, status_of}
use Rattle.catnap_top.specs.Resume.{GoesOn, Start, committed_work, rest_reported, start_in, told_before}
use Rattle.catnap_top.specs.Reply.{CallsFor}
use Rattle.catnap_top.specs.Replay.{versions_for}
use Rattle.catnap_words.specs.Words.{form_of, names_of}

-- the rows of the forecast, each with what was chosen for it
abbrev pub rows_of : ReplayFiles → List Chosen → List PlanRow
rows_of files chosen = plan_rows files.forecast chosen

-- the program with its arrivals, each of which is handled in the version that is chosen for its event in the row in force when it comes
abbrev pub run_of : ReplayFiles → List Chosen → Setting
run_of files chosen = record { program = files.program; versions = versions_at (rows_of files chosen); arrivals = files.arrivals }

-- what its board went through
abbrev pub past_in : Life → Past
past_in life = past_of life.layout (model_start life.origin) life.state

-- ---- the lines of a run

-- the line of one of a run's entries, by the ticks at which their records were committed, where these are known
abbrev pub run_line : ReplayFiles → (ℕ → Option ℕ) → List LogEntry → ℕ → List ℕ
run_line files done entries place = option_map_or (log_line files.program.headers files.arrivals (done place)) (slice_get entries place) []

-- a line for each entry
abbrev pub run_log : ReplayFiles → (ℕ → Option ℕ) → List LogEntry → List ℕ
run_log files done entries = in_turn (run_line files done entries) (length entries)

-- the words of a variable
abbrev pub words_in : List ℤ → Variable → List ℤ
words_in words variable = take variable.len (drop variable.base words)

-- a line for each variable, with all its words
abbrev pub run_variables : List Variable → List ℤ → List ℕ
run_variables variables words = flat_map (λ variable. line (codes "var" ∷ variable.name ∷ map signed_decimal (words_in words variable))) variables

-- a line that says how many entries and steps a moment of a run has
abbrev pub line_at : List ℕ → ℕ → Moment → List ℕ
line_at word tick m = line (word ∷ decimal tick ∷ decimal (length m.entries) ∷ decimal m.steps ∷ [])

-- The report of a run, so many of whose entries were there before: what was chosen and dropped and what the board went through, and then
-- the entries, the steps and the variables of the run alone.
abbrev pub run_text : ReplayFiles → List Chosen → Life → ℕ → Moment → List ℕ
run_text files chosen life from final =
    rows_text files.program.headers files.given files.forecast chosen
    ++ (dropped_text files.program.headers files.arrivals.dropped
    ++ (story_text (past_in life)
    ++ (run_log files (known_at (past_in life) from) final.entries
    ++ (end_line life.state.tick life.state.stored final.steps life.end
    ++ run_variables files.program.variables final.state.store.words))))

-- ---- what it shows

-- What the board began with is a run of its own, with so many entries, and an earlier moment of the run that ends in the last one.
pub record ShowsStart (files : ReplayFiles) (chosen : List Chosen) (life : Life) (from : ℕ) (final : Moment) : Type 0 where
  pub moment : Moment
  pub stands : StandsFor life.layout files.program life.origin.image moment
  pub own : IsOwn (run_of files chosen) moment
  pub earlier : IsEarlier (run_of files chosen) moment final
  pub many : length moment.entries ≡ from

-- What is committed after an entry of the timeline is a run of its own, and an earlier moment of the run that ends in the last one.
-- A boot and a commit say which moment this is.
pub record ShowsMoment (files : ReplayFiles) (chosen : List Chosen) (past : Past) (final : Moment) (k : ℕ) (entry : Entry) : Type 0 where
  pub moment : Moment
  pub stands : StandsFor past.layout files.program (image_at past (k + 1)) moment
  pub own : IsOwn (run_of files chosen) moment
  pub earlier : IsEarlier (run_of files chosen) moment final
  pub boot : entry.op ≡ Wake → entry.lost ≡ false → moment_line past k ≡ line_at (codes "boot") (end_of entry) moment
  pub commit : (left : List ℕ) → entry.op ≡ Write 0 left → entry.lost ≡ false → moment_line past k ≡ line_at (codes "commit") (end_of entry) moment

-- no instruction of a task began below the reserve of the row in force and one checkpoint
abbrev pub KeepsReserve : List PlanRow → List Link → Type 0
KeepsReserve rows chunks =
    (i j : ℕ) (chunk : Link) (entry : Entry) → slice_get chunks i ≡ Some chunk → chunk.choice ≡ Section → slice_get chunk.entries j ≡ Some entry
    → floor_at rows entry.tick ≤ entry.stored

-- Arrival number k of an event has one entry in the run, which was not there before, in the version that is chosen for it, and the
-- entry's line says that it was met.
pub record IsMet (files : ReplayFiles) (chosen : List Chosen) (life : Life) (from : ℕ) (final : Moment) (event k : ℕ) (arrival : Arrival) : Type 0 where
  pub place : ℕ
  pub behind : from ≤ place
  pub steps : ℕ
  pub start : ℕ
  pub entry : slice_get final.entries place ≡ Some (Ran event (version_for (run_of files chosen) event arrival) steps start k)
  pub only : (i v n t : ℕ) → slice_get final.entries i ≡ Some (Ran event v n t k) → i ≡ place
  pub met : run_line files (known_at (past_in life) from) final.entries place
      ≡ ran_line (name_of (slice_get files.program.headers event)) k (version_for (run_of files chosen) event arrival) arrival.tick start (done_at (past_in life) place) (codes "met")

-- the decision point behind some chunks of a life
abbrev pub point_behind : (files : ReplayFiles) (chosen : List Chosen) (begun : Layout → Work) (life : Life) → Goes files chosen begun life → List Link → Point
point_behind files chosen begun life goes chunks = point_after (start_point life.origin (begun goes.plan.layout)) chunks

-- In a stretch of the life from a decision point to tick z that is calm for the device and a row of the forecast with what was chosen for
-- it, each arrival that comes and is due is met.
abbrev pub MeetsDeadlines : (files : ReplayFiles) (chosen : List Chosen) (begun : Layout → Work) (life : Life) → Goes files chosen begun life → ℕ → Moment → Type 0
MeetsDeadlines files chosen begun life goes from final =
    (before after : List Link) (chunk : Link) (place : ℕ) (epoch : Epoch) (row : PlanRow) (z event k : ℕ) (arrival : Arrival) → goes.chunks ≡ before ++ chunk ∷ after
    → slice_get files.forecast place ≡ Some epoch → slice_get (rows_of files chosen) place ≡ Some row
    → IsCalm files.device goes.plan row epoch.p epoch.q life.origin.tick (point_behind files chosen begun life goes before) (chunk ∷ after) z
    → arrival_at files.arrivals event k ≡ Some arrival → (point_behind files chosen begun life goes before).board.tick ≤ arrival.tick
    → due_at files.program.headers files.arrivals event k ≤ z → IsMet files chosen life from final event k arrival

-- One run that never loses power, on the schedule that its own entries tell, is what the text shows: what the board began with, each
-- boot and each commit is an earlier moment of it, no arrival is in it twice, and what comes and is due in a calm stretch is met.
pub record ShowsRun (files : ReplayFiles) (chosen : List Chosen) (begun : Layout → Work) (life : Life) (goes : Goes files chosen begun life) (from : ℕ) (text : List ℕ) : Type 0 where
  pub final : Moment
  pub reference : IsReference (run_of files chosen) (schedule_of final.entries final.steps) final
  -- where the forecast has one row, it is the one that the interpreter of sources comes to on that schedule
  pub interpreted : (one : Chosen) → chosen ≡ one ∷ [] → fixed.IsReference (fixed.setting_of files.program one.versions files.arrivals) (schedule_of final.entries final.steps) final
  pub text_is : text ≡ run_text files chosen life from final
  pub start : ShowsStart files chosen life from final
  pub moments : (k : ℕ) (entry : Entry) → slice_get life.state.timeline k ≡ Some entry → ShowsMoment files chosen (past_in life) final k entry
  pub once : AreServedOnce (run_of files chosen) final.entries
  pub reserve : KeepsReserve (rows_of files chosen) goes.chunks
  pub deadlines : MeetsDeadlines files chosen begun life goes from final

-- ---- over bytes

-- The bytes of five files tell a replay, and those of a sixth a forecast, where there is one. The device can serve its events in the
-- versions of least degradation, for each row of the forecast, and the text is the report of the one life that follows. It shows one run.
pub record IsHeadline (forecast : Option (List ℕ)) (bytes : List (List ℕ)) (status : Status) (text : List ℕ) : Type 0 where
  pub files : ReplayFiles
  pub told : files_in (get_or bytes 0 []) (get_or bytes 1 []) (get_or bytes 2 []) (get_or bytes 3 []) (get_or bytes 4 []) forecast (Ok files)
  pub chosen : List Chosen
  pub served : versions_for files (Ok chosen)
  pub life : Life
  pub lives : Lives files chosen life
  pub status_is : status ≡ status_of life.end
  pub text_is : text ≡ (reported files chosen life).text
  pub shows : ShowsRun files chosen (first_work files.program) life lives.goes 0 text

-- The bytes of six files tell a replay and a saved image from which the device can go on, in the versions of least degradation, and the
-- text is the report of the one life that goes on from it. It shows one run, of which the saved image is an earlier moment.
pub record IsResumed (bytes : List (List ℕ)) (status : Status) (text : List ℕ) : Type 0 where
  pub files : ReplayFiles
  pub told : files_in (get_or bytes 0 []) (get_or bytes 1 []) (get_or bytes 2 []) (get_or bytes 3 []) (get_or bytes 4 []) None (Ok files)
  pub chosen : List Chosen
  pub served : versions_for files (Ok chosen)
  pub start : Start
  pub accepted : start_in files chosen (get_or bytes 5 []) (Ok start)
  pub life : Life
  pub goes_on : GoesOn files chosen start life
  pub status_is : status ≡ status_of life.end
  pub text_is : text ≡ (rest_reported files chosen life).text
  pub shows : ShowsRun files chosen (committed_work start.image) life goes_on.goes (told_before life) text

-- a replay that has ended
abbrev pub HasReported : Status → Type 0
HasReported status = (status ≡ Done) ⊎ (status ≡ LogFull)

-- Where a call with a form of words has ended so and its files are told, such a text was written.
abbrev pub HasShown : Form → (List (List ℕ) → Status → List ℕ → Type 0) → List (List ℕ) → Option Files → Outside → Outside → Status → Type 0
HasShown form Shows words files before now status =
    form_of words ≡ Some form → HasReported status
    → IfSome files (λ known. (text : List ℕ) × Shows (map known (names_of form words)) status text × (now.written ≡ append_known before.written text))

-- without a forecast, and with one behind the five files
abbrev pub IsSteadyHeadline : List (List ℕ) → Status → List ℕ → Type 0
IsSteadyHeadline bytes status text = IsHeadline None bytes status text

abbrev pub IsForecastHeadline : List (List ℕ) → Status → List ℕ → Type 0
IsForecastHeadline bytes status text = IsHeadline (Some (get_or bytes 5 [])) bytes status text

pub record HasHeadline (words : List (List ℕ)) (files : Option Files) (before now : Outside) (status : Status) : Type 0 where
  pub steady : HasShown Replay IsSteadyHeadline words files before now status
  pub forecast : HasShown ReplayForecast IsForecastHeadline words files before now status

abbrev pub HasRest : List (List ℕ) → Option Files → Outside → Outside → Status → Type 0
HasRest words files before now status = HasShown Resume IsResumed words files before now status

-- so is every report that the words and files call for
abbrev pub AllShow : Form → (List (List ℕ) → Status → List ℕ → Type 0) → Type 0
AllShow form Shows = (bytes : List (List ℕ)) (due : Answer) → CallsFor form bytes due → HasReported due.status → Shows bytes due.status due.text

pub record ReplaysShowRuns : Type 0 where
  pub steady : AllShow Replay IsSteadyHeadline
  pub forecast : AllShow ReplayForecast IsForecastHeadline

abbrev pub ResumesShowRuns : Type 0
ResumesShowRuns = AllShow Resume IsResumed
