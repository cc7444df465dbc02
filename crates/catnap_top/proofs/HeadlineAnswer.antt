-- What a call has answered to a replay shows one run.
use Rattle.std.proofs.Common.{◌≡◌, inl, inr, ℕ, List, [], map, Option, Some, None, Result, Ok, Err, refl, sym, ap, ◌∙◌, subst}
use Rattle.std.specs.Prelude.{get_or, IfSome}
use Rattle.std.specs.Io.KnownBytes.{append_known}
use Rattle.cn_base.specs.Reading.{Files}
use Rattle.board_core.specs.Reached.{first_state}
use Rattle.cat_program.specs.Checked.{Checked, IsChecked}
use Rattle.checkpoint_slots.specs.declared.slot.Slot.{Slot}
use Rattle.cn_report.specs.Whole.{resumed_text}
use Rattle.degradation.specs.declared.chosen.Chosen.{Chosen}
use Rattle.event_arrivals.specs.Arrivals.{Lists}
use Rattle.event_arrivals.specs.Counts.{AreCounted}
use Rattle.event_arrivals.specs.Spaced.{AreSound}
use Rattle.cn_scheduler.specs.Point.{Point, Work}
use Rattle.cn_scheduler.specs.declared.plan.Plan.{Plan}
use Rattle.lawful_timeline.specs.Claims.{Begins, LawfulTimelinesHold}
use Rattle.lawful_timeline.specs.Ending.{HasSaved}
use Rattle.lawful_timeline.specs.Starting.{StartsBelong, StartsFresh, StartsSaved, first_work}
use Rattle.lawful_timeline.specs.Working.{IsSetUp}
use Rattle.nv_memory.specs.Laws.{LayoutsAreNumbers}
use Rattle.nv_memory.specs.declared.layout.Layout.{Layout}
use Rattle.logged_runs.specs.Laws.{AgreesWithOne, OwnRunsHandleArrivals}
use Rattle.logged_runs.specs.Reference.{Setting}
use Rattle.image_meaning.specs.Laws.{ImagesStandForOne}
use Rattle.recovery.specs.First.{IsFresh}
use Rattle.recovery.specs.Past.{Past, committed_at, image_at}
use Rattle.resumed_runs.specs.Files.{FitImagesBegin}
use Rattle.timely_commits.specs.Timely.{AreOnTime, FreshRunsAreOnTime, ResumedRunsAreOnTime}
use Rattle.catnap_top.specs.declared.fault.Fault.{Fault}
use Rattle.catnap_top.specs.declared.fault.Fault.TheVariants as fault
use Rattle.catnap_top.specs.declared.fault.NoChoice.TheVariants as none
use Rattle.catnap_top.specs.declared.fault.Table.TheVariants as table
use Rattle.catnap_top.specs.declared.files.ReplayFiles.{ReplayFiles}
use Rattle.catnap_top.specs.declared.status.Status.{Status}
use Rattle.catnap_top.specs.declared.status.Status.TheVariants.{Done, LogFull, ReadFault, WriteFault, NoMemory}
use Rattle.catnap_words.specs.declared.form.Form.{Form}
use Rattle.catnap_words.specs.declared.form.Form.TheVariants.{Resume}
use Rattle.catnap_top.specs.Answer.{Answer}
use Rattle.catnap_top.specs.Course.{Outside, Answers, Ends, IsDue, answered, gave_up, cut, of_failure, of_files, of_words, whole}
use Rattle.catnap_top.specs.Faults.{fault_answer}
use Rattle.catnap_top.specs.Files.{files_in}
use Rattle.catnap_top.specs.Headline.{AllShow, HasReported, HasShown, IsHeadline, IsResumed, ReplaysShowRuns, ResumesShowRuns, ShowsRun, past_in, run_of}
use Rattle.catnap_top.specs.Lives.{Goes, Life, Lived, Lives, reported, start_point}
use Rattle.catnap_top.specs.Look.{answer_of}
use Rattle.catnap_top.specs.Reply.{looks_of, CallsFor}
use Rattle.catnap_top.specs.Resume.{GoesOn, Start, committed_work, rest_reported, start_in, told_before}
use Rattle.catnap_top.specs.Replay.{replaying, versions_for}
use Rattle.catnap_top.specs.Served.{Serves}
use Rattle.catnap_words.specs.Words.{names_of}
use Rattle.catnap_top.proofs.HeadlineDeadlines.{begins_as}
use Rattle.catnap_top.proofs.HeadlineFiles.{LowerLaws, PlanFacts, TellsFiles, are_sound, by_gives, is_checked, is_set_up, plan_facts, steady_files, tells_files, then_gives}
use Rattle.catnap_top.proofs.HeadlineRuns.{shows_run}
use Rattle.catnap_top.proofs.HeadlineText.{ReadsAgain}
use Rattle.catnap_top.proofs.Resuming.{starts_saved}

-- ---- a replay that has ended was not refused

neither : (status other : Status) → HasReported status → status ≡ other → (other ≡ Done → ⊥) → (other ≡ LogFull → ⊥) → ⊥
neither status other (inl e) same done full = done (sym same ∙ e)
neither status other (inr e) same done full = full (sym same ∙ e)

not_refused : (why : Fault) → HasReported (fault_answer why).status → ⊥
not_refused (fault.Source kind) (inl e) = cc
not_refused (fault.Source kind) (inr e) = cc
not_refused (fault.Device kind) (inl e) = cc
not_refused (fault.Device kind) (inr e) = cc
not_refused (fault.Table table.Trace row kind) (inl e) = cc
not_refused (fault.Table table.Trace row kind) (inr e) = cc
not_refused (fault.Table table.Arrivals row kind) (inl e) = cc
not_refused (fault.Table table.Arrivals row kind) (inr e) = cc
not_refused (fault.Table table.Fails row kind) (inl e) = cc
not_refused (fault.Table table.Fails row kind) (inr e) = cc
not_refused (fault.Table table.Link row kind) (inl e) = cc
not_refused (fault.Table table.Link row kind) (inr e) = cc
not_refused (fault.Table table.Forecast row kind) (inl e) = cc
not_refused (fault.Table table.Forecast row kind) (inr e) = cc
not_refused (fault.Choice row (none.Window spacing)) (inl e) = cc
not_refused (fault.Choice row (none.Window spacing)) (inr e) = cc
not_refused (fault.Choice row (none.Rejected verdict)) (inl e) = cc
not_refused (fault.Choice row (none.Rejected verdict)) (inr e) = cc
not_refused (fault.Image bad) (inl e) = cc
not_refused (fault.Image bad) (inr e) = cc
not_refused (fault.Object bad) (inl e) = cc
not_refused (fault.Object bad) (inr e) = cc

-- ---- where a life begins

-- the first image has no records
fresh_from : (p : Checked) (past : Past) → IsFresh p past.layout past.first → 0 ≡ (committed_at past 0).len
unfolding committed_at image_at
fresh_from p past fresh = sym (ap (λ (s : Slot). s.len) fresh.committed.slot_is ∙ fresh.first.len)

-- ---- every report shows a run

module _ (laws : LowerLaws) (again : ReadsAgain) (lawful : (program : Checked) (plan : Plan) → LawfulTimelinesHold program plan)
    (starts : (program : Checked) (plan : Plan) → StartsBelong program plan) (one : (l : Layout) (program : Checked) → ImagesStandForOne l program)
    (agrees : (program : Checked) (versions : List ℕ) (arrivals : Lists) → AgreesWithOne program versions arrivals)
    (counted : (lists : Lists) → AreSound lists → AreCounted lists) (handled : (s : Setting) → OwnRunsHandleArrivals s) where
  -- a timeline from a start that is saved and on time
  module _ (bytes : List (List ℕ)) (w : Option (List ℕ)) (files : ReplayFiles) (chosen : List Chosen)
      (told : files_in (get_or bytes 0 []) (get_or bytes 1 []) (get_or bytes 2 []) (get_or bytes 3 []) (get_or bytes 4 []) w (Ok files))
      (served : versions_for files (Ok chosen)) (begun : Layout → Work) (life : Life) (goes : Goes files chosen begun life) where
    tells : TellsFiles (get_or bytes 0 []) (get_or bytes 3 []) files
    tells = tells_files laws.forecasts (get_or bytes 0 []) (get_or bytes 1 []) (get_or bytes 2 []) (get_or bytes 3 []) (get_or bytes 4 []) w files told

    set_up : IsSetUp files.program goes.plan
    set_up = is_set_up laws (get_or bytes 0 []) (get_or bytes 3 []) files tells chosen goes.plan served goes.is_plan

    serves : Serves files.program files.device files.forecast (Ok chosen)
    serves = by_gives _ _ chosen served

    facts : PlanFacts files chosen goes.plan
    facts = plan_facts laws (get_or bytes 0 []) (get_or bytes 3 []) files tells chosen goes.plan served goes.is_plan

    run_shows : Begins files.program goes.plan (start_point life.origin (begun goes.plan.layout)) → HasSaved files.program goes.plan (first_state life.origin)
        → AreOnTime files.program files.device facts.bounds goes.plan life.origin.tick (start_point life.origin (begun goes.plan.layout)) goes.chunks
        → (from : ℕ) → from ≡ (committed_at (past_in life) 0).len
        → ShowsRun files chosen begun life goes from
        (resumed_text files.program.headers files.program.variables files.given files.forecast chosen files.arrivals (past_in life) from life.state.tick life.state.stored life.end)
    run_shows begins saved on_time from from_is =
        let checked : IsChecked files.program = is_checked laws (get_or bytes 0 []) (get_or bytes 3 []) files tells in
        let sound : AreSound files.arrivals = are_sound laws (get_or bytes 0 []) (get_or bytes 3 []) files tells in
        shows_run again files chosen begun life goes checked set_up (lawful files.program goes.plan) begins saved facts on_time (one goes.plan.layout files.program)
        (λ versions. agrees files.program versions files.arrivals) tells.forecast serves.choices.count sound (counted files.arrivals sound) (handled (run_of files chosen)) from _ from_is refl

  module _ (on_time : FreshRunsAreOnTime) where
    report_shows : (bytes : List (List ℕ)) (w : Option (List ℕ)) (files : ReplayFiles) (chosen : List Chosen) (life : Life) (answer : Answer)
        → files_in (get_or bytes 0 []) (get_or bytes 1 []) (get_or bytes 2 []) (get_or bytes 3 []) (get_or bytes 4 []) w (Ok files)
        → versions_for files (Ok chosen) → Lives files chosen life → reported files chosen life ≡ answer
        → IsHeadline w bytes answer.status answer.text
    report_shows bytes w files chosen life answer told served lives same =
        let goes = lives.goes in
        let p : Point = start_point life.origin (first_work files.program goes.plan.layout) in
        let fresh : StartsFresh files.program goes.plan p = record { fresh = lives.fresh; off = refl; clean = refl; work_is = refl } in
        let up : IsSetUp files.program goes.plan = set_up bytes w files chosen told served (first_work files.program) life goes in
        let f : PlanFacts files chosen goes.plan = facts bytes w files chosen told served (first_work files.program) life goes in
        subst (λ (a : Answer). IsHeadline w bytes a.status a.text) same
        (record {
          files = files;
          told = told;
          chosen = chosen;
          served = served;
          life = life;
          lives = lives;
          status_is = refl;
          text_is = refl;
          shows = run_shows bytes w files chosen told served (first_work files.program) life goes ((starts files.program goes.plan).begins p fresh) ((starts files.program goes.plan).fresh p fresh).saved
              (on_time files.program files.device f.bounds goes.plan life.origin.tick p goes.chunks f.planned up fresh (begins_as life.origin files.device goes.device_is) goes.lawful)
              0 (fresh_from files.program (past_in life) (subst (λ (l : Layout). IsFresh files.program l life.origin.image) (sym goes.layout_is) lives.fresh));
        })

    came_shows : (bytes : List (List ℕ)) (w : Option (List ℕ)) (came : Result Answer Fault)
        → replaying (get_or bytes 0 []) (get_or bytes 1 []) (get_or bytes 2 []) (get_or bytes 3 []) (get_or bytes 4 []) w came → HasReported (answer_of came).status
        → IsHeadline w bytes (answer_of came).status (answer_of came).text
    came_shows bytes w (Err why) is done = absurd (not_refused why done)
    came_shows bytes w (Ok answer) is done =
        then_gives _ _ answer _ is
        (λ files told rest. then_gives _ _ answer _ rest
        (λ lived looks said. then_gives _ _ lived _ looks
        (λ chosen served rests. then_gives _ _ lived _ rests
        (λ life lives e.
        let found_is : lives.x ≡ life = let f = lives.came_is in cc in
        let lived_is : (record { files = files; chosen = chosen; life = life }) ≡ lived = cc in
        let same : reported lived.files lived.chosen lived.life ≡ answer = cc in
        report_shows bytes w files chosen life answer told served (subst (λ (l : Life). Lives files chosen l) found_is lives.holds)
        (ap (λ (l : Lived). reported l.files l.chosen l.life) lived_is ∙ same)))))

    pub replays_show : ReplaysShowRuns
    replays_show =
        record {
          steady = λ bytes due h done.
              subst (λ (a : Answer). IsHeadline None bytes a.status a.text) (sym h.due_is)
              (came_shows bytes None h.came h.is (subst (λ (a : Answer). HasReported a.status) h.due_is done));
          forecast = λ bytes due h done.
              subst (λ (a : Answer). IsHeadline (Some (get_or bytes 5 [])) bytes a.status a.text) (sym h.due_is)
              (came_shows bytes (Some (get_or bytes 5 [])) h.came h.is (subst (λ (a : Answer). HasReported a.status) h.due_is done));
        }

  -- ---- a life that goes on

  module _ (on_time : ResumedRunsAreOnTime) (layouts : LayoutsAreNumbers) (fit : FitImagesBegin) where
    rest_shows : (bytes : List (List ℕ)) (files : ReplayFiles) (chosen : List Chosen) (start : Start) (life : Life) (answer : Answer)
        → files_in (get_or bytes 0 []) (get_or bytes 1 []) (get_or bytes 2 []) (get_or bytes 3 []) (get_or bytes 4 []) None (Ok files)
        → versions_for files (Ok chosen) → start_in files chosen (get_or bytes 5 []) (Ok start) → GoesOn files chosen start life
        → rest_reported files chosen life ≡ answer → IsResumed bytes answer.status answer.text
    rest_shows bytes files chosen start life answer told served accepted goes_on same =
        let goes = goes_on.goes in
        let steady = (steady_files (get_or bytes 0 []) (get_or bytes 1 []) (get_or bytes 2 []) (get_or bytes 3 []) (get_or bytes 4 []) files told).0 in
        let p : Point = start_point life.origin (committed_work start.image goes.plan.layout) in
        let from : StartsSaved files.program goes.plan p = starts_saved layouts fit files chosen (get_or bytes 5 []) start life steady accepted goes_on in
        let up : IsSetUp files.program goes.plan = set_up bytes None files chosen told served (committed_work start.image) life goes in
        let f : PlanFacts files chosen goes.plan = facts bytes None files chosen told served (committed_work start.image) life goes in
        subst (λ (a : Answer). IsResumed bytes a.status a.text) same
        (record {
          files = files;
          told = told;
          chosen = chosen;
          served = served;
          start = start;
          accepted = accepted;
          life = life;
          goes_on = goes_on;
          status_is = refl;
          text_is = refl;
          shows = run_shows bytes None files chosen told served (committed_work start.image) life goes ((starts files.program goes.plan).saved p from).begins from.saved
              (on_time files.program files.device f.bounds goes.plan life.origin.tick p goes.chunks f.planned up from (begins_as life.origin files.device goes.device_is) goes.lawful)
              (told_before life) refl;
        })

    rest_came_shows : (bytes : List (List ℕ)) (came : Result Answer Fault) → looks_of Resume bytes came → HasReported (answer_of came).status
        → IsResumed bytes (answer_of came).status (answer_of came).text
    rest_came_shows bytes (Err why) is done = absurd (not_refused why done)
    rest_came_shows bytes (Ok answer) is done =
        then_gives _ _ answer _ is
        (λ files told rest. then_gives _ _ answer _ rest
        (λ chosen served rests. then_gives _ _ answer _ rests
        (λ start accepted more. then_gives _ _ answer _ more
        (λ life goes_on said.
        let found_is : goes_on.x ≡ life = let f = goes_on.came_is in cc in
        let same : rest_reported files chosen life ≡ answer = cc in
        rest_shows bytes files chosen start life answer told served accepted (subst (λ (l : Life). GoesOn files chosen start l) found_is goes_on.holds) same))))

    pub resumes_show : ResumesShowRuns
    resumes_show bytes due h done =
        subst (λ (a : Answer). IsResumed bytes a.status a.text) (sym h.due_is)
        (rest_came_shows bytes h.came h.is (subst (λ (a : Answer). HasReported a.status) h.due_is done))

-- ---- what was answered

module _ (asked : Form) (Shows : List (List ℕ) → Status → List ℕ → Type 0) where
  shown_told : (names : List (List ℕ)) (files : Option Files) (bytes : List (List ℕ)) (status : Status) (text : List ℕ) (before now : Option (List ℕ))
      → IfSome files (λ known. bytes ≡ map known names) → Shows bytes status text → now ≡ append_known before text
      → IfSome files (λ known. (text : List ℕ) × Shows (map known names) status text × (now ≡ append_known before text))
  shown_told names None bytes status text before now told is written = tt
  shown_told names (Some known) bytes status text before now told is written = (text, subst (λ (b : List (List ℕ)). Shows b status text) told is, written)

  module _ (law : AllShow asked Shows) (words : List (List ℕ)) (files : Option Files) (before now : Outside) (status : Status) where
    shown_due : (due : Answer) → IsDue words files before now due → Ends due before.written now.written before.writes now.writes status → HasShown asked Shows words files before now status
    shown_due due (of_words none kept reads is) ends form done = absurd (cc)
    shown_due due (of_failure f count is less vain later rose due_is) (whole status_is written writes) form done =
        absurd (neither status ReadFault done (status_is ∙ ap (λ (a : Answer). a.status) due_is) (λ e. cc) (λ e. cc))
    shown_due due (of_failure f count is less vain later rose due_is) (cut status_is part later' rose') form done =
        absurd (neither status WriteFault done status_is (λ e. cc) (λ e. cc))
    shown_due due (of_files f bytes is told asks reads calls) (cut status_is part later rose) form done =
        absurd (neither status WriteFault done status_is (λ e. cc) (λ e. cc))
    shown_due due (of_files f bytes is told asks reads calls) (whole status_is written writes) form done =
        let same : f ≡ asked = cc in
        let told' : IfSome files (λ known. bytes ≡ map known (names_of asked words)) =
        subst (λ (g : Form). IfSome files (λ known. bytes ≡ map known (names_of g words))) same told in
        let shown : Shows bytes due.status due.text = law bytes due (subst (λ (g : Form). CallsFor g bytes due) same calls) (subst HasReported status_is done) in
        shown_told (names_of asked words) files bytes status due.text before.written now.written told' (subst (λ (s : Status). Shows bytes s due.text) (sym status_is) shown) written

    pub has_shown : Answers words files before now status → HasShown asked Shows words files before now status
    has_shown (answered due is ends) form done = shown_due due is ends form done
    has_shown (gave_up f count is within asks reads written writes none) form done = absurd (neither status NoMemory done none (λ e. cc) (λ e. cc))
