-- What holds throughout a life holds of the run that its report shows.
use Rattle.std.proofs.Common.{◌≡◌, ℕ, zero, suc, ◌+◌, ◌≤◌, List, [], ◌∷◌, length, take, Option, Some, true, refl, sym, ap, ◌∙◌, subst, le_refl, arith}
use Rattle.std.specs.Prelude.{slice_get}
use Rattle.std.specs.Option.{option_map_or}
use Rattle.std.proofs.lemmas.Bool.Decides.{nat_tests}
use Rattle.std.proofs.lemmas.Option.{slice_get_within}
use Rattle.std.proofs.Math.Seq.{take-length}
use Rattle.cat_program.specs.Checked.{IsChecked}
use Rattle.degradation.specs.declared.chosen.Chosen.{Chosen}
use Rattle.nv_memory.specs.Board.{State, image_by}
use Rattle.nv_memory.specs.declared.entry.Entry.{Entry}
use Rattle.nv_memory.specs.declared.layout.Layout.{Layout}
use Rattle.reference_run.specs.Reference.{Moment}
use Rattle.logged_runs.specs.Laws.{AgreesWithOne, OwnRunsHandleArrivals}
use Rattle.logged_runs.specs.Own.{AreServedOnce, IsEarlier, IsOwn, schedule_of}
use Rattle.logged_runs.specs.Reference.{IsReference, Setting}
use Rattle.image_meaning.specs.Laws.{ImagesStandForOne}
use Rattle.image_meaning.specs.Standing.{StandsFor}
use Rattle.checkpoint_slots.specs.declared.slot.Slot.{Slot}
use Rattle.board_core.specs.Reached.{first_state}
use Rattle.event_arrivals.specs.Counts.{AreCounted}
use Rattle.event_arrivals.specs.Spaced.{AreSound}
use Rattle.cn_scheduler.specs.Chunks.{IsLawful, Link, entries_of}
use Rattle.cn_scheduler.specs.Point.{Work}
use Rattle.cn_scheduler.specs.declared.choice.Choice.TheVariants.{Section}
use Rattle.cn_scheduler.specs.InForce.{begins_by, floor_at, in_force}
use Rattle.cn_scheduler.specs.declared.plan.Plan.{Plan}
use Rattle.cn_scheduler.specs.declared.plan.PlanRow.{PlanRow}
use Rattle.lawful_timeline.specs.Claims.{AreAbove, Begins, HoldsThroughout, KeepsFloor, LawfulTimelinesHold}
use Rattle.lawful_timeline.specs.Ending.{HasSaved}
use Rattle.lawful_timeline.specs.Working.{IsSetUp, setting_of, versions_at, versions_in}
use Rattle.timely_commits.specs.Timely.{AreOnTime}
use Rattle.cn_runtime.specs.Planned.{plan_row, plan_rows}
use Rattle.forecast_table.specs.Epochs.{IsForecast}
use Rattle.forecast_table.specs.declared.epoch.Epoch.{Epoch}
use Rattle.recovery.specs.Past.{committed_at, image_at}
use Rattle.catnap_top.specs.declared.files.ReplayFiles.{ReplayFiles}
use Rattle.catnap_top.specs.Headline.{KeepsReserve, ShowsRun, past_in, run_of}
use Rattle.catnap_top.specs.Lives.{Goes, Life, start_point}
use Rattle.catnap_top.proofs.Behind.{not_before}
use Rattle.catnap_top.proofs.Ticks.{points_keep}
use Rattle.catnap_top.proofs.HeadlineDeadlines.{meets}
use Rattle.catnap_top.proofs.HeadlineFiles.{PlanFacts}
use Rattle.catnap_top.proofs.HeadlineText.{ReadsAgain, told_text, shows_text, slot-is, boot-is, commit-is}

-- ---- the floor

above : (rows : List PlanRow) (entries : List Entry) (j : ℕ) (entry : Entry) → AreAbove (floor_at rows) entries → slice_get entries j ≡ Some entry → floor_at rows entry.tick ≤ entry.stored
above rows [] j entry are is = absurd (cc)
above rows (e ∷ es) zero entry are is =
    let same : e ≡ entry = cc in
    subst (λ (x : Entry). floor_at rows x.tick ≤ x.stored) same are.0
above rows (e ∷ es) (suc j) entry are is = above rows es j entry are.1 is

keeps : (plan : Plan) (chunks : List Link) → KeepsFloor plan chunks → KeepsReserve plan.rows chunks
keeps plan [] floor i j chunk entry is section at = absurd (cc)
keeps plan (c ∷ cs) floor zero j chunk entry is section at =
    let same : c ≡ chunk = cc in
    let kind : c.choice ≡ Section = ap (λ (l : Link). l.choice) same ∙ section in
    above plan.rows c.entries j entry (floor.0 kind) (ap (λ (l : Link). slice_get l.entries j) same ∙ at)
keeps plan (c ∷ cs) floor (suc i) j chunk entry is section at = keeps plan cs floor.1 i j chunk entry is section at

-- ---- one row

begins : (row : PlanRow) (t : ℕ) → row.from ≡ 0 → begins_by t row ≡ true
begins row t from = grind (arith, nat_tests)

-- the row of a forecast that has one alone is in force at all ticks
only_row : (row : PlanRow) (t : ℕ) → row.from ≡ 0 → in_force (row ∷ []) t ≡ Some row
only_row row t from = rw (begins row t from) refl

-- the versions are then the same at all ticks
one_version : (rows : List Epoch) (one : Chosen) (t : ℕ) → IsForecast rows → length rows ≡ 1 → versions_at (plan_rows rows (one ∷ [])) t ≡ one.versions
one_version [] one t is count = absurd (omega (arith, count))
one_version (row ∷ []) one t is count = ap (λ (o : Option PlanRow). option_map_or versions_in o []) (only_row (plan_row row one) t (is.first row))
one_version (row ∷ other ∷ more) one t is count = absurd (omega (arith, count))

-- ---- what the images stand for

-- each image stands for a run of its own, which is an earlier moment of that of each later one
record Stand (s : Setting) (l : Layout) (first : List ℕ) (timeline : List Entry) : Type 0 where
  images : (i : ℕ) → i ≤ length timeline
      → (m : Moment) × StandsFor l s.program (image_by (take i timeline) first) m × IsOwn s m × AreServedOnce s m.entries
  earlier : (i j : ℕ) (m n : Moment) → i ≤ j → j ≤ length timeline → StandsFor l s.program (image_by (take i timeline) first) m
      → StandsFor l s.program (image_by (take j timeline) first) n → IsEarlier s m n

module _ (again : ReadsAgain) (files : ReplayFiles) (chosen : List Chosen) (begun : Layout → Work) (life : Life) (goes : Goes files chosen begun life) (checked : IsChecked files.program)
    (set_up : IsSetUp files.program goes.plan) (lawful : LawfulTimelinesHold files.program goes.plan)
    (begins : Begins files.program goes.plan (start_point life.origin (begun goes.plan.layout))) (saved : HasSaved files.program goes.plan (first_state life.origin))
    (facts : PlanFacts files chosen goes.plan)
    (on_time : AreOnTime files.program files.device facts.bounds goes.plan life.origin.tick (start_point life.origin (begun goes.plan.layout)) goes.chunks)
    (one : ImagesStandForOne goes.plan.layout files.program) (agrees : (versions : List ℕ) → AgreesWithOne files.program versions files.arrivals)
    (forecast : IsForecast files.forecast) (count : length chosen ≡ length files.forecast)
    (sound : AreSound files.arrivals) (counted : AreCounted files.arrivals) (handled : OwnRunsHandleArrivals (run_of files chosen)) where
  holds : HoldsThroughout files.program goes.plan (start_point life.origin (begun goes.plan.layout)) goes.chunks
  holds = lawful.holds (start_point life.origin (begun goes.plan.layout)) goes.chunks set_up begins goes.lawful

  setting_is : setting_of files.program goes.plan ≡ run_of files chosen
  setting_is =
      λ i. record { program = files.program; versions = versions_at (goes.is_plan.rows_are i); arrivals = goes.is_plan.arrivals_are i }

  -- with one row the run is one of fixed versions
  fixed_is : (c : Chosen) → chosen ≡ c ∷ [] → run_of files chosen ≡ record { program = files.program; versions = λ tick. c.versions; arrivals = files.arrivals }
  fixed_is c alone =
      let single : length files.forecast ≡ 1 = sym count ∙ ap (λ (l : List Chosen). length l) alone in
      let versions : (t : ℕ) → versions_at (plan_rows files.forecast chosen) t ≡ c.versions =
      λ t. ap (λ (l : List Chosen). versions_at (plan_rows files.forecast l) t) alone ∙ one_version files.forecast c t forecast single in
      λ i. record { program = files.program; versions = λ t. versions t i; arrivals = files.arrivals }

  timeline_is : life.state.timeline ≡ entries_of goes.chunks
  timeline_is = ap (λ (s : State). s.timeline) (sym goes.leads) ∙ holds.timeline

  stand : Stand (run_of files chosen) life.layout life.origin.image life.state.timeline
  stand =
      subst (λ (t : List Entry). Stand (run_of files chosen) life.layout life.origin.image t) (sym timeline_is)
      (subst (λ (l : Layout). Stand (run_of files chosen) l life.origin.image (entries_of goes.chunks)) (sym goes.layout_is)
      (subst (λ (s : Setting). Stand s goes.plan.layout life.origin.image (entries_of goes.chunks)) setting_is
      (record { images = holds.images; earlier = holds.earlier })))

  -- what the board began with stands for a run of its own
  first_stands : StandsFor life.layout files.program life.origin.image saved.moment
  first_stands = subst (λ (l : Layout). StandsFor l files.program life.origin.image saved.moment) (sym goes.layout_is) saved.stands

  first_own : IsOwn (run_of files chosen) saved.moment
  first_own = subst (λ (s : Setting). IsOwn s saved.moment) setting_is saved.own

  first_many : length saved.moment.entries ≡ (committed_at (past_in life) 0).len
  unfolding image_at
  first_many =
      ap (λ (m : Moment). length m.entries) (sym first_stands.is) ∙ first_stands.committed.recorded.many
      ∙ sym (ap (λ (s : Slot). s.len) (slot-is files.program (past_in life) 0 first_stands.value first_stands.committed))

  pub shows_run : (from : ℕ) (text : List ℕ) → from ≡ (committed_at (past_in life) 0).len
      → text ≡ told_text again files checked chosen life (ap (λ (l : Layout). l.words) goes.layout_is ∙ goes.is_plan.layout_is.words) from
      → ShowsRun files chosen begun life goes from text
  unfolding image_at
  shows_run from text from_is text_is =
      let n : ℕ = length life.state.timeline in
      let words : life.layout.words ≡ length files.program.words = ap (λ (l : Layout). l.words) goes.layout_is ∙ goes.is_plan.layout_is.words in
      let last = stand.images n (le_refl n) in
      let stands : StandsFor goes.plan.layout files.program (image_by (entries_of goes.chunks) life.origin.image) last.0 =
      subst (λ (l : Layout). StandsFor l files.program (image_by (entries_of goes.chunks) life.origin.image) last.0) goes.layout_is
      (subst (λ (t : List Entry). StandsFor life.layout files.program (image_by t life.origin.image) last.0) (take-length life.state.timeline ∙ timeline_is) last.1) in
      let many : length saved.moment.entries ≡ from = first_many ∙ sym from_is in
      let first_earlier : IsEarlier (run_of files chosen) saved.moment last.0 = stand.earlier 0 n saved.moment last.0 (omega arith) (le_refl n) first_stands last.1 in
      record {
        final = last.0;
        reference = last.2;
        interpreted = λ c alone. ((agrees c.versions).same (schedule_of last.0.entries last.0.steps) last.0).0
            (subst (λ (s : Setting). IsReference s (schedule_of last.0.entries last.0.steps) last.0) (fixed_is c alone) last.2);
        text_is = text_is ∙ shows_text again files checked chosen life words from last.0 last.1;
        start = record { moment = saved.moment; stands = first_stands; own = first_own; earlier = first_earlier; many = many };
        moments = λ k entry is.
            let within = slice_get_within life.state.timeline k entry is in
            let here = stand.images (k + 1) (omega (arith, within)) in
            record {
              moment = here.0;
              stands = here.1;
              own = here.2;
              earlier = stand.earlier (k + 1) n here.0 last.0 (omega (arith, within)) (le_refl n) here.1 last.1;
              boot = λ op done. boot-is files.program (past_in life) k entry here.0 is here.1 done op;
              commit = λ left op done. commit-is files.program (past_in life) k entry here.0 is here.1 done left op;
            };
        once = last.3;
        reserve = subst (λ (rows : List PlanRow). KeepsReserve rows goes.chunks) goes.is_plan.rows_are (keeps goes.plan goes.chunks holds.floor);
        deadlines =
            meets files chosen begun life goes facts on_time one holds setting_is timeline_is last.0 stands from
            (λ event k place steps t arrival entry comes since.
            subst (λ most. most ≤ place) many
            (not_before (run_of files chosen) sound handled counted saved.moment first_own life.origin.tick saved.began last.0 event k place _ steps t arrival first_earlier.entries entry comes since))
            (λ before after split.
            (points_keep goes.plan (start_point life.origin (begun goes.plan.layout)) before after
            (subst (λ (cs : List Link). IsLawful goes.plan (start_point life.origin (begun goes.plan.layout)) cs) split goes.lawful)).later);
      }
