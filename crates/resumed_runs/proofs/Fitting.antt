-- From a fit file a run can go on.
use Rattle.std.proofs.Common.{◌≡◌, ℕ, ◌-◌, ◌<◌, ◌≤◌, List, length, get_or, drop, length-drop, Option, Some, refl, sym, ap, ◌∙◌, subst, arith}
use Rattle.std.specs.Prelude.{slice_get}
use Rattle.std.proofs.lemmas.List.FromFn.{get_or-map-range_with_len, length-map-range_with_len}
use Rattle.std.proofs.lemmas.Option.{slice_get_within}
use Rattle.cat_program.specs.Body.{Body}
use Rattle.cat_program.specs.Checked.{Checked}
use Rattle.cat_program.specs.Resting.{RestsAt}
use Rattle.cat_program.specs.declared.outs.LogEntry.{LogEntry}
use Rattle.cat_program.specs.declared.outs.LogEntry.TheVariants.{Ran}
use Rattle.nv_memory.specs.declared.device.Device.{Device}
use Rattle.nv_memory.specs.declared.layout.Layout.{Layout}
use Rattle.nv_memory.specs.Layout.{size_of}
use Rattle.nv_memory.specs.Board.{State}
use Rattle.nv_log.specs.Record.{EntryFits, IsSpelled, entry_of, record_bytes, record_of}
use Rattle.event_arrivals.specs.Arrivals.{Lists}
use Rattle.recovery.specs.Committed.{Committed, IsCommitted}
use Rattle.logged_runs.specs.Laws.{AgreesWithOne}
use Rattle.image_meaning.specs.Standing.{StandsFor}
use Rattle.degradation.specs.declared.chosen.Chosen.{Chosen}
use Rattle.cn_scheduler.specs.declared.plan.Plan.{Plan}
use Rattle.lawful_timeline.specs.Points.{BeganBefore}
use Rattle.lawful_timeline.specs.Ending.{HasSaved}
use Rattle.cn_runtime.specs.Steady.{IsSteadyPlan}
use Rattle.cn_runtime.specs.Resumed.{CanGoOn}
use Rattle.cn_resume.specs.declared.fault.ImageKind.TheVariants as kind
use Rattle.cn_resume.specs.Records.{IsRecord, StartsBefore, entry_in}
use Rattle.cn_resume.specs.Fit.{IsFit, Purpose, current_in, image_in, logged_in, moment_in, slot_in, tick_in}
use Rattle.resumed_runs.specs.Files.{BeginsWith, purpose_for}
use Rattle.resumed_runs.proofs.Settings.{current_is, fixed_own, is_there}

-- an entry is what its spelling stands for
abbrev pub AreReadAgain : Type 0
AreReadAgain = (l : Layout) (entry : LogEntry) → EntryFits l entry → entry_of l (record_of l entry) ≡ entry

abbrev value_in : Purpose → List ℕ → Committed
value_in p file = record { slot = slot_in p file; current = current_in p file; entries = logged_in p file }

module _ (read : AreReadAgain) (program : Checked) (device : Device) (arrivals : Lists) (chosen : Chosen) (plan : Plan) (is_plan : IsSteadyPlan program device arrivals chosen plan)
    (agrees : AgreesWithOne program chosen.versions arrivals) (life : ℕ) (file : List ℕ) (fit : IsFit (purpose_for program chosen arrivals plan.layout device life) file) where
  abbrev P : Purpose
  P = purpose_for program chosen arrivals plan.layout device life

  -- an entry of the file is that of its record
  told : (k : ℕ) (e : LogEntry) → slice_get (logged_in P file) k ≡ Some e → IsSpelled plan.layout program (record_bytes plan.layout k (image_in file)) e × StartsBefore (tick_in file) e
  told k e at =
      let within : k < length (logged_in P file) = slice_get_within (logged_in P file) k e at in
      let many : length (logged_in P file) ≡ (slot_in P file).len = length-map-range_with_len (entry_in plan.layout (image_in file)) 0 (slot_in P file).len in
      let record_is : IsRecord plan.layout program (tick_in file) (image_in file) k = fit kind.Record k (omega arith) in
      let here : get_or (logged_in P file) k e ≡ entry_in plan.layout (image_in file) k =
      get_or-map-range_with_len (entry_in plan.layout (image_in file)) 0 (slot_in P file).len k k e (omega arith) (omega arith) in
      let spelled : entry_in plan.layout (image_in file) k ≡ record_is.entry = ap (entry_of plan.layout) record_is.spelled.bytes_are ∙ read plan.layout record_is.entry record_is.spelled.fits in
      let same : record_is.entry ≡ e = sym spelled ∙ sym here ∙ is_there (logged_in P file) k e e at in (
        subst (λ (x : LogEntry). IsSpelled plan.layout program (record_bytes plan.layout k (image_in file)) x) same record_is.spelled,
        subst (λ (x : LogEntry). StartsBefore (tick_in file) x) same record_is.before,
      )

  committed : IsCommitted plan.layout program (image_in file) (value_in P file)
  committed = record {
    formed = fit kind.Slot;
    slot_is = refl;
    rests = (
        let place : (current : Option Body) × RestsAt program (slot_in P file).pc current = fit kind.Place in
        subst (λ (c : Option Body). RestsAt program (slot_in P file).pc c) (current_is program (slot_in P file).pc place.0 place.1) place.1
        );
    recorded = record {
      many = length-map-range_with_len (entry_in plan.layout (image_in file)) 0 (slot_in P file).len;
      entries_are = λ k e at. (told k e at).0;
      counted = fit kind.Done;
    };
  }

  began : BeganBefore (tick_in file) (logged_in P file)
  began i event version steps start index at = (told i (Ran event version steps start index) at).1

  saved_in : (board : State) → BeginsWith file board → HasSaved program plan board
  saved_in board with = record {
    moment = moment_in P file;
    stands = subst (λ (image : List ℕ). StandsFor plan.layout program image (moment_in P file)) (sym with.image) (record { value = value_in P file; committed = committed; is = refl });
    own = fixed_own program device arrivals chosen plan is_plan agrees (moment_in P file) (fit kind.State);
    steps = (let few : (slot_in P file).steps ≤ tick_in file = fit kind.Steps in let tick = with.tick in omega arith);
    began = subst (λ (t : ℕ). BeganBefore t (logged_in P file)) (sym with.tick) began;
    large = (
        let size = (fit kind.Size).size in
        let cut : length (drop 16 file) ≡ length file - 16 = length-drop 16 file in
        let long : length board.image ≡ length (drop 16 file) = ap length with.image in
        omega arith
        );
  }

  pub can_go_on : (board : State) → BeginsWith file board → CanGoOn program plan board
  can_go_on board with = record { off = with.off; saved = saved_in board with }

  pub first_size : (board : State) → BeginsWith file board → length board.image ≡ size_of plan.layout
  first_size board with =
      let size = (fit kind.Size).size in
      let cut : length (drop 16 file) ≡ length file - 16 = length-drop 16 file in
      let long : length board.image ≡ length (drop 16 file) = ap length with.image in
      omega arith
