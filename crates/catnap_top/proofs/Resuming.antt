-- What a saved image that was accepted is, and what a life that has gone on from it tells.
use Rattle.std.proofs.Common.{◌≡◌, ◌≤◌, ◌-◌, ℕ, List, [], ◌∷◌, length, Ok, false, refl, sym, ap, ◌∙◌, subst, arith}
use Rattle.std.specs.Prelude.{All}
use Rattle.std.proofs.lemmas.List.{length-drop}
use Rattle.board_core.specs.ModelBoardState.{origin_of, state_of}
use Rattle.board_core.specs.Reached.{IsReached, first_state}
use Rattle.board_core.specs.declared.model_board.ModelBoard.{ModelBoard}
use Rattle.board_core.specs.declared.origin.ModelOrigin.{ModelOrigin}
use Rattle.cat_program.specs.Checked.{Checked}
use Rattle.checkpoint_slots.specs.Image.{IsWellFormed, committed_bytes, committed_slot}
use Rattle.cn_report.specs.Kept.{HasKept}
use Rattle.cn_report.specs.Whole.{IsReplayed as IsTold, resumed_text}
use Rattle.cn_resume.specs.Fit.{HasSize, IsFit, image_in}
use Rattle.cn_resume.specs.declared.fault.ImageKind.TheVariants as kind
use Rattle.cn_runtime.specs.Planned.{IsPlanFor, IsPrepared}
use Rattle.cn_runtime.specs.Resumed.{CanGoOn}
use Rattle.cn_runtime.specs.Steady.{IsSteadyPlan, steady_rows}
use Rattle.cn_runtime.specs.declared.prepared.Prepared.{Prepared}
use Rattle.cn_scheduler.specs.Point.{work_of}
use Rattle.cn_scheduler.specs.declared.engine.End.{End}
use Rattle.cn_scheduler.specs.declared.engine.Engine.{Engine}
use Rattle.cn_scheduler.specs.declared.plan.Plan.{Plan}
use Rattle.degradation.specs.Choice.{Suits}
use Rattle.degradation.specs.Placed.{IsLayoutOf}
use Rattle.degradation.specs.declared.chosen.Chosen.{Chosen}
use Rattle.forecast_table.specs.declared.epoch.Epoch.{Epoch}
use Rattle.harvest_trace.specs.Timeline.{life_of}
use Rattle.lawful_timeline.specs.Claims.{IsReplayed as Ran}
use Rattle.lawful_timeline.specs.Starting.{StartsSaved, saved_point}
use Rattle.nv_memory.specs.Board.{State}
use Rattle.nv_memory.specs.Laws.{LayoutsAreNumbers}
use Rattle.nv_memory.specs.Layout.{size_of}
use Rattle.nv_memory.specs.declared.device.Device.{Device}
use Rattle.nv_memory.specs.declared.layout.Layout.{Layout}
use Rattle.recovery.specs.Past.{committed_at, image_at}
use Rattle.reference_run.specs.Reference.{AreFor, setting_of}
use Rattle.resumed_runs.specs.Files.{FitImagesBegin}
use Rattle.catnap_top.specs.declared.files.ReplayFiles.{ReplayFiles}
use Rattle.catnap_top.specs.declared.resume.BegunAgain.{BegunAgain}
use Rattle.catnap_top.specs.declared.resume.Resumed.{Resumed}
use Rattle.catnap_top.specs.declared.stop.Stop.{Stop}
use Rattle.catnap_top.specs.Lives.{Life, start_point, status_of}
use Rattle.catnap_top.specs.Look.{Stops, goes}
use Rattle.catnap_top.specs.Resume.{GoesOn, IsImage, Start, committed_work, going, past_since, purpose_in, rest_reported, start_for, start_in, told_before}
use Rattle.catnap_top.specs.Resumed.{BeginsAgain, CanTellRest, HasGoneOn, files_with, resumed_answer}
use Rattle.catnap_top.specs.Replay.{versions_for}
use Rattle.catnap_top.proofs.HeadlineFiles.{by_gives}
use Rattle.catnap_top.proofs.Living.{chosen_in, goes_as, told}
use Rattle.catnap_top.proofs.Looks.{stops_first, stops_next}

-- ---- a saved image that was accepted

layout_same : LayoutsAreNumbers → (files : ReplayFiles) (a b : Layout) → IsLayoutOf files.program files.device a → IsLayoutOf files.program files.device b → a ≡ b
layout_same layouts files a b x y = layouts a b (x.words ∙ sym y.words) (x.tasks ∙ sym y.tasks) (x.events ∙ sym y.events) (x.log ∙ sym y.log) (x.format ∙ sym y.format) (x.base ∙ sym y.base)

module _ (layouts : LayoutsAreNumbers) (files : ReplayFiles) (chosen : List Chosen) (bytes : List ℕ) (start : Start) (accepted : start_in files chosen bytes (Ok start)) where
  is_image : IsImage files chosen bytes (Ok start)
  is_image = by_gives _ _ start accepted

  -- what was chosen for the forecast's one row
  pub one : Chosen
  one = is_image.one

  pub alone : chosen ≡ one ∷ []
  unfolding one is_image
  alone = is_image.alone

  pub is_fit : (l : Layout) → IsLayoutOf files.program files.device l → IsFit (purpose_in files one l) bytes
  unfolding one is_image
  is_fit l is = subst (λ (k : Layout). IsFit (purpose_in files one k) bytes) (layout_same layouts files is_image.l l is_image.layout is) is_image.verdict.0

  pub is_start : start ≡ start_for bytes
  is_start = is_image.verdict.1

-- a run can go on from it
pub can_go_on : LayoutsAreNumbers → FitImagesBegin → (files : ReplayFiles) (chosen : List Chosen) (bytes : List ℕ) (start : Start) (plan : Plan) (board : State)
    → files.forecast ≡ steady_rows files.device → start_in files chosen bytes (Ok start) → IsPlanFor files.program files.device files.arrivals files.forecast chosen plan → board.on ≡ false → board.tick ≡ start.tick → board.image ≡ start.image
    → CanGoOn files.program plan board
can_go_on layouts fit files chosen bytes start plan board steady accepted is_plan off tick image =
    let same : start ≡ start_for bytes = is_start layouts files chosen bytes start accepted in
    let c : Chosen = one layouts files chosen bytes start accepted in
    let steady_plan : IsSteadyPlan files.program files.device files.arrivals c plan =
    subst (λ (found : List Chosen). IsPlanFor files.program files.device files.arrivals (steady_rows files.device) found plan) (alone layouts files chosen bytes start accepted)
    (subst (λ (rows : List Epoch). IsPlanFor files.program files.device files.arrivals rows chosen plan) steady is_plan) in
    fit files.program files.device files.arrivals c plan (life_of files.trace) bytes board steady_plan
    (is_fit layouts files chosen bytes start accepted plan.layout is_plan.layout_is)
    (record { off = off; tick = tick ∙ ap (λ (s : Start). s.tick) same; image = image ∙ ap (λ (s : Start). s.image) same })

pub starts_saved : LayoutsAreNumbers → FitImagesBegin → (files : ReplayFiles) (chosen : List Chosen) (bytes : List ℕ) (start : Start) (life : Life)
    → files.forecast ≡ steady_rows files.device → start_in files chosen bytes (Ok start) → (goes_on : GoesOn files chosen start life)
    → StartsSaved files.program goes_on.goes.plan (start_point life.origin (committed_work start.image goes_on.goes.plan.layout))
starts_saved layouts fit files chosen bytes start life steady accepted goes_on =
    let plan = goes_on.goes.plan in
    let can : CanGoOn files.program plan (first_state life.origin) =
    can_go_on layouts fit files chosen bytes start plan (first_state life.origin) steady accepted goes_on.goes.is_plan refl goes_on.tick_is goes_on.image_is in
    let image : start.image ≡ life.origin.image = sym goes_on.image_is in
    record {
      saved = can.saved;
      off = refl;
      clean = refl;
      work_is = ap (λ (image : List ℕ). work_of (committed_slot plan.layout image)) image;
    }

-- ---- what was prepared

module _ (files : ReplayFiles) (before : Prepared) (is : IsPrepared files.program files.device files.arrivals files.forecast before) (given : files.given ≡ false)
    (steady : files.forecast ≡ steady_rows files.device) (c : Chosen) (alone_is : before.chosen ≡ c ∷ []) where
  pub same_files : files_with before files.trace files.failures ≡ files
  same_files =
      λ i. record {
        program = is.program_is i;
        device = is.device_is i;
        trace = files.trace;
        arrivals = is.plan.arrivals_are i;
        failures = files.failures;
        given = sym given i;
        forecast = is.forecast_is i;
      }

  -- the arrivals and versions are those of the program's events
  suits : Suits files.program c
  suits = let all : All (Suits files.program) (c ∷ []) = subst (λ (found : List Chosen). All (Suits files.program) found) alone_is is.chosen.suit in all 0 c (omega arith)

  pub are_for : AreFor (setting_of before.program c.versions before.plan.queue.arrivals)
  are_for =
      subst (λ (p : Checked). AreFor (setting_of p c.versions before.plan.queue.arrivals)) (sym is.program_is)
      (record { arrivals = is.set_up.plan_is.queue; versions = suits.versions; exist = suits.there })

  pub is_layout : IsLayoutOf before.program before.device before.plan.layout
  is_layout =
      subst (λ (d : Device). IsLayoutOf before.program d before.plan.layout) (sym is.device_is)
      (subst (λ (p : Checked). IsLayoutOf p files.device before.plan.layout) (sym is.program_is) is.plan.layout_is)

  chosen_is : versions_for files (Ok before.chosen)
  chosen_is = chosen_in files.program files.device files.given files.forecast before.plan.layout before.chosen is.plan.layout_is is.chosen

  module _ (bytes : List ℕ) where
    -- a saved image that is refused ends the chain
    pub going_stops : (stop : Stop) → Stops (start_in (files_with before files.trace files.failures) before.chosen bytes) stop → Stops (going files bytes) stop
    going_stops stop h =
        stops_next _ _ before.chosen stop chosen_is
        (stops_first _ _ stop (subst (λ (x : ReplayFiles). Stops (start_in x before.chosen bytes) stop) same_files h))

    module _ (layouts : LayoutsAreNumbers) (start : Start) (looked : start_in (files_with before files.trace files.failures) before.chosen bytes (Ok start)) where
      taken : start_in files before.chosen bytes (Ok start)
      taken = subst (λ (x : ReplayFiles). start_in x before.chosen bytes (Ok start)) same_files looked

      fits_here : IsFit (purpose_in files (one layouts files before.chosen bytes start taken) before.plan.layout) bytes
      fits_here = is_fit layouts files before.chosen bytes start taken before.plan.layout is.plan.layout_is

      same_start : start ≡ start_for bytes
      same_start = is_start layouts files before.chosen bytes start taken

      pub in_life : start.tick ≤ life_of files.trace
      in_life = subst (λ (s : Start). s.tick ≤ life_of files.trace) (sym same_start) (fits_here kind.Tick)

      pub in_cap : start.stored ≤ files.device.cap
      in_cap = subst (λ (s : Start). s.stored ≤ files.device.cap) (sym same_start) (fits_here kind.Stored)

      pub whole : length start.image ≡ size_of before.plan.layout
      whole =
          let size : HasSize before.plan.layout bytes = fits_here kind.Size in
          let left : length (image_in bytes) ≡ length bytes - 16 = length-drop 16 bytes in
          let here : length (image_in bytes) ≡ size_of before.plan.layout = omega (arith, left, size.size) in
          subst (λ (s : Start). length s.image ≡ size_of before.plan.layout) (sym same_start) here

      pub formed : IsWellFormed before.plan.layout (committed_bytes before.plan.layout start.image)
      formed = subst (λ (s : Start). IsWellFormed before.plan.layout (committed_bytes before.plan.layout s.image)) (sym same_start) (fits_here kind.Slot)

      module _ (fit : FitImagesBegin) (device : Device) (same_device : device ≡ files.device) (b : BegunAgain) (begun : BeginsAgain before files.trace files.failures device start b) where
        o : ModelOrigin
        o = origin_of b.board

        off : (state_of b.board).on ≡ false
        off = ap (λ (s : State). s.on) begun.state_is

        -- a run of what was prepared can go on
        pub can : CanGoOn before.program before.plan (state_of b.board)
        can =
            subst (λ (p : Checked). CanGoOn p before.plan (state_of b.board)) (sym is.program_is)
            (can_go_on layouts fit files before.chosen bytes start before.plan (state_of b.board) steady taken is.plan off
            (ap (λ (s : State). s.tick) begun.state_is ∙ begun.tick_is) (ap (λ (s : State). s.image) begun.state_is ∙ begun.image_is))

        module _ (engine : Engine) (board : ModelBoard) (end : End) (same : origin_of board ≡ origin_of b.board)
            (replayed : Ran before.program before.plan (saved_point before.plan.layout (state_of b.board)) end (state_of board))
            (reached : IsReached (origin_of board) (state_of board)) where
          abbrev pub ended : Resumed
          ended = record { from = b.from; replayed = record { prepared = record before { engine = engine }; given = false; board = board; end = end; shadow = b.shadow } }

          abbrev pub life : Life
          life = record { layout = before.plan.layout; origin = origin_of board; state = state_of board; end = end }

          image_is : (origin_of board).image ≡ start.image
          image_is = ap (λ (o : ModelOrigin). o.image) same ∙ begun.image_is

          state_is : state_of b.board ≡ first_state (origin_of board)
          state_is = begun.state_is ∙ ap first_state (sym same)

          image_now : (state_of b.board).image ≡ start.image
          image_now = ap (λ (s : State). s.image) begun.state_is ∙ begun.image_is

          point_is : saved_point before.plan.layout (state_of b.board) ≡ start_point (origin_of board) (committed_work start.image before.plan.layout)
          point_is = λ i. record { board = state_is i; work = work_of (committed_slot before.plan.layout (image_now i)); dirty = false }

          replayed' : Ran files.program before.plan (saved_point before.plan.layout (state_of b.board)) end (state_of board)
          replayed' = subst (λ (p : Checked). Ran p before.plan (saved_point before.plan.layout (state_of b.board)) end (state_of board)) is.program_is replayed

          goes_on : GoesOn files before.chosen start life
          goes_on =
              record {
                goes = goes_as files before.chosen before.plan (origin_of board) (committed_work start.image) (saved_point before.plan.layout (state_of b.board)) end (state_of board) is.plan
                    (ap (λ (o : ModelOrigin). o.trace) same ∙ begun.trace_is) (ap (λ (o : ModelOrigin). o.fails) same ∙ begun.fails_are)
                    (ap (λ (o : ModelOrigin). o.device) same ∙ begun.device_is ∙ same_device) point_is replayed' reached;
                tick_is = ap (λ (o : ModelOrigin). o.tick) same ∙ begun.tick_is;
                stored_is = ap (λ (o : ModelOrigin). o.stored) same ∙ begun.stored_is;
                image_is = image_is;
              }

          answer_is : resumed_answer ended ≡ rest_reported files before.chosen life
          answer_is =
              λ i. record {
                status = status_of end;
                text = resumed_text (is.program_is i).headers (is.program_is i).variables (sym given i) (is.forecast_is i) before.chosen (is.plan.arrivals_are i) (past_since life) (told_before life)
                    (state_of board).tick (state_of board).stored end;
              }

          pub rest_looks : going files bytes (Ok (resumed_answer ended))
          rest_looks =
              goes before.chosen chosen_is
              (goes start taken
              (goes life (record { x = life; holds = goes_on; came_is = refl }) (ap Ok answer_is)))

          first_told : IsTold before.program (past_since life)
          first_told =
              let at : IsTold before.program (record { layout = before.plan.layout; first = (state_of b.board).image; timeline = (state_of board).timeline }) =
              told before.program before.plan (saved_point before.plan.layout (state_of b.board)) end (state_of board) replayed (ap (λ (s : State). s.timeline) begun.state_is) in
              subst (λ (image : List ℕ). IsTold before.program (record { layout = before.plan.layout; first = image; timeline = (state_of board).timeline }))
              (ap (λ (s : State). s.image) state_is) at

          from_told : b.from ≡ told_before life
          unfolding committed_at image_at
          from_told = begun.from_is ∙ ap (λ (image : List ℕ). (committed_slot before.plan.layout image).len) (sym image_is)

          pub rest_told : CanTellRest ended
          rest_told =
              record {
                count = is.chosen.choices.count ∙ sym (ap (λ (rows : List Epoch). length rows) is.forecast_is);
                suits = subst (λ (p : Checked). All (Suits p) before.chosen) (sym is.program_is) is.chosen.suit;
                events = is.set_up.plan_is.queue ∙ ap (λ (p : Checked). length p.events) (sym is.program_is);
                words = is.plan.layout_is.words ∙ ap (λ (p : Checked). length p.words) (sym is.program_is);
                large = let size : length (origin_of board).image ≡ size_of before.plan.layout = ap (λ (image : List ℕ). length image) image_is ∙ whole in omega (arith, size);
                replayed = first_told;
                from_is = from_told;
                kept = subst (λ (image : List ℕ). HasKept before.plan.layout image b.shadow) (sym image_is) begun.kept;
                made = begun.made;
              }

-- ---- what has gone on

-- what it is, by its parts
ended_is : (before : Prepared) (b : BegunAgain) (r : Resumed) → HasGoneOn before b r
    → record { from = b.from; replayed = record { prepared = record before { engine = r.replayed.prepared.engine }; given = false; board = r.replayed.board; end = r.replayed.end; shadow = b.shadow } } ≡ r
ended_is before b r h =
    let from = sym h.from_is in
    let prepared = sym h.others in
    let shadow = sym h.shadow_is in
    let given = sym h.given_is in
    λ i. record { from = from i; replayed = record { prepared = prepared i; given = given i; board = r.replayed.board; end = r.replayed.end; shadow = shadow i } }

module _ (files : ReplayFiles) (before : Prepared) (is : IsPrepared files.program files.device files.arrivals files.forecast before) (given : files.given ≡ false)
    (steady : files.forecast ≡ steady_rows files.device) (c : Chosen) (alone_is : before.chosen ≡ c ∷ []) (bytes : List ℕ) (layouts : LayoutsAreNumbers) (start : Start)
    (looked : start_in (files_with before files.trace files.failures) before.chosen bytes (Ok start)) (fit : FitImagesBegin) (device : Device) (same_device : device ≡ files.device)
    (b : BegunAgain) (begun : BeginsAgain before files.trace files.failures device start b) (r : Resumed) (h : HasGoneOn before b r) where
  pub gone_looks : going files bytes (Ok (resumed_answer r))
  gone_looks =
      subst (λ (x : Resumed). going files bytes (Ok (resumed_answer x))) (ended_is before b r h)
      (rest_looks files before is given steady c alone_is bytes layouts start looked fit device same_device b begun r.replayed.prepared.engine r.replayed.board r.replayed.end h.same h.replayed h.reached)

  pub gone_told : CanTellRest r
  gone_told =
      subst CanTellRest (ended_is before b r h)
      (rest_told files before is given steady c alone_is bytes layouts start looked fit device same_device b begun r.replayed.prepared.engine r.replayed.board r.replayed.end h.same h.replayed h.reached)
