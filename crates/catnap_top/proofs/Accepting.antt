-- What a life leaves is accepted.
use Rattle.std.proofs.Common.{◌≡◌, ◌≤◌, ℕ, List, [], ◌∷◌, append-nil, length, None, Ok, refl, sym, ap, ◌∙◌, subst, arith}
use Rattle.board_core.specs.Reached.{first_state}
use Rattle.board_core.specs.declared.origin.ModelOrigin.{ModelOrigin}
use Rattle.cn_resume.specs.Fit.{IsFit}
use Rattle.cn_resume.specs.Saved.{saved_bytes}
use Rattle.cn_scheduler.specs.Chunks.{IsLawful, Link}
use Rattle.cn_scheduler.specs.Point.{Point, Work}
use Rattle.cn_scheduler.specs.declared.plan.Plan.{Plan}
use Rattle.cn_runtime.specs.Planned.{IsPlanFor}
use Rattle.cn_runtime.specs.Steady.{IsSteadyPlan, steady_rows}
use Rattle.degradation.specs.declared.chosen.Chosen.{Chosen}
use Rattle.forecast_table.specs.declared.epoch.Epoch.{Epoch}
use Rattle.harvest_trace.specs.Timeline.{life_of}
use Rattle.lawful_timeline.specs.Starting.{first_work, saved_point}
use Rattle.lawful_timeline.specs.Working.{IsSetUp}
use Rattle.nv_memory.specs.Board.{State}
use Rattle.nv_memory.specs.Laws.{LayoutsAreNumbers}
use Rattle.nv_memory.specs.declared.device.Device.{Device}
use Rattle.nv_memory.specs.declared.layout.Layout.{Layout}
use Rattle.resumed_runs.specs.Files.{LeadsTo, SavedImagesFit, purpose_for}
use Rattle.catnap_top.specs.declared.files.ReplayFiles.{ReplayFiles}
use Rattle.catnap_top.specs.Accepted.{ImagesAreAccepted, IsAccepted}
use Rattle.catnap_top.specs.Lives.{Goes, Life, Lives, start_point}
use Rattle.catnap_top.specs.Look.{fits}
use Rattle.catnap_top.specs.Replay.{versions_for}
use Rattle.catnap_top.specs.Served.{Serves}
use Rattle.catnap_top.specs.Resume.{GoesOn, Start, committed_work, start_for, start_in}
use Rattle.catnap_top.proofs.HeadlineDeadlines.{some_ticks}
use Rattle.catnap_top.proofs.HeadlineFiles.{LowerLaws, by_gives, is_set_up, steady_files, tells_files}
use Rattle.catnap_top.proofs.Resuming.{alone, is_fit, is_start, one}
use Rattle.catnap_top.proofs.Ticks.{Keeps, points_keep}

-- ---- where a life leads

module _ (files : ReplayFiles) (chosen : List Chosen) (begun : Layout → Work) (life : Life) (goes : Goes files chosen begun life) where
  keeps : Keeps (first_state life.origin) life.state
  keeps =
      subst (λ (s : State). Keeps (first_state life.origin) s) goes.leads
      (points_keep goes.plan (start_point life.origin (begun goes.plan.layout)) goes.chunks []
      (subst (λ (cs : List Link). IsLawful goes.plan (start_point life.origin (begun goes.plan.layout)) cs) (sym (append-nil goes.chunks)) goes.lawful))

  life_is : life.state.life ≡ life_of files.trace
  life_is = keeps.life ∙ ap life_of goes.trace_is

  leads_to : LeadsTo files.device goes.plan (start_point life.origin (begun goes.plan.layout)) life.state
  leads_to =
      let o : ModelOrigin = life.origin in
      let cap : life.state.cap ≡ o.device.cap = keeps.cap in
      let same : o.device.cap ≡ files.device.cap = ap (λ (d : Device). d.cap) goes.device_is in
      let stored : life.state.stored ≤ life.state.cap = keeps.in_cap o.in_cap in
      let range : life.state.life ≡ life_of o.trace = keeps.life in
      record {
        chunks = goes.chunks;
        lawful = goes.lawful;
        leads = goes.leads;
        takes_time = some_ticks o.device;
        in_life = keeps.in_life o.in_life;
        life_in_range = omega (arith, range, o.life_in_range);
        in_cap = omega (arith, cap, same, stored);
      }

-- ---- what it leaves

accepted : (files : ReplayFiles) (chosen : List Chosen) (begun : Layout → Work) (life : Life) (goes : Goes files chosen begun life) (one : Chosen) → chosen ≡ one ∷ []
    → IsFit (purpose_for files.program one files.arrivals goes.plan.layout files.device life.state.life) (saved_bytes life.state) → IsAccepted files chosen life
accepted files chosen begun life goes one alone fit =
    fits (start_for (saved_bytes life.state))
    (record {
      one = one;
      alone = alone;
      l = goes.plan.layout;
      layout = goes.is_plan.layout_is;
      verdict = (
        subst (λ (n : ℕ). IsFit (purpose_for files.program one files.arrivals goes.plan.layout files.device n) (saved_bytes life.state)) (life_is files chosen begun life goes) fit,
        refl,
      );
    })
    refl

-- the plan of the one choice for what the profile says
steady_plan : (files : ReplayFiles) (chosen : List Chosen) (one : Chosen) (plan : Plan) → files.forecast ≡ steady_rows files.device → chosen ≡ one ∷ []
    → IsPlanFor files.program files.device files.arrivals files.forecast chosen plan → IsSteadyPlan files.program files.device files.arrivals one plan
steady_plan files chosen c plan steady only is =
    subst (λ (found : List Chosen). IsPlanFor files.program files.device files.arrivals (steady_rows files.device) found plan) only
    (subst (λ (rows : List Epoch). IsPlanFor files.program files.device files.arrivals rows chosen plan) steady is)

-- for one row there is one choice
one_of : (chosen : List Chosen) → length chosen ≡ 1 → (one : Chosen) × (chosen ≡ one ∷ [])
one_of [] e = absurd (omega (arith, e))
one_of (c ∷ []) e = (c, refl)
one_of (c ∷ d ∷ more) e = absurd (omega (arith, e))

chosen_one : (files : ReplayFiles) (chosen : List Chosen) → files.forecast ≡ steady_rows files.device → versions_for files (Ok chosen) → (one : Chosen) × (chosen ≡ one ∷ [])
chosen_one files chosen steady served =
    let serves : Serves files.program files.device files.forecast (Ok chosen) = by_gives _ _ chosen served in
    one_of chosen (serves.choices.count ∙ ap (λ (rows : List Epoch). length rows) steady)

module _ (laws : LowerLaws) (layouts : LayoutsAreNumbers) (saved : SavedImagesFit) where
  fresh_accepted : (files : ReplayFiles) (chosen : List Chosen) (life : Life) → files.forecast ≡ steady_rows files.device → versions_for files (Ok chosen) → (lives : Lives files chosen life) → IsSetUp files.program lives.goes.plan → IsAccepted files chosen life
  fresh_accepted files chosen life steady served lives up =
      let goes = lives.goes in
      let one = chosen_one files chosen steady served in
      let p : Point = start_point life.origin (first_work files.program goes.plan.layout) in
      accepted files chosen (first_work files.program) life goes one.0 one.1
      (saved.fresh files.program files.device files.arrivals one.0 goes.plan p life.state (steady_plan files chosen one.0 goes.plan steady one.1 goes.is_plan) up (record { fresh = lives.fresh; off = refl; clean = refl; work_is = refl })
      (leads_to files chosen (first_work files.program) life goes))

  rest_accepted : (files : ReplayFiles) (chosen : List Chosen) (image : List ℕ) (start : Start) (life : Life) → files.forecast ≡ steady_rows files.device → start_in files chosen image (Ok start)
      → (goes_on : GoesOn files chosen start life) → IsSetUp files.program goes_on.goes.plan → IsAccepted files chosen life
  rest_accepted files chosen image start life steady looked goes_on up =
      let goes = goes_on.goes in
      let c : Chosen = one layouts files chosen image start looked in
      let alone_is : chosen ≡ c ∷ [] = alone layouts files chosen image start looked in
      let same : start ≡ start_for image = is_start layouts files chosen image start looked in
      let first : State = first_state life.origin in
      let point : start_point life.origin (committed_work start.image goes.plan.layout) ≡ saved_point goes.plan.layout first =
      ap (λ (image : List ℕ). start_point life.origin (committed_work image goes.plan.layout)) (sym goes_on.image_is) in
      accepted files chosen (committed_work start.image) life goes c alone_is
      (saved.resumed files.program files.device files.arrivals c goes.plan (life_of files.trace) image first life.state (steady_plan files chosen c goes.plan steady alone_is goes.is_plan) up
      (is_fit layouts files chosen image start looked goes.plan.layout goes.is_plan.layout_is)
      (record {
        off = refl;
        tick = goes_on.tick_is ∙ ap (λ (s : Start). s.tick) same;
        image = goes_on.image_is ∙ ap (λ (s : Start). s.image) same;
      })
      (subst (λ (p : Point). LeadsTo files.device goes.plan p life.state) point (leads_to files chosen (committed_work start.image) life goes)))

  pub images_are_accepted : ImagesAreAccepted
  images_are_accepted =
      record {
        lives = λ source profile trace arrivals failures files chosen life told served lives.
            fresh_accepted files chosen life (steady_files source profile trace arrivals failures files told).0 served lives
            (is_set_up laws source arrivals files (tells_files laws.forecasts source profile trace arrivals failures None files told) chosen lives.goes.plan served lives.goes.is_plan);
        rests = λ source profile trace arrivals failures image files chosen start life told served looked goes_on.
            rest_accepted files chosen image start life (steady_files source profile trace arrivals failures files told).0 looked goes_on
            (is_set_up laws source arrivals files (tells_files laws.forecasts source profile trace arrivals failures None files told) chosen goes_on.goes.plan served goes_on.goes.is_plan);
      }
