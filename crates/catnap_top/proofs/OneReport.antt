-- Files that tell the same call for the same lives, and the same is told of them.
use Rattle.std.proofs.Common.{◌≡◌, ℕ, List, length, map, None, replicate, refl, sym, ap, ◌∙◌, subst}
use Rattle.cat_program.specs.declared.headers.Event.{Event}
use Rattle.cat_program.specs.Checked.{Checked}
use Rattle.cat_machine.specs.Code.{code_of}
use Rattle.nv_memory.specs.declared.device.Device.{Device}
use Rattle.nv_memory.specs.declared.layout.Layout.{Layout}
use Rattle.recovery.specs.First.{IsFresh}
use Rattle.cat_program.specs.Resting.{RestsAt}
use Rattle.degradation.specs.declared.chosen.Chosen.{Chosen}
use Rattle.board_core.specs.Reached.{model_start}
use Rattle.cn_scheduler.specs.declared.plan.Plan.{Plan}
use Rattle.cn_scheduler.specs.Point.{Point, Work}
use Rattle.lawful_timeline.specs.Starting.{first_work}
use Rattle.cn_scheduler.specs.Chunks.{IsLawful, point_after}
use Rattle.cn_runtime.specs.Planned.{IsPlanFor, plan_rows}
use Rattle.forecast_table.specs.declared.epoch.Epoch.{Epoch}
use Rattle.recovery.specs.Past.{past_of}
use Rattle.cn_report.specs.Whole.{report_text, resumed_text}
use Rattle.same_program.specs.Same.{IsSame}
use Rattle.catnap_top.specs.declared.files.ReplayFiles.{ReplayFiles}
use Rattle.catnap_top.specs.Alike.{Agree, AreSameFiles, AreSameLived}
use Rattle.catnap_top.specs.Lives.{Goes, Life, Lived, Lives, reported, start_point, status_of}
use Rattle.catnap_top.specs.Resume.{GoesOn, Start, committed_work, going_on, past_since, rest_reported, told_before}
use Rattle.catnap_top.specs.Replay.{life_in}
use Rattle.cn_resume.specs.Saved.{saved_bytes}
use Rattle.catnap_top.specs.Image.{saved}
use Rattle.catnap_top.specs.Bench.{summary_text, summed}
use Rattle.cn_report.specs.Tallied.{tally_of}
use Rattle.catnap_top.proofs.Looks.{finding_agree}

abbrev pub SameCode : Type 0
SameCode = (p q : Checked) → IsSame p q → code_of p ≡ code_of q

module _ (code : SameCode) (x y : ReplayFiles) (same : AreSameFiles x y) where
  plan_same : (c : List Chosen) (plan : Plan) → IsPlanFor x.program x.device x.arrivals x.forecast c plan → IsPlanFor y.program y.device y.arrivals y.forecast c plan
  plan_same c plan is =
      let alike = same.program.same in
      record {
        code_is = is.code_is ∙ code x.program y.program alike;
        rows_are = is.rows_are ∙ ap (λ (rows : List Epoch). plan_rows rows c) same.forecast;
        wake_is = is.wake_is ∙ ap (λ (d : Device). d.wake.bound) same.device;
        arrivals_are = is.arrivals_are ∙ same.arrivals;
        deadlines_are = is.deadlines_are ∙ ap (λ (headers : List Event). map (λ (header : Event). header.deadline) headers) alike.headers;
        layout_is = record {
          words = is.layout_is.words ∙ ap (λ words. length words) alike.words;
          tasks = is.layout_is.tasks ∙ ap (λ tasks. length tasks) alike.tasks;
          events = is.layout_is.events ∙ ap (λ events. length events) alike.events;
          log = is.layout_is.log ∙ ap (λ (d : Device). d.log) same.device;
          format = is.layout_is.format;
          base = is.layout_is.base;
        };
      }

  fresh_same : (l : Layout) (image : List ℕ) → IsFresh x.program l image → IsFresh y.program l image
  fresh_same l image is =
      let alike = same.program.same in
      record {
        slot = is.slot;
        first = record {
          made = is.first.made;
          len = is.first.len;
          steps = is.first.steps;
          pc = is.first.pc;
          variables = is.first.variables ∙ alike.words;
          posts = is.first.posts ∙ alike.started;
          done = is.first.done;
        };
        image_is = is.image_is;
        committed = record {
          formed = is.committed.formed;
          slot_is = is.committed.slot_is;
          rests = subst (λ pc. RestsAt y.program pc None) (sym is.first.pc) tt;
          recorded = record {
            many = is.committed.recorded.many;
            entries_are = λ k e none. absurd (cc);
            counted = is.committed.recorded.counted;
          };
        };
      }

  -- from one working value
  goes_same : (c : List Chosen) (begun after : Layout → Work) (life : Life) → begun ≡ after → Goes x c begun life → Goes y c after life
  goes_same c begun after life equal is =
      let first : start_point life.origin (begun is.plan.layout) ≡ start_point life.origin (after is.plan.layout) = ap (λ (f : Layout → Work). start_point life.origin (f is.plan.layout)) equal in
      record {
        plan = is.plan;
        is_plan = plan_same c is.plan is.is_plan;
        layout_is = is.layout_is;
        trace_is = is.trace_is ∙ same.trace;
        fails_are = is.fails_are ∙ same.failures;
        device_is = is.device_is ∙ same.device;
        chunks = is.chunks;
        lawful = subst (λ (p : Point). IsLawful is.plan p is.chunks) first is.lawful;
        leads = subst (λ (p : Point). (point_after p is.chunks).board ≡ life.state) first is.leads;
        ends = is.ends;
        reached = is.reached;
      }

  first_same : first_work x.program ≡ first_work y.program
  first_same =
      let alike = same.program.same in
      λ i l. record { words = alike.words i; posts = alike.started i; place = None; len = 0; steps = 0; done = replicate l.events 0 }

  lives_same : (c : List Chosen) (life : Life) → Lives x c life → Lives y c life
  unfolding goes_same
  lives_same c life is =
      record {
        goes = goes_same c (first_work x.program) (first_work y.program) life first_same is.goes;
        at_first = is.at_first;
        stored_is = is.stored_is ∙ ap (λ (d : Device). d.start) same.device;
        fresh = fresh_same is.goes.plan.layout life.origin.image is.fresh;
      }

  rest_same : (c : List Chosen) (start : Start) (life : Life) → GoesOn x c start life → GoesOn y c start life
  rest_same c start life is =
      record {
        goes = goes_same c (committed_work start.image) (committed_work start.image) life refl is.goes;
        tick_is = is.tick_is;
        stored_is = is.stored_is;
        image_is = is.image_is;
      }

  -- where there is one life
  pub life_agrees : (c e : List Chosen) → ((a b : Life) → Lives y c a → Lives y c b → a ≡ b) → c ≡ e → Agree (λ (a b : Life). a ≡ b) (life_in x c) (life_in y e)
  life_agrees c e one equal =
      finding_agree (λ (a b : Life). a ≡ b) (Lives x c) (Lives y e)
      (λ a b h k. one a b (lives_same c a h) (subst (λ (v : List Chosen). Lives y v b) (sym equal) k))

  -- so it is where a life goes on
  pub rest_agrees : (c e : List Chosen) (start after : Start) → ((a b : Life) → GoesOn y c start a → GoesOn y c start b → a ≡ b) → c ≡ e → start ≡ after
      → Agree (λ (a b : Life). a ≡ b) (going_on x c start) (going_on y e after)
  rest_agrees c e start after one equal begun =
      finding_agree (λ (a b : Life). a ≡ b) (GoesOn x c start) (GoesOn y e after)
      (λ a b h k. one a b (rest_same c start a h) (subst (λ (v : List Chosen). GoesOn y v start b) (sym equal) (subst (λ (from : Start). GoesOn y e from b) (sym begun) k)))

-- ---- what is told of a life

pub reported_same : (a b : Lived) → AreSameLived a b → reported a.files a.chosen a.life ≡ reported b.files b.chosen b.life
reported_same a b same =
    let alike = same.files.program.same in
    let arrivals = same.files.arrivals in
    let chosen = same.chosen in
    let given = same.files.given in
    let rows = same.files.forecast in
    let life = same.life in
    λ i. record {
      status = status_of (life i).end;
      text = report_text (alike.headers i) (alike.variables i) (given i) (rows i) (chosen i) (arrivals i) (past_of (life i).layout (model_start (life i).origin) (life i).state)
          (life i).state.tick (life i).state.stored (life i).end;
    }

pub saved_same : (a b : Lived) → AreSameLived a b → saved a ≡ saved b
saved_same a b same = ap (λ life. record { status = status_of life.end; text = saved_bytes life.state }) same.life

pub summed_same : (size : ℕ) (a b : Lived) → AreSameLived a b → summed size a ≡ summed size b
summed_same size a b same =
    let headers = same.files.program.same.headers in
    let arrivals = same.files.arrivals in
    let life = same.life in
    λ i. record {
      status = status_of (life i).end;
      text = summary_text size (life i).state.tick (tally_of (headers i) (arrivals i) (past_of (life i).layout (model_start (life i).origin) (life i).state))
          (life i).state.stored (life i).end;
    }

pub rest_reported_same : (x y : ReplayFiles) (c e : List Chosen) (a b : Life) → AreSameFiles x y → c ≡ e → a ≡ b → rest_reported x c a ≡ rest_reported y e b
rest_reported_same x y c e a b same chosen life =
    let alike = same.program.same in
    let arrivals = same.arrivals in
    let given = same.given in
    let rows = same.forecast in
    λ i. record {
      status = status_of (life i).end;
      text = resumed_text (alike.headers i) (alike.variables i) (given i) (rows i) (chosen i) (arrivals i) (past_since (life i)) (told_before (life i))
          (life i).state.tick (life i).state.stored (life i).end;
    }
