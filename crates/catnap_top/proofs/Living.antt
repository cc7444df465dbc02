-- What a replay that has ended tells.
use Rattle.std.proofs.Common.{◌≡◌, ℕ, ◌*◌, arith, replicate, List, [], ◌++◌, length, take, Ok, refl, sym, ap, ◌∙◌, subst, le_refl}
use Rattle.cat_program.specs.Checked.{Checked}
use Rattle.harvest_trace.specs.declared.failures.Failure.{Failure}
use Rattle.harvest_trace.specs.declared.row.TraceRow.{TraceRow}
use Rattle.nv_memory.specs.declared.device.Device.{Device}
use Rattle.nv_memory.specs.declared.entry.Entry.{Entry}
use Rattle.nv_memory.specs.declared.layout.Layout.{Layout}
use Rattle.nv_memory.specs.Board.{State, image_by}
use Rattle.nv_memory.specs.Laws.{PartsAreApart, WritesAreLocal}
use Rattle.nv_memory.specs.Layout.{lines_of, size_of, slot_at}
use Rattle.checkpoint_slots.specs.declared.slot.Slot.{Slot}
use Rattle.checkpoint_slots.specs.Slot.{spelling}
use Rattle.std.proofs.lemmas.List.{length-replicate}
use Rattle.recovery.specs.First.{IsFresh}
use Rattle.recovery.specs.Committed.{IsCommitted}
use Rattle.degradation.specs.declared.chosen.Chosen.{Chosen}
use Rattle.degradation.specs.Choice.{Suits}
use Rattle.forecast_table.specs.declared.epoch.Epoch.{Epoch}
use Rattle.std.specs.Prelude.{Bool, All}
use Rattle.degradation.specs.Placed.{IsLayoutOf}
use Rattle.board_core.specs.declared.origin.ModelOrigin.{ModelOrigin}
use Rattle.board_core.specs.Reached.{IsReached, first_state, model_start}
use Rattle.cn_scheduler.specs.declared.engine.End.{End}
use Rattle.cn_scheduler.specs.declared.plan.Plan.{Plan}
use Rattle.cn_scheduler.specs.declared.engine.Engine.{Engine}
use Rattle.cn_scheduler.specs.EnginePoint.{point_of}
use Rattle.cn_scheduler.specs.Point.{Point, Work}
use Rattle.cn_scheduler.specs.Chunks.{entries_of}
use Rattle.cn_runtime.specs.declared.refused.PrepareFault.{PrepareFault}
use Rattle.cn_runtime.specs.declared.refused.PrepareFault.TheVariants as prepare
use Rattle.lawful_timeline.specs.Claims.{IsReplayed}
use Rattle.lawful_timeline.specs.Starting.{first_work}
use Rattle.cn_runtime.specs.Planned.{IsChosenFor, IsPlanFor, IsPrepared, IsRefused}
use Rattle.cn_runtime.specs.declared.prepared.Prepared.{Prepared}
use Rattle.checkpoint_slots.specs.Slot.{IsMadeFor}
use Rattle.board_core.specs.declared.model_board.ModelBoard.{ModelBoard}
use Rattle.board_core.specs.ModelBoardState.{origin_of, state_of}
use Rattle.cn_report.specs.declared.shadow.Shadow.{Shadow}
use Rattle.recovery.specs.Past.{image_at, past_of}
use Rattle.cn_report.specs.Whole.{IsReplayed as IsTold}
use Rattle.catnap_top.specs.declared.files.ReplayFiles.{ReplayFiles}
use Rattle.catnap_top.specs.declared.fault.NoChoice.TheVariants as none
use Rattle.catnap_top.specs.Look.{Stops, fits, fails, goes}
use Rattle.catnap_top.specs.Lives.{Goes, Life, Lives, start_point}
use Rattle.catnap_top.specs.Served.{versions_in, stop_of_replay}
use Rattle.catnap_top.specs.declared.replay.Replayed.{Replayed}
use Rattle.catnap_top.specs.Replay.{living}
use Rattle.catnap_top.specs.Replayed.{lived_of, HasEnded, IsReadyToTell}

-- ---- the versions

pub replay_stops : (p : Checked) (d : Device) (given : Bool) (rows : List Epoch) (f : PrepareFault) → IsRefused p d rows f → Stops (versions_in p d given rows) (stop_of_replay given f)
replay_stops p d given rows (prepare.WindowTooLong number spacing) h =
    fails (number, none.Window spacing) (record { l = h.layout; b = h.bounds; layout = h.is_layout; bounds = h.are_bounds; choices = h.refused }) refl
replay_stops p d given rows (prepare.Rejected number verdict) h =
    fails (number, none.Rejected verdict) (record { l = h.layout; b = h.bounds; layout = h.is_layout; bounds = h.are_bounds; choices = h.refused }) refl
replay_stops p d given rows prepare.NoMemory h = tt

pub chosen_in : (p : Checked) (d : Device) (given : Bool) (rows : List Epoch) (l : Layout) (chosen : List Chosen) → IsLayoutOf p d l → IsChosenFor p d l rows chosen
    → versions_in p d given rows (Ok chosen)
chosen_in p d given rows l chosen layout is =
    fits chosen (record { l = l; b = is.bounds; layout = layout; bounds = is.are_bounds; choices = is.choices }) refl

-- ---- the report

-- at first and after the last entry the image stands for a run's moment, so it has committed a value
pub told : (p : Checked) (plan : Plan) (start : Point) (end : End) (s : State) → IsReplayed p plan start end s → start.board.timeline ≡ []
    → IsTold p (record { layout = plan.layout; first = start.board.image; timeline = s.timeline })
unfolding image_at
told p plan start end s is none =
    let es : List Entry = entries_of is.chunks in
    let whole : s.timeline ≡ es = ap (λ (t : State). t.timeline) (sym is.leads) ∙ is.holds.timeline ∙ ap (λ (t : List Entry). t ++ es) none in
    let begun = is.holds.images 0 (omega arith) in
    let last = is.holds.images (length es) (le_refl _) in
    record {
      begun = begun.1.value;
      is_begun = begun.1.committed;
      value = last.1.value;
      committed = subst (λ image. IsCommitted plan.layout p image last.1.value)
          (sym (ap (λ (t : List Entry). image_by (take (length t) t) start.board.image) whole)) last.1.committed;
    }

-- a lawful timeline that a board came to by its rules is one of what the files call for
pub goes_as : (files : ReplayFiles) (chosen : List Chosen) (plan : Plan) (origin : ModelOrigin) (begun : Layout → Work) (start : Point) (end : End) (s : State)
    → IsPlanFor files.program files.device files.arrivals files.forecast chosen plan → origin.trace ≡ files.trace → origin.fails ≡ files.failures → origin.device ≡ files.device
    → start ≡ start_point origin (begun plan.layout) → IsReplayed files.program plan start end s → IsReached origin s
    → Goes files chosen begun (record { layout = plan.layout; origin = origin; state = s; end = end })
goes_as files chosen plan origin begun start end s is_plan trace failing device first is reached =
    let is' : IsReplayed files.program plan (start_point origin (begun plan.layout)) end s = subst (λ (p : Point). IsReplayed files.program plan p end s) first is in
    record {
      plan = plan;
      is_plan = is_plan;
      layout_is = refl;
      trace_is = trace;
      fails_are = failing;
      device_is = device;
      chunks = is'.chunks;
      lawful = is'.lawful;
      leads = is'.leads;
      ends = is'.ends;
      reached = reached;
    }

-- ---- a replay that has ended

module _ (files : ReplayFiles) (before : Prepared) (engine : Engine) (o0 : ModelOrigin) (s0 : State) (board : ModelBoard) (end : End) (shadow : Shadow)
    (is : IsPrepared files.program files.device files.arrivals files.forecast before) (same : origin_of board ≡ o0) (begins : s0 ≡ first_state o0)
    (trace : o0.trace ≡ files.trace) (failing : o0.fails ≡ files.failures) (device : o0.device ≡ files.device) (tick : o0.tick ≡ 0) (stored : o0.stored ≡ files.device.start)
    (fresh : IsFresh before.program before.plan.layout o0.image) (replayed : IsReplayed before.program before.plan (point_of before.engine s0) end (state_of board))
    (reached : IsReached (origin_of board) (state_of board)) (made : IsMadeFor before.plan.layout shadow.slot) where
  first : point_of before.engine s0 ≡ start_point (origin_of board) (first_work files.program before.plan.layout)
  first =
      let board_is : s0 ≡ first_state (origin_of board) = begins ∙ ap first_state (sym same) in
      λ i. record { board = board_is i; work = is.first.work i; dirty = is.first.clean i }

  fresh' : IsFresh files.program before.plan.layout (origin_of board).image
  fresh' =
      subst (λ (p : Checked). IsFresh p before.plan.layout (origin_of board).image) is.program_is
      (subst (λ (o : ModelOrigin). IsFresh before.program before.plan.layout o.image) (sym same) fresh)

  replayed' : IsReplayed files.program before.plan (point_of before.engine s0) end (state_of board)
  replayed' = subst (λ (p : Checked). IsReplayed p before.plan (point_of before.engine s0) end (state_of board)) is.program_is replayed

  one_life : Lives files before.chosen (record { layout = before.plan.layout; origin = origin_of board; state = state_of board; end = end })
  unfolding goes_as
  one_life =
      record {
        goes = goes_as files before.chosen before.plan (origin_of board) (first_work files.program) (point_of before.engine s0) end (state_of board) is.plan
            (ap (λ (o : ModelOrigin). o.trace) same ∙ trace) (ap (λ (o : ModelOrigin). o.fails) same ∙ failing) (ap (λ (o : ModelOrigin). o.device) same ∙ device)
            first replayed' reached;
        at_first = ap (λ (o : ModelOrigin). o.tick) same ∙ tick;
        stored_is = ap (λ (o : ModelOrigin). o.stored) same ∙ stored;
        fresh = fresh';
      }

  pub looks : living files (Ok (lived_of (record { prepared = record before { engine = engine }; given = files.given; board = board; end = end; shadow = shadow })))
  looks =
      let traced : (origin_of board).trace ≡ files.trace = ap (λ (o : ModelOrigin). o.trace) same ∙ trace in
      let failed : (origin_of board).fails ≡ files.failures = ap (λ (o : ModelOrigin). o.fails) same ∙ failing in
      let life : Life = record { layout = before.plan.layout; origin = origin_of board; state = state_of board; end = end } in
      goes before.chosen (chosen_in files.program files.device files.given files.forecast before.plan.layout before.chosen is.plan.layout_is is.chosen)
      (goes life (record { x = life; holds = one_life; came_is = refl })
      (λ i. Ok (record {
        files = record { program = is.program_is i; device = is.device_is i; trace = traced i; arrivals = is.plan.arrivals_are i; failures = failed i; given = files.given; forecast = is.forecast_is i };
        chosen = before.chosen;
        life = life;
      })))

  pub ready : IsReadyToTell (record { prepared = record before { engine = engine }; given = files.given; board = board; end = end; shadow = shadow })
  ready =
      let back = sym is.program_is in
      record {
        count = is.chosen.choices.count ∙ sym (ap (λ (rows : List Epoch). length rows) is.forecast_is);
        suits = subst (λ (p : Checked). All (Suits p) before.chosen) back is.chosen.suit;
        events = is.set_up.plan_is.queue ∙ ap (λ (p : Checked). length p.events) back;
        fresh = subst (λ (p : Checked). IsFresh p before.plan.layout (origin_of board).image) back fresh';
        replayed = subst (λ (p : Checked). IsTold p (past_of before.plan.layout (model_start (origin_of board)) (state_of board))) back
            (told files.program before.plan (start_point (origin_of board) (first_work files.program before.plan.layout)) end (state_of board)
            (subst (λ (p : Point). IsReplayed files.program before.plan p end (state_of board)) first replayed') refl);
        made = made;
      }

-- what has ended is what the files call for, and can be told
tells : (r : Replayed) (files : ReplayFiles) (before : Prepared) (trace : List TraceRow) (failures : List Failure) (device : Device)
    → IsPrepared files.program files.device files.arrivals files.forecast before → trace ≡ files.trace → failures ≡ files.failures → device ≡ files.device
    → HasEnded before files.given trace failures device r → (living files (Ok (lived_of r))) × IsReadyToTell r
tells r files before trace failures device is t f d h =
    let b = h.begun in
    let stored : (origin_of h.first).stored ≡ files.device.start = b.stored_is ∙ ap (λ (x : Device). x.start) d in
    let l = looks files before r.prepared.engine (origin_of h.first) (state_of h.first) r.board r.end r.shadow is h.same b.state_is (b.trace_is ∙ t) (b.fails_are ∙ f)
    (b.device_is ∙ d) b.tick_is stored b.fresh h.replayed h.reached h.made in
    let w = ready files before r.prepared.engine (origin_of h.first) (state_of h.first) r.board r.end r.shadow is h.same b.state_is (b.trace_is ∙ t) (b.fails_are ∙ f)
    (b.device_is ∙ d) b.tick_is stored b.fresh h.replayed h.reached h.made in
    let back : (record before { engine = r.prepared.engine }) ≡ r.prepared = sym h.others in
    let given : files.given ≡ r.given = sym h.given_is in
    let whole : record { prepared = record before { engine = r.prepared.engine }; given = files.given; board = r.board; end = r.end; shadow = r.shadow } ≡ r =
    λ i. record { prepared = back i; given = given i; board = r.board; end = r.end; shadow = r.shadow } in
    (subst (λ (x : Replayed). living files (Ok (lived_of x))) whole l, subst IsReadyToTell whole w)

pub tells_looks : (r : Replayed) (files : ReplayFiles) (before : Prepared) (trace : List TraceRow) (failures : List Failure) (device : Device)
    → IsPrepared files.program files.device files.arrivals files.forecast before → trace ≡ files.trace → failures ≡ files.failures → device ≡ files.device
    → HasEnded before files.given trace failures device r → living files (Ok (lived_of r))
tells_looks r files before trace failures device is t f d h = (tells r files before trace failures device is t f d h).0

pub tells_written : (r : Replayed) (files : ReplayFiles) (before : Prepared) (trace : List TraceRow) (failures : List Failure) (device : Device)
    → IsPrepared files.program files.device files.arrivals files.forecast before → trace ≡ files.trace → failures ≡ files.failures → device ≡ files.device
    → HasEnded before files.given trace failures device r → IsReadyToTell r
tells_written r files before trace failures device is t f d h = (tells r files before trace failures device is t f d h).1

-- ---- the first image

pub fresh_size : (p : Checked) (l : Layout) → WritesAreLocal → PartsAreApart l → ((s : Slot) → length (spelling l s) ≡ 64 * lines_of l) → (image : List ℕ) → IsFresh p l image
    → length image ≡ size_of l
fresh_size p l writes parts long image fresh =
    let zeros : length (replicate (size_of l) 0) ≡ size_of l = length-replicate (size_of l) 0 in
    let bytes = long fresh.slot in
    ap length fresh.image_is
    ∙ writes.size (slot_at l 0) (spelling l fresh.slot) (replicate (size_of l) 0) (omega (arith, zeros, bytes, parts.log 0 (omega arith), parts.fits)) ∙ zeros
