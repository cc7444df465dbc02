-- Files and versions call for one life.
use Rattle.std.proofs.Common.{◌≡◌, ◌≤◌, ℕ, List, true, refl, sym, ap, ◌∙◌, subst}
use Rattle.std.proofs.Math.Path.{PathP, to_path_p}
use Rattle.std.specs.Coded.{le_prop}
use Rattle.cn_base.specs.declared.TheConstants.{MOST_TICKS}
use Rattle.cat_program.specs.Checked.{Checked}
use Rattle.harvest_trace.specs.Timeline.{life_of}
use Rattle.nv_memory.specs.Board.{State}
use Rattle.nv_memory.specs.Laws.{LayoutsAreNumbers}
use Rattle.nv_memory.specs.declared.device.Device.{Device}
use Rattle.nv_memory.specs.declared.layout.Layout.{Layout}
use Rattle.recovery.specs.First.{IsFresh}
use Rattle.recovery.specs.Laws.{FirstImageIsOne}
use Rattle.event_arrivals.specs.Arrivals.{Lists}
use Rattle.degradation.specs.declared.chosen.Chosen.{Chosen}
use Rattle.forecast_table.specs.declared.epoch.Epoch.{Epoch}
use Rattle.board_core.specs.declared.origin.ModelOrigin.{ModelOrigin}
use Rattle.board_core.specs.Laws.{RulesDecide}
use Rattle.cn_scheduler.specs.declared.plan.Plan.{Plan}
use Rattle.cn_scheduler.specs.declared.engine.Chunk.{Chunk}
use Rattle.cn_scheduler.specs.declared.engine.End.{End}
use Rattle.cn_scheduler.specs.declared.engine.End.TheVariants.{TraceEnded, LogFull}
use Rattle.cn_scheduler.specs.Chunks.{is_last}
use Rattle.cn_scheduler.specs.Point.{Work}
use Rattle.lawful_timeline.specs.Claims.{Begins, EndsAs, last_outcome}
use Rattle.lawful_timeline.specs.Starting.{StartsBelong, first_work}
use Rattle.lawful_timeline.specs.Working.{IsSetUp}
use Rattle.one_timeline.specs.One.{EndsAlike, HasEnded}
use Rattle.cn_runtime.specs.Planned.{IsPlanFor}
use Rattle.catnap_top.specs.declared.files.ReplayFiles.{ReplayFiles}
use Rattle.catnap_top.specs.Lives.{Goes, Life, Lives, start_point}
use Rattle.catnap_top.specs.Resume.{GoesOn, Start, committed_work}

-- what the layers below promise of layouts, first images, boards and timelines
pub record OneLaws : Type 0 where
  pub layouts : LayoutsAreNumbers
  pub images : FirstImageIsOne
  pub rules : (o : ModelOrigin) → RulesDecide o
  pub starts : (program : Checked) (plan : Plan) → StartsBelong program plan
  pub ends : (program : Checked) (plan : Plan) (o : ModelOrigin) → EndsAlike program plan o

le_path : (a b c d : ℕ) (e : a ≡ c) (f : b ≡ d) (h : a ≤ b) (k : c ≤ d) → PathP (λ i. e i ≤ f i) h k
le_path a b c d e f h k = to_path_p (λ i. e i ≤ f i) (le_prop _ k)

-- ---- how they end

end_last : (end : End) (outcome : Chunk) → EndsAs end outcome → is_last outcome ≡ true
end_last TraceEnded outcome ends = ap is_last ends
end_last LogFull outcome ends = ap is_last ends

end_same : (a b : End) (one other : Chunk) → one ≡ other → EndsAs a one → EndsAs b other → a ≡ b
end_same TraceEnded TraceEnded one other same x y = refl
end_same TraceEnded LogFull one other same x y = absurd (cc)
end_same LogFull TraceEnded one other same x y = absurd (cc)
end_same LogFull LogFull one other same x y = refl

-- ---- where they begin

module _ (laws : OneLaws) where
  plan_one : (program : Checked) (device : Device) (arrivals : Lists) (forecast : List Epoch) (chosen : List Chosen) (a b : Plan) → IsPlanFor program device arrivals forecast chosen a
      → IsPlanFor program device arrivals forecast chosen b → a ≡ b
  plan_one program device arrivals forecast chosen a b x y =
      let code : a.code ≡ b.code = x.code_is ∙ sym y.code_is in
      let rows : a.rows ≡ b.rows = x.rows_are ∙ sym y.rows_are in
      let wake : a.wake_units ≡ b.wake_units = x.wake_is ∙ sym y.wake_is in
      let lists : a.queue.arrivals ≡ b.queue.arrivals = x.arrivals_are ∙ sym y.arrivals_are in
      let deadlines : a.queue.deadlines ≡ b.queue.deadlines = x.deadlines_are ∙ sym y.deadlines_are in
      let layout : a.layout ≡ b.layout = laws.layouts a.layout b.layout (x.layout_is.words ∙ sym y.layout_is.words) (x.layout_is.tasks ∙ sym y.layout_is.tasks) (x.layout_is.events ∙ sym y.layout_is.events) (x.layout_is.log ∙ sym y.layout_is.log) (x.layout_is.format ∙ sym y.layout_is.format) (x.layout_is.base ∙ sym y.layout_is.base) in
      λ i. record { code = code i; rows = rows i; wake_units = wake i; queue = record { arrivals = lists i; deadlines = deadlines i }; layout = layout i }

  origin_one : (a b : ModelOrigin) → a.trace ≡ b.trace → a.fails ≡ b.fails → a.device ≡ b.device → a.tick ≡ b.tick → a.stored ≡ b.stored → a.image ≡ b.image → a ≡ b
  origin_one a b trace fails device tick stored image =
      let life : life_of a.trace ≡ life_of b.trace = ap life_of trace in
      let cap : a.device.cap ≡ b.device.cap = ap (λ (d : Device). d.cap) device in
      λ i. record {
        trace = trace i;
        fails = fails i;
        device = device i;
        tick = tick i;
        stored = stored i;
        image = image i;
        life_in_range = le_path (life_of a.trace) MOST_TICKS (life_of b.trace) MOST_TICKS life refl a.life_in_range b.life_in_range i;
        in_life = le_path a.tick (life_of a.trace) b.tick (life_of b.trace) tick life a.in_life b.in_life i;
        in_cap = le_path a.stored a.device.cap b.stored b.device.cap stored cap a.in_cap b.in_cap i;
      }

  -- ---- one life

  abbrev EndedAt : Plan → ModelOrigin → Work → Chunk → State → Type 0
  EndedAt plan origin work outcome state = HasEnded plan origin (start_point origin work) outcome state

  module _ (files : ReplayFiles) (chosen : List Chosen) (begun : Layout → Work) where
    ended_at : (life : Life) (x : Goes files chosen begun life) → EndedAt x.plan life.origin (begun x.plan.layout) (last_outcome x.chunks) life.state
    ended_at life x = record { chunks = x.chunks; lawful = x.lawful; leads = x.leads; ends = refl; last = end_last life.end (last_outcome x.chunks) x.ends; reached = x.reached }

    plans : (a b : Life) (x : Goes files chosen begun a) (y : Goes files chosen begun b) → x.plan ≡ y.plan
    plans a b x y = plan_one files.program files.device files.arrivals files.forecast chosen x.plan y.plan x.is_plan y.is_plan

    -- from one board, and one working value from which it begins
    goes_one : (a b : Life) (x : Goes files chosen begun a) (y : Goes files chosen begun b) → ((plan : Plan) → IsPlanFor files.program files.device files.arrivals files.forecast chosen plan → IsSetUp files.program plan)
        → a.origin ≡ b.origin → Begins files.program x.plan (start_point a.origin (begun x.plan.layout)) → a ≡ b
    goes_one a b x y set_up origin begins =
        let plan = plans a b x y in
        let other : EndedAt x.plan a.origin (begun x.plan.layout) (last_outcome y.chunks) b.state =
        subst (λ (o : ModelOrigin). EndedAt x.plan o (begun x.plan.layout) (last_outcome y.chunks) b.state) (sym origin)
        (subst (λ (p : Plan). EndedAt p b.origin (begun p.layout) (last_outcome y.chunks) b.state) (sym plan) (ended_at b y)) in
        let p = start_point a.origin (begun x.plan.layout) in
        let same = laws.ends files.program x.plan a.origin p (last_outcome x.chunks) (last_outcome y.chunks) a.state b.state (set_up x.plan x.is_plan) begins (laws.rules a.origin).first (ended_at a x) other in
        let layout : a.layout ≡ b.layout = x.layout_is ∙ ap (λ (p : Plan). p.layout) plan ∙ sym y.layout_is in
        let end : a.end ≡ b.end = end_same a.end b.end (last_outcome x.chunks) (last_outcome y.chunks) same.0 x.ends y.ends in
        λ i. record { layout = layout i; origin = origin i; state = same.1 i; end = end i }

  pub life_one : (files : ReplayFiles) (chosen : List Chosen) (a b : Life) → ((plan : Plan) → IsPlanFor files.program files.device files.arrivals files.forecast chosen plan → IsSetUp files.program plan)
      → Lives files chosen a → Lives files chosen b → a ≡ b
  life_one files chosen a b set_up h k =
      let x = h.goes in
      let y = k.goes in
      let plan : x.plan ≡ y.plan = plans files chosen (first_work files.program) a b x y in
      let image : a.origin.image ≡ b.origin.image =
      laws.images files.program x.plan.layout a.origin.image b.origin.image h.fresh (subst (λ (p : Plan). IsFresh files.program p.layout b.origin.image) (sym plan) k.fresh) in
      let origin : a.origin ≡ b.origin =
      origin_one a.origin b.origin (x.trace_is ∙ sym y.trace_is) (x.fails_are ∙ sym y.fails_are) (x.device_is ∙ sym y.device_is) (h.at_first ∙ sym k.at_first) (h.stored_is ∙ sym k.stored_is) image in
      let p = start_point a.origin (first_work files.program x.plan.layout) in
      let begins = (laws.starts files.program x.plan).begins p (record { fresh = h.fresh; off = refl; clean = refl; work_is = refl }) in
      goes_one files chosen (first_work files.program) a b x y set_up origin begins

  -- a life that goes on from what was saved
  pub rest_one : (files : ReplayFiles) (chosen : List Chosen) (start : Start) (a b : Life) → ((plan : Plan) → IsPlanFor files.program files.device files.arrivals files.forecast chosen plan → IsSetUp files.program plan)
      → ((goes : GoesOn files chosen start a) → Begins files.program goes.goes.plan (start_point a.origin (committed_work start.image goes.goes.plan.layout)))
      → GoesOn files chosen start a → GoesOn files chosen start b → a ≡ b
  rest_one files chosen start a b set_up begins h k =
      let x = h.goes in
      let y = k.goes in
      let origin : a.origin ≡ b.origin =
      origin_one a.origin b.origin (x.trace_is ∙ sym y.trace_is) (x.fails_are ∙ sym y.fails_are) (x.device_is ∙ sym y.device_is) (h.tick_is ∙ sym k.tick_is) (h.stored_is ∙ sym k.stored_is) (h.image_is ∙ sym k.image_is) in
      goes_one files chosen (committed_work start.image) a b x y set_up origin (begins h)
