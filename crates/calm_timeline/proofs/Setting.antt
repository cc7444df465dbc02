-- What a program's plan says of its rows and loads, and a run's decision points as the deadlines rest on them.
use Rattle.std.proofs.Common.{◌≡◌, ℕ, zero, suc, ◌+◌, ◌*◌, ◌<◌, ◌≤◌, inl, inr, List, [], ◌∷◌, length, refl, sym, ap, subst, ◌∙◌, arith, Option, Some, None}
use Rattle.std.specs.Prelude.{slice_get, slice_index}
use Rattle.std.specs.Option.{option_map, option_map_or}
use Rattle.std.proofs.lemmas.Bool.{cases_lt}
use Rattle.std.proofs.lemmas.Option.{slice_get-map, slice_get_past}
use Rattle.cat_program.specs.Checked.{Checked}
use Rattle.cat_program.specs.Declares.{EachEventIs, spacing_of}
use Rattle.cat_program.specs.declared.headers.Event.{Event}
use Rattle.cat_program.specs.declared.headers.Timing.{Timing}
use Rattle.nv_memory.specs.declared.device.Device.{Device}
use Rattle.nv_memory.specs.Layout.{lines_of}
use Rattle.nv_memory.specs.Board.{State}
use Rattle.event_arrivals.specs.Arrivals.{Lists, arrival_at}
use Rattle.event_arrivals.specs.Kept.{spacing_at, spacing_in}
use Rattle.event_arrivals.specs.declared.arrival.Arrival.{Arrival}
use Rattle.event_queue.specs.declared.queue.Due.{Due}
use Rattle.cost_bounds.specs.declared.job.Job.{Job as JobBound}
use Rattle.cost_bounds.specs.BoundsValue.{BoundsValue, job_at}
use Rattle.demand_core.specs.declared.Load.{Load}
use Rattle.demand_core.specs.declared.Base.{Base}
use Rattle.calm_stretch.specs.Loads.{IsAt, AreLoads}
use Rattle.calm_stretch.specs.Moment.{Outside, Doing, Point as Moment}
use Rattle.calm_stretch.specs.Moment.Doing.{Job as DoJob, Section as DoSection, Wake as DoWake, Save as DoSave, Sleep as DoSleep}
use Rattle.calm_stretch.specs.Rows.{Row}
use Rattle.cn_scheduler.specs.declared.plan.Plan.{Plan}
use Rattle.cn_scheduler.specs.declared.plan.PlanRow.{PlanRow}
use Rattle.cn_scheduler.specs.declared.choice.Choice.{Choice}
use Rattle.cn_scheduler.specs.declared.choice.Choice.TheVariants.{Job, Section, Checkpoint, Wake, Sleep}
use Rattle.cn_scheduler.specs.InForce.{in_force, units_of}
use Rattle.cn_scheduler.specs.Point.{Point}
use Rattle.cn_scheduler.specs.Belongs.{IsPlanOf}
use Rattle.cn_scheduler.specs.Belongs.{IsRowOf as IsRowIn}
use Rattle.calm_timeline.specs.Calm.{harvest_at}
use Rattle.calm_timeline.specs.Numbers.{base_with, IsRowOf, IsPlanned}
use Rattle.calm_timeline.proofs.RowsInForce.{row_in_force, get_of, all_of, index_of_map}

-- ---- a decision point

abbrev pub moment_of : Point → Moment
moment_of p = record { tick = p.board.tick; stored = p.board.stored; dirty = p.dirty; done = λ e. slice_index p.work.done e }

abbrev pub outside : Plan → ℕ → State → Outside
outside plan origin final = record { arrivals = plan.queue.arrivals; harvest = harvest_at origin final }

abbrev pub doing_of : Choice → Doing
doing_of (Job due) = DoJob due.event
doing_of Section = DoSection
doing_of Checkpoint = DoSave
doing_of Wake = DoWake
doing_of Sleep = DoSleep

-- ---- rows

abbrev pub row_at : Base → Option PlanRow → Row
row_at base None = record { base = base; loads = []; reserve = 0 }
row_at base (Some r) = record { base = base; loads = r.loads; reserve = r.numbers.reserve }

abbrev pub rows_of : Plan → Base → ℕ → Row
rows_of plan base t = row_at base (in_force plan.rows t)

abbrev pub load_ticks : Load → ℕ
load_ticks load = load.ticks

abbrev pub ticks_in : ℕ → PlanRow → ℕ
ticks_in event row = option_map_or load_ticks (slice_get row.loads event) 0

-- the most ticks of an arrival's job
abbrev pub ticks_due : Plan → Due → ℕ
ticks_due plan due = option_map_or (ticks_in due.event) (in_force plan.rows due.arrived) 0

-- the bounds of what is chosen
abbrev pub units_for : Plan → Base → Choice → ℕ
units_for plan base (Job due) = units_of plan.rows due
units_for plan base Section = base.section
units_for plan base Checkpoint = base.checkpoint
units_for plan base Wake = base.wake
units_for plan base Sleep = 0

abbrev pub ticks_for : Plan → Base → Choice → ℕ
ticks_for plan base (Job due) = ticks_due plan due
ticks_for plan base Section = base.longest
ticks_for plan base Checkpoint = base.longest
ticks_for plan base Wake = base.longest
ticks_for plan base Sleep = base.longest

-- ---- headers

header_is : (headers : List Event) (versions : List (List ℕ)) (e : ℕ) (header : Event) → EachEventIs headers versions → slice_get headers e ≡ Some header →
    (1 ≤ header.deadline) × (header.deadline ≤ spacing_of header.timing)
header_is [] versions e header each is = absurd (cc)
header_is (h ∷ headers) [] e header each is = absurd each
header_is (h ∷ headers) (v ∷ versions) zero header each is =
    let same : h ≡ header = cc in
    subst (λ (x : Event). (1 ≤ x.deadline) × (x.deadline ≤ spacing_of x.timing)) same (each.0.due, each.0.in_time)
header_is (h ∷ headers) (v ∷ versions) (suc e) header each is = header_is headers versions e header each.1 is

-- an event that has an arrival is one of the program's
pub event_within : (lists : Lists) (e k : ℕ) (arrival : Arrival) → arrival_at lists e k ≡ Some arrival → e < length lists.timings
event_within lists e k arrival is =
    elim (cases_lt e (length lists.timings)) [
      | inl within ↦ within
      | inr past ↦
          let none = slice_get_past lists.timings e past in
          let none' : arrival_at lists e k ≡ None = rw none refl in
          absurd (cc)
    ]

module _ (program : Checked) (device : Device) (b : BoundsValue) (plan : Plan) (p q : ℕ) (planned : IsPlanned program device b plan) (plan_is : IsPlanOf program plan) where
  -- the row in force, with what is known of it
  pub record InForceAt (t : ℕ) : Type 0 where
    pub row : PlanRow
    pub is : in_force plan.rows t ≡ Some row
    pub counts : length row.loads ≡ length program.events
    pub numbers : IsRowOf program b row

  pub in_force_at : (t : ℕ) → InForceAt t
  in_force_at t =
      let first = plan_is.first in
      let one = row_in_force (IsRowIn program) plan.rows first.0 plan_is.rows first.1 first.2 t in
      let two = row_in_force (IsRowOf program b) plan.rows first.0 planned.rows first.1 first.2 t in
      let same : one.0 ≡ two.0 = let a = one.1 in let c = two.1 in cc in
      record { row = two.0; is = two.1; counts = subst (λ (r : PlanRow). length r.loads ≡ length program.events) same one.2.loads; numbers = two.2 }

  -- what is known of a load
  pub record LoadFacts (r : PlanRow) (e : ℕ) (x : Load) : Type 0 where
    pub spacing : spacing_at plan.queue.arrivals.timings e ≡ x.spacing
    pub deadline : slice_index plan.queue.deadlines e ≡ x.deadline
    pub some : 1 ≤ x.deadline
    pub in_time : x.deadline ≤ x.spacing
    pub job : JobBound
    pub job_is : job_at b e (slice_index r.versions e) ≡ Some job
    pub units : x.units ≡ job.units
    pub ticks : x.ticks ≡ job.ticks

  pub load_facts : (r : PlanRow) (e : ℕ) (x : Load) → IsRowOf program b r → IsAt r.loads e x → LoadFacts r e x
  load_facts r e x is at =
      let load = is.loads e x (get_of r.loads e x at) in
      let header = header_is program.headers program.events e load.header planned.checked.declares load.header_is in
      let deadline : x.deadline ≡ load.header.deadline = ap (λ (y : Load). y.deadline) load.load_is in
      let spacing : x.spacing ≡ spacing_of load.header.timing = ap (λ (y : Load). y.spacing) load.load_is in
      let timing : slice_get plan.queue.arrivals.timings e ≡ Some load.header.timing =
      ap (λ (ts : List Timing). slice_get ts e) planned.timings
      ∙ slice_get-map (λ (h : Event). h.timing) program.headers e ∙ ap (λ (o : Option Event). option_map (λ (h : Event). h.timing) o) load.header_is in
      let first = header.0 in
      let second = header.1 in
      record {
        spacing = ap (λ (o : Option Timing). spacing_in o) timing ∙ sym spacing;
        deadline = ap (λ (ds : List ℕ). slice_index ds e) plan_is.deadlines ∙ index_of_map (λ (h : Event). h.deadline) program.headers e load.header load.header_is ∙ sym deadline;
        some = omega arith;
        in_time = omega arith;
        job = load.job;
        job_is = load.job_is;
        units = ap (λ (y : Load). y.units) load.load_is;
        ticks = ap (λ (y : Load). y.ticks) load.load_is;
      }

  -- a job takes time, since a wake does
  job_takes : (e v : ℕ) (job : JobBound) → 1 ≤ device.wake.ticks → job_at b e v ≡ Some job → 1 ≤ job.ticks
  job_takes e v job some is =
      let j = planned.bounds.jobs e v job is in
      let whole : job.ticks ≡ 1 * device.wake.ticks + j.handler.ticks + (lines_of plan.layout + 2) * device.write.ticks = ap (λ (x : JobBound). x.ticks) j.whole in
      omega arith

  pub are_loads : (r : PlanRow) → IsRowOf program b r → 0 < p → 1 ≤ device.wake.ticks → AreLoads (base_with b device p q) r.loads
  are_loads r is pos some =
      record {
        repeats = record {
          p = pos;
          spacings = all_of (λ x. 0 < x.spacing) r.loads (λ e x at. let f = load_facts r e x is at in let a = f.some in let c = f.in_time in omega arith);
          within = all_of (λ x. x.deadline ≤ x.spacing) r.loads (λ e x at. (load_facts r e x is at).in_time);
        };
        longest = omega arith;
        deadlines = all_of (λ x. 0 < x.deadline) r.loads (λ e x at. let f = load_facts r e x is at in let a = f.some in omega arith);
        ticks = all_of (λ x. 0 < x.ticks) r.loads (λ e x at.
            let f = load_facts r e x is at in let same = f.ticks in let takes = job_takes e (slice_index r.versions e) f.job some f.job_is in omega arith);
      }
