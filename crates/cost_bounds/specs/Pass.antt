-- What a backward pass over code works out for each place.
use Rattle.std.specs.Prelude.{◌≡◌, ℕ, ◌+◌, ◌-◌, ◌*◌, ◌^◌, ◌<◌, ◌≤◌, ◌⊎◌, min, max, Bool, true, false, pos, List, length, map, take, Some, slice_get, unwrap_or}
use Rattle.nv_memory.specs.declared.device.Class.{Class}
use Rattle.nv_memory.specs.declared.device.Class.TheVariants.{Basic}
use Rattle.nv_memory.specs.declared.device.Device.{Device}
use Rattle.nv_memory.specs.declared.device.Cost.{Cost}
use Rattle.cat_machine.specs.declared.instr.Instr.{Instr}
use Rattle.cat_machine.specs.declared.instr.Instr.TheVariants.{Push, Jump, JumpZero, Turn, End}
use Rattle.cat_machine.specs.ClassOf.{class_of}
use Rattle.cat_machine.specs.CodeValue.{CodeValue, versions_at}
use Rattle.cat_machine.specs.Costs.{Costs, place_cost, path_cost}
use Rattle.cost_bounds.specs.declared.job.Job.{Job}
use Rattle.cost_bounds.specs.BoundsValue.{BoundsValue}
use Rattle.cost_bounds.specs.Paths.{SectionFrom}
use Rattle.cost_bounds.specs.Greatest.{units_of, ticks_of}

-- ---- jobs

abbrev pub nothing : Job
nothing = record { units = 0; ticks = 0 }

abbrev pub job_in : List Job → ℕ → Job
job_in jobs pc = unwrap_or (slice_get jobs pc) nothing

-- a number, or the greatest that there is room for
abbrev pub most_number : ℕ
most_number = 2 ^ 64 - 1

abbrev pub capped : ℕ → ℕ
capped n = min n most_number

abbrev pub plus_capped : Job → Job → Job
plus_capped a b = record { units = capped (a.units + b.units); ticks = capped (a.ticks + b.ticks) }

abbrev pub times_capped : Job → ℕ → Job
times_capped a n = record { units = capped (a.units * n); ticks = capped (a.ticks * n) }

-- the greater units and the greater ticks, each by itself
abbrev pub dearer : Job → Job → Job
dearer a b = record { units = max a.units b.units; ticks = max a.ticks b.ticks }

abbrev pub class_job : Device → Class → Job
class_job device class = record { units = units_of device class; ticks = ticks_of device class }

-- ---- the tasks' code

-- the first instructions alone
abbrev pub front_of : ℕ → CodeValue → CodeValue
front_of end code = record { instrs = take end code.instrs; tasks = code.tasks; versions = code.versions }

-- what a section from a place sums to, where there is one that visits no place twice
pub record SumsTo (u : Costs) (code : CodeValue) (pc m : ℕ) : Type 0 where
  pub by : (path : List ℕ) → SectionFrom code pc path → length path ≤ length code.instrs → path_cost (place_cost u code) path ≤ most_number → m ≡ path_cost (place_cost u code) path

pub record SectionKnown (device : Device) (code : CodeValue) (pc : ℕ) (job : Job) : Type 0 where
  pub units : SumsTo (units_of device) code pc job.units
  pub ticks : SumsTo (ticks_of device) code pc job.ticks

-- how many places the tasks' code has: those before the first version of the first event, or all where there is none
abbrev pub tasks_in : CodeValue → ℕ
tasks_in code = min (length code.instrs) (unwrap_or (slice_get (versions_at code 0) 0) (length code.instrs))

-- ---- the handlers' code

abbrev pub is_straight : Instr → Bool
is_straight (Jump to) = false
is_straight (JumpZero to) = false
is_straight (Turn to) = false
is_straight End = false
is_straight _ = true

-- the greatest sum from a place up to the end, or up to the jump back of the innermost repeat around it
pub data Worth (u : Costs) (code : CodeValue) : ℕ → ℕ → Type 0 where
  AtEnd : {pc : ℕ} → slice_get code.instrs pc ≡ Some End → Worth u code pc (u Basic)
  TurnsBack : {pc : ℕ} → (to : ℕ) → slice_get code.instrs pc ≡ Some (Jump to) → to ≤ pc → Worth u code pc (u Basic)
  Leaves : {pc c : ℕ} → (to : ℕ) → slice_get code.instrs pc ≡ Some (Jump to) → pc < to → Worth u code to c → Worth u code pc (u Basic + c)
  Tests : {pc a b : ℕ} → (to : ℕ) → slice_get code.instrs pc ≡ Some (JumpZero to) → pc < to → Worth u code (pc + 1) a → Worth u code to b → Worth u code pc (u Basic + max a b)
  Repeats : {pc a b : ℕ} → (n before to : ℕ) → slice_get code.instrs pc ≡ Some (Turn to) → pc ≡ before + 1 → slice_get code.instrs before ≡ Some (Push (pos n)) → pc < to → Worth u code (pc + 1) a → Worth u code to b → Worth u code pc ((u Basic + a) * n + u Basic + b)
  GoesOn : {pc c : ℕ} → (x : Instr) → slice_get code.instrs pc ≡ Some x → is_straight x ≡ true → Worth u code (pc + 1) c → Worth u code pc (u (class_of x) + c)

pub record IsWorth (u : Costs) (code : CodeValue) (pc m : ℕ) : Type 0 where
  pub by : (c : ℕ) → Worth u code pc c → c ≤ most_number → m ≡ c

pub record HandlerKnown (device : Device) (code : CodeValue) (pc : ℕ) (job : Job) : Type 0 where
  pub units : IsWorth (units_of device) code pc job.units
  pub ticks : IsWorth (ticks_of device) code pc job.ticks

-- ---- all places, where the tasks' code ends at a place

pub record PlaceKnown (device : Device) (code : CodeValue) (tasks pc : ℕ) (job : Job) : Type 0 where
  pub section : pc < tasks → SectionKnown device (front_of tasks code) pc job
  pub handler : tasks ≤ pc → HandlerKnown device code pc job

abbrev pub AllKnown : Device → CodeValue → ℕ → ℕ → List Job → Type 0
AllKnown device code tasks from jobs = (pc : ℕ) → from ≤ pc → PlaceKnown device code tasks pc (job_in jobs pc)

-- ---- the jobs of all versions, and of a section

-- the greatest of these, or 0 where there is none that is greater
pub record IsTop (f : Job → ℕ) (jobs : List Job) (m : ℕ) : Type 0 where
  pub upper : (k : ℕ) → k < length jobs → f (job_in jobs k) ≤ m
  pub reached : ((k : ℕ) × (k < length jobs) × (f (job_in jobs k) ≡ m)) ⊎ (m ≡ 0)

pub record IsDearest (jobs : List Job) (job : Job) : Type 0 where
  pub units : IsTop (λ j. j.units) jobs job.units
  pub ticks : IsTop (λ j. j.ticks) jobs job.ticks

abbrev pub entry_job : Job → List Job → ℕ → Job
entry_job around most entry = plus_capped around (job_in most entry)

abbrev pub entry_jobs : Job → List Job → List (List ℕ) → List (List Job)
entry_jobs around most versions = map (λ (entries : List ℕ). map (entry_job around most) entries) versions

abbrev pub cost_job : Cost → Job
cost_job cost = record { units = cost.bound; ticks = cost.ticks }

-- what stands around a handler: the wake, and the writes
abbrev pub around_job : Device → ℕ → Job
around_job device lines = plus_capped (cost_job device.wake) (times_capped (cost_job device.write) (lines + 2))

-- the bounds by what is known of the places
pub record AreMade (code : CodeValue) (device : Device) (lines tasks : ℕ) (b : BoundsValue) : Type 0 where
  pub most : List Job
  pub all : length most ≡ length code.instrs
  pub known : AllKnown device code tasks 0 most
  pub jobs : b.jobs ≡ entry_jobs (around_job device lines) most code.versions
  pub section : IsDearest (take tasks most) b.section
  pub checkpoint : b.checkpoint ≡ times_capped (cost_job device.write) (lines + 1)
  pub wake : b.wake ≡ cost_job device.wake
