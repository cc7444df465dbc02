-- The greatest sums over the paths of a program's code.
use Rattle.std.specs.Prelude.{◌≡◌, ℕ, ◌+◌, ◌*◌, ◌≤◌, ◌⊎◌, ℤ, List, ◌++◌, length, map, Some}
use Rattle.cat_program.specs.Checked.{Checked}
use Rattle.nv_memory.specs.declared.device.Device.{Device}
use Rattle.nv_memory.specs.declared.device.Cost.{Cost}
use Rattle.nv_memory.specs.AnyBoard.{cost_of}
use Rattle.cat_machine.specs.declared.instr.Mode.TheVariants.{Task, Handler}
use Rattle.cat_machine.specs.CodeValue.{EntryAt}
use Rattle.cat_machine.specs.Held.{Held}
use Rattle.cat_machine.specs.Machine.{Ended', entered, until}
use Rattle.cat_machine.specs.Code.{code_of}
use Rattle.cat_machine.specs.Costs.{Costs, place_cost, path_cost}
use Rattle.cost_bounds.specs.declared.job.Job.{Job}
use Rattle.cost_bounds.specs.BoundsValue.{BoundsValue, job_at}
use Rattle.cost_bounds.specs.Paths.{IsSection, IsHandler}

-- the most units that an instruction of each class draws, and its ticks
abbrev pub units_of : Device → Costs
units_of device class = (cost_of device class).bound

abbrev pub ticks_of : Device → Costs
ticks_of device class = (cost_of device class).ticks

-- what a path of a program's code sums to
abbrev pub sum_over : Costs → Checked → List ℕ → ℕ
sum_over u p path = path_cost (place_cost u (code_of p)) path

-- the greatest of the sums over these paths, or 0 where there is no such path
pub record IsGreatest (is_path : List ℕ → Type 0) (sum : List ℕ → ℕ) (m : ℕ) : Type 0 where
  pub upper : (path : List ℕ) → is_path path → sum path ≤ m
  pub reached : ((path : List ℕ) × is_path path × (sum path ≡ m)) ⊎ (((path : List ℕ) → is_path path → ⊥) × (m ≡ 0))

-- the greatest units and the greatest ticks, each by itself
pub record AreGreatest (is_path : List ℕ → Type 0) (p : Checked) (device : Device) (job : Job) : Type 0 where
  pub units : IsGreatest is_path (sum_over (units_of device) p) job.units
  pub ticks : IsGreatest is_path (sum_over (ticks_of device) p) job.ticks

-- some operations of one class
abbrev pub times : ℕ → Cost → Job
times n cost = record { units = n * cost.bound; ticks = n * cost.ticks }

-- one after the other
abbrev pub plus : Job → Job → Job
plus a b = record { units = a.units + b.units; ticks = a.ticks + b.ticks }

-- a whole job around a handler: a wake before it, and after it the writes of the entry, of the slot's lines and of the gate
abbrev pub whole_job : Device → ℕ → Job → Job
whole_job device lines handler = plus (plus (times 1 device.wake) handler) (times (lines + 2) device.write)

-- the job of a version
pub record IsJob (p : Checked) (device : Device) (lines event version : ℕ) (job : Job) : Type 0 where
  pub handler : Job
  pub greatest : AreGreatest (IsHandler p event version) p device handler
  pub whole : job ≡ whole_job device lines handler

-- the bounds of a program's code on a device, where a slot takes this many lines
pub record AreBounds (p : Checked) (device : Device) (lines : ℕ) (b : BoundsValue) : Type 0 where
  pub versions : map length b.jobs ≡ map length p.events
  pub jobs : (event version : ℕ) (job : Job) → job_at b event version ≡ Some job → IsJob p device lines event version job
  pub section : AreGreatest (IsSection p) p device b.section
  pub checkpoint : b.checkpoint ≡ times (lines + 1) device.write
  pub wake : b.wake ≡ times 1 device.wake

-- units and ticks that are within a bound
pub record IsWithin (a b : Job) : Type 0 where
  pub units : a.units ≤ b.units
  pub ticks : a.ticks ≤ b.ticks

abbrev pub spent : Device → Checked → List ℕ → Job
spent device p path = record { units = sum_over (units_of device) p path; ticks = sum_over (ticks_of device) p path }

-- The section from a state, and each handler that is entered there, with any payload, take no more than the bounds. Nor
-- does what was done of one before power went.
pub record RunsWithin (p : Checked) (device : Device) (lines : ℕ) (b : BoundsValue) (h : Held) : Type 0 where
  pub section : (run : Ended') → until 1000000 Task (code_of p) h ≡ Some run → IsWithin (spent device p run.path) b.section
  pub handler : (event version entry : ℕ) (payload : ℤ) (run : Ended') (job : Job) → EntryAt (code_of p) event version entry → until 1000000 Handler (code_of p) (entered h entry payload) ≡ Some run → job_at b event version ≡ Some job → IsWithin (whole_job device lines (spent device p run.path)) job
  pub section_part : (run : Ended') (front rest : List ℕ) → until 1000000 Task (code_of p) h ≡ Some run → run.path ≡ front ++ rest → IsWithin (spent device p front) b.section
  pub handler_part : (event version entry : ℕ) (payload : ℤ) (run : Ended') (job : Job) (front rest : List ℕ) → EntryAt (code_of p) event version entry → until 1000000 Handler (code_of p) (entered h entry payload) ≡ Some run → job_at b event version ≡ Some job
      → run.path ≡ front ++ rest → IsWithin (whole_job device lines (spent device p front)) job
