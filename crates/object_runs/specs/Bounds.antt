-- The greatest sums over the paths of an object's code.
use Rattle.std.specs.Prelude.{◌≡◌, ℕ, ◌+◌, ◌/◌, ◌<◌, ℤ, List, [], length, map, Some}
use Rattle.nv_memory.specs.declared.device.Device.{Device}
use Rattle.cat_machine.specs.declared.instr.Mode.TheVariants.{Task, Handler}
use Rattle.cat_machine.specs.CodeValue.{CodeValue, EntryAt}
use Rattle.cat_machine.specs.Held.{Held}
use Rattle.cat_machine.specs.Machine.{Ended', entered, until}
use Rattle.cat_machine.specs.Costs.{Costs, place_cost, path_cost}
use Rattle.cost_bounds.specs.declared.job.Job.{Job}
use Rattle.cost_bounds.specs.BoundsValue.{BoundsValue, job_at}
use Rattle.cost_bounds.specs.Paths.{SectionFrom, HandlerFrom}
use Rattle.cost_bounds.specs.Greatest.{units_of, ticks_of, IsGreatest, times, whole_job, IsWithin}
use Rattle.cn_object.specs.declared.object.Object.{Object}
use Rattle.cn_object.specs.Regions.{versions_begin}

-- what a path sums to
abbrev pub sum_in : Costs → CodeValue → List ℕ → ℕ
sum_in u code path = path_cost (place_cost u code) path

-- the greatest units and the greatest ticks, each by itself
pub record AreGreatestIn (is_path : List ℕ → Type 0) (code : CodeValue) (device : Device) (job : Job) : Type 0 where
  pub units : IsGreatest is_path (sum_in (units_of device) code) job.units
  pub ticks : IsGreatest is_path (sum_in (ticks_of device) code) job.ticks

-- a section from any place of the tasks' code
pub record IsSectionPath (code : CodeValue) (path : List ℕ) : Type 0 where
  pub from : ℕ
  pub within : from < versions_begin code
  pub is : SectionFrom code from path

-- the job of a version that begins at an entry
pub record IsJobAt (code : CodeValue) (device : Device) (lines entry : ℕ) (job : Job) : Type 0 where
  pub handler : Job
  pub greatest : AreGreatestIn (HandlerFrom code entry []) code device handler
  pub whole : job ≡ whole_job device lines handler

-- the bounds of code on a device, where a slot takes this many lines
pub record AreBoundsIn (code : CodeValue) (device : Device) (lines : ℕ) (b : BoundsValue) : Type 0 where
  pub versions : map length b.jobs ≡ map length code.versions
  pub jobs : (event version entry : ℕ) (job : Job) → EntryAt code event version entry → job_at b event version ≡ Some job → IsJobAt code device lines entry job
  pub section : AreGreatestIn (IsSectionPath code) code device b.section
  pub checkpoint : b.checkpoint ≡ times (lines + 1) device.write
  pub wake : b.wake ≡ times 1 device.wake

-- the lines of 64 bytes that a slot takes: sixteen numbers each, which are three, and one for each word, task and event
abbrev pub lines_for : Object → ℕ
lines_for o = (3 + length o.words + length o.code.tasks + length o.code.versions + 15) / 16

abbrev pub AreBoundsOf : Object → Device → BoundsValue → Type 0
AreBoundsOf o device b = AreBoundsIn o.code device (lines_for o) b

abbrev pub spent_in : Device → CodeValue → List ℕ → Job
spent_in device code path = record { units = sum_in (units_of device) code path; ticks = sum_in (ticks_of device) code path }

-- the section from a state, and each handler that is entered there, take no more than the bounds
pub record CostsWithin (o : Object) (device : Device) (b : BoundsValue) (h : Held) : Type 0 where
  pub section : (run : Ended') → until 1000000 Task o.code h ≡ Some run → IsWithin (spent_in device o.code run.path) b.section
  pub handler : (event version entry : ℕ) (payload : ℤ) (run : Ended') (job : Job) → EntryAt o.code event version entry → until 1000000 Handler o.code (entered h entry payload) ≡ Some run → job_at b event version ≡ Some job
      → IsWithin (whole_job device (lines_for o) (spent_in device o.code run.path)) job
