-- What a choice holds of.
use Rattle.std.specs.Prelude.{◌≡◌, ℕ, ◌+◌, ◌≤◌, List, Some, length, take, slice_get, slice_index, slice_index_or}
use Rattle.cat_program.specs.Checked.{Checked}
use Rattle.cat_program.specs.declared.headers.Event.{Event}
use Rattle.cost_bounds.specs.declared.job.Job.{Job}
use Rattle.cost_bounds.specs.BoundsValue.{BoundsValue, job_at}
use Rattle.demand_core.specs.declared.Load.{Load}
use Rattle.demand_core.specs.Demand.{reserve, IsWindow, IsFeasible}
use Rattle.feasibility.specs.Chosen.{loads_of, no_load, versions_of}
use Rattle.degradation.specs.declared.chosen.Chosen.{Chosen}
use Rattle.degradation.specs.declared.supply.Supply.{Supply}
use Rattle.degradation.specs.Choice.{base_of, load_of, tables_of}
use Rattle.nv_memory.specs.declared.device.Device.{Device}

-- with this supply, its loads are feasible over its window, and its numbers are those of the tests
pub record IsServed (b : BoundsValue) (device : Device) (supply : Supply) (chosen : Chosen) : Type 0 where
  pub window : IsWindow supply.p chosen.loads chosen.numbers.window
  pub short : chosen.numbers.window ≤ 1000000
  pub feasible : IsFeasible (base_of b device supply) chosen.loads chosen.numbers.window
  pub reserve_is : chosen.numbers.reserve ≡ reserve (base_of b device supply) chosen.loads chosen.numbers.window
  -- what is kept back, a checkpoint, a section and a wake have room in the store together
  pub room : chosen.numbers.reserve + b.checkpoint.units + b.section.units + b.wake.units ≤ device.cap
  pub level : chosen.numbers.level ≤ device.cap
  pub each : (e : ℕ) → (slice_index_or chosen.loads e no_load).units ≤ device.cap

-- the versions and loads that the events have once the first k mentions of the degrade order are taken up
pub record AreDegraded (p : Checked) (b : BoundsValue) (k : ℕ) (versions : List ℕ) (loads : List Load) : Type 0 where
  pub versions_are : versions ≡ versions_of (take k p.mentions) (length (tables_of p.headers b.jobs))
  pub loads_are : loads ≡ loads_of (tables_of p.headers b.jobs) (take k p.mentions) (length (tables_of p.headers b.jobs))

-- the load is what the event asks for: that of its header and of the job of its version
pub record IsLoadOf (p : Checked) (b : BoundsValue) (versions : List ℕ) (event : ℕ) (load : Load) : Type 0 where
  pub header : Event
  pub header_is : slice_get p.headers event ≡ Some header
  pub job : Job
  pub job_is : job_at b event (slice_index versions event) ≡ Some job
  pub load_is : load ≡ load_of header job
