-- Which versions a program's events run in on a device, and the numbers of that choice.
use Rattle.std.specs.Prelude.{◌≡◌, ℕ, ◌+◌, ◌<◌, List, [], ◌∷◌, length, map, max, slice_index}
use Rattle.cat_program.specs.declared.headers.Event.{Event}
use Rattle.cat_program.specs.Declares.{spacing_of}
use Rattle.cat_program.specs.Checked.{Checked, HasVersion}
use Rattle.nv_memory.specs.declared.device.Device.{Device}
use Rattle.cost_bounds.specs.declared.job.Job.{Job}
use Rattle.cost_bounds.specs.BoundsValue.{BoundsValue, longest_of}
use Rattle.demand_core.specs.declared.Load.{Load}
use Rattle.demand_core.specs.declared.Base.{Base}
use Rattle.demand_core.specs.declared.Numbers.{Numbers}
use Rattle.feasibility.specs.declared.choose.Vector.{Vector}
use Rattle.feasibility.specs.declared.choose.ChooseFault.{ChooseFault}
use Rattle.feasibility.specs.Chosen.{IsChosen}
use Rattle.feasibility.specs.Outcomes.{IsFault}
use Rattle.degradation.specs.declared.chosen.Chosen.{Chosen}
use Rattle.degradation.specs.declared.supply.Supply.{Supply}

-- what an event asks for in a version that takes this at most
abbrev pub load_of : Event → Job → Load
load_of event job = record { spacing = spacing_of event.timing; deadline = event.deadline; units = job.units; ticks = job.ticks }

-- what each event asks for, version by version
abbrev pub tables_of : List Event → List (List Job) → List (List Load)
tables_of [] jobs = []
tables_of (event ∷ events) [] = []
tables_of (event ∷ events) (versions ∷ jobs) = map (load_of event) versions ∷ tables_of events jobs

-- the supply that a device's profile guarantees
abbrev pub supply_of : Device → Supply
supply_of device = record { p = device.p; q = device.q }

-- what the device gives with a supply, and what is needed beside the jobs
abbrev pub base_of : BoundsValue → Device → Supply → Base
base_of b device supply =
    record {
      cap = device.cap;
      p = supply.p;
      q = supply.q;
      checkpoint = b.checkpoint.units;
      section = b.section.units;
      wake = b.wake.units;
      longest = longest_of b;
    }

-- The units from which on the board wakes for task code: what is kept back for jobs, a checkpoint, a section and the wake itself,
-- and at least those at which the device's tasks go on.
abbrev pub level_of : BoundsValue → Device → ℕ → ℕ
level_of b device kept = max (kept + b.checkpoint.units + b.section.units + b.wake.units) device.resume

abbrev pub numbers_of : BoundsValue → Device → ℕ → Vector → Numbers
numbers_of b device lines vector =
    record {
      lines = lines;
      checkpoint = b.checkpoint.units;
      section = b.section.units;
      reserve = vector.reserve;
      level = level_of b device vector.reserve;
      window = vector.window;
    }

-- the bounds have a job for each version of each event
abbrev pub HasBounds : Checked → BoundsValue → Type 0
HasBounds p b = map length b.jobs ≡ map length p.events

-- the versions of least degradation with which the events are feasible with a supply, with their loads and numbers
pub record IsChoice (p : Checked) (b : BoundsValue) (device : Device) (supply : Supply) (lines : ℕ) (chosen : Chosen) : Type 0 where
  pub vector : Vector
  pub is : IsChosen (base_of b device supply) (tables_of p.headers b.jobs) p.mentions vector
  pub versions : chosen.versions ≡ vector.versions
  pub loads : chosen.loads ≡ vector.loads
  pub numbers : chosen.numbers ≡ numbers_of b device lines vector

-- why there is no choice
abbrev pub IsNoChoice : Checked → BoundsValue → Device → Supply → ChooseFault → Type 0
IsNoChoice p b device supply fault = IsFault (base_of b device supply) (tables_of p.headers b.jobs) p.mentions fault

-- one version, which there is, and one load of each event
pub record Suits (p : Checked) (chosen : Chosen) : Type 0 where
  pub versions : length chosen.versions ≡ length p.events
  pub loads : length chosen.loads ≡ length p.events
  pub there : (event : ℕ) → event < length p.events → HasVersion p event (slice_index chosen.versions event)
