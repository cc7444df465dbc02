-- The numbers of a row that was chosen.
use Rattle.std.specs.Prelude.{◌≡◌, ℕ, ◌<◌, take}
use Rattle.cat_program.specs.Checked.{Checked, IsChecked}
use Rattle.nv_memory.specs.declared.device.Device.{Device}
use Rattle.cost_bounds.specs.BoundsValue.{BoundsValue}
use Rattle.cost_bounds.specs.Greatest.{AreBounds}
use Rattle.feasibility.specs.declared.choose.Vector.{Vector}
use Rattle.feasibility.specs.Chosen.{IsVector}
use Rattle.degradation.specs.declared.chosen.Chosen.{Chosen}
use Rattle.degradation.specs.declared.supply.Supply.{Supply}
use Rattle.degradation.specs.Choice.{tables_of, numbers_of, IsChoice}
use Rattle.cn_scheduler.specs.declared.plan.PlanRow.{PlanRow}
use Rattle.calm_timeline.specs.Numbers.{base_with, IsRowOf, IsFeasibleRow}

-- a row with the versions, the loads and the numbers of a feasible vector
pub record HasVector (program : Checked) (b : BoundsValue) (device : Device) (p q lines : ℕ) (row : PlanRow) : Type 0 where
  pub k : ℕ
  pub vector : Vector
  pub is : IsVector (base_with b device p q) (tables_of program.headers b.jobs) (take k program.mentions) vector
  pub versions : row.versions ≡ vector.versions
  pub loads : row.loads ≡ vector.loads
  pub numbers : row.numbers ≡ numbers_of b device lines vector

-- such a row is one of the program's jobs, and feasible
abbrev pub VectorRows : Type 0
VectorRows =
    (program : Checked) (b : BoundsValue) (device : Device) (p q lines : ℕ) (row : PlanRow) → IsChecked program → AreBounds program device lines b →
    HasVector program b device p q lines row → IsRowOf program b row × (0 < p → IsFeasibleRow b device p q row)

-- and so is one with what was chosen for a device and a supply
abbrev pub ChosenRows : Type 0
ChosenRows =
    (program : Checked) (b : BoundsValue) (device : Device) (supply : Supply) (lines : ℕ) (chosen : Chosen) (row : PlanRow) → IsChecked program → AreBounds program device lines b →
    IsChoice program b device supply lines chosen → row.versions ≡ chosen.versions → row.loads ≡ chosen.loads → row.numbers ≡ chosen.numbers →
    IsRowOf program b row × (0 < supply.p → IsFeasibleRow b device supply.p supply.q row)
