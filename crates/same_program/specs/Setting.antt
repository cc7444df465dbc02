-- Programs that say the same on a device, each with the bounds of its code.
use Rattle.std.specs.Prelude.{ℕ}
use Rattle.cat_program.specs.Checked.{Checked, IsChecked}
use Rattle.nv_memory.specs.declared.device.Device.{Device}
use Rattle.cost_bounds.specs.BoundsValue.{BoundsValue}
use Rattle.cost_bounds.specs.Greatest.{AreBounds}
use Rattle.same_program.specs.Same.{IsSame}

pub record AreSettings (p q : Checked) (d : Device) (lines : ℕ) (b c : BoundsValue) : Type 0 where
  pub checked : IsChecked p
  pub same : IsSame p q
  pub first : AreBounds p d lines b
  pub second : AreBounds q d lines c
