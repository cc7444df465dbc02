-- Where a program's parts lie in a device's memory.
use Rattle.std.specs.Prelude.{◌≡◌, length}
use Rattle.cat_program.specs.Checked.{Checked}
use Rattle.nv_memory.specs.declared.device.Device.{Device}
use Rattle.nv_memory.specs.declared.layout.Layout.{Layout}

-- the layout of the image for a program on a device
pub record IsLayoutOf (p : Checked) (d : Device) (l : Layout) : Type 0 where
  pub words : l.words ≡ length p.words
  pub tasks : l.tasks ≡ length p.tasks
  pub events : l.events ≡ length p.events
  pub log : l.log ≡ d.log
  pub format : l.format ≡ 1
  pub base : l.base ≡ 64
