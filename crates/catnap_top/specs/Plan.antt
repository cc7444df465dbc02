-- `plan SRC DEVICE`: the least harvest with which a device serves a source's events, none of them degraded.
use Rattle.std.specs.Prelude.{ℕ, List, None, Result, MatchResult}
use Rattle.cat_program.specs.Checked.{Checked}
use Rattle.cost_bounds.specs.BoundsValue.{BoundsValue}
use Rattle.cost_bounds.specs.Greatest.{AreBounds}
use Rattle.degradation.specs.Placed.{IsLayoutOf}
use Rattle.nv_memory.specs.declared.device.Device.{Device}
use Rattle.nv_memory.specs.declared.layout.Layout.{Layout}
use Rattle.nv_memory.specs.Layout.{lines_of}
use Rattle.cn_plan.specs.declared.answer.Least.{Least}
use Rattle.cn_plan.specs.declared.answer.LeastFault.{LeastFault}
use Rattle.cn_plan.specs.declared.answer.LeastFault.TheVariants as least
use Rattle.cn_plan.specs.Least.{IsLeast, IsLeastFault}
use Rattle.cn_plan.specs.Plan.{plan_text}
use Rattle.catnap_top.specs.declared.status.Status.TheVariants.{Done}
use Rattle.catnap_top.specs.declared.fault.Fault.{Fault}
use Rattle.catnap_top.specs.declared.fault.Fault.TheVariants as fault
use Rattle.catnap_top.specs.declared.fault.NoChoice.TheVariants as none
use Rattle.catnap_top.specs.declared.stop.Stop.{Stop}
use Rattle.catnap_top.specs.declared.stop.Stop.TheVariants as stop
use Rattle.catnap_top.specs.Answer.{Answer}
use Rattle.catnap_top.specs.Look.{Look, ◌>>=◌, found, By}
use Rattle.catnap_top.specs.Files.{program_in, device_in}

-- the lines of a plan, also where no harvest is enough
abbrev pub planned : Checked → Least → Answer
planned p plan = record { status = Done; text = plan_text p plan }

-- with this spacing the window is too long, as for a choice of versions
abbrev pub window_fault : ℕ → Fault
window_fault spacing = fault.Choice None (none.Window spacing)

abbrev pub stop_of_plan : LeastFault → Stop
stop_of_plan (least.WindowTooLong spacing) = stop.Refused (window_fault spacing)
stop_of_plan least.NoMemory = stop.NoMemory

-- by the bounds of the program's code on the device: the least harvest, or with which spacing there is none
pub record Plans (p : Checked) (d : Device) (came : Result Least ℕ) : Type 0 where
  pub l : Layout
  pub b : BoundsValue
  pub layout : IsLayoutOf p d l
  pub bounds : AreBounds p d (lines_of l) b
  pub plan : MatchResult came (λ plan. IsLeast p b d (lines_of l) plan) (λ spacing. IsLeastFault p b d (least.WindowTooLong spacing))

abbrev pub plan_in : Checked → Device → Look Least
plan_in p d = By window_fault (Plans p d)

-- `plan` over a source and a profile
abbrev pub planning : List ℕ → List ℕ → Look Answer
planning source profile = do
  p ← program_in source
  d ← device_in profile
  plan ← plan_in p d
  found (planned p plan)
