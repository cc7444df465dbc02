-- A floor that was looked up.
use Rattle.std.specs.Prelude.{◌≡◌, ℕ, ◌<◌, ◌≤◌}
use Rattle.cn_scheduler.specs.declared.path.Floor.{Floor}
use Rattle.cn_scheduler.specs.declared.plan.Plan.{Plan}
use Rattle.cn_scheduler.specs.InForce.{floor_at}

-- from a tick on it is the floor in force, up to its end
abbrev pub HoldsFloor : Plan → Floor → ℕ → Type 0
HoldsFloor plan floor tick = (t : ℕ) → tick ≤ t → t < floor.until → floor.units ≡ floor_at plan.rows t
