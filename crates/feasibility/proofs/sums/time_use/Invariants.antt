use Rattle.std.proofs.Common.{◌≡◌, ◌≤◌, ◌*◌, ◌/◌, ◌^◌, sum_by, take}
use Rattle.feasibility.proofs.sums.time_use.Given as goal

abbrev pub invariant-loop-x : goal.invariant-loop-x
invariant-loop-x l = (l.sum ≡ sum_by (λ x. l.window / x.spacing * x.ticks) (take l.x-index l.loads)) × (l.sum ≤ l.x-index * 2 ^ 97)
