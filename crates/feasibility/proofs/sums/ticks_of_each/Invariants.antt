use Rattle.std.proofs.Common.{◌≡◌, ◌≤◌, ◌*◌, ◌^◌, sum_by, take}
use Rattle.feasibility.proofs.sums.ticks_of_each.Given as goal

abbrev pub invariant-loop-x : goal.invariant-loop-x
invariant-loop-x l = (l.sum ≡ sum_by (λ x. x.ticks) (take l.x-index l.loads)) × (l.sum ≤ l.x-index * 2 ^ 64)
