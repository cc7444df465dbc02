use Rattle.std.proofs.Common.{◌≡◌, ◌≤◌, min, fold, take, get_or}
use Rattle.feasibility.proofs.Lists.{none_of}
use Rattle.feasibility.proofs.least.least_deadline.Given as goal

abbrev pub invariant-loop-y : goal.invariant-loop-y
invariant-loop-y l =
    (l.least ≡ fold (λ d x. min d x.deadline) (get_or l.loads 0 none_of).deadline (take l.y-index l.loads)) × (l.least ≤ 1000000)
