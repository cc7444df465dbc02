use Rattle.std.proofs.Common.{ℕ, ◌<◌, arith, min, fold, get_or, take_all, ap, ◌∙◌, length, List}
use Rattle.std.proofs.lemmas.Grind.{common_steps}
use Rattle.std.proofs.lemmas.List.Sums.{fold_more}
use Rattle.demand_core.specs.declared.Load.{Load}
use Rattle.feasibility.proofs.Lists.{none_of, fold_min_whole}
use Rattle.feasibility.proofs.least.least_deadline.Goals as goal
use Rattle.feasibility.proofs.least.least_deadline.Goals.{then-y-least, else-y-least}

pub loop-y-preserved : goal.loop-y-preserved
loop-y-preserved c =
    let more = fold_more (λ (d : ℕ) (x : Load). min d x.deadline) (get_or c.args.loads.now 0 none_of).deadline c.args.loads.now c.loop-y.y-index none_of c.loop-y-test.true in
    elim c.if-y-least.branch [ then-y-least w ↦ (omega arith, omega arith) | else-y-least w ↦ (omega arith, omega arith) ]

pub returns : goal.returns
returns c =
    let some : 0 < length c.args.loads.now = grind (arith, common_steps) in
    let all = take_all c.loop-y.y-index c.args.loads.now c.loop-y-test.false in
    (some, c.loop-y.invariant.0 ∙ ap (λ (xs : List Load). fold (λ d x. min d x.deadline) (get_or c.args.loads.now 0 none_of).deadline xs) all ∙ fold_min_whole c.args.loads.now some, c.loop-y.invariant.1)
