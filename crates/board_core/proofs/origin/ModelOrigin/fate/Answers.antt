use Rattle.std.proofs.Common.{sym, arith}
use Rattle.board_core.proofs.Fates.{failure_in-within}
use Rattle.board_core.proofs.origin.ModelOrigin.fate.Goals as goal

pub overflow_add-result : goal.overflow_add-result
overflow_add-result c =
    let within = failure_in-within c.args.self.now c.args.tick c.args.op.now c.in-Some.failure (sym c.in-Some.ensures) in
    omega (arith, within.1, c.requires, c.args.self.now.life_in_range)

pub overflow_sub-result : goal.overflow_sub-result
overflow_sub-result c =
    let within = failure_in-within c.args.self.now c.args.tick c.args.op.now c.in-Some.failure (sym c.in-Some.ensures) in
    omega (arith, within.0)
