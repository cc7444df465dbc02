use Rattle.std.proofs.Common.{◌≡◌, ◌+◌, ◌≤◌, drop}
use Rattle.cat_eval.proofs.SizeRows.{rows_size}
use Rattle.cat_eval.proofs.sizes.+expr_size.Given as goal

abbrev pub invariant-loop-further : goal.invariant-loop-further
invariant-loop-further l =
    (l.size + rows_size (drop l.further-index l.further-items) ≡ l.initial.size + rows_size l.further-items)
    × (l.initial.size + rows_size l.further-items ≤ 60000)
