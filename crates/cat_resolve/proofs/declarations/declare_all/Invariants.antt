use Rattle.std.proofs.Common.{drop}
use Rattle.cat_resolve.proofs.SoFar.{Declared}
use Rattle.cat_resolve.proofs.declarations.declare_all.Given as goal

abbrev pub invariant-loop-one : goal.invariant-loop-one
invariant-loop-one l = Declared l.declared (drop l.one-index l.items) l.items
