use Rattle.std.proofs.Common.{drop}
use Rattle.std.specs.Prelude.{replicate}
use Rattle.cat_resolve.specs.Meanings.{meanings}
use Rattle.cat_resolve.proofs.Built.{Built}
use Rattle.cat_resolve.proofs.bodies.build_all.Given as goal

abbrev pub invariant-loop-one : goal.invariant-loop-one
invariant-loop-one l = Built (meanings l.names) (replicate l.tasks 0) l.bodies (drop l.one-index l.items) l.items
