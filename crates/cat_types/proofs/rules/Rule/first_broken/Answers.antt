use Rattle.std.proofs.Common.{sym, ◌∙◌}
use Rattle.cat_types.specs.Rules.{is_broken}
use Rattle.cat_types.proofs.Finding.{none_at}
use Rattle.cat_types.proofs.rules.Rule.first_broken.Goals as goal

pub loop-place-preserved : goal.loop-place-preserved
loop-place-preserved c = none_at (is_broken c.args.self) c.args.pieces.now c.loop-place.place c.index-pieces-place.result c.index-pieces-place.is c.loop-place-test.true c.loop-place.invariant
    (sym c.is_broken_by.ensures ∙ c.if-is_broken_by.false)
