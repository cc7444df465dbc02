use Rattle.std.proofs.Common.{sym, ◌∙◌}
use Rattle.cat_conditions.specs.Types.{has_wrong_type}
use Rattle.cat_types.specs.Sorts.{sorts}
use Rattle.cat_types.proofs.Finding.{none_at}
use Rattle.cat_types.proofs.names.Names.first_wrong_type.Goals as goal

pub loop-place-preserved : goal.loop-place-preserved
loop-place-preserved c = none_at (has_wrong_type (sorts c.args.self.now)) c.args.pieces.now c.loop-place.place c.index-pieces-place.result c.index-pieces-place.is c.loop-place-test.true c.loop-place.invariant
    (sym c.has_wrong_type.ensures ∙ c.if-has_wrong_type.false)
