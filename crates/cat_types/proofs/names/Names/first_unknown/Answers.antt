use Rattle.std.proofs.Common.{sym, ◌∙◌}
use Rattle.cat_conditions.specs.Names.{has_unknown_name}
use Rattle.cat_types.specs.Sorts.{sorts}
use Rattle.cat_types.proofs.Finding.{none_at}
use Rattle.cat_types.proofs.names.Names.first_unknown.Goals as goal

pub loop-place-preserved : goal.loop-place-preserved
loop-place-preserved c = none_at (has_unknown_name (sorts c.args.self.now)) c.args.pieces.now c.loop-place.place c.index-pieces-place.result c.index-pieces-place.is c.loop-place-test.true c.loop-place.invariant
    (sym c.piece_lacks.ensures ∙ c.if-piece_lacks.false)
