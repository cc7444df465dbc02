use Rattle.board_core.proofs.Ruled.{decided}
use Rattle.board_core.proofs.laws.rules_decide.Goals as goal

pub returns : goal.returns
returns c = decided c.operations_are_bounded.ensures
