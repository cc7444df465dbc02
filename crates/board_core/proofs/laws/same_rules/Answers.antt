use Rattle.board_core.proofs.Same.{same_rules}
use Rattle.board_core.proofs.laws.same_rules.Goals as goal

pub returns : goal.returns
returns c = same_rules
