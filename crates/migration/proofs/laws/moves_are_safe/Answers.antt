use Rattle.migration.proofs.Safe.{moves}
use Rattle.migration.proofs.laws.moves_are_safe.Goals as goal

pub returns : goal.returns
returns c = moves c.writes_are_local.ensures c.parts_are_apart.ensures c.entries_are_spelled_once.ensures c.records_are_read_again.ensures
