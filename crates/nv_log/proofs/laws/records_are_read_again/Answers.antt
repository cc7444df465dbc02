use Rattle.nv_log.proofs.EntryLemmas.{read_again}
use Rattle.nv_log.proofs.laws.records_are_read_again.Goals as goal

pub returns : goal.returns
returns c = read_again
