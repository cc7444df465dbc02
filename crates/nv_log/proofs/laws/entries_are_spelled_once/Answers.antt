use Rattle.nv_log.proofs.EntryLemmas.{record_of_once}
use Rattle.nv_log.proofs.AppendLemmas.{length-record}
use Rattle.nv_log.proofs.laws.entries_are_spelled_once.Goals as goal

pub returns : goal.returns
returns c = record { length_is = length-record; once = record_of_once }
