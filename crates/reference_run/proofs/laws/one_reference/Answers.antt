use Rattle.reference_run.proofs.Unique.{no_fault, one_end, one_fault}
use Rattle.reference_run.proofs.laws.one_reference.Goals as goal

pub returns-clause-end : goal.returns-clause-end
returns-clause-end c = one_end

pub returns-clause-fault : goal.returns-clause-fault
returns-clause-fault c = one_fault

pub returns-clause-either : goal.returns-clause-either
returns-clause-either c = no_fault
