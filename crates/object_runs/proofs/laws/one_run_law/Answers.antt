use Rattle.cn_object.specs.Running.{first_of}
use Rattle.object_runs.proofs.Objects.{one_run}
use Rattle.object_runs.proofs.laws.one_run_law.Goals as goal

pub returns-clause-object : goal.returns-clause-object
returns-clause-object c = λ o most a b. one_run o.code most (first_of o) a b

pub returns-clause-state : goal.returns-clause-state
returns-clause-state c = one_run
