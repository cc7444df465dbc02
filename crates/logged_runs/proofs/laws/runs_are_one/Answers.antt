use Rattle.logged_runs.proofs.Once.{one_end, one_moment}
use Rattle.logged_runs.proofs.laws.runs_are_one.Goals as goal

pub returns : goal.returns
returns c = λ s. record { end = one_end s; moment = one_moment s }
