use Rattle.logged_runs.proofs.Same.{agrees}
use Rattle.logged_runs.proofs.laws.agrees_with_one.Goals as goal

pub returns : goal.returns
returns c = λ program versions arrivals. agrees program versions arrivals
