use Rattle.logged_runs.proofs.Goes.{itself, onward}
use Rattle.logged_runs.proofs.laws.earlier_runs_are_ordered.Goals as goal

pub returns : goal.returns
returns c = λ s. record { itself = itself s; onward = onward s }
