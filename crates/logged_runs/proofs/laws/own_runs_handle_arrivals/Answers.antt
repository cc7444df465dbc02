use Rattle.logged_runs.proofs.Arrived.{handle_arrivals}
use Rattle.logged_runs.proofs.laws.own_runs_handle_arrivals.Goals as goal

pub returns : goal.returns
returns c = handle_arrivals c.arrivals_are_counted.ensures
