use Rattle.event_arrivals.proofs.Counted.{are_counted}
use Rattle.event_arrivals.proofs.laws.arrivals_are_counted.Goals as goal

pub returns : goal.returns
returns c = are_counted
