use Rattle.event_arrivals.proofs.Counted.{lowest}
use Rattle.event_arrivals.proofs.OneNext.{one_next}
use Rattle.event_arrivals.proofs.laws.one_next.Goals as goal

pub returns : goal.returns
returns c = record { same = one_next; lowest = lowest }
