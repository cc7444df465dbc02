use Rattle.degradation.proofs.Degrades.{suits}
use Rattle.degradation.proofs.law.choices_suit.Goals as goal

pub returns : goal.returns
returns c = suits c.events_have_headers.ensures
