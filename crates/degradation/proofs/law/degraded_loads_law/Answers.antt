use Rattle.degradation.proofs.Asked.{its_load}
use Rattle.degradation.proofs.law.degraded_loads_law.Goals as goal

pub returns : goal.returns
returns c = its_load c.events_have_headers.ensures
