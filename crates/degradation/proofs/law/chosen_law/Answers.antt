use Rattle.degradation.proofs.Asked.{degraded_by, repeats}
use Rattle.degradation.proofs.Serving.{served}
use Rattle.degradation.proofs.law.chosen_law.Goals as goal

pub returns : goal.returns
returns c = record { served = served; degraded = degraded_by; repeats = repeats c.degraded_loads_law.ensures }
