use Rattle.lawful_timeline.proofs.Turning.{none, turn, turn_time}
use Rattle.lawful_timeline.proofs.laws.timelines_grow.Goals as goal

pub returns : goal.returns
returns c = λ plan. record { none = none plan; turn = turn plan; time = turn_time plan }
