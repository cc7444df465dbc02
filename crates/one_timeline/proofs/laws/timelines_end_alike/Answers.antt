use Rattle.one_timeline.proofs.Ends.{ends_once}
use Rattle.one_timeline.proofs.laws.timelines_end_alike.Goals as goal

pub returns : goal.returns
returns c = λ program plan origin.
    ends_once program plan origin (c.rules_decide.ensures origin) c.sections_read_no_payload.ensures c.choices_are_warranted.ensures.once (c.lawful_timelines_hold.ensures program plan)
