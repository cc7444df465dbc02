use Rattle.event_arrivals.proofs.Told.{told_events, told_sound, told_timings}
use Rattle.event_arrivals.proofs.laws.told_arrivals_are_sound.Goals as goal

pub returns : goal.returns
returns c = let have = c.events_have_headers.ensures in record { timings = told_timings have; events = told_events have; sound = told_sound have }
