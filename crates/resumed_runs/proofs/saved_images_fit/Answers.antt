use Rattle.resumed_runs.proofs.Leaving.{fresh, resumed}
use Rattle.resumed_runs.proofs.saved_images_fit.Goals as goal

pub returns : goal.returns
returns c = record {
  fresh = λ program device arrivals chosen plan p board is_plan set_up starts leads.
      fresh c.records_are_read_again.ensures program device arrivals chosen plan is_plan (c.agrees_with_one.ensures program chosen.versions arrivals) (c.starts_belong.ensures program plan) (c.ends_hold.ensures program plan) set_up
      p board starts leads;
  resumed = λ program device arrivals chosen plan life file first board is_plan set_up fit with leads.
      resumed c.records_are_read_again.ensures program device arrivals chosen plan is_plan (c.agrees_with_one.ensures program chosen.versions arrivals) (c.starts_belong.ensures program plan) (c.ends_hold.ensures program plan)
      set_up life file first board fit with leads;
}
