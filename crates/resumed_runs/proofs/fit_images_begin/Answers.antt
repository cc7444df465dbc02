use Rattle.resumed_runs.proofs.Fitting.{can_go_on}
use Rattle.resumed_runs.proofs.fit_images_begin.Goals as goal

pub returns : goal.returns
returns c = λ program device arrivals chosen plan life file board is_plan fit with.
    can_go_on c.records_are_read_again.ensures program device arrivals chosen plan is_plan (c.agrees_with_one.ensures program chosen.versions arrivals) life file fit board with
