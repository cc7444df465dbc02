use Rattle.demand_core.proofs.Points.{covered, kept_at_points, fits_at_points, least_deadline-le, first_late, reserve-less}
use Rattle.demand_core.proofs.points_law.Goals as goal

pub returns-clause-covers : goal.returns-clause-covers
returns-clause-covers c = covered

pub returns-clause-kept : goal.returns-clause-kept
returns-clause-kept c = kept_at_points

pub returns-clause-fits : goal.returns-clause-fits
returns-clause-fits c = fits_at_points

pub returns-clause-first : goal.returns-clause-first
returns-clause-first c = first_late

pub returns-clause-harvest : goal.returns-clause-harvest
returns-clause-harvest c = reserve-less

pub returns-clause-least : goal.returns-clause-least
returns-clause-least c = least_deadline-le
