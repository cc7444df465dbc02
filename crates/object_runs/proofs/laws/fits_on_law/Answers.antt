use Rattle.object_runs.proofs.Fitting.{fits_on}
use Rattle.object_runs.proofs.laws.fits_on_law.Goals as goal

pub returns : goal.returns
returns c = fits_on
