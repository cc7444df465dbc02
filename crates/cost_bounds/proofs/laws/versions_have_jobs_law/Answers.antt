use Rattle.cost_bounds.proofs.Programs.{versions_have_jobs}
use Rattle.cost_bounds.proofs.laws.versions_have_jobs_law.Goals as goal

pub returns : goal.returns
returns c = versions_have_jobs
