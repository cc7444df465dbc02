use Rattle.logged_runs.proofs.Tells.{entries_tell}
use Rattle.logged_runs.proofs.laws.entries_tell.Goals as goal

pub returns : goal.returns
returns c = entries_tell
