use Rattle.nv_memory.proofs.Runs.{runs-append, runs_one, runs_stopped, runs_then}
use Rattle.nv_memory.proofs.laws.runs_are_joined.Goals as goal

pub returns : goal.returns
returns c = record { joined = runs-append; stopped = runs_stopped; one = runs_one; stops = runs_then }
