use Rattle.std.proofs.Common.{ℕ, ◌<◌, slice_index}
use Rattle.reference_run.specs.Held.{IsNoSooner}
use Rattle.reference_run.specs.Reference.{deadlines_of}
use Rattle.reference_run.proofs.next.next_at.Given as goal

abbrev pub invariant-others : goal.invariant-others
invariant-others l = (other : ℕ) → other < l.other → IsNoSooner l.arrivals (deadlines_of l.program) l.now other (slice_index l.done other) l.due l.event
