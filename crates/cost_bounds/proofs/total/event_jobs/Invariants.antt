use Rattle.cost_bounds.specs.Pass.{entry_job}
use Rattle.cost_bounds.proofs.Totals.{Mapped}
use Rattle.cost_bounds.proofs.total.event_jobs.Given as goal

abbrev pub invariant-loop-entry : goal.invariant-loop-entry
invariant-loop-entry l = Mapped (entry_job l.around l.most) l.entries l.entry-index l.jobs.items
