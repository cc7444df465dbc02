use Rattle.std.proofs.Common.{List, ℕ}
use Rattle.std.specs.Prelude.{map}
use Rattle.cost_bounds.specs.BoundsValue.{jobs_of}
use Rattle.cost_bounds.specs.Pass.{entry_job}
use Rattle.cost_bounds.proofs.Totals.{Mapped}
use Rattle.cost_bounds.proofs.total.all_jobs.Given as goal

abbrev pub invariant-loop-event : goal.invariant-loop-event
invariant-loop-event l = Mapped (λ (entries : List ℕ). map (entry_job l.around l.most) entries) l.code.versions l.event (jobs_of l.all.items)
