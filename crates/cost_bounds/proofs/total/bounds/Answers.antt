use Rattle.std.proofs.Common.{subst}
use Rattle.cat_machine.specs.Code.{code_of}
use Rattle.cat_machine.specs.Fits.{Fits}
use Rattle.cost_bounds.specs.Pass.{AreMade, tasks_in}
use Rattle.cost_bounds.proofs.Ends.{tasks_end}
use Rattle.cost_bounds.proofs.Made.{are_bounds}
use Rattle.cost_bounds.proofs.Programs.{runs_within}
use Rattle.cost_bounds.proofs.total.bounds.Goals as goal

pub returns-in-Ok-clause-greatest : goal.returns-in-Ok-clause-greatest
returns-in-Ok-clause-greatest c =
    let p = c.args.program.now in
    let laid = c.code_is_laid_out.ensures in
    let checked = c.bodies-checked.ensures.checked in
    let made = subst (λ z. AreMade z c.args.device.now c.args.lines (tasks_in z) c.in-Ok.bounds) c.requires c.in-Ok.ensures in
    are_bounds laid p c.args.device.now c.args.lines c.ranges.lines.fits checked c.in-Ok.bounds
    (subst (λ n. AreMade (code_of p) c.args.device.now c.args.lines n c.in-Ok.bounds) (tasks_end laid p checked) made)

pub returns-in-Ok-clause-runs : goal.returns-in-Ok-clause-runs
returns-in-Ok-clause-runs c =
    λ h fits free empty. runs_within c.code_is_laid_out.ensures c.spending_law.ensures c.args.program.now c.args.device.now c.args.lines c.in-Ok.bounds h
    (returns-in-Ok-clause-greatest c) (subst (λ z. Fits c.args.program.now z h) c.requires fits) free empty
