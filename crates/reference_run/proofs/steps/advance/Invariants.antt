use Rattle.std.proofs.Common.{◌≡◌, ◌≤◌}
use Rattle.cat_program.specs.Checked.{body_at}
use Rattle.cat_eval.specs.Cursor.{Fits}
use Rattle.reference_run.specs.Reference.{advance_to}
use Rattle.reference_run.specs.Held.{IsBeside, moment_of}
use Rattle.reference_run.proofs.steps.advance.Given as goal

abbrev pub invariant-steps : goal.invariant-steps
invariant-steps l = record {
  fits : Fits l.program l.run.state;
  at : l.run.steps ≡ l._step;
  within : l._step ≤ l.upto;
  left : advance_to (body_at l.program) l.upto (moment_of l.program l.fn.run) ≡ advance_to (body_at l.program) l.upto (moment_of l.program l.run);
  beside : IsBeside l.fn.run l.run;
}
