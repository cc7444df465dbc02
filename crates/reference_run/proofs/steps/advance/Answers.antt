use Rattle.std.proofs.Common.{◌≡◌, ◌∙◌, ◌≤◌, ◌<◌, refl, sym, arith}
use Rattle.cat_program.specs.Checked.{body_at}
use Rattle.cat_program.specs.Meaning.{task_step_of}
use Rattle.reference_run.specs.Held.{moment_of}
use Rattle.reference_run.proofs.Advancing.{next_later, to_more, to_same, to_stuck}
use Rattle.reference_run.proofs.steps.advance.Goals as goal

pub returns-then-not-branch-clause-none : goal.returns-then-not-branch-clause-none
returns-then-not-branch-clause-none c = λ _.
    let p = c.args.program.now in
    c.steps.invariant.left ∙ to_stuck (body_at p) c.args.upto (moment_of p c.steps.run) (omega (arith, c.steps.invariant.at, c.steps-test.true)) (c.in_ok-step.ensures.none c.if-not-branch.true)

pub steps-preserved : goal.steps-preserved
steps-preserved c =
    let p = c.args.program.now in
    let went = c.in_ok-step.ensures.went c.if-not-branch.false in
    record {
      fits = went.fits;
      at = omega (arith, next_later (moment_of p c.steps.run) (moment_of p c.step.new.run) (task_step_of (body_at p) (moment_of p c.steps.run).state) went.moment, c.steps.invariant.at);
      within = omega (arith, c.steps-test.true);
      left = c.steps.invariant.left ∙ to_more (body_at p) c.args.upto (moment_of p c.steps.run) (moment_of p c.step.new.run) (omega (arith, c.steps.invariant.at, c.steps-test.true)) went.moment;
      beside = record { start = went.beside.start ∙ c.steps.invariant.beside.start; done = went.beside.done ∙ c.steps.invariant.beside.done };
    }

pub returns-clause-all : goal.returns-clause-all
returns-clause-all c = λ _.
    let p = c.args.program.now in
    record {
      fits = c.steps.invariant.fits;
      moment = c.steps.invariant.left ∙ to_same (body_at p) c.args.upto (moment_of p c.steps.run) (omega (arith, c.steps.invariant.at, c.steps.invariant.within, c.steps-test.false));
      beside = c.steps.invariant.beside;
    }
