use Rattle.std.proofs.Common.{◌+◌, sym, ◌∙◌, arith, subst}
use Rattle.cost_bounds.specs.Pass.{front_of}
use Rattle.cost_bounds.proofs.Known.{front_get, front_none, front_length}
use Rattle.cost_bounds.proofs.KnownJobs.{Walking, walking_starts, walking_goes, walking_acts, walking_leaves, walking_ends}
use Rattle.cost_bounds.proofs.place.section_walk.Goals as goal

pub steps-init : goal.steps-init
steps-init c = walking_starts c.args.device.now (front_of c.args.tasks c.args.code.now) c.args.from c.nothing-sum.result c.nothing-sum.ensures

pub returns-then-pc-tasks : goal.returns-then-pc-tasks
returns-then-pc-tasks c =
    walking_leaves c.args.device.now (front_of c.args.tasks c.args.code.now) c.args.from c.steps.pc c.steps.counter c.steps.sum c.steps.sum
    (front_none c.args.tasks c.args.code.now.instrs c.steps.pc c.if-pc-tasks.true) c.steps.invariant

pub returns-then-acts : goal.returns-then-acts
returns-then-acts c =
    walking_acts c.args.device.now (front_of c.args.tasks c.args.code.now) c.args.from c.steps.pc c.steps.counter c.instr-instr.result c.class.result c.steps.sum c.class_job.result c.plus-sum.result
    (front_get c.args.tasks c.args.code.now.instrs c.steps.pc c.instr-instr.result c.if-pc-tasks.false c.instr-instr.ensures) (c.class_job.ensures, c.class.ensures) (sym c.acts.ensures ∙ c.if-acts.true) c.plus-sum.ensures c.steps.invariant

pub steps-preserved : goal.steps-preserved
steps-preserved c =
    subst (λ z. Walking c.args.device.now (front_of c.args.tasks c.args.code.now) c.args.from z c.plus-sum.result (c.steps.counter + 1)) (sym c.place_after-pc.ensures)
    (walking_goes c.args.device.now (front_of c.args.tasks c.args.code.now) c.args.from c.steps.pc c.steps.counter c.instr-instr.result c.class.result c.steps.sum c.class_job.result c.plus-sum.result
    (front_get c.args.tasks c.args.code.now.instrs c.steps.pc c.instr-instr.result c.if-pc-tasks.false c.instr-instr.ensures) (c.class_job.ensures, c.class.ensures) (sym c.acts.ensures ∙ c.if-acts.false) c.plus-sum.ensures c.steps.invariant)

pub returns : goal.returns
returns c =
    walking_ends c.args.device.now (front_of c.args.tasks c.args.code.now) c.args.from c.steps.pc c.steps.counter c.steps.sum c.steps.sum
    (omega (arith, front_length c.args.tasks c.args.code.now.instrs, c.steps-test.false)) c.steps.invariant
