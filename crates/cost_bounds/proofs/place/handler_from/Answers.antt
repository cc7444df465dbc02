use Rattle.std.proofs.Common.{◌+◌, Some, sym, ap, ◌∙◌, arith, subst}
use Rattle.cat_machine.specs.ClassOf.{class_of}
use Rattle.cost_bounds.specs.Pass.{HandlerKnown}
use Rattle.cost_bounds.proofs.KnownJobs.{leaves, tests, repeats, goes_straight, straight_of}
use Rattle.cost_bounds.proofs.place.handler_from.Goals as goal

pub returns-then-pc-to : goal.returns-then-pc-to
returns-then-pc-to c =
    leaves c.args.device.now c.args.code.now c.args.pc c.in-Jump.to c.class.result c.class_job-first.result c.job_in.result c.plus.result
    (c.instr-instr.ensures ∙ ap Some c.in-Jump.is) (c.class_job-first.ensures, c.class.ensures ∙ ap class_of c.in-Jump.is) c.if-pc-to.true
    (subst (HandlerKnown c.args.device.now c.args.code.now c.in-Jump.to) (sym c.job_in.ensures) (c.requires.later c.in-Jump.to c.if-pc-to.true)) c.plus.ensures

pub returns-in-JumpZero : goal.returns-in-JumpZero
returns-in-JumpZero c =
    tests c.args.device.now c.args.code.now c.args.pc c.in-JumpZero.to c.class.result c.class_job-first.result c.job_in-in-JumpZero.result c.job_in-in-JumpZero-2.result c.dearer.result c.plus-in-JumpZero.result
    (c.instr-instr.ensures ∙ ap Some c.in-JumpZero.is) (c.class_job-first.ensures, c.class.ensures ∙ ap class_of c.in-JumpZero.is)
    (subst (HandlerKnown c.args.device.now c.args.code.now (c.args.pc + 1)) (sym c.job_in-in-JumpZero.ensures) (c.requires.later (c.args.pc + 1) (omega arith)))
    (λ lt. subst (HandlerKnown c.args.device.now c.args.code.now c.in-JumpZero.to) (sym c.job_in-in-JumpZero-2.ensures) (c.requires.later c.in-JumpZero.to lt)) c.dearer.ensures c.plus-in-JumpZero.ensures

pub returns-in-Turn : goal.returns-in-Turn
returns-in-Turn c =
    repeats c.args.device.now c.args.code.now c.args.pc c.in-Turn.to c.turns.result c.class.result c.class_job-first.result c.job_in-in-Turn.result c.job_in-in-Turn-2.result c.plus-in-Turn.result c.times.result c.plus-in-Turn-2.result c.plus-in-Turn-3.result
    (c.instr-instr.ensures ∙ ap Some c.in-Turn.is) (c.class_job-first.ensures, c.class.ensures ∙ ap class_of c.in-Turn.is) c.turns.ensures
    (subst (HandlerKnown c.args.device.now c.args.code.now (c.args.pc + 1)) (sym c.job_in-in-Turn.ensures) (c.requires.later (c.args.pc + 1) (omega arith)))
    (λ lt. subst (HandlerKnown c.args.device.now c.args.code.now c.in-Turn.to) (sym c.job_in-in-Turn-2.ensures) (c.requires.later c.in-Turn.to lt)) c.plus-in-Turn.ensures c.times.ensures c.plus-in-Turn-2.ensures c.plus-in-Turn-3.ensures

pub returns-in_default : goal.returns-in_default
returns-in_default c =
    goes_straight c.args.device.now c.args.code.now c.args.pc c.instr-instr.result c.class.result c.class_job-first.result c.job_in-in_default.result c.plus-in_default.result
    c.instr-instr.ensures (c.class_job-first.ensures, c.class.ensures) (straight_of c.instr-instr.result c.in_default.not-Jump c.in_default.not-JumpZero c.in_default.not-Turn c.in_default.not-End)
    (subst (HandlerKnown c.args.device.now c.args.code.now (c.args.pc + 1)) (sym c.job_in-in_default.ensures) (c.requires.later (c.args.pc + 1) (omega arith))) c.plus-in_default.ensures
