use Rattle.std.proofs.Common.{sym, ◌∙◌, subst}
use Rattle.cost_bounds.specs.Pass.{front_of, SectionKnown}
use Rattle.cost_bounds.proofs.Known.{front_get}
use Rattle.cost_bounds.proofs.KnownJobs.{section_acts, section_goes}
use Rattle.cost_bounds.proofs.place.section_from.Goals as goal

pub returns-then-acts : goal.returns-then-acts
returns-then-acts c =
    section_acts c.args.device.now (front_of c.args.tasks c.args.code.now) c.args.pc c.instr-instr.result c.class.result c.class_job-first.result
    (front_get c.args.tasks c.args.code.now.instrs c.args.pc c.instr-instr.result c.requires.within c.instr-instr.ensures) (c.class_job-first.ensures, c.class.ensures) (sym c.acts.ensures ∙ c.if-acts.true)

pub returns-then-pc-next : goal.returns-then-pc-next
returns-then-pc-next c =
    let known = subst (SectionKnown c.args.device.now (front_of c.args.tasks c.args.code.now) c.place_after-next.result) (sym c.job_in.ensures) (c.requires.later c.place_after-next.result c.if-pc-next.true) in
    section_goes c.args.device.now (front_of c.args.tasks c.args.code.now) c.args.pc c.instr-instr.result c.class.result c.class_job-first.result c.job_in.result c.plus.result
    (front_get c.args.tasks c.args.code.now.instrs c.args.pc c.instr-instr.result c.requires.within c.instr-instr.ensures) (c.class_job-first.ensures, c.class.ensures) (sym c.acts.ensures ∙ c.if-acts.false)
    (subst (λ z. SectionKnown c.args.device.now (front_of c.args.tasks c.args.code.now) z c.job_in.result) c.place_after-next.ensures known) c.plus.ensures

pub returns-else-pc-next : goal.returns-else-pc-next
returns-else-pc-next c =
    section_goes c.args.device.now (front_of c.args.tasks c.args.code.now) c.args.pc c.instr-instr.result c.class.result c.class_job-first.result c.section_walk.result c.plus-else-pc-next.result
    (front_get c.args.tasks c.args.code.now.instrs c.args.pc c.instr-instr.result c.requires.within c.instr-instr.ensures) (c.class_job-first.ensures, c.class.ensures) (sym c.acts.ensures ∙ c.if-acts.false)
    (subst (λ z. SectionKnown c.args.device.now (front_of c.args.tasks c.args.code.now) z c.section_walk.result) c.place_after-next.ensures c.section_walk.ensures) c.plus-else-pc-next.ensures
