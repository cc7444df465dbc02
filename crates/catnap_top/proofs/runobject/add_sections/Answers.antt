use Rattle.std.proofs.Common.{◌∙◌, sym, arith}
use Rattle.cn_base.specs.PageSums.{held_adds}
use Rattle.catnap_top.specs.RunObject.{section_answers}
use Rattle.catnap_top.proofs.Running.{goes, out_more, run_cut, run_ends}
use Rattle.catnap_top.proofs.Sections.{left_go, left_stop, sections_done}
use Rattle.catnap_top.proofs.runobject.add_sections.Goals as goal

pub returns-then-not-is_step-clause-text : goal.returns-then-not-is_step-clause-text
returns-then-not-is_step-clause-text g c =
    let code = c.args.object.now.code in
    let xs = section_answers code c.args.steps c.args.working in
    let none = left_stop xs code c.args.steps c.loop-taken.taken c.loop-taken.working c.section-stepped.new.working c.section-stepped.result
    c.loop-taken.invariant.2 c.section-stepped.ensures.gives (c.is_step.ensures.none c.if-not-is_step.true) in
    run_ends _ _ _ _ _ _ xs c.loop-taken.taken c.add_count.result c.loop-taken.invariant.3 c.loop-taken.invariant.5 none c.add_count.ensures.text

pub returns-in-Err-clause-text : goal.returns-in-Err-clause-text
returns-in-Err-clause-text g c =
    let code = c.args.object.now.code in
    let xs = section_answers code c.args.steps c.args.working in
    let left = left_go xs code c.args.steps c.loop-taken.taken c.loop-taken.working c.section-stepped.new.working c.section-stepped.result
    c.loop-taken.invariant.2 c.loop-taken-test.true c.section-stepped.ensures.gives (c.is_step.ensures.step c.if-not-is_step.false) in
    run_cut _ _ _ _ _ xs c.loop-taken.taken c.section-stepped.result _ c.loop-taken.invariant.3 left c.in-Err.ensures.text

pub loop-taken-preserved : goal.loop-taken-preserved
loop-taken-preserved g c =
    let code = c.args.object.now.code in
    let xs = section_answers code c.args.steps c.args.working in
    let left = left_go xs code c.args.steps c.loop-taken.taken c.loop-taken.working c.section-stepped.new.working c.section-stepped.result
    c.loop-taken.invariant.2 c.loop-taken-test.true c.section-stepped.ensures.gives (c.is_step.ensures.step c.if-not-is_step.false) in
    let more = goes xs c.loop-taken.taken c.section-stepped.result _ left in (
      omega arith,
      c.section-stepped.ensures.rests,
      more.left,
      held_adds _ _ _ _ _ _ _ _ _ (sym (out_more xs c.loop-taken.taken c.section-stepped.result _ left)) c.loop-taken.invariant.3 c.in-Ok.ensures.text,
      c.in-Ok.ensures.cause.kept ∙ c.loop-taken.invariant.4,
      more.within,
      c.in-Ok.ensures.same_sink ∙ c.loop-taken.invariant.6,
    )

pub returns-clause-text : goal.returns-clause-text
returns-clause-text g c =
    let code = c.args.object.now.code in
    let xs = section_answers code c.args.steps c.args.working in
    run_ends _ _ _ _ _ _ xs c.loop-taken.taken c.add_count-2.result c.loop-taken.invariant.3 c.loop-taken.invariant.5
    (c.loop-taken.invariant.2 ∙ sections_done code c.args.steps c.loop-taken.taken c.loop-taken.working c.loop-taken-test.false)
    c.add_count-2.ensures.text
