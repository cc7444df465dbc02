use Rattle.std.proofs.Common.{subst, arith}
use Rattle.nv_memory.specs.declared.layout.Layout.{Layout}
use Rattle.reference_run.specs.Reference.{setting_of}
use Rattle.cn_resume.specs.Fit.{IsFit, IsRefused, purpose_of}
use Rattle.cn_resume.proofs.Staging.{one_layout, sized}
use Rattle.cn_resume.proofs.accepting.accept.Goals as goal

pub returns-in-Err-clause-refused : goal.returns-in-Err-clause-refused
returns-in-Err-clause-refused c = λ l is.
    (let s = setting_of c.args.program.now c.args.versions.now c.args.arrivals.now in
    let same = one_layout c.layouts_are_numbers.ensures c.args.program.now c.args.device.now c.layout_for-layout.result l c.layout_for-layout.ensures is in
    subst (λ (x : Layout). IsRefused (purpose_of s x c.args.device.now.cap c.args.life) c.args.bytes.now c.in-Err.fault) same (c.in-Err.ensures.refused s))

pub returns-in-Err-check_image-clause-refused : goal.returns-in-Err-check_image-clause-refused
returns-in-Err-check_image-clause-refused c = λ l is.
    (let s = setting_of c.args.program.now c.args.versions.now c.args.arrivals.now in
    let same = one_layout c.layouts_are_numbers.ensures c.args.program.now c.args.device.now c.layout_for-layout.result l c.layout_for-layout.ensures is in
    subst (λ (x : Layout). IsRefused (purpose_of s x c.args.device.now.cap c.args.life) c.args.bytes.now c.in-Err-check_image.fault) same c.in-Err-check_image.ensures.refused)

pub taken-requires : goal.taken-requires
taken-requires c =
    let s = setting_of c.args.program.now c.args.versions.now c.args.arrivals.now in
    let size = (sized s c.layout_for-layout.result c.args.device.now.cap c.args.life c.args.bytes.now (c.in-Ok.ensures.met s)).size in
    omega (arith, size)

pub returns-clause-fit : goal.returns-clause-fit
returns-clause-fit c = λ l is.
    (let s = setting_of c.args.program.now c.args.versions.now c.args.arrivals.now in
    let same = one_layout c.layouts_are_numbers.ensures c.args.program.now c.args.device.now c.layout_for-layout.result l c.layout_for-layout.ensures is in
    subst (λ (x : Layout). IsFit (purpose_of s x c.args.device.now.cap c.args.life) c.args.bytes.now) same c.in-Ok-check_image.ensures.fit)
