use Rattle.std.proofs.Common.{◌≡◌, false, true}
use Rattle.cn_object.proofs.Files.{few_by, elim_false}
use Rattle.cn_object.proofs.Nesting.{version_by, version_jumps, version_takes}
use Rattle.cn_object.proofs.loops.version_loops.Goals as goal

pub returns-then-not-all_jump_well : goal.returns-then-not-all_jump_well
returns-then-not-all_jump_well c = (
  λ t. absurd (let clash : false ≡ true = t in cc),
  λ v. absurd (elim_false c.all_jump_well.result _ c.all_jump_well.ensures c.if-not-all_jump_well.true (version_jumps c.args.code.now c.args.pc c.instr-instr.result c.requires.regions c.instr-instr.ensures v)),
)

pub returns : goal.returns
returns c = (
  λ t. version_by c.args.code.now c.args.pc c.instr-instr.result c.instr-instr.ensures
      (few_by c.all_jump_well.result _ c.all_jump_well.ensures c.if-not-all_jump_well.false) (few_by c.repeats.result _ c.repeats.ensures c.if-not-repeats.false) (c.takes_above.ensures.0 t),
  λ v. c.takes_above.ensures.1 (version_takes c.args.code.now c.args.pc v),
)
