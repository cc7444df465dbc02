use Rattle.std.proofs.Common.{refl, sym, ◌∙◌}
use Rattle.cn_object.specs.Loops.{GoesOn}
use Rattle.cn_object.proofs.Acting.{soon_acts, soon_later}
use Rattle.cn_object.proofs.loops.acts_soon_at.Goals as goal

pub returns-then-acts : goal.returns-then-acts
returns-then-acts c = (λ t. soon_acts c.args.code.now c.args.pc c.instr-instr.result c.instr-instr.ensures (sym c.acts.ensures ∙ c.if-acts.true), λ a. refl)

pub returns-in-None : goal.returns-in-None
returns-in-None c = (
  λ t. GoesOn c.instr-instr.result c.instr-instr.ensures (sym c.acts.ensures ∙ c.if-acts.false) (sym c.target_of.ensures ∙ c.in-None.is) (c.requires.later.0 t),
  λ a. c.requires.later.1 (soon_later c.args.code.now c.args.pc c.instr-instr.result c.instr-instr.ensures (sym c.acts.ensures ∙ c.if-acts.false) a),
)
