use Rattle.std.proofs.Common.{subst, sym, arith}
use Rattle.cn_object.specs.Looping.{InnerIs}
use Rattle.cn_object.proofs.Nesting.{sound_before, back_turn, same_crosses, crosses_same}
use Rattle.cn_object.proofs.loops.jumps_well.Goals as goal

pub returns-then-to-pc : goal.returns-then-to-pc
returns-then-to-pc c =
    let sound = sound_before c.args.code.now c.args.pc c.requires.regions c.requires.before in (
      λ t. let turn = c.is_turn.ensures.0 t in (λ low. turn, back_turn c.args.code.now c.args.pc c.args.to turn.0 sound c.if-to-pc.true c.requires.goes turn.1),
      λ j. c.is_turn.ensures.1 (j.0 c.if-to-pc.true),
    )

pub returns : goal.returns
returns c =
    let code = c.args.code.now in
    let sound = sound_before code c.args.pc c.requires.regions c.requires.before in
    let here : InnerIs code c.args.pc c.inner_at-here.result = subst (InnerIs code c.args.pc) (sym c.inner_at-here.ensures) (c.requires.inner.each c.args.pc (omega (arith, c.requires.inner.size, c.if-to-pc.false, c.requires.within))) in
    let there : InnerIs code c.args.to c.inner_at-there.result = subst (InnerIs code c.args.to) (sym c.inner_at-there.ensures) (c.requires.inner.each c.args.to (omega (arith, c.requires.inner.size, c.requires.within))) in (
      λ t. (
        λ low. absurd (omega (arith, low, c.if-to-pc.false)),
        same_crosses code c.args.pc c.args.to c.inner_at-here.result sound c.if-to-pc.false here (subst (InnerIs code c.args.to) (c.is_same.ensures.0 t) there),
      ),
      λ j. c.is_same.ensures.1 (crosses_same code c.args.pc c.args.to c.inner_at-here.result c.inner_at-there.result c.requires.regions c.if-to-pc.false here there j.1),
    )
