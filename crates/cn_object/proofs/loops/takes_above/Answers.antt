use Rattle.std.proofs.Common.{◌≡◌, ◌+◌, subst, sym, ◌∙◌, arith}
use Rattle.std.specs.Prelude.{Some}
use borrow.Author.Tests.{leb-true, le-leb}
use Rattle.cn_object.specs.Looping.{InnerIs}
use Rattle.cn_object.proofs.Nesting.{sound_before, takes_some, takes_back}
use Rattle.cn_object.proofs.loops.takes_above.Goals as goal

pub returns : goal.returns
returns c =
    let code = c.args.code.now in
    let turn = c.in-Some.turn in
    let inner : InnerIs code c.args.pc (Some turn) = subst (InnerIs code c.args.pc) (sym c.inner_at.ensures ∙ c.in-Some.is) (c.requires.inner.each c.args.pc (omega (arith, c.requires.inner.size, c.requires.within))) in
    let at_turn = c.requires.depths.each turn (omega (arith, inner.around.0, c.requires.within, c.requires.depths.size)) in
    let at_place = c.requires.depths.each c.args.pc (omega (arith, c.requires.within, c.requires.depths.size)) in
    let under : c.depth_at-under.result ≡ at_turn.0 = c.depth_at-under.ensures at_turn.0 at_turn.1 in
    let depth : c.depth_at-depth.result ≡ at_place.0 = c.depth_at-depth.ensures at_place.0 at_place.1 in (
      λ t. let low = leb-true (c.from.result + c.from-2.result) c.from-3.result t in
          takes_some code c.args.pc turn at_turn.0 at_place.0 c.taken-taken.result c.instr.result (sound_before code c.args.pc c.requires.regions c.requires.before) inner c.instr.ensures c.taken-taken.ensures at_turn.2 at_place.2
          (omega (arith, low, under, depth, c.from.ensures, c.from-2.ensures, c.from-3.ensures)),
      λ a. let low = takes_back code c.args.pc turn at_turn.0 at_place.0 c.taken-taken.result c.instr.result inner c.instr.ensures c.taken-taken.ensures at_turn.2 at_place.2 a in
          le-leb (c.from.result + c.from-2.result) c.from-3.result (omega (arith, low, under, depth, c.from.ensures, c.from-2.ensures, c.from-3.ensures)),
    )
