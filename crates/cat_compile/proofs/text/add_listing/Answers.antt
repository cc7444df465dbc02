use Rattle.std.proofs.Common.{◌≡◌, ℕ, ◌<◌, ◌++◌, length, arith, ◌∙◌, sym, subst, refl}
use Rattle.std.proofs.lemmas.List.{append-nil}
use Rattle.std.proofs.lemmas.Result.{err_from_is_err_and}
use Rattle.cn_base.specs.Pages.{IsHeld}
use Rattle.cn_base.specs.PageSums.{held_whole}
use Rattle.cn_base.specs.PageWords.{held_in, sink_in}
use Rattle.cn_base.specs.Texts.{in_turn}
use Rattle.cn_base.specs.TextSums.{cut_held_in_turn, held_in_turn}
use Rattle.cat_compile.specs.Listing.{place_lines}
use Rattle.cat_compile.proofs.text.add_listing.Goals as goal

pub loop-pc-init : goal.loop-pc-init
loop-pc-init g c = record {
  same_sink = refl;
  text = held_whole _ _ _ (sym (append-nil (held_in c.args.page.now)));
  faults = refl;
}

pub returns-in_err-add_place-clause-text : goal.returns-in_err-add_place-clause-text
returns-in_err-add_place-clause-text g c =
    let p = err_from_is_err_and c.from_residual.result c.from_residual.ensures.1 in
    let program = c.args.program.now in
    let code = c.args.code.now in
    let lt : c.loop-pc.pc < length code.instrs = omega (arith, c.loop-pc-test.true, c.len-pc-end.ensures) in
    rw p.1
    (cut_held_in_turn (place_lines program code) c.loop-pc.pc (length code.instrs) _ _ _ _ _ _ lt c.loop-pc.invariant.text
    refl
    c.in_err-add_place.ensures.text)

pub loop-pc-preserved : goal.loop-pc-preserved
loop-pc-preserved g c =
    let program = c.args.program.now in
    let code = c.args.code.now in
    let one = c.in_ok-add_place in
    record {
      same_sink = one.ensures.same_sink ∙ c.loop-pc.invariant.same_sink;
      text = held_in_turn (place_lines program code) c.loop-pc.pc _ _ _ _ _ _ _ c.loop-pc.invariant.text
          refl
          one.ensures.text;
      faults = one.ensures.cause.kept ∙ c.loop-pc.invariant.faults;
    }

pub returns-clause-text : goal.returns-clause-text
returns-clause-text g c =
    let program = c.args.program.now in
    let code = c.args.code.now in
    let all : c.loop-pc.pc ≡ length code.instrs = omega (arith, c.loop-pc-test.false, c.loop-pc.auto.pc-end, c.len-pc-end.ensures) in
    subst (λ (n : ℕ). IsHeld (g.K.Sink.written (sink_in c.args.page.now)) (g.K.Sink.written (sink_in c.loop-pc.page)) (held_in c.args.page.now ++ in_turn (place_lines program code) n) (held_in c.loop-pc.page))
    all c.loop-pc.invariant.text
