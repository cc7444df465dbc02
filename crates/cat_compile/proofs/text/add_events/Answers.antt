use Rattle.std.proofs.Common.{◌≡◌, ℕ, ◌<◌, ◌++◌, length, arith, ◌∙◌, sym, subst, refl}
use Rattle.std.proofs.lemmas.List.{append-nil}
use Rattle.std.proofs.lemmas.Result.{err_from_is_err_and}
use Rattle.cn_base.specs.Pages.{IsHeld}
use Rattle.cn_base.specs.PageSums.{held_whole}
use Rattle.cn_base.specs.PageWords.{held_in, sink_in}
use Rattle.cn_base.specs.Texts.{in_turn}
use Rattle.cn_base.specs.TextSums.{cut_held_in_turn, held_in_turn}
use Rattle.cat_compile.specs.Listing.{event_headers}
use Rattle.cat_compile.proofs.Listed.{events_counted}
use Rattle.cat_compile.proofs.text.add_events.Goals as goal

pub loop-e-init : goal.loop-e-init
loop-e-init g c = record {
  same_sink = refl;
  text = held_whole _ _ _ (sym (append-nil (held_in c.args.page.now)));
  faults = refl;
}

pub returns-in_err-add_versions-clause-text : goal.returns-in_err-add_versions-clause-text
returns-in_err-add_versions-clause-text g c =
    let p = err_from_is_err_and c.from_residual.result c.from_residual.ensures.1 in
    let program = c.args.program.now in
    let code = c.args.code.now in
    let lt : c.loop-e.e < length code.versions = omega (arith, c.loop-e-test.true, c.events-e-end.ensures.count, events_counted program code c.requires) in
    rw p.1
    (cut_held_in_turn (event_headers program code c.args.pc) c.loop-e.e (length code.versions) _ _ _ _ _ _ lt c.loop-e.invariant.text
    refl
    c.in_err-add_versions.ensures.text)

pub loop-e-preserved : goal.loop-e-preserved
loop-e-preserved g c =
    let program = c.args.program.now in
    let code = c.args.code.now in
    let one = c.in_ok-add_versions in
    record {
      same_sink = one.ensures.same_sink ∙ c.loop-e.invariant.same_sink;
      text = held_in_turn (event_headers program code c.args.pc) c.loop-e.e _ _ _ _ _ _ _ c.loop-e.invariant.text
          refl
          one.ensures.text;
      faults = one.ensures.cause.kept ∙ c.loop-e.invariant.faults;
    }

pub returns-clause-text : goal.returns-clause-text
returns-clause-text g c =
    let program = c.args.program.now in
    let code = c.args.code.now in
    let all : c.loop-e.e ≡ length code.versions = omega (arith, c.loop-e-test.false, c.loop-e.auto.e-end, c.events-e-end.ensures.count, events_counted program code c.requires) in
    subst (λ (n : ℕ). IsHeld (g.K.Sink.written (sink_in c.args.page.now)) (g.K.Sink.written (sink_in c.loop-e.page)) (held_in c.args.page.now ++ in_turn (event_headers program code c.args.pc) n) (held_in c.loop-e.page))
    all c.loop-e.invariant.text
