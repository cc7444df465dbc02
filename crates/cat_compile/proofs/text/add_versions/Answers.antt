use Rattle.std.proofs.Common.{◌≡◌, ℕ, ◌<◌, ◌++◌, length, ap, arith, ◌∙◌, sym, subst, refl}
use Rattle.std.proofs.lemmas.List.{append-nil}
use Rattle.std.proofs.lemmas.Result.{err_from_is_err_and}
use Rattle.cn_base.specs.Pages.{IsHeld}
use Rattle.cn_base.specs.PageSums.{held_whole}
use Rattle.cn_base.specs.PageWords.{held_in, sink_in}
use Rattle.cn_base.specs.Texts.{in_turn}
use Rattle.cn_base.specs.TextSums.{cut_held_in_turn, held_in_turn}
use Rattle.cat_machine.specs.CodeValue.{versions_at}
use Rattle.cat_compile.specs.Listing.{version_header}
use Rattle.cat_compile.proofs.Listed.{events_counted, version_is}
use Rattle.cat_compile.proofs.text.add_versions.Goals as goal

pub loop-v-init : goal.loop-v-init
loop-v-init g c = record {
  same_sink = refl;
  text = held_whole _ _ _ (sym (append-nil (held_in c.args.page.now)));
  faults = refl;
}

pub versions-entries-requires : goal.versions-entries-requires
versions-entries-requires g c = omega (arith, c.requires.event, events_counted c.args.program.now c.args.code.now c.requires.code)

pub returns-in_err-add_version-clause-text : goal.returns-in_err-add_version-clause-text
returns-in_err-add_version-clause-text g c =
    let p = err_from_is_err_and c.from_residual.result c.from_residual.ensures.1 in
    let program = c.args.program.now in
    let code = c.args.code.now in
    let lt : c.loop-v.v < length (versions_at code c.args.e) = omega (arith, c.loop-v-test.true, ap length c.versions-entries.ensures) in
    rw p.1
    (cut_held_in_turn (version_header program code c.args.pc c.args.e) c.loop-v.v (length (versions_at code c.args.e)) _ _ _ _ _ _ lt c.loop-v.invariant.text
    (version_is program code c.args.pc c.args.e c.loop-v.v c.versions-entries.result.now c.as_str.result.now c.event-event.result.now c.versions-entries.ensures c.event-event.ensures.header c.as_str.ensures)
    c.in_err-add_version.ensures.text)

pub loop-v-preserved : goal.loop-v-preserved
loop-v-preserved g c =
    let program = c.args.program.now in
    let code = c.args.code.now in
    let one = c.in_ok-add_version in
    record {
      same_sink = one.ensures.same_sink ∙ c.loop-v.invariant.same_sink;
      text = held_in_turn (version_header program code c.args.pc c.args.e) c.loop-v.v _ _ _ _ _ _ _ c.loop-v.invariant.text
          (version_is program code c.args.pc c.args.e c.loop-v.v c.versions-entries.result.now c.as_str.result.now c.event-event.result.now c.versions-entries.ensures c.event-event.ensures.header c.as_str.ensures)
          one.ensures.text;
      faults = one.ensures.cause.kept ∙ c.loop-v.invariant.faults;
    }

pub returns-clause-text : goal.returns-clause-text
returns-clause-text g c =
    let program = c.args.program.now in
    let code = c.args.code.now in
    let all : c.loop-v.v ≡ length (versions_at code c.args.e) = omega (arith, c.loop-v-test.false, c.loop-v.auto, ap length c.versions-entries.ensures) in
    subst (λ (n : ℕ). IsHeld (g.K.Sink.written (sink_in c.args.page.now)) (g.K.Sink.written (sink_in c.loop-v.page)) (held_in c.args.page.now ++ in_turn (version_header program code c.args.pc c.args.e) n) (held_in c.loop-v.page))
    all c.loop-v.invariant.text
