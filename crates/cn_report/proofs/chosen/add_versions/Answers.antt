use Rattle.std.proofs.Common.{◌∙◌, ◌<◌, length, arith, sym, refl}
use Rattle.std.proofs.lemmas.List.{append-nil}
use Rattle.cn_base.specs.PageSums.{held_whole, held_adds}
use Rattle.cn_base.specs.PageWords.{held_in}
use Rattle.cn_base.specs.Texts.{in_turn}
use Rattle.cn_report.specs.Report.{event_line}
use Rattle.cn_base.specs.TextSums.{cut_held_in_turn, grown_in_turn}
use Rattle.cn_report.proofs.Lines.{event_line_is}
use Rattle.cn_report.proofs.chosen.add_versions.Goals as goal

pub loop-e-init : goal.loop-e-init
loop-e-init g c = (refl, held_whole _ _ _ (sym (append-nil (held_in c.args.page.now))), refl)

pub returns-in-Err-clause-text : goal.returns-in-Err-clause-text
returns-in-Err-clause-text g c =
    let program = c.args.program.now in
    let chosen = c.args.chosen.now in
    let lt : c.loop-e.e < length program.events = omega (arith, c.loop-e-test.true, c.events-e-end.ensures.count) in
    cut_held_in_turn (event_line program chosen) c.loop-e.e (length program.events) _ _ _ _ _ _ lt c.loop-e.invariant.1
    (event_line_is program chosen c.loop-e.e c.as_slice-versions.result.now c.as_slice-loads.result.now c.event.result.now c.as_str-name.result.now c.as_slice-versions.ensures c.as_slice-loads.ensures c.event.ensures.header c.as_str-name.ensures)
    c.in-Err.ensures.text

pub loop-e-preserved : goal.loop-e-preserved
loop-e-preserved g c =
    let program = c.args.program.now in
    let chosen = c.args.chosen.now in (
      c.in-Ok.ensures.same_sink ∙ c.loop-e.invariant.0,
      held_adds _ _ _ _ _ _ (in_turn (event_line program chosen) c.loop-e.e) _ _
          (grown_in_turn (event_line program chosen) c.loop-e.e _
          (event_line_is program chosen c.loop-e.e c.as_slice-versions.result.now c.as_slice-loads.result.now c.event.result.now c.as_str-name.result.now c.as_slice-versions.ensures c.as_slice-loads.ensures c.event.ensures.header c.as_str-name.ensures))
          c.loop-e.invariant.1 c.in-Ok.ensures.text,
      c.in-Ok.ensures.cause.kept ∙ c.loop-e.invariant.2,
    )
