use Rattle.std.proofs.Common.{refl, sym, subst}
use Rattle.cost_bounds.specs.Greatest.{AreBounds}
use Rattle.forecast_choice.specs.Rows.{AreChoices, IsRowFault}
use Rattle.catnap_top.specs.Look.{Stops, fits}
use Rattle.catnap_top.specs.Served.{versions_in}
use Rattle.catnap_top.proofs.Stopping.{rows_stop}
use Rattle.catnap_top.proofs.versions.versions_of.Goals as goal

pub returns-in-Ok-clause-versions : goal.returns-in-Ok-clause-versions
returns-in-Ok-clause-versions c =
    let p = c.args.program.now in
    let d = c.args.device.now in
    fits c.in-Ok.found.items
    (record {
      l = c.layout_of-layout.result;
      b = c.in_ok-bounds.bounds;
      layout = c.layout_of-layout.ensures;
      bounds = subst (λ n. AreBounds p d n c.in_ok-bounds.bounds) c.lines-lines.ensures.value c.in_ok-bounds.ensures;
      choices = subst (λ n. AreChoices p c.in_ok-bounds.bounds d n c.args.forecast.now c.in-Ok.found.items) c.lines-lines.ensures.value c.in-Ok.ensures.chosen;
    })
    refl

pub returns-in-Ok-clause-count : goal.returns-in-Ok-clause-count
returns-in-Ok-clause-count c = c.in-Ok.ensures.chosen.count

pub returns-clause-versions : goal.returns-clause-versions
returns-clause-versions c =
    let p = c.args.program.now in
    let d = c.args.device.now in
    subst (Stops (versions_in p d c.args.given c.args.forecast.now)) (sym c.stop_for_rows.ensures)
    (rows_stop p d c.args.given c.args.forecast.now c.layout_of-layout.result c.in_ok-bounds.bounds c.in-Err.fault c.layout_of-layout.ensures
    (subst (λ n. AreBounds p d n c.in_ok-bounds.bounds) c.lines-lines.ensures.value c.in_ok-bounds.ensures)
    (subst (λ n. IsRowFault p c.in_ok-bounds.bounds d n c.args.forecast.now c.in-Err.fault) c.lines-lines.ensures.value c.in-Err.ensures.refused))
