use Rattle.std.proofs.Common.{◌≡◌, [], length, ap, subst, sym, ◌∙◌}
use Rattle.demand_core.specs.Demand.{IsWindow}
use Rattle.feasibility.specs.Chosen.{versions_of}
use Rattle.degradation.specs.Choice.{tables_of}
use Rattle.cn_plan.specs.Whole.{supply_with}
use Rattle.cn_plan.proofs.Undegraded.{found_with, tables_count}
use Rattle.cn_plan.proofs.search.least.Goals as goal

pub returns-in-Ok-least_harvest-clause-least : goal.returns-in-Ok-least_harvest-clause-least
returns-in-Ok-least_harvest-clause-least c =
    let p = c.args.program.now in
    let b = c.args.bounds.now in
    let d = c.args.device.now in
    let count : length (tables_of c.args.program.now.headers c.args.bounds.now.jobs) ≡ length c.args.program.now.events =
    tables_count c.events_have_headers.ensures p b c.bodies-checked.ensures.checked c.requires in
    found_with p b d c.args.lines c.in-Ok-least_harvest.found.q c.base-base.result c.with_harvest.result c.as_slice-2.result.now c.as_slice-in-Ok-least_harvest.result.now
    c.in-Ok-least_harvest.found.below
    (record { versions = c.of.result; loads = c.of-in-Ok-least_harvest.result; window = c.in-Ok-window.window; reserve = c.reserve-kept.result })
    c.chosen_with-chosen.result c.base-base.ensures c.with_harvest.ensures
    (c.as_slice-2.ensures.value ∙ c.in-Ok.ensures.loads)
    (c.as_slice-in-Ok-least_harvest.ensures.value ∙ c.in-Ok.ensures.loads)
    c.in-Ok-least_harvest.ensures.least
    (subst (λ loads. IsWindow d.p loads c.in-Ok-window.window) (c.as_slice.ensures.value ∙ sym c.as_slice-2.ensures.value) c.in-Ok-window.ensures.0)
    c.in-Ok-window.ensures.1
    (c.of.ensures ∙ c.in-Ok-whole_versions.ensures ∙ ap (versions_of []) (c.events.ensures.count ∙ sym count))
    (c.of-in-Ok-least_harvest.ensures ∙ c.in-Ok.ensures.loads)
    c.reserve-kept.ensures.value
    c.chosen_with-chosen.ensures.versions c.chosen_with-chosen.ensures.loads c.chosen_with-chosen.ensures.numbers

pub returns-in-Ok-least_harvest-clause-suits : goal.returns-in-Ok-least_harvest-clause-suits
returns-in-Ok-least_harvest-clause-suits c =
    let found = returns-in-Ok-least_harvest-clause-least c in
    c.choices_suit.ensures c.args.program.now c.args.bounds.now c.args.device.now (supply_with c.args.device.now c.in-Ok-least_harvest.found.q) c.args.lines c.chosen_with-chosen.result
    c.bodies-checked.ensures.checked c.requires found.is.choice
