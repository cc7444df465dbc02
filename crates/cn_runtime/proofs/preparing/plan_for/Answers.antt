use Rattle.std.proofs.Common.{◌∙◌, ap, sym, length}
use Rattle.std.proofs.lemmas.List.{length-map}
use Rattle.cat_program.specs.declared.headers.Event.{Event}
use Rattle.cn_runtime.proofs.preparing.plan_for.Goals as goal

pub start-requires-clause-each : goal.start-requires-clause-each
start-requires-clause-each c =
    let p = c.args.program.now in
    ap (λ ds. length ds) c.in-Ok.ensures.each ∙ length-map p.headers (λ (header : Event). header.deadline)
    ∙ c.events_have_headers.ensures p c.bodies-checked.ensures.checked ∙ sym c.requires.events
