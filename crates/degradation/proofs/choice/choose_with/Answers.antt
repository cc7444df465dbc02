use Rattle.std.proofs.Common.{rules, ◌≡◌, ◌∙◌}
use Rattle.degradation.specs.Choice.{tables_of}
use Rattle.degradation.proofs.Degrades.{are_tables, suits}
use Rattle.degradation.proofs.choice.choose_with.Goals as goal

pub choose_vector-requires-clause-tables : goal.choose_vector-requires-clause-tables
choose_vector-requires-clause-tables c =
    let tables : c.as_slice.result.now ≡ tables_of c.args.program.now.headers c.args.bounds.now.jobs = c.as_slice.ensures.value ∙ c.in-Ok.ensures in
    rw (tables, c.mentions.ensures) (are_tables c.events_have_headers.ensures c.args.program.now c.args.bounds.now.jobs c.bodies-checked.ensures.checked c.requires.bounds)

pub returns-clause-suits : goal.returns-clause-suits
returns-clause-suits c = suits c.events_have_headers.ensures c.args.program.now c.args.bounds.now c.args.device.now c.args.supply c.args.lines _ c.bodies-checked.ensures.checked c.requires.bounds (search rules)
