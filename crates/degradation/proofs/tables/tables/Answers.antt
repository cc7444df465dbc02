use Rattle.std.proofs.Common.{◌∙◌, arith}
use Rattle.std.proofs.lemmas.List.{take_all}
use Rattle.degradation.specs.Choice.{tables_of}
use Rattle.degradation.proofs.Degrades.{header_at, jobs_count, tables_more, tables_count}
use Rattle.degradation.proofs.tables.tables.Goals as goal

pub loads-requires-clause-versions : goal.loads-requires-clause-versions
loads-requires-clause-versions c =
    header_at c.args.program.now.headers c.args.program.now.events c.args.bounds.now.jobs c.loop-e.e c.event.result.now c.bodies-checked.ensures.checked.declares c.requires c.event.ensures.header

pub loop-e-preserved : goal.loop-e-preserved
loop-e-preserved c =
    let program = c.args.program.now in
    let jobs = c.args.bounds.now.jobs in
    let more = tables_more program.headers jobs c.loop-e.e c.event.result.now c.event.ensures.header (omega (arith, jobs_count program jobs c.requires, c.events-e-end.ensures.count)) in
    cc (c.in_ok-push.ensures.items, c.in_ok-table.ensures)

pub returns : goal.returns
returns c =
    let program = c.args.program.now in
    let jobs = c.args.bounds.now.jobs in
    let count = tables_count c.events_have_headers.ensures program jobs c.bodies-checked.ensures.checked c.requires in
    c.loop-e.invariant ∙ take_all c.loop-e.e (tables_of program.headers jobs) (omega (arith, c.events-e-end.ensures.count))
