use Rattle.std.proofs.Common.{sym, ◌∙◌}
use Rattle.object_runs.proofs.Objects.{object_well, section_gives}
use Rattle.object_runs.proofs.running.section.Goals as goal

pub run_section-did-requires : goal.run_section-did-requires
run_section-did-requires c =
    let well = object_well c.never_stuck_law.ensures c.handler_sums_law.ensures c.args.object.now c.args.working.now c.requires.runnable c.requires.at_rest in
    let s = well.section c.in-Some.field-0 (sym c.next.ensures.place ∙ c.in-Some.is) in
    (s.run, s.is.ends)

pub returns-in-Some-clause-gives : goal.returns-in-Some-clause-gives
returns-in-Some-clause-gives c =
    let r = c.run_section-did.ensures in
    (section_gives c.never_stuck_law.ensures c.handler_sums_law.ensures c.args.object.now c.args.working.now c.in-Some.field-0 r.all c.run_section-did.result c.stepped.result c.run_section-did.new.working c.requires.runnable c.requires.at_rest (sym c.next.ensures.place ∙ c.in-Some.is) r.from r.did r.after c.stepped.ensures).0

pub returns-in-Some-clause-rests : goal.returns-in-Some-clause-rests
returns-in-Some-clause-rests c =
    let r = c.run_section-did.ensures in
    (section_gives c.never_stuck_law.ensures c.handler_sums_law.ensures c.args.object.now c.args.working.now c.in-Some.field-0 r.all c.run_section-did.result c.stepped.result c.run_section-did.new.working c.requires.runnable c.requires.at_rest (sym c.next.ensures.place ∙ c.in-Some.is) r.from r.did r.after c.stepped.ensures).1
