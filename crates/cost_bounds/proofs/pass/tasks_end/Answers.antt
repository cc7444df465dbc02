use Rattle.std.proofs.Common.{sym, ◌∙◌, arith}
use Rattle.cost_bounds.proofs.Ends.{no_first_version}
use Rattle.cost_bounds.proofs.pass.tasks_end.Goals as goal

pub returns-then-events-eq0-clause-is : goal.returns-then-events-eq0-clause-is
returns-then-events-eq0-clause-is c =
    rw (no_first_version c.args.code.now (sym c.events.ensures ∙ c.if-events-eq0.true)) (omega (arith, c.len-len.ensures))

pub returns-in-Some-clause-is : goal.returns-in-Some-clause-is
returns-in-Some-clause-is c =
    rw (sym c.first_entry.ensures ∙ c.in-Some.is) (omega (arith, c.len-len.ensures, c.min.ensures))

pub returns-in-None-clause-is : goal.returns-in-None-clause-is
returns-in-None-clause-is c =
    rw (sym c.first_entry.ensures ∙ c.in-None.is) (omega (arith, c.len-len.ensures))
