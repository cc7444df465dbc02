use Rattle.std.proofs.Common.{arith}
use Rattle.cn_scheduler.proofs.engine.Engine.quiet_until.Goals as goal

pub returns-in-None-clause-quiet : goal.returns-in-None-clause-quiet
returns-in-None-clause-quiet c = record {
  arrivals = λ event k arrival p. absurd (c.in-None.ensures.none event k arrival p);
  rows = c.row_until-until.ensures.same;
}

pub returns-in-Some-clause-quiet : goal.returns-in-Some-clause-quiet
returns-in-Some-clause-quiet c = record {
  arrivals = λ event k arrival p. omega (arith, c.min.ensures, c.in-Some.ensures.next.first event k arrival p);
  rows = λ t later before. c.row_until-until.ensures.same t later (omega (arith, before, c.min.ensures));
}
