use Rattle.cn_resume.specs.Records.{EachBelow, IsCounted}
use Rattle.cn_resume.proofs.records.miscounted.Given as goal

abbrev pub invariant-loop-event : goal.invariant-loop-event
invariant-loop-event l = EachBelow (IsCounted l.slot.done l.entries) l.event
