use Rattle.std.proofs.Common.{sym}
use Rattle.cn_object.proofs.Spanning.{ascending_are}
use Rattle.cn_object.proofs.entries.are_entries.Goals as goal

pub returns-then-first-eq0 : goal.returns-then-first-eq0
returns-then-first-eq0 c = ascending_are c.args.entries.now c.args.count c.in-Some.first.now c.ascend_below.result (sym c.in-Some.ensures.value) c.if-first-eq0.true c.ascend_below.ensures
