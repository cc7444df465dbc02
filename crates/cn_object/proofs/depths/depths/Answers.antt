use Rattle.std.proofs.Common.{◌∙◌}
use Rattle.cn_object.proofs.Bringing.{summary_begins}
use Rattle.cn_object.proofs.depths.depths.Goals as goal

pub pass-requires-clause-begun : goal.pass-requires-clause-begun
pass-requires-clause-begun c = summary_begins c.args.code.now c.deref.result.now _ c.len.result c.len.ensures (c.deref.ensures.value ∙ c.in_ok-entries.ensures) (c.deref_mut.ensures.value ∙ c.in_ok-brought.ensures)
