use Rattle.catnap_top.proofs.OneSource.{one_source}
use Rattle.catnap_top.proofs.one.one_source.Goals as goal

pub returns : goal.returns
returns c = one_source c.one_lexing.ensures c.one_tree.ensures c.one_starts.ensures.same c.same_program_law.ensures c.checked_law.ensures.checked
