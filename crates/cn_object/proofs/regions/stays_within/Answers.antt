use Rattle.std.proofs.Common.{sym, ◌∙◌, arith}
use Rattle.cn_object.proofs.Spanning.{stays_by}
use Rattle.cn_object.proofs.regions.stays_within.Goals as goal

pub returns-else-span-to : goal.returns-else-span-to
returns-else-span-to c =
    stays_by c.args.code.now c.args.span c.args.instr c.in-Some.to c.is_begin.result (sym c.target_of.ensures ∙ c.in-Some.is) (omega arith) (omega arith) c.is_begin.ensures
