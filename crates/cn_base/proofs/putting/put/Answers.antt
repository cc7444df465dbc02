use Rattle.std.proofs.Common.{◌∙◌, rules}
use Rattle.cn_base.specs.Sums.{known_more}
use Rattle.cn_base.proofs.putting.put.Goals as goal

pub loop-at-preserved : goal.loop-at-preserved
loop-at-preserved g c = (
  search rules,
  c.in_ok-taken.ensures.written
      ∙ known_more _ _ c.args.bytes.now c.loop-at.at c.in_ok-taken.taken c.loop-at.invariant.1,
  c.in_ok-taken.ensures.cause.kept ∙ c.loop-at.invariant.2,
)
