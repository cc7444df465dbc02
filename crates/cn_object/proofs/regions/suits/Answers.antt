use Rattle.cn_object.proofs.Files.{few_by}
use Rattle.cn_object.proofs.regions.suits.Goals as goal

pub returns-then-stays_within : goal.returns-then-stays_within
returns-then-stays_within c = (
  λ t. record {
    begin = few_by c.has_begin.result _ c.has_begin.ensures c.if-not-has_begin.false;
    end = few_by c.has_end.result _ c.has_end.ensures c.if-not-has_end.false;
    stays = few_by c.stays_within.result _ c.stays_within.ensures c.if-stays_within.true;
    allowed = c.is_allowed.ensures.0 t;
  },
  λ u. c.is_allowed.ensures.1 u.allowed,
)
