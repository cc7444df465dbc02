use Rattle.std.proofs.Common.{ap, sym, ◌∙◌, arith, Option}
use Rattle.std.specs.Option.{option_map_or}
use Rattle.cn_scheduler.specs.declared.path.Floor.{Floor}
use Rattle.cn_scheduler.specs.declared.plan.PlanRow.{PlanRow}
use Rattle.cn_scheduler.specs.InForce.{floor_in}
use Rattle.cn_scheduler.proofs.path.is_too_low.Goals as goal
use Rattle.cn_scheduler.proofs.path.is_too_low.Goals.{then-floor-tick, else-floor-tick}

pub returns-after-floor-tick-clause-holds : goal.returns-after-floor-tick-clause-holds
returns-after-floor-tick-clause-holds g c = λ t later before. elim c.if-floor-tick.branch [
  | then-floor-tick w ↦ (
      let until = ap (λ (f : Floor). f.until) w.floor-is in
      let units = ap (λ (f : Floor). f.units) w.floor-is in
      let tick = c.tick-tick.ensures.value in
      let same = w.row_until.ensures.same t (omega (arith, later, tick)) (omega (arith, before, until)) in
      units ∙ w.floor_at.ensures ∙ sym (ap (λ (row : Option PlanRow). option_map_or floor_in row 0) same))
  | else-floor-tick w ↦ ap (λ (f : Floor). f.units) w.floor-is ∙ c.requires t later (omega (arith, before, ap (λ (f : Floor). f.until) w.floor-is))
]
