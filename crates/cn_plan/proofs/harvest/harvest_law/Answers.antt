use Rattle.std.proofs.Common.{refl, ◌/◌, arith}
use Rattle.cn_plan.specs.Harvest.{with_harvest}
use Rattle.cn_plan.proofs.Richer.{supply_grows, energy_stays, time_stays, enough_stays}
use Rattle.cn_plan.proofs.harvest.harvest_law.Goals as goal

pub returns-clause-supply : goal.returns-clause-supply
returns-clause-supply c = supply_grows

pub returns-clause-kept : goal.returns-clause-kept
returns-clause-kept c base loads window q more le = c.points_law.ensures.harvest (with_harvest base q) (with_harvest base more) loads window refl le

pub returns-clause-energy : goal.returns-clause-energy
returns-clause-energy c base loads window q more le enough = energy_stays loads window (window / base.p) q more le enough

pub returns-clause-room : goal.returns-clause-room
returns-clause-room c base loads window q more le room =
    let kept = c.points_law.ensures.harvest (with_harvest base q) (with_harvest base more) loads window refl le in
    omega arith

pub returns-clause-time : goal.returns-clause-time
returns-clause-time c = time_stays

pub returns-clause-feasible : goal.returns-clause-feasible
returns-clause-feasible c = enough_stays c.points_law.ensures.harvest
