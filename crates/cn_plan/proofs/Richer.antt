-- What a greater harvest changes in the tests.
use Rattle.std.proofs.Common.{ℕ, ◌≡◌, ◌*◌, ◌/◌, ◌≤◌, List, refl, arith}
use native.Mathlib.Nat.{mul-le-mul_right}
use Rattle.demand_core.specs.declared.Load.{Load}
use Rattle.demand_core.specs.declared.Base.{Base}
use Rattle.demand_core.specs.Demand.{sbf, block, reserve, energy_use, FitsAt}
use Rattle.cn_plan.specs.Harvest.{with_harvest, HasTime, IsEnough}

pub supply_grows : (base : Base) (q more l : ℕ) → q ≤ more → sbf (with_harvest base q) l ≤ sbf (with_harvest base more) l
unfolding sbf
supply_grows base q more l le = mul-le-mul_right (l / base.p) le

pub energy_stays : (loads : List Load) (window span q more : ℕ) → q ≤ more → energy_use loads window ≤ q * span → energy_use loads window ≤ more * span
energy_stays loads window span q more le enough =
    let grows = mul-le-mul_right span le in
    omega arith

fits_stays : (base : Base) (loads : List Load) (q other l : ℕ) → FitsAt (with_harvest base q) loads l → FitsAt (with_harvest base other) loads l
unfolding block
fits_stays base loads q other l fits = fits

pub time_stays : (base : Base) (loads : List Load) (window q other : ℕ) → HasTime (with_harvest base q) loads window → HasTime (with_harvest base other) loads window
time_stays base loads window q other has =
    record { busy = has.busy; due = λ l some from within. fits_stays base loads q other l (has.due l some from within) }

-- no more has to be kept back
abbrev pub KeepsNoMore : Type 0
KeepsNoMore = (base more : Base) (loads : List Load) (window : ℕ) → more.p ≡ base.p → base.q ≤ more.q → reserve more loads window ≤ reserve base loads window

pub enough_stays : KeepsNoMore → (base : Base) (loads : List Load) (window q more : ℕ) → q ≤ more → IsEnough base loads window q → IsEnough base loads window more
enough_stays kept base loads window q more le is =
    let less = kept (with_harvest base q) (with_harvest base more) loads window refl le in
    let room = is.room in
    record {
      energy = energy_stays loads window (window / base.p) q more le is.energy;
      room = omega arith;
      busy = is.busy;
      due = λ l some from within. fits_stays base loads q more l (is.due l some from within);
    }

-- where the harvest grows, what is enough goes on to be enough
abbrev pub Stays : Type 0
Stays = (base : Base) (loads : List Load) (window q more : ℕ) → q ≤ more → IsEnough base loads window q → IsEnough base loads window more

-- so nothing below what is not enough is enough
pub none_below : Stays → (base : Base) (loads : List Load) (window q less : ℕ) → less ≤ q → (IsEnough base loads window q → ⊥) → IsEnough base loads window less → ⊥
none_below stays base loads window q less le not is = not (stays base loads window less q le is)
