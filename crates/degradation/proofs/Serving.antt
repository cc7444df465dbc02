-- What a choice holds of.
use Rattle.std.proofs.Common.{◌≡◌, ℕ, zero, suc, ◌+◌, ◌≤◌, List, [], ◌∷◌, sym, ap, ◌∙◌, subst, arith}
use Rattle.std.specs.Prelude.{slice_index_or, sum_by, max}
use Rattle.std.proofs.lemmas.List.Sums.{sum_by-cons}
use Rattle.cat_program.specs.Checked.{Checked}
use Rattle.cost_bounds.specs.BoundsValue.{BoundsValue}
use Rattle.demand_core.specs.declared.Load.{Load}
use Rattle.demand_core.specs.declared.Numbers.{Numbers}
use Rattle.demand_core.specs.Demand.{reserve, IsWindow, IsFeasible}
use Rattle.feasibility.specs.Chosen.{no_load}
use Rattle.nv_memory.specs.declared.device.Device.{Device}
use Rattle.degradation.specs.declared.chosen.Chosen.{Chosen}
use Rattle.degradation.specs.declared.supply.Supply.{Supply}
use Rattle.degradation.specs.Choice.{base_of, IsChoice}
use Rattle.degradation.specs.Held.{IsServed}

one_of_sum : (loads : List Load) (e : ℕ) → (slice_index_or loads e no_load).units ≤ sum_by (λ load. load.units) loads
one_of_sum [] e = omega arith
one_of_sum (load ∷ loads) zero = omega (arith, sum_by-cons (λ (l : Load). l.units) load loads)
one_of_sum (load ∷ loads) (suc e) = omega (arith, one_of_sum loads e, sum_by-cons (λ (l : Load). l.units) load loads)

pub served : (p : Checked) (b : BoundsValue) (device : Device) (supply : Supply) (lines : ℕ) (chosen : Chosen) → IsChoice p b device supply lines chosen
    → IsServed b device supply chosen
served p b device supply lines chosen is =
    let vector = is.is.is in
    let loads = is.loads in
    let window : chosen.numbers.window ≡ is.vector.window = ap (λ (n : Numbers). n.window) is.numbers in
    let kept : chosen.numbers.reserve ≡ is.vector.reserve = ap (λ (n : Numbers). n.reserve) is.numbers in
    let level : chosen.numbers.level ≡ max (is.vector.reserve + b.checkpoint.units + b.section.units + b.wake.units) device.resume = ap (λ (n : Numbers). n.level) is.numbers in
    let feasible : IsFeasible (base_of b device supply) chosen.loads chosen.numbers.window =
    subst (λ l. IsFeasible (base_of b device supply) l chosen.numbers.window) (sym loads)
    (subst (λ w. IsFeasible (base_of b device supply) is.vector.loads w) (sym window) vector.feasible) in
    let reserve_is : chosen.numbers.reserve ≡ reserve (base_of b device supply) chosen.loads chosen.numbers.window =
    kept ∙ vector.reserve_is
    ∙ ap (λ w. reserve (base_of b device supply) is.vector.loads w) (sym window)
    ∙ ap (λ l. reserve (base_of b device supply) l chosen.numbers.window) (sym loads) in
    record {
      window = subst (λ l. IsWindow supply.p l chosen.numbers.window) (sym loads) (subst (λ w. IsWindow supply.p is.vector.loads w) (sym window) vector.window);
      short = omega (arith, window, vector.short);
      feasible = feasible;
      reserve_is = reserve_is;
      room = omega (arith, feasible.room, reserve_is);
      level = omega (arith, feasible.room, reserve_is, kept, level, device.resume_in_cap);
      each = λ e. omega (arith, feasible.room, one_of_sum chosen.loads e);
    }
