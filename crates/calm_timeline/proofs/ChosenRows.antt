-- A row with what was chosen is one of the program's jobs.
use Rattle.std.proofs.Common.{◌≡◌, ℕ, ◌+◌, ◌<◌, List, max, sym, ap, subst, ◌∙◌, arith, Some}
use Rattle.std.specs.Prelude.{slice_get}
use Rattle.cat_program.specs.Checked.{Checked, IsChecked}
use Rattle.nv_memory.specs.declared.device.Device.{Device}
use Rattle.cost_bounds.specs.BoundsValue.{BoundsValue}
use Rattle.cost_bounds.specs.Greatest.{AreBounds}
use Rattle.demand_core.specs.declared.Load.{Load}
use Rattle.demand_core.specs.declared.Numbers.{Numbers}
use Rattle.demand_core.specs.Demand.{IsWindow, IsFeasible, reserve}
use Rattle.degradation.specs.Choice.{HasBounds}
use Rattle.degradation.specs.Held.{AreDegraded}
use Rattle.degradation.specs.Held.{IsLoadOf as IsLoadAsked}
use Rattle.cn_scheduler.specs.declared.plan.PlanRow.{PlanRow}
use Rattle.calm_timeline.specs.Numbers.{base_with, IsLoadOf, IsRowOf, IsFeasibleRow}
use Rattle.calm_timeline.specs.Chosen.{HasVector, VectorRows, ChosenRows}

-- what is known below of the loads after a front of the degrade order
abbrev LoadsLaw : Type 0
LoadsLaw = (p : Checked) (b : BoundsValue) (k : ℕ) (versions : List ℕ) (loads : List Load) → IsChecked p → HasBounds p b → AreDegraded p b k versions loads →
    (event : ℕ) (load : Load) → slice_get loads event ≡ Some load → IsLoadAsked p b versions event load

module _ (law : LoadsLaw) (program : Checked) (b : BoundsValue) (device : Device) (p q lines : ℕ) (row : PlanRow) (checked : IsChecked program) (bounds : AreBounds program device lines b)
    (has : HasVector program b device p q lines row) where
  its_load : (e : ℕ) (load : Load) → slice_get row.loads e ≡ Some load → IsLoadOf program b row e load
  its_load e load is =
      let degraded : AreDegraded program b has.k row.versions row.loads = record { versions_are = has.versions ∙ has.is.versions; loads_are = has.loads ∙ has.is.loads } in
      let own = law program b has.k row.versions row.loads checked bounds.versions degraded e load is in
      record { header = own.header; header_is = own.header_is; job = own.job; job_is = own.job_is; load_is = own.load_is }

  pub vector_row : IsRowOf program b row × (0 < p → IsFeasibleRow b device p q row)
  vector_row =
      let numbers = has.numbers in
      let kept : row.numbers.reserve ≡ has.vector.reserve = ap (λ (n : Numbers). n.reserve) numbers in
      let window : row.numbers.window ≡ has.vector.window = ap (λ (n : Numbers). n.window) numbers in
      let level : row.numbers.level ≡ max (has.vector.reserve + b.checkpoint.units + b.section.units + b.wake.units) device.resume = ap (λ (n : Numbers). n.level) numbers in (
        record {
          loads = its_load;
          checkpoint = ap (λ (n : Numbers). n.checkpoint) numbers;
          section = ap (λ (n : Numbers). n.section) numbers;
          level = omega arith;
        },
        (λ pos. record {
          positive = pos;
          window = subst (λ (ls : List Load). IsWindow p ls row.numbers.window) (sym has.loads) (subst (λ (w : ℕ). IsWindow p has.vector.loads w) (sym window) has.is.window);
          feasible = subst (λ (ls : List Load). IsFeasible (base_with b device p q) ls row.numbers.window) (sym has.loads)
              (subst (λ (w : ℕ). IsFeasible (base_with b device p q) has.vector.loads w) (sym window) has.is.feasible);
          reserve_is = kept ∙ has.is.reserve_is ∙ ap (λ (ls : List Load). reserve (base_with b device p q) ls has.vector.window) (sym has.loads)
              ∙ ap (λ (w : ℕ). reserve (base_with b device p q) row.loads w) (sym window);
        }),
      )

pub vector_rows : LoadsLaw → VectorRows
vector_rows law program b device p q lines row checked bounds has = vector_row law program b device p q lines row checked bounds has

pub chosen_rows : LoadsLaw → ChosenRows
chosen_rows law program b device supply lines chosen row checked bounds choice versions loads numbers =
    vector_row law program b device supply.p supply.q lines row checked bounds
    (record {
      k = choice.is.k;
      vector = choice.vector;
      is = choice.is.is;
      versions = versions ∙ choice.versions;
      loads = loads ∙ choice.loads;
      numbers = numbers ∙ choice.numbers;
    })
