-- The plan of a forecast's choices has the numbers of its jobs.
use Rattle.std.proofs.Common.{◌≡◌, ℕ, ◌+◌, ◌<◌, ◌/◌, List, Some, refl, sym, ap, subst, ◌∙◌, arith}
use Rattle.std.specs.Prelude.{All, slice_get}
use Rattle.cat_program.specs.Checked.{Checked, IsChecked}
use Rattle.nv_memory.specs.declared.device.Device.{Device}
use Rattle.nv_memory.specs.declared.layout.Layout.{Layout}
use Rattle.nv_memory.specs.Layout.{lines_of}
use Rattle.event_arrivals.specs.Arrivals.{Lists}
use Rattle.event_arrivals.specs.Spaced.{AreSound}
use Rattle.cost_bounds.specs.Greatest.{AreBounds}
use Rattle.degradation.specs.declared.chosen.Chosen.{Chosen}
use Rattle.degradation.specs.Placed.{IsLayoutOf}
use Rattle.forecast_table.specs.declared.epoch.Epoch.{Epoch}
use Rattle.forecast_table.specs.Epochs.{IsEpoch, IsForecast}
use Rattle.forecast_choice.specs.Rows.{supply_in}
use Rattle.cn_scheduler.specs.declared.plan.PlanRow.{PlanRow}
use Rattle.calm_timeline.specs.Chosen.{ChosenRows}
use Rattle.calm_timeline.specs.Numbers.{IsFeasibleRow, IsRowOf}
use Rattle.cn_runtime.specs.OnTime.{AreFeasible, PlansArePlanned}
use Rattle.cn_runtime.specs.Planned.{plan_row, plan_rows, IsChosenFor}
use Rattle.cn_runtime.proofs.Readied.{all_rows, at_place, parts_at}

-- layouts of one program on one device have as many lines
same_lines : (program : Checked) (device : Device) (l m : Layout) → IsLayoutOf program device l → IsLayoutOf program device m → lines_of l ≡ lines_of m
same_lines program device l m a b =
    let words = a.words ∙ sym b.words in
    let tasks = a.tasks ∙ sym b.tasks in
    let events = a.events ∙ sym b.events in
    λ i. (3 + words i + tasks i + events i + 15) / 16

module _ (rows : ChosenRows) (program : Checked) (device : Device) (forecast : List Epoch) (l : Layout) (chosen : List Chosen) (checked : IsChecked program)
    (is : IsChosenFor program device l forecast chosen) where
  each_row : (place : ℕ) (epoch : Epoch) (one : Chosen) → slice_get forecast place ≡ Some epoch → slice_get chosen place ≡ Some one
      → IsRowOf program is.bounds (plan_row epoch one) × (0 < epoch.p → IsFeasibleRow is.bounds device epoch.p epoch.q (plan_row epoch one))
  each_row place epoch one epoch_is one_is =
      rows program is.bounds device (supply_in epoch) (lines_of l) one (plan_row epoch one) checked is.are_bounds (is.choices.each place epoch one epoch_is one_is) refl refl refl

  numbers : All (IsRowOf program is.bounds) (plan_rows forecast chosen)
  numbers = all_rows (IsRowOf program is.bounds) forecast chosen (λ place epoch one epoch_is one_is. (each_row place epoch one epoch_is one_is).0)

  feasible : IsForecast forecast → AreFeasible is.bounds device forecast (plan_rows forecast chosen)
  feasible sound place epoch row epoch_is row_is =
      let parts = parts_at forecast chosen place row row_is in
      let same : parts.epoch ≡ epoch = (let a = parts.epoch_is in cc) in
      let range : IsEpoch parts.epoch = at_place IsEpoch forecast place parts.epoch sound.in_range parts.epoch_is in
      let some = range.some_p in
      let one : IsFeasibleRow is.bounds device parts.epoch.p parts.epoch.q (plan_row parts.epoch parts.one) = (each_row place parts.epoch parts.one parts.epoch_is parts.one_is).1 (omega arith) in
      subst (λ (r : PlanRow). IsFeasibleRow is.bounds device epoch.p epoch.q r) parts.row_is
      (subst (λ (e : Epoch). IsFeasibleRow is.bounds device e.p e.q (plan_row parts.epoch parts.one)) same one)

pub are_planned : ChosenRows → PlansArePlanned
are_planned rows program device arrivals forecast l chosen plan checked sound timings is_forecast layout is planned = (
  record {
    checked = checked;
    bounds = subst (λ (n : ℕ). AreBounds program device n is.bounds) (same_lines program device l plan.layout layout planned.layout_is) is.are_bounds;
    rows = subst (λ (found : List PlanRow). All (IsRowOf program is.bounds) found) (sym planned.rows_are) (numbers rows program device forecast l chosen checked is);
    arrivals = subst (λ (lists : Lists). AreSound lists) (sym planned.arrivals_are) sound;
    timings = ap (λ (lists : Lists). lists.timings) planned.arrivals_are ∙ timings;
  },
  subst (λ (found : List PlanRow). AreFeasible is.bounds device forecast found) (sym planned.rows_are) (feasible rows program device forecast l chosen checked is is_forecast),
)
