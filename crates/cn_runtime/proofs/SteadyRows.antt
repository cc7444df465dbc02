-- The forecast of one row is one, and has one choice.
use Rattle.std.proofs.Common.{◌≡◌, ℕ, ◌<◌, List, [], ◌∷◌, refl, sym, subst, arith}
use Rattle.std.specs.Prelude.{All, get_or}
use Rattle.cat_program.specs.Checked.{Checked}
use Rattle.nv_memory.specs.declared.device.Device.{Device}
use Rattle.cost_bounds.specs.BoundsValue.{BoundsValue}
use Rattle.degradation.specs.declared.chosen.Chosen.{Chosen}
use Rattle.degradation.specs.Choice.{supply_of, IsChoice}
use Rattle.forecast_table.specs.Epochs.{IsEpoch, IsForecast}
use Rattle.forecast_choice.specs.Rows.{row_of, AreChoices}
use Rattle.cn_runtime.specs.Steady.{steady_rows, SteadyChoices}

all_one : {X : Type 0} (P : X → Type 0) (x : X) → P x → All P (x ∷ [])
all_one P x p = λ i d lt. subst (λ (n : ℕ). P (get_or (x ∷ []) n d)) (sym (none i lt)) p
  where
    none : (n : ℕ) → n < 1 → n ≡ 0
    none n lt = omega arith

epoch : (device : Device) → IsEpoch (row_of device)
epoch device =
    let some = device.p_some in
    let p = device.p_in_range in
    let q = device.q_in_range in
    record { tick = omega arith; some_p = omega arith; most_p = omega arith; most_q = omega arith }

is_forecast : (device : Device) → IsForecast (steady_rows device)
is_forecast device =
    record {
      some = omega arith;
      first = λ d. refl;
      rising = λ i j d less within. absurd (omega (arith, less, within));
      few = omega arith;
      in_range = all_one IsEpoch (row_of device) (epoch device);
    }

abbrev pub OneRow : Type 0
OneRow = (p : Checked) (b : BoundsValue) (device : Device) (lines : ℕ) (found : List Chosen) → AreChoices p b device lines (row_of device ∷ []) found
    → (chosen : Chosen) × (found ≡ chosen ∷ []) × IsChoice p b device (supply_of device) lines chosen

pub steady_choices : OneRow → SteadyChoices
steady_choices law = record {
  forecast = is_forecast;
  one = λ program device l found is. law program is.bounds device _ found is.choices;
}
