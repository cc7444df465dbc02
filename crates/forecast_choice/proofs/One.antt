-- A forecast has one list of choices, or one first row that has none.
use Rattle.std.proofs.Common.{◌≡◌, ◌≢◌, ℕ, suc, List, [], ◌∷◌, length, Some, refl, sym, ap₂, ◌∙◌, subst, arith, inl, inr}
use Rattle.std.specs.Prelude.{slice_get}
use Rattle.std.proofs.lemmas.Bool.{cases_lt}
use Rattle.cat_program.specs.Checked.{Checked}
use Rattle.cost_bounds.specs.BoundsValue.{BoundsValue}
use Rattle.nv_memory.specs.declared.device.Device.{Device}
use Rattle.feasibility.specs.declared.choose.ChooseFault.{ChooseFault}
use Rattle.feasibility.specs.declared.choose.ChooseFault.TheVariants.{NoMemory}
use Rattle.degradation.specs.declared.chosen.Chosen.{Chosen}
use Rattle.degradation.specs.declared.supply.Supply.{Supply}
use Rattle.degradation.specs.Choice.{IsChoice, IsNoChoice}
use Rattle.forecast_table.specs.declared.epoch.Epoch.{Epoch}
use Rattle.forecast_choice.specs.Rows.{supply_in, AreChoices, IsFirstRefused}
use Rattle.forecast_choice.proofs.Choices.{one_at, same_row, within}

same_lists : {A : Type 0} (xs ys : List A) → length xs ≡ length ys → ((i : ℕ) (x y : A) → slice_get xs i ≡ Some x → slice_get ys i ≡ Some y → x ≡ y) → xs ≡ ys
same_lists [] [] e same = refl
same_lists [] (y ∷ ys) e same = absurd (omega (arith, e))
same_lists (x ∷ xs) [] e same = absurd (omega (arith, e))
same_lists (x ∷ xs) (y ∷ ys) e same = ap₂ (λ z zs. z ∷ zs) (same 0 x y refl refl) (same_lists xs ys (omega (arith, e)) (λ i u v a b. same (suc i) u v a b))

module _ (p q : Checked) (d : Device) (lines : ℕ) (b c : BoundsValue) where
  pub choices_one : ((supply : Supply) (x y : Chosen) → IsChoice p b d supply lines x → IsChoice q c d supply lines y → x ≡ y)
      → (rows : List Epoch) (found other : List Chosen) → AreChoices p b d lines rows found → AreChoices q c d lines rows other → found ≡ other
  choices_one one rows found other are too =
      same_lists found other (are.count ∙ sym too.count) (λ i x y ix iy.
      let row = one_at rows i (omega (arith, are.count, within found x i ix)) in
      one (supply_in row.0) x y (are.each i row.0 x row.1 ix) (too.each i row.0 y row.1 iy))

  pub not_both : ((supply : Supply) (x : Chosen) (f : ChooseFault) → IsChoice p b d supply lines x → IsNoChoice q c d supply f → f ≡ NoMemory)
      → (rows : List Epoch) (found : List Chosen) (number : ℕ) (f : ChooseFault) → AreChoices p b d lines rows found → IsFirstRefused q c d lines rows number f → f ≡ NoMemory
  not_both either rows found number f are is =
      let chosen = one_at found is.place (omega (arith, are.count, within rows is.row is.place is.row_is)) in
      either (supply_in is.row) chosen.0 f (are.each is.place is.row chosen.0 is.row_is chosen.1) is.none

  pub reasons_one : ((supply : Supply) (f g : ChooseFault) → IsNoChoice p b d supply f → IsNoChoice q c d supply g → f ≢ NoMemory → g ≢ NoMemory → f ≡ g)
      → ((supply : Supply) (x : Chosen) (f : ChooseFault) → IsChoice p b d supply lines x → IsNoChoice q c d supply f → f ≡ NoMemory)
      → ((supply : Supply) (x : Chosen) (f : ChooseFault) → IsChoice q c d supply lines x → IsNoChoice p b d supply f → f ≡ NoMemory)
      → (rows : List Epoch) (m n : ℕ) (f g : ChooseFault) → IsFirstRefused p b d lines rows m f → IsFirstRefused q c d lines rows n g → f ≢ NoMemory → g ≢ NoMemory
      → (m ≡ n) × (f ≡ g)
  reasons_one reason here there rows m n f g is too some other =
      elim (cases_lt is.place too.place) [
        | inl sooner ↦
            let chosen = too.before is.place is.row sooner is.row_is in
            absurd (some (there (supply_in is.row) chosen.0 f chosen.1 is.none))
        | inr late ↦ elim (cases_lt too.place is.place) [
          | inl sooner ↦
              let chosen = is.before too.place too.row sooner too.row_is in
              absurd (other (here (supply_in too.row) chosen.0 g chosen.1 too.none))
          | inr latest ↦
              let place : is.place ≡ too.place = omega (arith, late, latest) in
              let row : too.row ≡ is.row = sym (same_row rows is.place too.place is.row too.row place is.row_is too.row_is) in
              let none = subst (λ (x : Epoch). IsNoChoice q c d (supply_in x) g) row too.none in
              (omega (arith, is.number_is, too.number_is, place), reason (supply_in is.row) f g is.none none some other)
        ]
      ]
