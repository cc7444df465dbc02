-- The choices for the rows of a forecast, one after the other.
use Rattle.std.proofs.Common.{◌≡◌, ℕ, zero, suc, ◌+◌, ◌<◌, ◌⊎◌, List, [], ◌∷◌, ◌++◌, length, get_or, Some, refl, sym, ap, ◌∙◌, subst, arith, inl, inr, length-append}
use Rattle.std.specs.Prelude.{slice_get, All}
use Rattle.std.proofs.lemmas.List.{get_or_default}
use Rattle.std.proofs.lemmas.List.Elements.{All-append}
use Rattle.std.proofs.lemmas.Option.{slice_get_read}
use Rattle.cat_program.specs.Checked.{Checked}
use Rattle.cost_bounds.specs.BoundsValue.{BoundsValue}
use Rattle.nv_memory.specs.declared.device.Device.{Device}
use Rattle.feasibility.specs.declared.choose.ChooseFault.{ChooseFault}
use Rattle.feasibility.specs.declared.choose.ChooseFault.TheVariants.{WindowTooLong, Rejected, NoMemory}
use Rattle.degradation.specs.declared.chosen.Chosen.{Chosen}
use Rattle.degradation.specs.Choice.{supply_of, IsChoice, IsNoChoice, Suits}
use Rattle.forecast_table.specs.declared.epoch.Epoch.{Epoch}
use Rattle.forecast_choice.specs.Rows.{fault_at, row_of, supply_in, AreChoices, IsFirstRefused, IsRowFault}

-- ---- places in lists

-- there is an element at each place within
pub one_at : {A : Type 0} (xs : List A) (i : ℕ) → i < length xs → (x : A) × (slice_get xs i ≡ Some x)
one_at [] i lt = absurd (omega arith)
one_at (x ∷ xs) zero lt = (x, refl)
one_at (x ∷ xs) (suc i) lt = one_at xs i (omega arith)

-- what is read at a place within stands there
pub row_here : (rows : List Epoch) (i : ℕ) (d : Epoch) → i < length rows → slice_get rows i ≡ Some (get_or rows i d)
row_here rows i d lt = slice_get_read rows (length rows) i (get_or rows i d) refl lt (get_or_default rows i d (get_or rows i d) lt)

pub within : {A : Type 0} (xs : List A) (x : A) (i : ℕ) → slice_get xs i ≡ Some x → i < length xs
within [] x i e = absurd (cc)
within (y ∷ xs) x zero e = omega arith
within (y ∷ xs) x (suc i) e = let more = within xs x i e in omega (arith, more)

-- what stands in a list with one element more is an earlier one or that
behind : {A : Type 0} (xs : List A) (x y : A) (i : ℕ) → slice_get (xs ++ x ∷ []) i ≡ Some y → ((i < length xs) × (slice_get xs i ≡ Some y)) ⊎ ((i ≡ length xs) × (x ≡ y))
behind [] x y zero e = inr (refl, cc)
behind [] x y (suc i) e = absurd (cc)
behind (z ∷ xs) x y zero e = inl (omega arith, e)
behind (z ∷ xs) x y (suc i) e = elim (behind xs x y i e) [
  | inl h ↦ inl (omega (arith, h.0), h.1)
  | inr h ↦ inr (ap suc h.0, h.1)
]

pub same_row : (rows : List Epoch) (i j : ℕ) (r s : Epoch) → i ≡ j → slice_get rows i ≡ Some r → slice_get rows j ≡ Some s → r ≡ s
same_row rows i j r s e a b = cc

suits_alone : (p : Checked) (chosen : Chosen) → Suits p chosen → All (Suits p) (chosen ∷ [])
suits_alone p chosen suits zero d lt = suits
suits_alone p chosen suits (suc k) d lt = absurd (omega arith)

pub suits-push : (p : Checked) (found : List Chosen) (chosen : Chosen) → All (Suits p) found → Suits p chosen → All (Suits p) (found ++ chosen ∷ [])
suits-push p found chosen all suits = All-append (Suits p) found (chosen ∷ []) all (suits_alone p chosen suits)

module _ (p : Checked) (b : BoundsValue) (device : Device) (lines : ℕ) where
  -- the choices for the first n rows
  pub record AreFirst (rows : List Epoch) (n : ℕ) (found : List Chosen) : Type 0 where
    pub count : length found ≡ n
    pub each : (i : ℕ) (row : Epoch) (chosen : Chosen) → slice_get rows i ≡ Some row → slice_get found i ≡ Some chosen → IsChoice p b device (supply_in row) lines chosen

  pub first-none : (rows : List Epoch) → AreFirst rows 0 []
  first-none rows = record { count = refl; each = λ i row chosen r c. absurd (cc) }

  pub first-push : (rows : List Epoch) (n : ℕ) (found : List Chosen) (row : Epoch) (chosen : Chosen) → AreFirst rows n found → slice_get rows n ≡ Some row → IsChoice p b device (supply_in row) lines chosen
      → AreFirst rows (n + 1) (found ++ chosen ∷ [])
  first-push rows n found row chosen are at choice =
      record {
        count = omega (arith, are.count, length-append found (chosen ∷ []));
        each = λ i r c ri ci. elim (behind found chosen c i ci) [
          | inl h ↦ are.each i r c ri h.1
          | inr h ↦
              let here : n ≡ i = omega (arith, are.count, h.0) in
              let same : row ≡ r = same_row rows n i row r here at ri in
              subst (λ (x : Epoch). IsChoice p b device (supply_in x) lines c) same (subst (λ (x : Chosen). IsChoice p b device (supply_in row) lines x) h.1 choice)
        ];
      }

  pub first-all : (rows : List Epoch) (n : ℕ) (found : List Chosen) → AreFirst rows n found → n ≡ length rows → AreChoices p b device lines rows found
  first-all rows n found are e = record { count = are.count ∙ e; each = are.each }

  pub first-refused : (rows : List Epoch) (n number : ℕ) (found : List Chosen) (row : Epoch) (fault : ChooseFault) → AreFirst rows n found → number ≡ n + 1 → slice_get rows n ≡ Some row
      → IsNoChoice p b device (supply_in row) fault → IsRowFault p b device lines rows (fault_at number fault)
  first-refused rows n number found row fault are e at none = told fault none
    where
      before : (i : ℕ) (earlier : Epoch) → i < n → slice_get rows i ≡ Some earlier → (chosen : Chosen) × IsChoice p b device (supply_in earlier) lines chosen
      before i earlier lt is =
          let one = one_at found i (omega (arith, are.count)) in
          (one.0, are.each i earlier one.0 is one.1)

      refused : (f : ChooseFault) → IsNoChoice p b device (supply_in row) f → IsFirstRefused p b device lines rows number f
      refused f why = record { place = n; number_is = e; row = row; row_is = at; none = why; before = before }

      told : (f : ChooseFault) → IsNoChoice p b device (supply_in row) f → IsRowFault p b device lines rows (fault_at number f)
      told (WindowTooLong spacing) why = refused (WindowTooLong spacing) why
      told (Rejected verdict) why = refused (Rejected verdict) why
      told NoMemory why = tt

  -- ---- one row

  one_row : (number : ℕ) (row r : Epoch) (i : ℕ) → slice_get (row ∷ []) i ≡ Some r → (i ≡ 0) × (row ≡ r)
  one_row number row r zero e = (refl, cc)
  one_row number row r (suc i) e = absurd (cc)

  pub alone-chosen : (found : List Chosen) → AreChoices p b device lines (row_of device ∷ []) found → (chosen : Chosen) × (found ≡ chosen ∷ []) × IsChoice p b device (supply_of device) lines chosen
  alone-chosen [] are = absurd (omega (arith, are.count))
  alone-chosen (c ∷ []) are = (c, refl, are.each 0 (row_of device) c refl refl)
  alone-chosen (c ∷ d ∷ found) are = absurd (omega (arith, are.count))

  pub alone-choices : (chosen : Chosen) → IsChoice p b device (supply_of device) lines chosen → AreChoices p b device lines (row_of device ∷ []) (chosen ∷ [])
  alone-choices chosen choice = first-all (row_of device ∷ []) 1 (chosen ∷ []) (first-push (row_of device ∷ []) 0 [] (row_of device) chosen (first-none (row_of device ∷ [])) refl choice) refl

  pub alone-refused : (number : ℕ) (fault : ChooseFault) → IsFirstRefused p b device lines (row_of device ∷ []) number fault → (number ≡ 1) × IsNoChoice p b device (supply_of device) fault
  alone-refused number fault is =
      let one = one_row number (row_of device) is.row is.place is.row_is in
      (omega (arith, is.number_is, one.0), subst (λ (x : Epoch). IsNoChoice p b device (supply_in x) fault) (sym one.1) is.none)

  pub alone-first : (fault : ChooseFault) → IsNoChoice p b device (supply_of device) fault → IsFirstRefused p b device lines (row_of device ∷ []) 1 fault
  alone-first fault none = record { place = 0; number_is = refl; row = row_of device; row_is = refl; none = none; before = λ i earlier lt is. absurd (omega arith) }
