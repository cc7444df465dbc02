-- The heads of a program's first image are zeros.
use Rattle.std.proofs.Common.{◌≡◌, ℕ, zero, suc, ◌+◌, ◌-◌, ◌*◌, ◌≤◌, ◌<◌, ◌⊎◌, inl, inr, true, false, nat_lt, nat_le, List, [], ◌++◌, length, replicate, get_or, refl, sym, ap, ◌∙◌, subst, arith, append_assoc}
use Rattle.std.specs.Prelude.{◌||◌, if◌then◌else◌}
use Rattle.std.specs.Int.{w32, to_le_bytes}
use Rattle.std.proofs.lemmas.Bool.Decides.{nat_tests}
use Rattle.std.proofs.lemmas.List.{get_or_append_left, get_or-replicate, length-replicate, ext_get_or}
use Rattle.cat_program.specs.Checked.{Checked}
use Rattle.nv_memory.specs.declared.layout.Layout.{Layout}
use Rattle.nv_memory.specs.Bytes.{bytes_at}
use Rattle.nv_memory.specs.Layout.{lines_of, slot_at, size_of}
use Rattle.checkpoint_slots.specs.declared.slot.Slot.{Slot}
use Rattle.checkpoint_slots.specs.Numbers.{spelled}
use Rattle.checkpoint_slots.specs.Slot.{number_of, spelling}
use Rattle.recovery.specs.First.{IsFresh}
use Rattle.cn_report.specs.declared.window.Window.{Window}
use Rattle.cn_report.specs.Bytes.{byte_then}
use Rattle.cn_report.specs.Windows.{Shows}
use Rattle.cn_report.proofs.Written.{byte_written, byte_in, length-bytes_at, length-written}

-- the first eight bytes of numbers of which the first two are 0
record Zeros (bytes : List ℕ) : Type 0 where
  rest : List ℕ
  are : bytes ≡ replicate 8 0 ++ rest

zeros : (f : ℕ → ℕ) (m : ℕ) → f 0 ≡ 0 → f 1 ≡ 0 → Zeros (spelled f 0 (suc (suc m)))
unfolding spelled
zeros f zero first second =
    record {
      rest = [];
      are = ap (λ n. to_le_bytes w32 n ++ to_le_bytes w32 (f 1)) first ∙ ap (λ n. to_le_bytes w32 0 ++ to_le_bytes w32 n) second;
    }
zeros f (suc m) first second =
    let z = zeros f m first second in
    let more : List ℕ = to_le_bytes w32 (f (0 + suc (suc m))) in
    record {
      rest = z.rest ++ more;
      are = ap (λ (l : List ℕ). l ++ more) z.are ∙ append_assoc (replicate 8 0) z.rest more;
    }

module _ (size : (l : Layout) (s : Slot) → length (spelling l s) ≡ 64 * lines_of l) (program : Checked) (l : Layout) (image : List ℕ) (fresh : IsFresh program l image) where
  some_lines : 1 ≤ lines_of l
  some_lines = omega arith

  within : slot_at l 1 + 64 ≤ size_of l
  within = omega (arith, some_lines)

  pub length-fresh : size_of l ≤ length image
  length-fresh = omega (arith, ap length fresh.image_is, length-written (slot_at l 0) (spelling l fresh.slot) (replicate (size_of l) 0), length-replicate {A = ℕ} (size_of l) 0)

  byte : (p : ℕ) → p < size_of l → get_or image p 0 ≡ byte_then 0 p (slot_at l 0) (spelling l fresh.slot)
  byte p below =
      let long : p < length (replicate (size_of l) 0) = omega (arith, below, length-replicate {A = ℕ} (size_of l) 0) in
      ap (λ (i : List ℕ). get_or i p 0) fresh.image_is
      ∙ byte_written (slot_at l 0) p (spelling l fresh.slot) (replicate (size_of l) 0) long
      ∙ ap (λ b. byte_then b p (slot_at l 0) (spelling l fresh.slot)) (get_or-replicate (size_of l) p 0 0 below)

  -- no slot 0 there
  outside : (p : ℕ) → p < slot_at l 0 ⊎ slot_at l 1 ≤ p → byte_then 0 p (slot_at l 0) (spelling l fresh.slot) ≡ 0
  outside p apart =
      elim (nat_lt p (slot_at l 0)) as (λ b. nat_lt p (slot_at l 0) ≡ b → (if b || nat_le (length (spelling l fresh.slot)) (p - slot_at l 0) then 0 else get_or (spelling l fresh.slot) (p - slot_at l 0) 0) ≡ 0) [
        | true ↦ (λ early. refl)
        | false ↦ (λ late. elim (nat_le (length (spelling l fresh.slot)) (p - slot_at l 0)) as (λ b. nat_le (length (spelling l fresh.slot)) (p - slot_at l 0) ≡ b → (if b then 0 else get_or (spelling l fresh.slot) (p - slot_at l 0) 0) ≡ 0) [
          | true ↦ (λ behind. refl)
          | false ↦ (λ inside. absurd (grind (arith, nat_tests, size l fresh.slot, apart)))
        ] refl)
      ] refl

  spelling_zeros : Zeros (spelling l fresh.slot)
  spelling_zeros =
      let n : ℕ = 16 * lines_of l - 2 in
      let count : suc (suc n) ≡ 16 * lines_of l = omega (arith, some_lines) in
      subst (λ k. Zeros (spelled (number_of fresh.slot) 0 k)) count (zeros (number_of fresh.slot) n fresh.first.len fresh.first.steps)

  inside : (i : ℕ) → i < 8 → byte_then 0 (slot_at l 0 + i) (slot_at l 0) (spelling l fresh.slot) ≡ 0
  inside i below =
      let z = spelling_zeros in
      let read : get_or (spelling l fresh.slot) i 0 ≡ 0 =
      ap (λ (b : List ℕ). get_or b i 0) z.are ∙ get_or_append_left (replicate 8 0) z.rest 0 i (omega (arith, length-replicate {A = ℕ} 8 0)) ∙ get_or-replicate 8 i 0 0 below in
      let place : slot_at l 0 + i - slot_at l 0 ≡ i = omega arith in
      elim (nat_lt (slot_at l 0 + i) (slot_at l 0) || nat_le (length (spelling l fresh.slot)) (slot_at l 0 + i - slot_at l 0)) as (λ b. (if b then 0 else get_or (spelling l fresh.slot) (slot_at l 0 + i - slot_at l 0) 0) ≡ 0) [
        | true ↦ refl
        | false ↦ ap (λ k. get_or (spelling l fresh.slot) k 0) place ∙ read
      ]

  shows : (at : ℕ) (w : Window) → at + 8 ≤ size_of l → w.bytes ≡ replicate 8 0 → ((i : ℕ) → i < 8 → byte_then 0 (at + i) (slot_at l 0) (spelling l fresh.slot) ≡ 0) → Shows image at w
  shows at w low is zero_at =
      let here : at + 8 ≤ length image = omega (arith, low, length-fresh) in
      record {
        within = here;
        bytes = is ∙ ext_get_or 0 (replicate 8 0) (bytes_at at 8 image) (length-replicate {A = ℕ} 8 0 ∙ sym (length-bytes_at at 8 image here)) (λ i below.
            let under : i < 8 = omega (arith, below, length-replicate {A = ℕ} 8 0) in
            get_or-replicate 8 i 0 0 under ∙ sym (byte_in at 8 i image under ∙ byte (at + i) (omega (arith, low, under)) ∙ zero_at i under));
      }

  pub gate_shows : (w : Window) → w.bytes ≡ replicate 8 0 → Shows image 0 w
  gate_shows w is = shows 0 w (omega (arith, within)) is (λ i below. outside (0 + i) (inl (omega arith)))

  pub first_shows : (w : Window) → w.bytes ≡ replicate 8 0 → Shows image (slot_at l 0) w
  first_shows w is = shows (slot_at l 0) w (omega (arith, within)) is inside

  pub second_shows : (w : Window) → w.bytes ≡ replicate 8 0 → Shows image (slot_at l 1) w
  second_shows w is = shows (slot_at l 1) w (omega (arith, within)) is (λ i below. outside (slot_at l 1 + i) (inr (omega arith)))
