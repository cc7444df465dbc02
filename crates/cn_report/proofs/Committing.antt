-- The committed length and steps of an image by its heads.
use Rattle.std.proofs.Common.{◌≡◌, ℕ, ◌+◌, ◌*◌, ◌%◌, ◌≤◌, ◌<◌, true, false, List, [], ◌∷◌, length, take, drop, get_or, refl, sym, ap, ◌∙◌, subst, arith}
use Rattle.std.specs.Prelude.{◌==◌, if◌then◌else◌}
use Rattle.std.specs.Int.{w32, from_le_bytes}
use Rattle.std.proofs.lemmas.Bool.Decides.{nat_tests}
use Rattle.std.proofs.lemmas.List.{get_or-take, take-take}
use Rattle.std.proofs.lemmas.Grind.{common_steps}
use Rattle.nv_memory.specs.declared.layout.Layout.{Layout}
use Rattle.nv_memory.specs.Bytes.{bytes_at}
use Rattle.nv_memory.specs.Layout.{lines_of, slot_at}
use Rattle.checkpoint_slots.specs.Numbers.{number_at}
use Rattle.checkpoint_slots.specs.Image.{selected_of, slot_bytes}
use Rattle.cn_report.specs.declared.window.Window.{Window}
use Rattle.cn_report.specs.declared.heads.Heads.{Heads}
use Rattle.cn_report.specs.Windows.{Shows, AreHeads}
use Rattle.cn_report.proofs.Written.{byte_in, length-bytes_at}

-- ---- the numbers of a window

four : (xs : List ℕ) → length xs ≡ 4 → (get_or xs 0 0 ∷ get_or xs 1 0 ∷ get_or xs 2 0 ∷ get_or xs 3 0 ∷ []) ≡ xs
four [] e = absurd (omega arith)
four (a ∷ []) e = absurd (omega arith)
four (a ∷ b ∷ []) e = absurd (omega arith)
four (a ∷ b ∷ c ∷ []) e = absurd (omega arith)
four (a ∷ b ∷ c ∷ d ∷ []) e = refl
four (a ∷ b ∷ c ∷ d ∷ x ∷ xs) e = absurd (omega arith)

four_of : (slot ws : List ℕ) (j : ℕ) → 8 ≤ length slot → ws ≡ take 8 slot → j ≤ 4
    → (get_or ws j 0 ∷ get_or ws (j + 1) 0 ∷ get_or ws (j + 2) 0 ∷ get_or ws (j + 3) 0 ∷ []) ≡ bytes_at j 4 slot
four_of slot ws j long is low =
    let read : (i : ℕ) → i < 4 → get_or ws (j + i) 0 ≡ get_or (bytes_at j 4 slot) i 0 =
    λ i below. ap (λ (l : List ℕ). get_or l (j + i) 0) is ∙ get_or-take 8 slot (j + i) 0 (omega arith) ∙ sym (byte_in j 4 i slot below) in
    let r0 : get_or ws j 0 ≡ get_or (bytes_at j 4 slot) 0 0 = ap (λ (k : ℕ). get_or ws k 0) (omega arith) ∙ read 0 (omega arith) in
    let r1 = read 1 (omega arith) in
    let r2 = read 2 (omega arith) in
    let r3 = read 3 (omega arith) in
    (λ i. r0 i ∷ r1 i ∷ r2 i ∷ r3 i ∷ []) ∙ four (bytes_at j 4 slot) (length-bytes_at j 4 slot (omega arith))

some_lines : (l : Layout) → 1 ≤ lines_of l
some_lines l = omega arith

-- a window at the begin of a slot
module _ (l : Layout) (image : List ℕ) (s : ℕ) (w : Window) (shows : Shows image (slot_at l s) w) where
  front : w.bytes ≡ take 8 (slot_bytes l s image)
  front = shows.bytes ∙ sym (take-take 8 (64 * lines_of l) (drop (slot_at l s) image) (omega (arith, some_lines l)))

  long : 8 ≤ length (slot_bytes l s image)
  long = grind (arith, common_steps, some_lines l, shows.within)

  pub first_is : from_le_bytes w32 (get_or w.bytes 0 0 ∷ get_or w.bytes 1 0 ∷ get_or w.bytes 2 0 ∷ get_or w.bytes 3 0 ∷ []) ≡ number_at (slot_bytes l s image) 0
  first_is = ap (from_le_bytes w32) (four_of (slot_bytes l s image) w.bytes 0 long front (omega arith))

  pub second_is : from_le_bytes w32 (get_or w.bytes 4 0 ∷ get_or w.bytes 5 0 ∷ get_or w.bytes 6 0 ∷ get_or w.bytes 7 0 ∷ []) ≡ number_at (slot_bytes l s image) 1
  second_is = ap (from_le_bytes w32) (four_of (slot_bytes l s image) w.bytes 4 long front (omega arith))

-- the window of the slot that is selected
pub selected_shows : (l : Layout) (image : List ℕ) (h : Heads) (w : Window) → AreHeads l image h → w ≡ (if get_or h.gate.bytes 0 0 % 2 == 0 then h.first else h.second) → Shows image (slot_at l (selected_of image)) w
selected_shows l image h w heads is =
    let gate : get_or h.gate.bytes 0 0 ≡ get_or image 0 0 = ap (λ (bytes : List ℕ). get_or bytes 0 0) heads.gate.bytes ∙ byte_in 0 8 0 image (omega arith) in
    let parity : get_or h.gate.bytes 0 0 % 2 ≡ selected_of image = ap (λ (b : ℕ). b % 2) gate in
    let chosen : w ≡ (if selected_of image == 0 then h.first else h.second) = is ∙ ap (λ (n : ℕ). if n == 0 then h.first else h.second) parity in
    subst (λ (v : Window). Shows image (slot_at l (selected_of image)) v) (sym chosen)
    (elim (selected_of image == 0) as (λ b. (selected_of image == 0) ≡ b → Shows image (slot_at l (selected_of image)) (if b then h.first else h.second)) [
      | true ↦ (λ even. let zero_is : 0 ≡ selected_of image = grind (arith, nat_tests) in subst (λ n. Shows image (slot_at l n) h.first) zero_is heads.first)
      | false ↦ (λ odd. let one_is : 1 ≡ selected_of image = grind (arith, nat_tests) in subst (λ n. Shows image (slot_at l n) h.second) one_is heads.second)
    ] refl)
