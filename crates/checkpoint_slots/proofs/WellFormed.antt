-- A slot's bytes are well formed where the numbers in the image are.
use Rattle.std.proofs.Common.{◌≡◌, ℕ, ◌+◌, ◌-◌, ◌*◌, ◌<◌, ◌≤◌, List, sym, ◌∙◌, ap, subst, arith, Bool, true, false}
use Rattle.std.specs.Prelude.{IsTrue, ◌↔◌}
use Rattle.nv_memory.specs.declared.layout.Layout.{Layout}
use Rattle.nv_memory.specs.Layout.{cells_of, lines_of, slot_at}
use Rattle.nv_memory.specs.Laws.{PartsAreApart}
use Rattle.checkpoint_slots.specs.Numbers.{number_at}
use Rattle.checkpoint_slots.specs.Image.{number_in, selected_of, committed_bytes, IsWellFormed}
use Rattle.checkpoint_slots.proofs.LoadLemmas.{number_in_at}

module _ (l : Layout) (parts : PartsAreApart l) (image : List ℕ) (at : ℕ) (at_is : at ≡ slot_at l (selected_of image)) where
  -- the numbers of the slot that is selected
  number_is : (k : ℕ) → k < 16 * lines_of l → number_in image at k ≡ number_at (committed_bytes l image) k
  number_is k below = ap (λ (p : ℕ). number_in image p k) at_is ∙ number_in_at image (slot_at l (selected_of image)) (64 * lines_of l) k (omega arith)

  abbrev PostsFit : Type 0
  PostsFit = (k : ℕ) → 3 + l.words ≤ k → k < 3 + l.words + l.tasks → number_in image at k ≤ 65535

  abbrev IsFilled : Type 0
  IsFilled = (k : ℕ) → cells_of l ≤ k → k < 16 * lines_of l → number_in image at k ≤ 0

  pub too_long : l.log < number_in image at 0 → IsTrue false ↔ IsWellFormed l (committed_bytes l image)
  too_long more = (λ wrong. absurd (cc), λ formed. let is = number_is 0 (omega (arith, parts.some_lines)) in let few = formed.len_fits in absurd (omega arith))

  pub too_many : (b : Bool) → (IsTrue b ↔ PostsFit) → b ≡ false → IsTrue false ↔ IsWellFormed l (committed_bytes l image)
  too_many b iff is = (
    λ wrong. absurd (cc),
    λ formed.
        let all : IsTrue b = iff.1 (λ k from below.
        let j : ℕ = k - (3 + l.words) in
        let place : 3 + l.words + j ≡ k = omega arith in
        subst (λ (n : ℕ). n ≤ 65535) (sym (number_is k (omega (arith, parts.cells))))
        (subst (λ (n : ℕ). number_at (committed_bytes l image) n ≤ 65535) place (formed.posts_fit j (omega arith)))) in
        cc,
  )

  pub all_formed : (b posts : Bool) → (IsTrue b ↔ IsFilled) → (IsTrue posts ↔ PostsFit) → posts ≡ true → number_in image at 0 ≤ l.log → IsTrue b ↔ IsWellFormed l (committed_bytes l image)
  all_formed b posts filled fit is few = (
    λ all. record {
      len_fits = subst (λ (n : ℕ). n ≤ l.log) (number_is 0 (omega (arith, parts.some_lines))) few;
      posts_fit = λ k below. subst (λ (n : ℕ). n ≤ 65535) (number_is (3 + l.words + k) (omega (arith, parts.cells))) (fit.0 is (3 + l.words + k) (omega arith) (omega arith));
      filled = λ k from below. let none = filled.0 all k from below in let same = number_is k below in omega arith;
    },
    λ formed. filled.1 (λ k from below. let none = formed.filled k from below in let same = number_is k below in omega arith),
  )
