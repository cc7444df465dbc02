-- Bytes that are written where other ones stand.
use Rattle.std.proofs.Common.{◌≡◌, ◌↔◌, ℕ, Bool, true, false, List, [], ◌∷◌, refl, ◌∙◌, ap}
use Rattle.std.specs.Prelude.{◌&&◌, eqb, IsTrue}
use Rattle.std.proofs.lemmas.Bool.{eq-eqb, eqb-true}
use Rattle.checkpoint_slots.specs.Commit.{same_bytes}

same_bytes_refl : (xs : List ℕ) → same_bytes xs xs ≡ true
same_bytes_refl [] = refl
same_bytes_refl (x ∷ xs) = ap (λ (b : Bool). b && same_bytes xs xs) (eq-eqb x x refl) ∙ same_bytes_refl xs

both_true : (a b : Bool) → (a && b) ≡ true → (a ≡ true) × (b ≡ true)
both_true true b same = (refl, same)
both_true false b same = absurd (cc)

pub same_bytes_true : (xs ys : List ℕ) → same_bytes xs ys ≡ true → xs ≡ ys
same_bytes_true [] [] same = refl
same_bytes_true [] (y ∷ ys) same = absurd (cc)
same_bytes_true (x ∷ xs) [] same = absurd (cc)
same_bytes_true (x ∷ xs) (y ∷ ys) same =
    let parts = both_true (eqb x y) (same_bytes xs ys) same in
    let head = eqb-true x y parts.0 in
    let tail = same_bytes_true xs ys parts.1 in
    λ i. head i ∷ tail i

-- a test that two lists of bytes are one
pub same_by : (b : Bool) (xs ys : List ℕ) → (IsTrue b ↔ (xs ≡ ys)) → same_bytes xs ys ≡ b
same_by true xs ys iff = ap (λ (zs : List ℕ). same_bytes zs ys) (iff.0 refl) ∙ same_bytes_refl ys
same_by false xs ys iff =
    elim (same_bytes xs ys) as (λ b. same_bytes xs ys ≡ b → b ≡ false) [
      | true ↦ (λ is. let wrong : false ≡ true = iff.1 (same_bytes_true xs ys is) in cc)
      | false ↦ (λ is. refl)
    ] refl
