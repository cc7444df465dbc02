-- Items of two lists that are joined.
use Rattle.std.proofs.Common.{◌≡◌, ℕ, zero, suc, ◌+◌, ◌<◌, ◌≤◌, List, [], ◌∷◌, ◌++◌, length, refl, ap, ◌∙◌, arith}
use Rattle.std.specs.Prelude.{slice_get}

module _ {A : Type 0} where
  pub slice_get_left : (xs ys : List A) (k : ℕ) → k < length xs → slice_get (xs ++ ys) k ≡ slice_get xs k
  slice_get_left [] ys k lt = absurd (omega (arith, lt))
  slice_get_left (x ∷ xs) ys zero lt = refl
  slice_get_left (x ∷ xs) ys (suc k) lt = slice_get_left xs ys k (omega (arith, lt))

  pub slice_get_right : (xs ys : List A) (k : ℕ) → length xs ≤ k → (j : ℕ) × (slice_get (xs ++ ys) k ≡ slice_get ys j) × (k ≡ length xs + j)
  slice_get_right [] ys k le = (k, refl, omega arith)
  slice_get_right (x ∷ xs) ys zero le = absurd (omega (arith, le))
  slice_get_right (x ∷ xs) ys (suc k) le = let got = slice_get_right xs ys k (omega (arith, le)) in (got.0, got.1, omega (arith, got.2))

  pub slice_get_behind : (xs ys : List A) (j : ℕ) → slice_get (xs ++ ys) (length xs + j) ≡ slice_get ys j
  slice_get_behind [] ys j = let same : 0 + j ≡ j = omega arith in ap (slice_get ys) same
  slice_get_behind (x ∷ xs) ys j = let same : suc (length xs) + j ≡ suc (length xs + j) = omega arith in ap (slice_get (x ∷ (xs ++ ys))) same ∙ slice_get_behind xs ys j
