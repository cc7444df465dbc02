-- A list that ends in zeros.
use Rattle.std.proofs.Common.{◌≡◌, ℕ, zero, suc, ◌+◌, ◌-◌, ◌≤◌, ◌<◌, ◌⊎◌, inl, inr, List, [], ◌∷◌, ◌++◌, length, get_or, take, drop, replicate, refl, sym, ◌∙◌, ap, arith}
use Rattle.std.specs.Prelude.{slice_range}
use Rattle.std.proofs.lemmas.Bool.{cases_lt}
use Rattle.std.proofs.lemmas.List.{get_or-drop, get_or-take}

pub zeros_are : (xs : List ℕ) → ((k : ℕ) → get_or xs k 0 ≡ 0) → xs ≡ replicate (length xs) 0
zeros_are [] zero_at = refl
zeros_are (x ∷ xs) zero_at = let first : x ≡ 0 = zero_at 0 in let rest = zeros_are xs (λ k. zero_at (suc k)) in λ i. first i ∷ rest i

-- the bytes before them, and as many zeros as are left
pub head_and_zeros : (len : ℕ) (xs : List ℕ) → len ≤ length xs → ((k : ℕ) → len ≤ k → get_or xs k 0 ≡ 0) → take len xs ++ replicate (length xs - len) 0 ≡ xs
head_and_zeros zero xs within zero_at = let n : length xs - 0 ≡ length xs = omega arith in ap (λ n. replicate n 0) n ∙ sym (zeros_are xs (λ k. zero_at k (omega arith)))
head_and_zeros (suc len) [] within zero_at = absurd (omega arith)
head_and_zeros (suc len) (x ∷ xs) within zero_at =
    let n : length (x ∷ xs) - suc len ≡ length xs - len = omega arith in
    ap (λ (n : ℕ). x ∷ take len xs ++ replicate n 0) n
    ∙ ap (λ (l : List ℕ). x ∷ l) (head_and_zeros len xs (omega arith) (λ k from. zero_at (suc k) (omega arith)))

-- where the greatest of some bytes before them is 0, there are more of them
module _ (xs part : List ℕ) (len n most : ℕ) (n_le : n ≤ len) (part_is : part ≡ slice_range xs (len - n) len) (greatest : (k : ℕ) → get_or part k 0 ≤ most) (none : most ≡ 0)
    (zeros : (k : ℕ) → len ≤ k → get_or xs k 0 ≡ 0) where
  by_half : (k : ℕ) → len - n ≤ k → (k < len) ⊎ (len ≤ k) → get_or xs k 0 ≡ 0
  by_half k from (inr late) = zeros k late
  by_half k from (inl early) =
      let i = k - (len - n) in
      let within : i < len - (len - n) = omega (arith, from, early) in
      let place : (len - n) + i ≡ k = omega (arith, from) in
      let is : get_or part i 0 ≡ get_or xs k 0 =
      ap (λ (l : List ℕ). get_or l i 0) part_is
      ∙ get_or-take (len - (len - n)) (drop (len - n) xs) i 0 within
      ∙ get_or-drop (len - n) xs i 0
      ∙ ap (λ (j : ℕ). get_or xs j 0) place in
      omega (arith, is, greatest i, none)

  pub zeros_more : (k : ℕ) → len - n ≤ k → get_or xs k 0 ≡ 0
  zeros_more k from = by_half k from (cases_lt k len)
