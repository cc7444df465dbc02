-- One item more in a count.
use Rattle.std.proofs.Common.{◌≡◌, ℕ, ◌+◌, ◌≤◌, ◌<◌, Bool, true, false, List, length, take, get_or, Some, refl, sym, ap, ◌∙◌, arith, add-zero}
use Rattle.std.specs.Prelude.{slice_get, count_by, if◌then◌else◌}
use Rattle.std.specs.List.{range_with_len}
use Rattle.std.proofs.lemmas.Option.{slice_get_within, get_or_from_slice_get}
use Rattle.std.proofs.lemmas.List.Sums.{count_by_more_no, count_by_more_yes}
use Rattle.std.proofs.lemmas.List.FromFn.{length-range_with_len, get_or-range_with_len}
use Rattle.std.proofs.Math.Seq.{take-length}

counted : {A : Type 0} (test : A → Bool) (xs : List A) (k : ℕ) (d : A) → k < length xs → count_by test (take (k + 1) xs) ≡ count_by test (take k xs) + (if test (get_or xs k d) then 1 else 0)
counted test xs k d within =
    elim (test (get_or xs k d)) as (λ b. test (get_or xs k d) ≡ b → count_by test (take (k + 1) xs) ≡ count_by test (take k xs) + (if b then 1 else 0)) [
      | true ↦ (λ yes. count_by_more_yes test xs k d within yes)
      | false ↦ (λ none. count_by_more_no test xs k d within none ∙ sym (add-zero (count_by test (take k xs))))
    ] refl

pub counted_item : {A : Type 0} (test : A → Bool) (xs : List A) (k : ℕ) (x : A) → slice_get xs k ≡ Some x → count_by test (take (k + 1) xs) ≡ count_by test (take k xs) + (if test x then 1 else 0)
counted_item test xs k x is =
    counted test xs k x (slice_get_within xs k x is)
    ∙ ap (λ y. count_by test (take k xs) + (if test y then 1 else 0)) (get_or_from_slice_get xs k x x is)

pub counted_all : {A : Type 0} (test : A → Bool) (xs : List A) (k : ℕ) → length xs ≤ k → k ≤ length xs → count_by test (take k xs) ≡ count_by test xs
counted_all test xs k low high =
    let same : k ≡ length xs = omega arith in
    ap (λ (n : ℕ). count_by test (take n xs)) same ∙ ap (count_by test) (take-length xs)

pub counted_place : (test : ℕ → Bool) (n k : ℕ) → k < n → count_by test (take (k + 1) (range_with_len 0 n)) ≡ count_by test (take k (range_with_len 0 n)) + (if test k then 1 else 0)
counted_place test n k less =
    let at : get_or (range_with_len 0 n) k 0 ≡ k = get_or-range_with_len 0 n k 0 less ∙ (omega arith) in
    counted test (range_with_len 0 n) k 0 (omega (arith, less, length-range_with_len 0 n))
    ∙ ap (λ (i : ℕ). count_by test (take k (range_with_len 0 n)) + (if test i then 1 else 0)) at

pub counted_places : (test : ℕ → Bool) (n k : ℕ) → n ≤ k → k ≤ n → count_by test (take k (range_with_len 0 n)) ≡ count_by test (range_with_len 0 n)
counted_places test n k low high = counted_all test (range_with_len 0 n) k (omega (arith, low, length-range_with_len 0 n)) (omega (arith, high, length-range_with_len 0 n))

pub counted_more : (test : ℕ → Bool) (n k old one : ℕ) (b : Bool) → k < n → old ≡ count_by test (take k (range_with_len 0 n)) → one ≡ (if b then 1 else 0) → b ≡ test k
    → old + one ≡ count_by test (take (k + 1) (range_with_len 0 n))
counted_more test n k old one b less is one_is same =
    ap (λ (m : ℕ). m + one) is
    ∙ ap (λ (m : ℕ). count_by test (take k (range_with_len 0 n)) + m) (one_is ∙ ap (λ (t : Bool). if t then 1 else 0) same)
    ∙ sym (counted_place test n k less)

pub at_most_one : (b : Bool) (one : ℕ) → one ≡ (if b then 1 else 0) → one ≤ 1
at_most_one true one is = omega (arith, is)
at_most_one false one is = omega (arith, is)
