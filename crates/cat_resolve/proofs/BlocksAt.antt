-- Blocks that stand one after the other among all blocks.
use Rattle.std.proofs.Common.{◌≡◌, ℕ, zero, suc, ◌+◌, ◌<◌, List, [], ◌∷◌, ◌++◌, length, Some, refl, ap, ◌∙◌, arith, length-append}
use Rattle.std.specs.Prelude.{map, slice_get}
use Rattle.cat_program.specs.declared.syntax.Stmt.{Stmt}
use Rattle.cat_program.specs.Body.{block_at}
use Rattle.cat_resolve.specs.Form.{Command, command, commands}

-- these stand in all from place n on
abbrev pub StandAt : List (List Command) → ℕ → List (List Command) → Type 0
StandAt all n cs = (k : ℕ) → k < length cs → slice_get all (n + k) ≡ slice_get cs k

get_first : {A : Type 0} (xs ys : List A) (k : ℕ) → k < length xs → slice_get (xs ++ ys) k ≡ slice_get xs k
get_first [] ys k h = absurd (omega arith)
get_first (x ∷ xs) ys zero h = refl
get_first (x ∷ xs) ys (suc k) h = get_first xs ys k (omega (arith, h))

get_second : {A : Type 0} (xs ys : List A) (j k : ℕ) → j ≡ length xs + k → slice_get (xs ++ ys) j ≡ slice_get ys k
get_second [] ys j k e = let same : j ≡ k = omega (arith, e) in ap (slice_get ys) same
get_second (x ∷ xs) ys zero k e = absurd (omega (arith, e))
get_second (x ∷ xs) ys (suc j) k e = get_second xs ys j k (omega (arith, e))

pub all_stand : (all : List (List Command)) → StandAt all 0 all
all_stand all k h = let same : 0 + k ≡ k = omega arith in ap (slice_get all) same

module _ (all : List (List Command)) (n : ℕ) (one more : List (List Command)) (at : StandAt all n (one ++ more)) where
  pub first_at : StandAt all n one
  first_at k h =
      let l : length (one ++ more) ≡ length one + length more = length-append one more in
      at k (omega (arith, l, h)) ∙ get_first one more k h

  pub second_at : StandAt all (n + length one) more
  second_at k h =
      let l : length (one ++ more) ≡ length one + length more = length-append one more in
      let place : (n + length one) + k ≡ n + (length one + k) = omega arith in
      ap (slice_get all) place ∙ at (length one + k) (omega (arith, l, h)) ∙ get_second one more (length one + k) k refl

pub after_at : (all : List (List Command)) (n : ℕ) (own : List Command) (more : List (List Command)) → StandAt all n (own ∷ more) → StandAt all (n + 1) more
after_at all n own more at k h =
    let place : (n + 1) + k ≡ n + suc k = omega arith in
    ap (slice_get all) place ∙ at (suc k) (omega (arith, h))

block_is : (blocks : List (List Stmt)) (n : ℕ) (own : List Command) → slice_get (commands blocks) n ≡ Some own → map command (block_at blocks n) ≡ own
block_is [] n own e = absurd (cc)
block_is (b ∷ blocks) zero own e = (cc)
block_is (b ∷ blocks) (suc n) own e = block_is blocks n own e

-- the statements of the first of them
pub own_at : (blocks : List (List Stmt)) (n : ℕ) (own : List Command) (more : List (List Command)) → StandAt (commands blocks) n (own ∷ more) → map command (block_at blocks n) ≡ own
own_at blocks n own more at =
    let place : n ≡ n + 0 = omega arith in
    block_is blocks n own (ap (slice_get (commands blocks)) place ∙ at 0 (omega arith))
