-- The first place that offends, place after place.
use Rattle.std.proofs.Common.{◌≡◌, ℕ, ◌+◌, ◌<◌, Bool, false, List, length, get_or, take, zero, suc, [], ◌∷◌, refl, ap, sym, ◌∙◌}
use borrow.Author.Count.{below_more}
use Rattle.std.specs.Prelude.{option_map, unwrap_or, slice_get, sum_by}
use Rattle.std.proofs.lemmas.Option.{slice_get_read, slice_get-map}
use Rattle.std.proofs.lemmas.List.{get_or-map, length-map}
use Rattle.std.proofs.lemmas.List.Sums.{sum_by_more}
use Rattle.cat_types.specs.declared.pieces.Piece.{Piece}
use Rattle.cat_types.specs.Shown.{shown, all_shown}
use Rattle.cat_conditions.specs.Pieces as spec
use Rattle.cat_conditions.specs.Offences.{At, NoneOf}

pub none_more : (offends : ℕ → Type 0) (n : ℕ) → NoneOf n offends → ¬ offends n → NoneOf (n + 1) offends
none_more offends n before here = below_more (λ k. ¬ offends k) n before here

-- the test of the piece at a place
pub at_place : (test : spec.Piece → Bool) (xs : List Piece) (k : ℕ) (x : Piece) → x ≡ get_or xs k x → k < length xs
    → unwrap_or (option_map test (slice_get (all_shown xs) k)) false ≡ test (shown x)
at_place test xs k x e h = ap (λ o. unwrap_or (option_map test o) false) (slice_get-map shown xs k ∙ ap (option_map shown) (slice_get_read xs (length xs) k x refl h e))

pub none_at : (test : spec.Piece → Bool) (xs : List Piece) (k : ℕ) (x : Piece) → x ≡ get_or xs k x → k < length xs
    → NoneOf k (At test (all_shown xs)) → test (shown x) ≡ false → NoneOf (k + 1) (At test (all_shown xs))
none_at test xs k x e h before here = none_more (At test (all_shown xs)) k before (λ there. cc (at_place test xs k x e h))

pub sum_at : (weight : spec.Piece → ℕ) (xs : List Piece) (k : ℕ) (x : Piece) → x ≡ get_or xs k x → k < length xs
    → sum_by weight (take (k + 1) (all_shown xs)) ≡ sum_by weight (take k (all_shown xs)) + weight (shown x)
sum_at weight xs k x e h =
    let fits : k < length (all_shown xs) = simp length-map h in
    sum_by_more weight (all_shown xs) k (shown x) fits ∙ ap (λ y. sum_by weight (take k (all_shown xs)) + weight y) (get_or-map shown xs k x (shown x) h ∙ ap shown (sym e))

pub take_shown : (xs : List Piece) (n : ℕ) → all_shown (take n xs) ≡ take n (all_shown xs)
take_shown xs zero = refl
take_shown [] (suc n) = refl
take_shown (x ∷ xs) (suc n) = ap (λ ys. shown x ∷ ys) (take_shown xs n)
