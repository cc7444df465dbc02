-- How added pieces come together.
use Rattle.std.proofs.Common.{◌≡◌, ℕ, ◌+◌, ◌≤◌, ◌<◌, max, suc, ◌&&◌, true, false, Some, slice_get, Bool, add-one, get_or, List, [], ◌∷◌, ◌++◌, drop, length, map, refl, ap, sym, ◌∙◌, append_assoc}
use Rattle.std.proofs.lemmas.List.{map-append, append-nil}
use Rattle.std.proofs.Math.ListN.{drop_of_length-le}
use Rattle.std.proofs.Math.Seq.{drop-cons}
use Rattle.cn_base.specs.declared.tree.Further.{Further, out-Further}
use Rattle.cat_conditions.specs.Plain.{term_of, further_of, furthers_of}
use Rattle.cat_conditions.specs.Pieces.{term_pieces, further_terms}
use Rattle.cat_conditions.specs.Counts.{size, further_size, need, further_need}
use Rattle.cat_conditions.specs.declared.sort.ValueType.{ValueType}
use Rattle.cat_conditions.specs.Names.{Sorts}
use Rattle.cat_conditions.specs.Types.{chain_type, is_same, operator_type, is_of, furthers_are_of}
use Rattle.cat_conditions.specs.PlainKinds.{ExpressionKinds}
use Rattle.cat_types.specs.declared.pieces.Piece.{Piece}
use Rattle.cat_types.specs.Shown.{shown, all_shown, Adds}
use Rattle.cat_conditions.specs.Pieces as spec

pub adds_none : (a : List Piece) → Adds a a []
adds_none a = record { same = sym (append-nil (all_shown a)) }

pub adds_one : (a b : List Piece) (p : Piece) → b ≡ a ++ p ∷ [] → Adds a b (shown p ∷ [])
adds_one a b p e = record { same = ap all_shown e ∙ map-append shown a (p ∷ []) }

pub adds_then : {a b c : List Piece} {ps qs : List spec.Piece} → Adds a b ps → Adds b c qs → Adds a c (ps ++ qs)
adds_then {a} {b} {c} {ps} {qs} f g = record { same = g.same ∙ ap (λ xs. xs ++ qs) f.same ∙ append_assoc (all_shown a) ps qs }

-- what was found from before on, and the pieces that the rest from i on has, are the pieces that all have
pub record Continues {X : Type 0} (pieces : List X → List spec.Piece) (before now : List Piece) (xs : List X) (i : ℕ) : Type 0 where
  pub same : all_shown now ++ pieces (drop i xs) ≡ all_shown before ++ pieces xs

pub continues_first : {X : Type 0} (pieces : List X → List spec.Piece) (a : List Piece) (xs : List X) → Continues pieces a a xs 0
continues_first pieces a xs = record { same = refl }

pub continues_on : {X : Type 0} {pieces : List X → List spec.Piece} {a b c : List Piece} {xs : List X} {i : ℕ} {ps : List spec.Piece}
    → Continues pieces a b xs i → Adds b c ps → pieces (drop i xs) ≡ ps ++ pieces (drop (i + 1) xs) → Continues pieces a c xs (i + 1)
continues_on {X} {pieces} {a} {b} {c} {xs} {i} {ps} f g e = record {
  same = ap (λ z. z ++ pieces (drop (i + 1) xs)) g.same ∙ append_assoc (all_shown b) ps (pieces (drop (i + 1) xs))
      ∙ ap (λ z. all_shown b ++ z) (sym e) ∙ f.same;
}

pub continues_last : {X : Type 0} {pieces : List X → List spec.Piece} {a b : List Piece} {xs : List X} {i : ℕ}
    → Continues pieces a b xs i → length xs ≤ i → pieces [] ≡ [] → Adds a b (pieces xs)
continues_last {X} {pieces} {a} {b} {xs} {i} f h e = record {
  same = sym (append-nil (all_shown b)) ∙ ap (λ z. all_shown b ++ z) (sym (ap pieces (drop_of_length-le xs h) ∙ e)) ∙ f.same;
}

pub item_next : {X : Type 0} (xs : List X) (i : ℕ) (x : X) → x ≡ get_or xs i x → i < length xs → drop i xs ≡ x ∷ drop (i + 1) xs
item_next xs i x e h = rw add-one (drop-cons xs i x h ∙ ap (λ y. y ∷ drop (suc i) xs) (sym e))

module _ (kinds : ExpressionKinds) where
  pub further_next : (event : Bool) (f : Further) (fs : List Further)
      → further_terms event (furthers_of (map further_of (f ∷ fs))) ≡ term_pieces event (term_of (out-Further f).operand) ++ further_terms event (furthers_of (map further_of fs))
  further_next event f fs = ap (λ p. further_terms event (furthers_of (p ∷ map further_of fs))) (kinds.further f)

  pub size_next : (xs : List Further) (i : ℕ) (f : Further) → f ≡ get_or xs i f → i < length xs
      → further_size (furthers_of (map further_of (drop i xs))) ≡ size (term_of (out-Further f).operand) + 1 + further_size (furthers_of (map further_of (drop (i + 1) xs)))
  size_next xs i f e h =
      ap (λ fs. further_size (furthers_of (map further_of fs))) (item_next xs i f e h)
      ∙ ap (λ p. further_size (furthers_of (p ∷ map further_of (drop (i + 1) xs)))) (kinds.further f)

  pub need_next : (xs : List Further) (i : ℕ) (f : Further) → f ≡ get_or xs i f → i < length xs
      → further_need (furthers_of (map further_of (drop i xs))) ≡ max (need (term_of (out-Further f).operand) + 1) (further_need (furthers_of (map further_of (drop (i + 1) xs))))
  need_next xs i f e h =
      ap (λ fs. further_need (furthers_of (map further_of fs))) (item_next xs i f e h)
      ∙ ap (λ p. further_need (furthers_of (p ∷ map further_of (drop (i + 1) xs)))) (kinds.further f)

  pub are_next : (sorts : Sorts) (t : ValueType) (xs : List Further) (i : ℕ) (f : Further) → f ≡ get_or xs i f → i < length xs
      → furthers_are_of sorts t (furthers_of (map further_of (drop i xs)))
      ≡ (is_same t (operator_type (out-Further f).operator) && is_of sorts t (term_of (out-Further f).operand) && furthers_are_of sorts t (furthers_of (map further_of (drop (i + 1) xs))))
  are_next sorts t xs i f e h =
      ap (λ fs. furthers_are_of sorts t (furthers_of (map further_of fs))) (item_next xs i f e h)
      ∙ ap (λ p. furthers_are_of sorts t (furthers_of (p ∷ map further_of (drop (i + 1) xs)))) (kinds.further f)

  pub chain_first : (xs : List Further) (f : Further) → Some f ≡ slice_get xs 0 → chain_type (furthers_of (map further_of xs)) ≡ Some (operator_type (out-Further f).operator)
  chain_first [] f e = absurd (cc)
  chain_first (x ∷ xs) f e =
      let same : x ≡ f = cc in
      ap (λ p. chain_type (furthers_of (p ∷ map further_of xs))) (kinds.further x) ∙ ap (λ y. Some (operator_type (out-Further y).operator)) same

pub and_true : (a b : Bool) → a ≡ true → (a && b) ≡ b
and_true true b e = refl
and_true false b e = absurd (cc)

pub and_false : (a b : Bool) → a ≡ false → (a && b) ≡ false
and_false false b e = refl
and_false true b e = absurd (cc)
