-- Items that stand at a place of a list.
use Rattle.std.proofs.Common.{◌≡◌, ℕ, ◌+◌, ◌<◌, List, [], ◌∷◌, ◌++◌, length, Some, ap, ◌∙◌, subst, arith, append_assoc, length-append}
use Rattle.std.specs.Prelude.{slice_get}
use Rattle.std.proofs.Math.Seq.{get_or-append_seam}
use Rattle.std.proofs.lemmas.Option.{slice_get-get_or}
use Rattle.cat_machine.specs.LaidOut.{HasAt}

module _ {A : Type 0} where
  pub has_front : (l : List A) (at : ℕ) (a b : List A) → HasAt l at (a ++ b) → HasAt l at a
  has_front l at [] b h = tt
  has_front l at (x ∷ a) b h = (h.0, has_front l (at + 1) a b h.1)

  pub has_back : (l : List A) (at : ℕ) (a b : List A) → HasAt l at (a ++ b) → HasAt l (at + length a) b
  has_back l at [] b h = let e : at ≡ at + 0 = omega arith in subst (λ n. HasAt l n b) e h
  has_back l at (x ∷ a) b h =
      let e : at + 1 + length a ≡ at + length (x ∷ a) = omega arith in
      subst (λ n. HasAt l n b) e (has_back l (at + 1) a b h.1)

  -- the items after others, at a place under another name
  pub has_rest : (l : List A) (at n : ℕ) (a b : List A) → at + length a ≡ n → HasAt l at (a ++ b) → HasAt l n b
  has_rest l at n a b e h = subst (λ m. HasAt l m b) e (has_back l at a b h)

  pub has_all : (xs before after : List A) → HasAt (before ++ (xs ++ after)) (length before) xs
  has_all [] before after = tt
  has_all (x ∷ xs) before after =
      let all = before ++ (x ∷ (xs ++ after)) in
      let within : length before < length all = omega (arith, length-append before (x ∷ (xs ++ after))) in
      let here : slice_get all (length before) ≡ Some x = slice_get-get_or all (length before) x within ∙ ap Some (get_or-append_seam before x (xs ++ after) x) in
      let n : length (before ++ x ∷ []) ≡ length before + 1 = omega (arith, length-append before (x ∷ [])) in
      let rest = has_all xs (before ++ x ∷ []) after in
      let rest' = subst (λ l. HasAt l (length (before ++ x ∷ [])) xs) (append_assoc before (x ∷ []) (xs ++ after)) rest in
      (here, subst (λ m. HasAt all m xs) n rest')
