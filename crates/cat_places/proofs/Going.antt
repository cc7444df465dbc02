-- A walk along a list, one element after another.
use Rattle.std.proofs.Common.{◌≡◌, ℕ, suc, ◌+◌, ◌≤◌, ◌<◌, add-one, get_or, List, [], ◌∷◌, ◌++◌, drop, slice_set, length, refl, ap, sym, ◌∙◌, append_assoc}
use Rattle.std.proofs.lemmas.List.{append-nil}
use Rattle.std.proofs.Math.ListN.{drop_of_length-le}
use Rattle.std.proofs.Math.Seq.{drop-cons}
use Rattle.cat_tokens.specs.declared.token.What.{What}

-- What is left behind the elements from i on, and where their pieces begin, complete what all give from the start.
pub record Goes {X : Type 0} (leave : List X → List What → List What) (mark : List X → List What → List ℕ)
    (start : List What) (before : List ℕ) (here : List What) (now : List ℕ) (xs : List X) (i : ℕ) : Type 0 where
  pub left : leave (drop i xs) here ≡ leave xs start
  pub found : now ++ mark (drop i xs) here ≡ before ++ mark xs start

module _ {X : Type 0} (leave : List X → List What → List What) (mark : List X → List What → List ℕ) (start : List What) (before : List ℕ) (xs : List X) where
  pub goes_first : Goes leave mark start before start before xs 0
  goes_first = record { left = refl; found = refl }

  pub goes_next : (here there : List What) (now new ms : List ℕ) (i : ℕ) → Goes leave mark start before here now xs i → new ≡ now ++ ms
      → leave (drop i xs) here ≡ leave (drop (i + 1) xs) there → mark (drop i xs) here ≡ ms ++ mark (drop (i + 1) xs) there
      → Goes leave mark start before there new xs (i + 1)
  goes_next here there now new ms i g e l f = record {
    left = sym l ∙ g.left;
    found = ap (λ ns. ns ++ mark (drop (i + 1) xs) there) e ∙ (append_assoc now ms (mark (drop (i + 1) xs) there) ∙ (ap (λ ns. now ++ ns) (sym f) ∙ g.found));
  }

  pub goes_left : (here : List What) (now : List ℕ) (i : ℕ) → Goes leave mark start before here now xs i → length xs ≤ i → leave [] here ≡ here → here ≡ leave xs start
  goes_left here now i g h e = sym e ∙ (ap (λ ys. leave ys here) (sym (drop_of_length-le xs h)) ∙ g.left)

  pub goes_found : (here : List What) (now : List ℕ) (i : ℕ) → Goes leave mark start before here now xs i → length xs ≤ i → mark [] here ≡ [] → now ≡ before ++ mark xs start
  goes_found here now i g h e = sym (append-nil now) ∙ (ap (λ ns. now ++ ns) (sym (ap (λ ys. mark ys here) (drop_of_length-le xs h) ∙ e)) ∙ g.found)

pub item_next : {X : Type 0} (xs : List X) (i : ℕ) (x : X) → x ≡ get_or xs i x → i < length xs → drop i xs ≡ x ∷ drop (i + 1) xs
item_next xs i x e h = rw add-one (drop-cons xs i x h ∙ ap (λ y. y ∷ drop (suc i) xs) (sym e))

pub set_first : (ns ms : List ℕ) (n m : ℕ) → slice_set ((ns ++ n ∷ []) ++ ms) (length ns) m ≡ ns ++ m ∷ ms
set_first [] ms n m = refl
set_first (k ∷ ns) ms n m = ap (λ ks. k ∷ ks) (set_first ns ms n m)
