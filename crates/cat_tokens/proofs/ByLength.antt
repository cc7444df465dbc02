-- A word of a table is looked for among those of its length alone.
use Rattle.std.proofs.Common.{◌≡◌, ℕ, Bool, true, false, cond, eqb, List, [], ◌∷◌, length, Option, Some, None, refl, ap, ◌∙◌}
use Rattle.std.specs.List.{list_all}
use Rattle.std.specs.Str.{bytes_eq}
use Rattle.std.proofs.lemmas.Bool.{eqb-false}
use Rattle.cat_tokens.specs.Spelling.{lookup}
use Rattle.cat_tokens.proofs.Runs.{bytes_eq_is, lookup_test}

module _ {X : Type 0} where
  -- the entries whose words have so many bytes
  abbrev pub of_length : ℕ → List (List ℕ × X) → List (List ℕ × X)
  of_length n [] = []
  of_length n (e ∷ es) = cond (eqb (length e.0) n) (e ∷ of_length n es) (of_length n es)

  none_of : (o : Option X) → ((x : X) → o ≡ Some x → ⊥) → None ≡ o
  none_of None never = refl
  none_of (Some x) never = absurd (never x refl)

  kept_by : (n : ℕ) (e : List ℕ × X) (es : List (List ℕ × X)) (word : List ℕ) (b same : Bool) → length word ≡ n → eqb (length e.0) n ≡ b → bytes_eq e.0 word ≡ same
      → lookup (of_length n es) word ≡ lookup es word
      → lookup (cond b (e ∷ of_length n es) (of_length n es)) word ≡ cond same (Some e.1) (lookup es word)
  kept_by n e es word true same len long is rest = ap (λ s. cond s (Some e.1) (lookup (of_length n es) word)) is ∙ ap (cond same (Some e.1)) rest
  kept_by n e es word false false len long is rest = rest
  kept_by n e es word false true len long is rest = absurd (eqb-false (length e.0) n long (ap length (bytes_eq_is e.0 word is) ∙ len))

  pub same_length : (table : List (List ℕ × X)) (word : List ℕ) (n : ℕ) → length word ≡ n → lookup (of_length n table) word ≡ lookup table word
  same_length [] word n len = refl
  same_length (e ∷ es) word n len = kept_by n e es word (eqb (length e.0) n) (bytes_eq e.0 word) len refl refl (same_length es word n len)

  -- no word of a length that none has
  pub other_length : (has : ℕ → Bool) (table : List (List ℕ × X)) (word : List ℕ) → list_all (λ e. has (length e.0)) table ≡ true → has (length word) ≡ false → None ≡ lookup table word
  other_length has table word all outside = none_of (lookup table word) (λ x found. let yes = lookup_test (λ w. has (length w)) table word x all found in cc)
