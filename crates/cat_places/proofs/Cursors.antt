-- Steps of a cursor over kinds of tokens.
use Rattle.std.proofs.Common.{◌≡◌, ℕ, zero, suc, ◌+◌, ◌-◌, ◌<◌, min, true, false, List, [], ◌∷◌, length, map, refl, sym, ap, ◌∙◌, arith}
use Rattle.std.specs.Prelude.{drop, slice_range}
use Rattle.std.proofs.lemmas.List.{drop_min, drop-map, length-drop}
use Rattle.std.proofs.Math.Seq.{take-length}
use native.Mathlib.Numerals.{unary_clauses}
use Rattle.cat_tokens.specs.declared.token.Symbol.{Symbol}
use Rattle.cat_tokens.specs.declared.token.Symbol.TheVariants as s
use Rattle.cat_tokens.specs.declared.token.What.{What}
use Rattle.cat_tokens.specs.declared.token.What.TheVariants as what
use Rattle.cat_places.specs.Walk.{begins_with, opening, unopened, closed, still_open}

-- what opening says of the first token
pub opens_here : (ws : List What) → begins_with s.LeftParen ws ≡ true → (opening ws ≡ opening (drop 1 ws) + 1) × (unopened ws ≡ unopened (drop 1 ws))
opens_here (what.Symbol s.LeftParen ∷ ws) e = (omega arith, refl)
opens_here _ e = absurd cc

pub opens_none : (ws : List What) → begins_with s.LeftParen ws ≡ false → (opening ws ≡ 0) × (unopened ws ≡ ws)
opens_none (what.Symbol s.LeftParen ∷ ws) e = absurd cc
opens_none _ e = (refl, refl)

pub closes_here : (n : ℕ) (ws : List What) → 0 < n → begins_with s.RightParen ws ≡ true → (still_open n ws ≡ still_open (n - 1) (drop 1 ws)) × (closed n ws ≡ closed (n - 1) (drop 1 ws))
closes_here zero ws lt e = absurd (omega arith)
closes_here (suc n) (what.Symbol s.RightParen ∷ ws) lt e = simp unary_clauses (refl, refl)
closes_here (suc n) _ lt e = absurd cc

pub closes_none : (n : ℕ) (ws : List What) → begins_with s.RightParen ws ≡ false → (still_open n ws ≡ n) × (closed n ws ≡ ws)
closes_none zero ws e = (refl, refl)
closes_none (suc n) (what.Symbol s.RightParen ∷ ws) e = absurd cc
closes_none (suc n) _ e = (refl, refl)

pub closes_no_more : (ws : List What) → (still_open 0 ws ≡ 0) × (closed 0 ws ≡ ws)
closes_no_more ws = (refl, refl)

pub shorter : (s : Symbol) (ws : List What) → begins_with s ws ≡ true → length (drop 1 ws) + 1 ≡ length ws
shorter s [] e = absurd cc
shorter s (w ∷ ws) e = omega arith

rest_is : {A : Type 0} (n : ℕ) (xs : List A) → slice_range xs n (length xs) ≡ drop n xs
rest_is n xs = rw (← length-drop n xs) (take-length (drop n xs))

pub skipped : {A B : Type 0} (f : A → B) (n : ℕ) (xs : List A) → map f (slice_range xs (min n (length xs)) (length xs)) ≡ drop n (map f xs)
skipped f n xs = ap (map f) (rest_is (min n (length xs)) xs ∙ drop_min n xs) ∙ sym (drop-map f n xs)
