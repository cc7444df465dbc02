-- The kinds of tokens, with their texts or without.
use Rattle.std.proofs.Common.{◌≡◌, ℕ, List, [], ◌∷◌, map, refl}
use Rattle.cat_tokens.specs.declared.token.What.{What}
use Rattle.cat_tokens.specs.declared.token.What.TheVariants as what
use Rattle.cat_tokens.specs.declared.token.Token.{Token}
use Rattle.cat_tokens.specs.Lexemes.{kind, lexeme_by, lexemes}

kind-lexeme : (w : What) (text : List ℕ) → kind (lexeme_by w text) ≡ w
kind-lexeme (what.Keyword k) text = refl
kind-lexeme what.Name text = refl
kind-lexeme (what.Number n) text = refl
kind-lexeme (what.Symbol s) text = refl

pub kinds : (text : List ℕ) (tokens : List Token) → map (λ t. t.what) tokens ≡ map kind (lexemes text tokens)
kinds text [] = refl
kinds text (t ∷ ts) = rw (kind-lexeme, kinds text ts) refl
