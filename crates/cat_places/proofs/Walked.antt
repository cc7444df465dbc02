-- A walk along a tree's own tokens finds where its pieces begin, by whatever derivation.
use Rattle.std.proofs.Common.{◌≡◌, ℕ, zero, suc, ◌+◌, ◌-◌, true, false, List, [], ◌∷◌, ◌++◌, length, map, Some, refl, ap, ◌∙◌, arith}
use Rattle.std.specs.Prelude.{drop}
use native.Mathlib.Numerals.{unary_clauses}
use Rattle.std.proofs.lemmas.List.{length-map}
use Rattle.cat_tokens.specs.declared.token.Symbol.{Symbol}
use Rattle.cat_tokens.specs.declared.token.Symbol.TheVariants as s
use Rattle.cat_tokens.specs.declared.token.What.{What}
use Rattle.cat_tokens.specs.declared.token.What.TheVariants as what
use Rattle.cat_tokens.specs.declared.token.Keyword.TheVariants as k
use Rattle.cat_tokens.specs.Lexemes.{Lexeme, kind, symbol, name, number, keyword}
use Rattle.cn_base.specs.declared.tree.Expr.{Expr}
use Rattle.cn_base.specs.declared.tree.Expr.TheVariants as expr
use Rattle.cn_base.specs.declared.tree.Sign.{Sign}
use Rattle.cn_base.specs.declared.tree.Comparison.{Comparison}
use Rattle.cn_base.specs.declared.tree.Further.{Further, out-roll-Further}
use Rattle.cn_base.specs.declared.tree.Operator.{Operator}
use Rattle.cat_conditions.specs.Plain as plain
use Rattle.cat_conditions.specs.Plain.{Term, term_of, further_of, furthers_of}
use Rattle.cat_conditions.specs.PlainKinds.{ExpressionKinds}
use Rattle.cat_syntax.specs.declared.level.Level.{Level}
use Rattle.cat_syntax.specs.Levels.{sign_of}
use Rattle.cat_syntax.specs.Depth.{change, keeps}
use Rattle.cat_syntax.specs.Grammar as g
use Rattle.cat_syntax.specs.Grammar.{further, chained, IsChain, AreFurther, IsOperand, IsComparison, IsUnary, IsPrimary}
use Rattle.cat_places.specs.Starts.{chain_lefts, further_lefts, operand_lefts, comparison_lefts, unary_lefts, primary_lefts}
use Rattle.cat_places.proofs.Symbols.{operator_keeps, comparison_keeps, sign_keeps}
use Rattle.cat_syntax.specs.Reader.{Lexemes}
use Rattle.cat_places.specs.Walk.{opening, unopened, closed, still_open, unclosed, after, enclosed, after_furthers, lefts, furthers_lefts}

-- so many parentheses in front
abbrev pub opens : ℕ → List What → List What
opens zero ws = ws
opens (suc n) ws = what.Symbol s.LeftParen ∷ opens n ws

abbrev pub closes : ℕ → List What → List What
closes zero ws = ws
closes (suc n) ws = what.Symbol s.RightParen ∷ closes n ws

opens_last : (n : ℕ) (ws : List What) → opens n (what.Symbol s.LeftParen ∷ ws) ≡ what.Symbol s.LeftParen ∷ opens n ws
opens_last zero ws = refl
opens_last (suc n) ws = ap (λ vs. what.Symbol s.LeftParen ∷ vs) (opens_last n ws)

closes_last : (n : ℕ) (ws : List What) → closes n (what.Symbol s.RightParen ∷ ws) ≡ what.Symbol s.RightParen ∷ closes n ws
closes_last zero ws = refl
closes_last (suc n) ws = ap (λ vs. what.Symbol s.RightParen ∷ vs) (closes_last n ws)

closed_all : (n : ℕ) (ws : List What) → closed n (closes n ws) ≡ ws
closed_all zero ws = refl
closed_all (suc n) ws = closed_all n ws

none_open : (n : ℕ) (ws : List What) → still_open n (closes n ws) ≡ 0
none_open zero ws = refl
none_open (suc n) ws = none_open n ws

-- the first of these tokens closes no parenthesis
abbrev goes_on : List What → Type 0
goes_on ws = (n : ℕ) → (closed n ws ≡ ws) × (still_open n ws ≡ n)

closed_more : (q w : ℕ) (ws : List What) → goes_on ws → closed (q + w) (closes w ws) ≡ ws
closed_more q zero ws h = (h (q + 0)).0
closed_more q (suc w) ws h = simp unary_clauses (closed_more q w ws h)

open_more : (q w : ℕ) (ws : List What) → goes_on ws → still_open (q + w) (closes w ws) ≡ q
open_more q zero ws h = (h (q + 0)).1 ∙ omega arith
open_more q (suc w) ws h = simp unary_clauses (open_more q w ws h)

length_opens : (n : ℕ) (ws : List What) → length (opens n ws) ≡ n + length ws
length_opens zero ws = omega arith
length_opens (suc n) ws = let h = length_opens n ws in omega arith

opening_opens : (n : ℕ) (ws : List What) → opening (opens n ws) ≡ n + opening ws
opening_opens zero ws = omega arith
opening_opens (suc n) ws = let h = opening_opens n ws in omega arith

unopened_opens : (n : ℕ) (ws : List What) → unopened (opens n ws) ≡ unopened ws
unopened_opens zero ws = refl
unopened_opens (suc n) ws = unopened_opens n ws

keeps_opens : (y : Symbol) (ws : List What) → change (symbol y) ≡ keeps → (opening (what.Symbol y ∷ ws) ≡ 0) × (unopened (what.Symbol y ∷ ws) ≡ what.Symbol y ∷ ws)
keeps_opens s.LeftParen ws e = absurd cc
keeps_opens _ ws e = (refl, refl)

keeps_on : (y : Symbol) (ws : List What) → change (symbol y) ≡ keeps → goes_on (what.Symbol y ∷ ws)
keeps_on s.RightParen ws e n = absurd cc
keeps_on _ ws e zero = (refl, refl)
keeps_on _ ws e (suc n) = (refl, refl)

-- Among these tokens, and with any parentheses in front of them, the expression has these parentheses around it,
-- and its pieces begin there.
pub record Found (x : Expr) (ts rest : Lexemes) (ls : List ℕ) : Type 0 where
  pub around : ℕ
  pub opened : (q : ℕ) → unclosed (term_of x) (opens q (map kind ts)) ≡ q + around
  pub ended : (q : ℕ) → after (term_of x) (opens q (map kind ts)) ≡ closes around (map kind rest)
  pub begun : (q : ℕ) → lefts (term_of x) (opens q (map kind ts)) ≡ ls

-- the parentheses around it closed, the rest is left
found_open : {x : Expr} {ts rest : Lexemes} {ls : List ℕ} → (f : Found x ts rest ls) → unclosed (term_of x) (map kind ts) ≡ f.around
found_open f = f.opened 0 ∙ omega arith

pub found_rest : {x : Expr} {ts rest : Lexemes} {ls : List ℕ} → Found x ts rest ls → enclosed (term_of x) (map kind ts) ≡ map kind rest
found_rest {rest = rest} f = rw (found_open f, f.ended 0) (closed_all f.around (map kind rest))

pub found_lefts : {x : Expr} {ts rest : Lexemes} {ls : List ℕ} → Found x ts rest ls → lefts (term_of x) (map kind ts) ≡ ls
found_lefts f = f.begun 0

-- a number, a truth value, `payload` or a name
found_one : (x : Expr) (t : Term) (k : Lexeme) (ts : Lexemes) → term_of x ≡ t
    → ((ws : List What) → unclosed t ws ≡ opening ws) → ((ws : List What) → after t ws ≡ drop 1 (unopened ws)) → ((ws : List What) → lefts t ws ≡ length (unopened ws) ∷ [])
    → opening (map kind (k ∷ ts)) ≡ 0 → unopened (map kind (k ∷ ts)) ≡ map kind (k ∷ ts)
    → Found x (k ∷ ts) ts (suc (length ts) ∷ [])
found_one x t k ts e o a l none same = record {
  around = 0;
  opened = λ q. rw (e, o, opening_opens, none) refl;
  ended = λ q. rw (e, a, unopened_opens, same) refl;
  begun = λ q. rw (e, l, unopened_opens, same, length-map) refl;
}

-- one more pair around it
found_parens : (x : Expr) (ts rest : Lexemes) (ls : List ℕ) → Found x ts (symbol s.RightParen ∷ rest) ls → Found x (symbol s.LeftParen ∷ ts) rest ls
found_parens x ts rest ls f = record {
  around = suc f.around;
  opened = λ q. rw opens_last (f.opened (suc q) ∙ omega arith);
  ended = λ q. rw opens_last (f.ended (suc q) ∙ closes_last f.around (map kind rest));
  begun = λ q. rw opens_last (f.begun (suc q));
}

-- the parentheses around a first operand are closed where its operator comes, and those in front of them are open
module _ {x : Expr} {ts mid : Lexemes} {ls : List ℕ} (y : Symbol) (plain : change (symbol y) ≡ keeps) (f : Found x ts (symbol y ∷ mid) ls) (q : ℕ) where
  first_open : still_open (unclosed (term_of x) (opens q (map kind ts))) (after (term_of x) (opens q (map kind ts))) ≡ q
  first_open = rw (f.opened q, f.ended q) (open_more q f.around (map kind (symbol y ∷ mid)) (keeps_on y (map kind mid) plain))

  first_rest : closed (unclosed (term_of x) (opens q (map kind ts))) (after (term_of x) (opens q (map kind ts))) ≡ map kind (symbol y ∷ mid)
  first_rest = rw (f.opened q, f.ended q) (closed_more q f.around (map kind (symbol y ∷ mid)) (keeps_on y (map kind mid) plain))

  first_left : length (opens q (map kind ts)) - still_open (unclosed (term_of x) (opens q (map kind ts))) (after (term_of x) (opens q (map kind ts))) ≡ length ts
  first_left = rw (first_open, length_opens, length-map) (omega arith)

-- further operands, from the first operator on
pub record Follow (xs : List Further) (ts rest : Lexemes) (ls : List ℕ) : Type 0 where
  pub ended : after_furthers (furthers_of (map further_of xs)) (map kind ts) ≡ map kind rest
  pub begun : furthers_lefts (furthers_of (map further_of xs)) (map kind ts) ≡ ls

module _ (kinds : ExpressionKinds) where
  found_element : (x : List ℕ) (i : Expr) (ts rest : Lexemes) (ls : List ℕ) → Found i ts (symbol s.RightBracket ∷ rest) ls
      → Found (expr.Element x i) (name x ∷ symbol s.LeftBracket ∷ ts) rest (suc (suc (length ts)) ∷ ls)
  found_element x i ts rest ls f = record {
    around = 0;
    opened = λ q. rw (kinds.element, opening_opens) refl;
    ended = λ q. rw (kinds.element, unopened_opens) (ap (drop 1) (found_rest f));
    begun = λ q. rw (kinds.element, unopened_opens, length-map ts kind, found_lefts f) refl;
  }

  found_signed : (y : Symbol) (sign : Sign) (x : Expr) (ts rest : Lexemes) (ls : List ℕ) → sign_of y ≡ Some sign → Found x ts rest ls
      → Found (expr.Signed sign x) (symbol y ∷ ts) rest (suc (length ts) ∷ ls)
  found_signed y sign x ts rest ls e f =
      let k = keeps_opens y (map kind ts) (sign_keeps y sign e) in
      record {
        around = 0;
        opened = λ q. rw (kinds.signed, opening_opens, k.0) refl;
        ended = λ q. rw (kinds.signed, unopened_opens, k.1) (found_rest f);
        begun = λ q. rw (kinds.signed, unopened_opens, k.1, length-map, found_lefts f) refl;
      }

  pub further_is : (o : Operator) (x : Expr) → further_of (further o x) ≡ (o, term_of x)
  further_is o x = kinds.further (further o x) ∙ ap (λ f. (f.operator, term_of f.operand)) (out-roll-Further (record { operator = o; operand = x }))

  follow_more : (y : Symbol) (o : Operator) (x : Expr) (xs : List Further) (ts mid rest : Lexemes) (ls ms : List ℕ) → Found x ts mid ls → Follow xs mid rest ms → Follow (further o x ∷ xs) (symbol y ∷ ts) rest (ls ++ ms)
  follow_more y o x xs ts mid rest ls ms f g = record {
    ended = rw (further_is o x, found_rest f) g.ended;
    begun = rw (further_is o x, found_lefts f, found_rest f, g.begun) refl;
  }

  found_chain : (y : Symbol) (x : Expr) (o : Further) (os : List Further) (ts mid rest : Lexemes) (ls ms : List ℕ) → change (symbol y) ≡ keeps → Found x ts (symbol y ∷ mid) ls → Follow (o ∷ os) (symbol y ∷ mid) rest ms
      → Found (expr.Chain x (o ∷ os)) ts rest (length ts ∷ (ls ++ ms))
  found_chain y x o os ts mid rest ls ms plain f g = record {
    around = 0;
    opened = λ q. rw (kinds.chain, first_open y plain f q) (omega arith);
    ended = λ q. rw (kinds.chain, first_rest y plain f q) g.ended;
    begun = λ q. rw (kinds.chain, first_left y plain f q, f.begun q, first_rest y plain f q, g.begun) refl;
  }

  found_compare : (y : Symbol) (x : Expr) (c : Comparison) (z : Expr) (ts mid rest : Lexemes) (ls ms : List ℕ) → change (symbol y) ≡ keeps → Found x ts (symbol y ∷ mid) ls → Found z mid rest ms
      → Found (expr.Compare x c z) ts rest (length ts ∷ (ls ++ ms))
  found_compare y x c z ts mid rest ls ms plain f g = record {
    around = 0;
    opened = λ q. rw (kinds.compare, first_open y plain f q) (omega arith);
    ended = λ q. rw (kinds.compare, first_rest y plain f q) (found_rest g);
    begun = λ q. rw (kinds.compare, first_left y plain f q, f.begun q, first_rest y plain f q, found_lefts g) refl;
  }

  mutual
    pub chain_found : {l : Level} {ts rest : Lexemes} {x : Expr} (d : IsChain l ts x rest) → Found x ts rest (chain_lefts d)
    chain_found (g.chain d g.none) = operand_found d
    chain_found (g.chain {l = l} {ts = ts} {rest = rest} {first = first} d (g.more {ts = us} {mid = middle} {s = y} {o = o} {x = x} {xs = xs} h e ds)) =
        found_chain y first (further o x) xs ts us rest (operand_lefts d) (operand_lefts e ++ further_lefts ds) (operator_keeps l y o h) (operand_found d)
        (follow_more y o x xs us middle rest (operand_lefts e) (further_lefts ds) (operand_found e) (further_found ds))

    further_found : {l : Level} {ts rest : Lexemes} {xs : List Further} (d : AreFurther l ts xs rest) → Follow xs ts rest (further_lefts d)
    further_found g.none = record { ended = refl; begun = refl }
    further_found (g.more {ts = ts} {mid = mid} {rest = rest} {s = y} {o = o} {x = x} {xs = xs} h e ds) =
        follow_more y o x xs ts mid rest (operand_lefts e) (further_lefts ds) (operand_found e) (further_found ds)

    operand_found : {l : Level} {ts rest : Lexemes} {x : Expr} (d : IsOperand l ts x rest) → Found x ts rest (operand_lefts d)
    operand_found (g.both d) = chain_found d
    operand_found (g.compare d) = comparison_found d
    operand_found (g.term d) = chain_found d
    operand_found (g.unary d) = unary_found d

    comparison_found : {ts rest : Lexemes} {x : Expr} (d : IsComparison ts x rest) → Found x ts rest (comparison_lefts d)
    comparison_found (g.sum d) = chain_found d
    comparison_found (g.compared {ts = ts} {mid = mid} {rest = rest} {s = y} {c = c} {x = x} {y = z} d h e) =
        found_compare y x c z ts mid rest (chain_lefts d) (chain_lefts e) (comparison_keeps y c h) (chain_found d) (chain_found e)

    unary_found : {ts rest : Lexemes} {x : Expr} (d : IsUnary ts x rest) → Found x ts rest (unary_lefts d)
    unary_found (g.primary d) = primary_found d
    unary_found (g.signed {ts = ts} {rest = rest} {s = y} {sign = sign} {x = x} h d) = found_signed y sign x ts rest (primary_lefts d) h (primary_found d)

    primary_found : {ts rest : Lexemes} {x : Expr} (d : IsPrimary ts x rest) → Found x ts rest (primary_lefts d)
    primary_found (g.literal {ts = ts} {n = n}) = found_one (expr.Number n) (plain.number n) (number n) ts (kinds.number n) (λ ws. refl) (λ ws. refl) (λ ws. refl) refl refl
    primary_found (g.yes {ts = ts}) = found_one (expr.Truth true) (plain.truth true) (keyword k.True) ts (kinds.truth true) (λ ws. refl) (λ ws. refl) (λ ws. refl) refl refl
    primary_found (g.no {ts = ts}) = found_one (expr.Truth false) (plain.truth false) (keyword k.False) ts (kinds.truth false) (λ ws. refl) (λ ws. refl) (λ ws. refl) refl refl
    primary_found (g.payload {ts = ts}) = found_one expr.Payload plain.payload (keyword k.Payload) ts kinds.payload (λ ws. refl) (λ ws. refl) (λ ws. refl) refl refl
    primary_found (g.variable {ts = ts} {x = x}) = found_one (expr.Name x) (plain.variable x) (name x) ts (kinds.name x) (λ ws. refl) (λ ws. refl) (λ ws. refl) refl refl
    primary_found (g.element {ts = ts} {rest = rest} {x = x} {i = i} d) = found_element x i ts rest (chain_lefts d) (chain_found d)
    primary_found (g.parens {ts = ts} {rest = rest} {x = x} d) = found_parens x ts rest (chain_lefts d) (chain_found d)
