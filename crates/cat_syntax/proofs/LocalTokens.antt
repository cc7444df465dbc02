-- The readers of tokens look at one token.
use Rattle.std.proofs.Common.{◌≡◌, ℕ, Bool, true, false, List, [], ◌∷◌, Option, Some, Ok, Err, refl, sym, ap, subst, ◌∙◌}
use Rattle.cat_tokens.specs.declared.token.Keyword.{Keyword}
use Rattle.cat_tokens.specs.declared.token.Symbol.{Symbol}
use Rattle.cat_tokens.specs.declared.token.What.{What}
use Rattle.cat_tokens.specs.declared.token.What.TheVariants as what
use Rattle.cat_tokens.specs.Lexemes.{Lexeme, keyword, name, number, symbol}
use Rattle.cat_syntax.specs.Depth.{IsShallow, change, keeps}
use Rattle.cat_syntax.specs.Reader.{Lexemes, Outcome, Reader, ◌>>=◌, ◌>>◌, pure, next, next_symbol, next_keyword, is_symbol, is_keyword, after, sees, sees_keyword, expect, expect_keyword, read_name, read_number}
use Rattle.cat_syntax.proofs.Readers.{read, sees_is, sees_keyword_is}
use Rattle.cat_syntax.proofs.Complete.{kept}
use Rattle.cat_syntax.proofs.Local.{SameHead, Agrees, Moves, Local, local_pure, moves_then}

-- ---- what is seen of the next token

pub heads : {X : Type 0} (g : Lexemes → X) → ((t : Lexeme) (a b : Lexemes) → g (t ∷ a) ≡ g (t ∷ b)) → (a b : Lexemes) → SameHead a b → g a ≡ g b
heads g first [] [] e = refl
heads g first [] (t ∷ b) e = absurd cc
heads g first (t ∷ a) [] e = absurd cc
heads g first (t ∷ a) (u ∷ b) e = let same : t ≡ u = cc in subst (λ v. g (t ∷ a) ≡ g (v ∷ b)) same (first t a b)

pub kind_heads : (a b : Lexemes) → SameHead a b → next a ≡ next b
kind_heads = heads next (λ t a b. refl)

pub symbol_heads : (a b : Lexemes) → SameHead a b → next_symbol a ≡ next_symbol b
symbol_heads = heads next_symbol first
  where
    first : (t : Lexeme) (a b : Lexemes) → next_symbol (t ∷ a) ≡ next_symbol (t ∷ b)
    first (keyword k) a b = refl
    first (name x) a b = refl
    first (number n) a b = refl
    first (symbol u) a b = refl

pub keyword_heads : (a b : Lexemes) → SameHead a b → next_keyword a ≡ next_keyword b
keyword_heads = heads next_keyword first
  where
    first : (t : Lexeme) (a b : Lexemes) → next_keyword (t ∷ a) ≡ next_keyword (t ∷ b)
    first (keyword k) a b = refl
    first (name x) a b = refl
    first (number n) a b = refl
    first (symbol u) a b = refl

pub sees_heads : (s : Symbol) (a b : Lexemes) → SameHead a b → sees s a ≡ sees s b
unfolding sees
sees_heads s a b e = ap (is_symbol s) (symbol_heads a b e)

pub sees_keyword_heads : (k : Keyword) (a b : Lexemes) → SameHead a b → sees_keyword k a ≡ sees_keyword k b
unfolding sees_keyword
sees_keyword_heads k a b e = ap (is_keyword k) (keyword_heads a b e)

-- ---- a token that is wanted

expect_refuses : (s : Symbol) (ts : Lexemes) → sees s ts ≡ false → expect s ts ≡ Err ts
unfolding expect
expect_refuses s ts e = rw e refl

expect_takes_it : (s : Symbol) (t : Lexeme) (ts : Lexemes) → sees s (t ∷ ts) ≡ true → expect s (t ∷ ts) ≡ read tt ts
unfolding expect after
expect_takes_it s t ts e = rw e refl

pub moves_expect : (from upto : ℕ) (s : Symbol) → ((us : Lexemes) → IsShallow (symbol s ∷ us) from → IsShallow us upto) → Moves from upto (expect s) (expect s)
moves_expect from upto s room ts h = by ts (sees s ts) refl h
  where
    by : (ts : Lexemes) (b : Bool) → sees s ts ≡ b → IsShallow ts from → Agrees (expect s) upto ts (expect s ts)
    by ts false e h = subst (λ o. Agrees (expect s) upto ts o) (sym (expect_refuses s ts e)) ([], refl, λ other same. expect_refuses s other (sym (sees_heads s ts other same) ∙ e))
    by [] true e h = absurd (let no = sees_is s [] e in cc)
    by (t ∷ us) true e h =
        let is : t ≡ symbol s = let both = sees_is s (t ∷ us) e in cc in
        subst (λ o. Agrees (expect s) upto (t ∷ us) o) (sym (expect_takes_it s t us e))
        (t ∷ [], refl, room us (subst (λ v. IsShallow (v ∷ us) from) is h), λ other same. expect_takes_it s t other (sees_heads s (t ∷ other) (t ∷ us) refl ∙ e))

pub local_expect : (room : ℕ) (s : Symbol) → change (symbol s) ≡ keeps → Local room (expect s) (expect s)
local_expect room s k = moves_expect room room s (λ us h. kept (symbol s) us room k h)

pub moves_close : {A B : Type 0} (from mid upto : ℕ) (s : Symbol) → ((us : Lexemes) → IsShallow (symbol s ∷ us) mid → IsShallow us upto) → (g : A → B) (q p : Reader A) → Moves from mid p q → Moves from upto (p >>= λ a. expect s >> pure (g a)) (q >>= λ a. expect s >> pure (g a))
moves_close from mid upto s room g q p law = moves_then from mid upto q (λ a. expect s >> pure (g a)) p (λ a. expect s >> pure (g a)) law
    (λ a. moves_then mid upto upto (expect s) (λ _. pure (g a)) (expect s) (λ _. pure (g a)) (moves_expect mid upto s room) (λ _. local_pure upto (g a)))

pub local_close : {A B : Type 0} (room : ℕ) (s : Symbol) → change (symbol s) ≡ keeps → (g : A → B) (q p : Reader A) → Local room p q → Local room (p >>= λ a. expect s >> pure (g a)) (q >>= λ a. expect s >> pure (g a))
local_close room s k g q p law = moves_close room room room s (λ us h. kept (symbol s) us room k h) g q p law

keyword_refuses : (k : Keyword) (ts : Lexemes) → sees_keyword k ts ≡ false → expect_keyword k ts ≡ Err ts
unfolding expect_keyword
keyword_refuses k ts e = rw e refl

keyword_takes_it : (k : Keyword) (t : Lexeme) (ts : Lexemes) → sees_keyword k (t ∷ ts) ≡ true → expect_keyword k (t ∷ ts) ≡ read tt ts
unfolding expect_keyword after
keyword_takes_it k t ts e = rw e refl

pub local_keyword : (room : ℕ) (k : Keyword) → Local room (expect_keyword k) (expect_keyword k)
local_keyword room k ts h = by ts (sees_keyword k ts) refl h
  where
    by : (ts : Lexemes) (b : Bool) → sees_keyword k ts ≡ b → IsShallow ts room → Agrees (expect_keyword k) room ts (expect_keyword k ts)
    by ts false e h = subst (λ o. Agrees (expect_keyword k) room ts o) (sym (keyword_refuses k ts e)) ([], refl, λ other same. keyword_refuses k other (sym (sees_keyword_heads k ts other same) ∙ e))
    by [] true e h = absurd (let no = sees_keyword_is k [] e in cc)
    by (t ∷ us) true e h =
        let is : t ≡ keyword k = let both = sees_keyword_is k (t ∷ us) e in cc in
        subst (λ o. Agrees (expect_keyword k) room (t ∷ us) o) (sym (keyword_takes_it k t us e))
        (t ∷ [], refl, subst (λ v. IsShallow (v ∷ us) room) is h, λ other same. keyword_takes_it k t other (sees_keyword_heads k (t ∷ other) (t ∷ us) refl ∙ e))

-- ---- names and numbers

abbrev is_name : Option What → Bool
is_name (Some what.Name) = true
is_name _ = false

name_refuses : (ts : Lexemes) → is_name (next ts) ≡ false → read_name ts ≡ Err ts
unfolding read_name
name_refuses (name x ∷ ts) e = absurd cc
name_refuses _ e = refl

pub local_name : (room : ℕ) → Local room read_name read_name
unfolding read_name
local_name room (name x ∷ ts) h = (name x ∷ [], refl, h, λ other same. refl)
local_name room ts h = ([], refl, λ other same. name_refuses other (ap is_name (sym (kind_heads ts other same))))

pub behind_name : {A : Type 0} (room : ℕ) (x : List ℕ) (us : Lexemes) (f : List ℕ → Reader A) (o : Outcome A) → Agrees (f x) room us o → Agrees (read_name >>= f) room (name x ∷ us) o
unfolding read_name
behind_name room x us f (Ok (a, rest)) (front, e, h, done) = (name x ∷ front, ap (λ v. name x ∷ v) e, h, λ other same. done other same)
behind_name room x us f (Err rest) (front, e, done) = (name x ∷ front, ap (λ v. name x ∷ v) e, λ other same. done other same)

abbrev is_number : Option What → Bool
is_number (Some (what.Number n)) = true
is_number _ = false

number_refuses : (ts : Lexemes) → is_number (next ts) ≡ false → read_number ts ≡ Err ts
unfolding read_number
number_refuses (number n ∷ ts) e = absurd cc
number_refuses _ e = refl

pub local_number : (room : ℕ) → Local room read_number read_number
unfolding read_number
local_number room (number n ∷ ts) h = (number n ∷ [], refl, h, λ other same. refl)
local_number room ts h = ([], refl, λ other same. number_refuses other (ap is_number (sym (kind_heads ts other same))))
