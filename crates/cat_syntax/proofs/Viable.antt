-- A reader that refuses a token has read a front that goes on to something that its rule derives; and what is read is
-- derived before any other tokens too.
use Rattle.std.proofs.Common.{◌≡◌, ℕ, zero, suc, ◌+◌, Bool, true, false, cond, List, [], ◌∷◌, ◌++◌, length, Option, Some, None, Ok, Err, refl, sym, ap, subst, ◌∙◌, append_assoc}
use Rattle.std.proofs.lemmas.List.{append-nil}
use Rattle.cat_tokens.specs.declared.token.Keyword.{Keyword}
use Rattle.cat_tokens.specs.declared.token.Symbol.{Symbol}
use Rattle.cat_tokens.specs.Lexemes.{Lexeme, keyword, name, number, symbol}
use Rattle.cat_syntax.specs.Reader.{Lexemes, Outcome, Reader, and_then, ◌>>=◌, ◌>>◌, pure, after, sees, sees_keyword, expect, expect_keyword, read_name, read_number, many_by, many_from, many, one_if, one_where}
use Rattle.cat_syntax.proofs.Readers.{read, sees_is, sees_keyword_is}

-- what a rule derives: the tokens from which, for what, and before which
abbrev pub Rule : Type 0 → Type 1
Rule A = Lexemes → A → Lexemes → Type 0

abbrev pub Completes : {A : Type 0} → Rule A → Lexemes → Outcome A → Type 0
Completes R ts (Ok p) = (front : Lexemes) × (ts ≡ front ++ p.1) × ((other : Lexemes) → R (front ++ other) p.0 other)
Completes {A} R ts (Err rest) = (front : Lexemes) × (ts ≡ front ++ rest) × (a : A) × ((end : Lexemes) → (more : Lexemes) × R (front ++ more) a end)

abbrev pub Viable : {A : Type 0} → Rule A → Reader A → Type 0
Viable R p = (ts : Lexemes) → Completes R ts (p ts)

-- ---- what a rule derives, before any tokens

abbrev Word : {A : Type 0} → Rule A → Type 0
Word {A} R = (a : A) × ((end : Lexemes) → (ts : Lexemes) × R ts a end)

word_by : {A : Type 0} (R : Rule A) (o : Outcome A) → Completes R [] o → Word R
word_by R (Ok (a, rest)) (front, e, law) = (a, λ end. (front ++ end, law end))
word_by R (Err rest) (front, e, a, law) = (a, λ end. let w = law end in (front ++ w.0, w.1))

word : {A : Type 0} (R : Rule A) (p : Reader A) → Viable R p → Word R
word R p law = word_by R (p []) (law [])

-- ---- one reader after another

-- what is to follow a first part: with it, it is the whole
abbrev pub Next : {A B : Type 0} → Rule A → Rule B → A → Rule B
Next R Q a mid b end = (ts : Lexemes) → R ts a mid → Q ts b end

module _ {A B : Type 0} (R : Rule A) (Q : Rule B) where
  joined : (a : A) (ts mid first : Lexemes) → ts ≡ first ++ mid → ((other : Lexemes) → R (first ++ other) a other) → (o : Outcome B) → Completes (Next R Q a) mid o → Completes Q ts o
  joined a ts mid first e law (Ok (b, rest)) (front, e2, law2) = (
    first ++ front,
    e ∙ ap (λ x. first ++ x) e2 ∙ sym (append_assoc first front rest),
    λ other. subst (λ us. Q us b other) (sym (append_assoc first front other)) (law2 other (first ++ (front ++ other)) (law (front ++ other))),
  )
  joined a ts mid first e law (Err rest) (front, e2, b, law2) = (
    first ++ front,
    e ∙ ap (λ x. first ++ x) e2 ∙ sym (append_assoc first front rest),
    b,
    λ end. let w = law2 end in (w.0, subst (λ us. Q us b end) (sym (append_assoc first front w.0)) (w.1 (first ++ (front ++ w.0)) (law (front ++ w.0)))),
  )

  cut : (a : A) (ts rest front : Lexemes) → ts ≡ front ++ rest → ((end : Lexemes) → (more : Lexemes) × R (front ++ more) a end) → Word (Next R Q a) → Completes Q ts (Err rest)
  cut a ts rest front e law (b, words) = (front, e, b, λ end. let v = words end in let u = law v.0 in (u.0, v.1 (front ++ u.0) u.1))

  then_by : (f : A → Reader B) → ((a : A) → Viable (Next R Q a) (f a)) → (ts : Lexemes) (o : Outcome A) → Completes R ts o → Completes Q ts (and_then o f)
  then_by f laws ts (Ok (a, mid)) (front, e, law) = joined a ts mid front e law (f a mid) (laws a mid)
  then_by f laws ts (Err rest) (front, e, a, law) = cut a ts rest front e law (word (Next R Q a) (f a) (laws a))

  pub viable_then : (p : Reader A) (f : A → Reader B) → Viable R p → ((a : A) → Viable (Next R Q a) (f a)) → Viable Q (p >>= f)
  viable_then p f law laws ts = then_by f laws ts (p ts) (law ts)

pub regrouped : {A B C : Type 0} (Q : Rule C) (p : Reader A) (q : A → Reader B) (f : B → Reader C) → Viable Q (p >>= (λ a. q a >>= f)) → Viable Q (p >>= q >>= f)
regrouped Q p q f law ts = by (p ts) (law ts)
  where
    by : (o : Outcome _) → Completes Q ts (and_then o (λ a. q a >>= f)) → Completes Q ts (and_then (and_then o q) f)
    by (Ok (a, mid)) c = c
    by (Err rest) c = c

pub wider : {A : Type 0} (R Q : Rule A) → ((a : A) (ts end : Lexemes) → R ts a end → Q ts a end) → (ts : Lexemes) (o : Outcome A) → Completes R ts o → Completes Q ts o
wider R Q fits ts (Ok (a, rest)) (front, e, law) = (front, e, λ other. fits a (front ++ other) other (law other))
wider R Q fits ts (Err rest) (front, e, a, law) = (front, e, a, λ end. let w = law end in (w.0, fits a (front ++ w.0) end w.1))

pub viable_pure : {A : Type 0} (Q : Rule A) (a : A) → ((ts : Lexemes) → Q ts a ts) → Viable Q (pure a)
viable_pure Q a law ts = ([], refl, law)

pub viable_map : {A B : Type 0} (Q : Rule B) (g : A → B) (p : Reader A) → Viable (λ ts a end. Q ts (g a) end) p → Viable Q (p >>= λ a. pure (g a))
viable_map Q g p law ts = by (p ts) (law ts)
  where
    by : (o : Outcome _) → Completes (λ ts a end. Q ts (g a) end) ts o → Completes Q ts (and_then o (λ a. pure (g a)))
    by (Ok (a, rest)) (front, e, law) = (front, e, law)
    by (Err rest) (front, e, a, law) = (front, e, g a, law)

-- nothing of it was read, and this is what it could be
pub refuses : {A : Type 0} (Q : Rule A) (ts : Lexemes) (a : A) → ((end : Lexemes) → (more : Lexemes) × Q more a end) → Completes Q ts (Err ts)
refuses Q ts a law = ([], refl, a, law)

-- ---- tokens

abbrev pub Behind : {A : Type 0} → Lexeme → Rule A → Rule A
Behind t Q ts a end = Q (t ∷ ts) a end

pub behind : {A : Type 0} (Q : Rule A) (t : Lexeme) (ts us : Lexemes) (o : Outcome A) → ts ≡ t ∷ us → Completes (Behind t Q) us o → Completes Q ts o
behind Q t ts us (Ok (a, rest)) same (front, e, law) = (t ∷ front, same ∙ ap (λ x. t ∷ x) e, law)
behind Q t ts us (Err rest) same (front, e, a, law) = (t ∷ front, same ∙ ap (λ x. t ∷ x) e, a, law)

-- the name `a`
pub some_name : List ℕ
some_name = 97 ∷ []

abbrev taken : Bool → Lexemes → Outcome (Unit {0})
taken b ts = cond b (read tt (after ts)) (Err ts)

module _ {B : Type 0} (Q : Rule B) where
  missing : (t : Lexeme) (q : Reader B) → Viable (Behind t Q) q → (ts : Lexemes) → Completes Q ts (Err ts)
  missing t q law ts = let w = word (Behind t Q) q law in ([], refl, w.0, λ end. let v = w.1 end in (t ∷ v.0, v.1))

  pub viable_expect : (s : Symbol) (q : Reader B) → Viable (Behind (symbol s) Q) q → Viable Q (expect s >> q)
  unfolding expect
  viable_expect s q law ts = by (sees s ts) refl
    where
      by : (b : Bool) → sees s ts ≡ b → Completes Q ts (and_then (taken b ts) (λ _. q))
      by true e = behind Q (symbol s) ts (after ts) (q (after ts)) (sees_is s ts e) (law (after ts))
      by false e = missing (symbol s) q law ts

  pub viable_keyword : (k : Keyword) (q : Reader B) → Viable (Behind (keyword k) Q) q → Viable Q (expect_keyword k >> q)
  unfolding expect_keyword
  viable_keyword k q law ts = by (sees_keyword k ts) refl
    where
      by : (b : Bool) → sees_keyword k ts ≡ b → Completes Q ts (and_then (taken b ts) (λ _. q))
      by true e = behind Q (keyword k) ts (after ts) (q (after ts)) (sees_keyword_is k ts e) (law (after ts))
      by false e = missing (keyword k) q law ts

  pub viable_name : (f : List ℕ → Reader B) → ((x : List ℕ) → Viable (Behind (name x) Q) (f x)) → Viable Q (read_name >>= f)
  unfolding read_name
  viable_name f law (name x ∷ ts) = behind Q (name x) (name x ∷ ts) ts (f x ts) refl (law x ts)
  viable_name f law [] = missing (name some_name) (f some_name) (law some_name) []
  viable_name f law (keyword k ∷ ts) = missing (name some_name) (f some_name) (law some_name) (keyword k ∷ ts)
  viable_name f law (number n ∷ ts) = missing (name some_name) (f some_name) (law some_name) (number n ∷ ts)
  viable_name f law (symbol s ∷ ts) = missing (name some_name) (f some_name) (law some_name) (symbol s ∷ ts)

  pub viable_number : (f : ℕ → Reader B) → ((n : ℕ) → Viable (Behind (number n) Q) (f n)) → Viable Q (read_number >>= f)
  unfolding read_number
  viable_number f law (number n ∷ ts) = behind Q (number n) (number n ∷ ts) ts (f n ts) refl (law n ts)
  viable_number f law [] = missing (number 0) (f 0) (law 0) []
  viable_number f law (keyword k ∷ ts) = missing (number 0) (f 0) (law 0) (keyword k ∷ ts)
  viable_number f law (name x ∷ ts) = missing (number 0) (f 0) (law 0) (name x ∷ ts)
  viable_number f law (symbol s ∷ ts) = missing (number 0) (f 0) (law 0) (symbol s ∷ ts)

-- a closing token
pub viable_close : {A B : Type 0} (R : Rule A) (Q : Rule B) (s : Symbol) (g : A → B) (p : Reader A) → ((a : A) (ts end : Lexemes) → R ts a (symbol s ∷ end) → Q ts (g a) end) → Viable R p → Viable Q (p >>= λ a. expect s >> pure (g a))
viable_close R Q s g p fits law = viable_then R Q p (λ a. expect s >> pure (g a)) law
    (λ a. viable_expect (Next R Q a) s (pure (g a)) (viable_pure (Behind (symbol s) (Next R Q a)) (g a) (λ end ts d. fits a ts end d)))

-- ---- lists

module _ {A : Type 0} (All : Rule (List A)) (nothing : (ts : Lexemes) → All ts [] ts) where
  -- one more before what follows
  abbrev pub Step : Rule A
  Step ts x mid = (xs : List A) (end : Lexemes) → All mid xs end → All ts (x ∷ xs) end

  abbrev pub OneMore : Rule (Option A)
  OneMore ts None mid = ts ≡ mid
  OneMore ts (Some x) mid = Step ts x mid

  abbrev pub From : List A → Rule (List A)
  From found ts all end = (xs : List A) × (all ≡ found ++ xs) × All ts xs end

  more_viable : (again : List A → Reader (List A)) (found : List A) → ((found : List A) → Viable (From found) (again found)) → (o : Option A) → Viable (Next OneMore (From found) o) (many_by again found o)
  more_viable again found law None ts = ([], refl, λ end us same. ([], sym (append-nil found), subst (λ vs. All us [] vs) same (nothing us)))
  more_viable again found law (Some x) ts = wider (From (found ++ x ∷ [])) (Next OneMore (From found) (Some x))
      (λ all mid end rest us more. (x ∷ rest.0, rest.1 ∙ append_assoc found (x ∷ []) rest.0, more rest.0 end rest.2))
      ts (again (found ++ x ∷ []) ts) (law (found ++ x ∷ []) ts)

  many_viable : (step : Reader (Option A)) → Viable OneMore step → (turns : ℕ) (found : List A) → Viable (From found) (many_from step turns found)
  many_viable step law zero found ts = refuses (From found) ts found (λ end. (end, ([], sym (append-nil found), nothing end)))
  many_viable step law (suc turns) found ts = viable_then OneMore (From found) step (many_by (many_from step turns) found) law (more_viable (many_from step turns) found (many_viable step law turns)) ts

  pub viable_many : (step : Reader (Option A)) → Viable OneMore step → (found : List A) → Viable (From found) (many step found)
  unfolding many
  viable_many step law found ts = many_viable step law (length ts + 1) found ts

  pub viable_all : (step : Reader (Option A)) → Viable OneMore step → Viable All (many step [])
  viable_all step law ts = wider (From []) All (λ all us end d. subst (λ xs. All us xs end) (sym d.1) d.2) ts (many step [] ts) (viable_many step law [] ts)

  pub viable_where : (test : Lexemes → Bool) (p : Reader A) → ((ts : Lexemes) → test ts ≡ true → Completes Step ts (p ts)) → Viable OneMore (one_where test p)
  viable_where test p law ts = by (test ts) refl
    where
      some : (o : Outcome A) → Completes Step ts o → Completes OneMore ts (and_then o (λ x. pure (Some x)))
      some (Ok (a, rest)) (front, e, law) = (front, e, law)
      some (Err rest) (front, e, a, law) = (front, e, Some a, law)

      by : (b : Bool) → test ts ≡ b → Completes OneMore ts (one_if b p ts)
      by true e = some (p ts) (law ts e)
      by false e = ([], refl, λ other. refl)
