-- The readers of lists look no further than the token at which they stop.
use Rattle.std.proofs.Common.{◌≡◌, ℕ, zero, suc, ◌+◌, ◌<◌, Bool, true, false, List, [], ◌∷◌, ◌++◌, length, Option, Some, None, Ok, Err, refl, sym, ap, subst, ◌∙◌, append_assoc, arith, length-append}
use Rattle.cat_syntax.specs.Depth.{IsShallow}
use Rattle.cat_syntax.specs.Reader.{Lexemes, Outcome, Reader, and_then, ◌>>=◌, pure, many_by, many_from, many, one_if, one_where}
use Rattle.cat_syntax.proofs.Readers.{read}
use Rattle.cat_syntax.proofs.Local.{SameHead, head_append, Agrees, Local, local_pure, joins, local_by}

-- ---- lists: with turns enough, how many there are does not matter

module _ {A : Type 0} (room : ℕ) (step step' : Reader (Option A)) (law : Local room step step')
    (shorter : (ts mid : Lexemes) (x : A) → step ts ≡ read (Some x) mid → length mid < length ts) where
  abbrev LoopAgrees : List A → Lexemes → Outcome (List A) → Type 0
  LoopAgrees found ts (Ok p) = (front : Lexemes) × (ts ≡ front ++ p.1) × IsShallow p.1 room × ((other : Lexemes) (turns : ℕ) → SameHead p.1 other → length (front ++ other) < turns → many_from step' turns found (front ++ other) ≡ read p.0 other)
  LoopAgrees found ts (Err rest) = (front : Lexemes) × (ts ≡ front ++ rest) × ((other : Lexemes) (turns : ℕ) → SameHead rest other → length (front ++ other) < turns → many_from step' turns found (front ++ other) ≡ Err other)

  one_turn : (found : List A) (x : A) (us vs : Lexemes) (o : Outcome (List A)) → step' us ≡ read (Some x) vs → length vs < length us
      → ((turns : ℕ) → length vs < turns → many_from step' turns (found ++ x ∷ []) vs ≡ o) → (turns : ℕ) → length us < turns → many_from step' turns found us ≡ o
  one_turn found x us vs o e less rest zero lt = absurd (omega arith)
  one_turn found x us vs o e less rest (suc turns) lt = rw e (rest turns (omega arith))

  again : (found : List A) (ts mid first : Lexemes) (x : A) → ts ≡ first ++ mid → length mid < length ts
      → ((other : Lexemes) → SameHead mid other → step' (first ++ other) ≡ read (Some x) other)
      → (o : Outcome (List A)) → LoopAgrees (found ++ x ∷ []) mid o → LoopAgrees found ts o
  again found ts mid first x e less law1 (Ok (all, rest)) (second, e2, h, law2) = (
    first ++ second,
    e ∙ ap (λ y. first ++ y) e2 ∙ sym (append_assoc first second rest),
    h,
    λ other turns same lt.
        let like : SameHead mid (second ++ other) = subst (λ m. SameHead m (second ++ other)) (sym e2) (head_append second rest other same) in
        let a = ap length e in
        let b = length-append first mid in
        let c = length-append first (second ++ other) in
        rw (append_assoc first second other)
        (one_turn found x (first ++ (second ++ other)) (second ++ other) (read all other) (law1 (second ++ other) like) (omega arith)
        (λ t l. law2 other t same l) turns (rw (append_assoc first second other) at lt)),
  )
  again found ts mid first x e less law1 (Err rest) (second, e2, law2) = (
    first ++ second,
    e ∙ ap (λ y. first ++ y) e2 ∙ sym (append_assoc first second rest),
    λ other turns same lt.
        let like : SameHead mid (second ++ other) = subst (λ m. SameHead m (second ++ other)) (sym e2) (head_append second rest other same) in
        let a = ap length e in
        let b = length-append first mid in
        let c = length-append first (second ++ other) in
        rw (append_assoc first second other)
        (one_turn found x (first ++ (second ++ other)) (second ++ other) (Err other) (law1 (second ++ other) like) (omega arith)
        (λ t l. law2 other t same l) turns (rw (append_assoc first second other) at lt)),
  )

  ended : (found : List A) (ts mid first : Lexemes) → ts ≡ first ++ mid → IsShallow mid room → ((other : Lexemes) → SameHead mid other → step' (first ++ other) ≡ read None other) → LoopAgrees found ts (read found mid)
  ended found ts mid first e h law1 = (first, e, h, λ other turns same lt. end_turn first other turns (law1 other same) lt)
    where
      end_turn : (first other : Lexemes) (turns : ℕ) → step' (first ++ other) ≡ read None other → length (first ++ other) < turns → many_from step' turns found (first ++ other) ≡ read found other
      end_turn first other zero e lt = absurd (omega arith)
      end_turn first other (suc turns) e lt = rw e refl

  failed : (found : List A) (ts rest first : Lexemes) → ts ≡ first ++ rest → ((other : Lexemes) → SameHead rest other → step' (first ++ other) ≡ Err other) → LoopAgrees found ts (Err rest)
  failed found ts rest first e law1 = (first, e, λ other turns same lt. fail_turn first other turns (law1 other same) lt)
    where
      fail_turn : (first other : Lexemes) (turns : ℕ) → step' (first ++ other) ≡ Err other → length (first ++ other) < turns → many_from step' turns found (first ++ other) ≡ Err other
      fail_turn first other zero e lt = absurd (omega arith)
      fail_turn first other (suc turns) e lt = rw e refl

  by_step : (turns : ℕ) → ((found : List A) (ts : Lexemes) → length ts < turns → IsShallow ts room → LoopAgrees found ts (many_from step turns found ts))
      → (found : List A) (ts : Lexemes) → length ts < suc turns → (o : Outcome (Option A)) → step ts ≡ o → Agrees step' room ts o → LoopAgrees found ts (and_then o (many_by (many_from step turns) found))
  by_step turns rec found ts lt (Err rest) e (first, e1, law1) = failed found ts rest first e1 law1
  by_step turns rec found ts lt (Ok (None, mid)) e (first, e1, h, law1) = ended found ts mid first e1 h law1
  by_step turns rec found ts lt (Ok (Some x, mid)) e (first, e1, h, law1) =
      let less = shorter ts mid x e in
      again found ts mid first x e1 less law1 (many_from step turns (found ++ x ∷ []) mid) (rec (found ++ x ∷ []) mid (omega arith) h)

  loop_agrees : (turns : ℕ) (found : List A) (ts : Lexemes) → length ts < turns → IsShallow ts room → LoopAgrees found ts (many_from step turns found ts)
  loop_agrees zero found ts lt h = absurd (omega arith)
  loop_agrees (suc turns) found ts lt h = by_step turns (loop_agrees turns) found ts lt (step ts) refl (law ts h)

  many_by_agrees : (found : List A) (ts : Lexemes) (o : Outcome (List A)) → LoopAgrees found ts o → Agrees (many step' found) room ts o
  unfolding many
  many_by_agrees found ts (Ok p) (front, e, h, all) = (front, e, h, λ other same. all other (length (front ++ other) + 1) same (omega arith))
  many_by_agrees found ts (Err rest) (front, e, all) = (front, e, λ other same. all other (length (front ++ other) + 1) same (omega arith))

  pub local_many : (found : List A) → Local room (many step found) (many step' found)
  unfolding many
  local_many found ts h = many_by_agrees found ts (many_from step (length ts + 1) found ts) (loop_agrees (length ts + 1) found ts (omega arith) h)

-- ---- one more where a test of the next token holds

pub local_where : {A : Type 0} (room : ℕ) (test : Lexemes → Bool) (heads : (a b : Lexemes) → SameHead a b → test a ≡ test b) (q p : Reader A) → ((ts : Lexemes) → test ts ≡ true → IsShallow ts room → Agrees q room ts (p ts)) → Local room (one_where test p) (one_where test q)
local_where room test heads q p law = local_by room test heads (λ b. one_if b q) (λ b. one_if b p) choice
  where
    some : (ts : Lexemes) (o : Outcome _) → Agrees q room ts o → Agrees (q >>= λ x. pure (Some x)) room ts (and_then o (λ x. pure (Some x)))
    some ts o c = joins room room q (λ x. pure (Some x)) (λ x. pure (Some x)) (λ x. local_pure room (Some x)) ts o c

    choice : (b : Bool) (ts : Lexemes) → test ts ≡ b → IsShallow ts room → Agrees (one_if b q) room ts (one_if b p ts)
    choice true ts e h = some ts (p ts) (law ts e h)
    choice false ts e h = local_pure room None ts h
