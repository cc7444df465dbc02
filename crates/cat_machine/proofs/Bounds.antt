-- No section and no handler is longer than a run may be.
use Rattle.std.proofs.Common.{◌≡◌, ℕ, zero, suc, ◌+◌, ◌*◌, ◌<◌, ◌≤◌, List, [], ◌∷◌, ◌++◌, length, Option, Some, None, refl, sym, ap, ◌∙◌, arith}
use Rattle.cat_program.specs.declared.syntax.Expr.{Expr}
use Rattle.cat_program.specs.Meaning.{Output}
use Rattle.cat_program.specs.Body.{Simple, Body, Empty, Plain, When, Choice, Loop, Turns}
use Rattle.cat_program.specs.Places.{expr_size, operands_size, body_size, tasks_size}
use Rattle.cat_program.specs.Checked.{most_steps}
use Rattle.cat_machine.specs.declared.instr.Instr.{Instr}
use Rattle.cat_machine.specs.declared.instr.Mode.{Mode}
use Rattle.cat_machine.specs.Costs.{code_cost, simple_cost, test_cost, first_cost, section_most, tasks_most, handler_most}
use Rattle.cat_machine.specs.CodeValue.{CodeValue}
use Rattle.cat_machine.specs.Held.{Held}
use Rattle.cat_machine.specs.Machine.{Stepping, step_of, goes_on, Ended', prepended, follow, after_step, until}
use Rattle.cat_machine.specs.Code.{expr_code, operands_code}
use Rattle.cat_machine.specs.LaidOut.{one_each}
use Rattle.cat_machine.proofs.Expressions.{expr_length}
use Rattle.cat_machine.proofs.Sizes.{operands_length}

ones : (is : List Instr) → code_cost one_each is ≡ length is
ones [] = refl
ones (i ∷ is) = omega (arith, ones is)

test_ones : (e : Expr) → test_cost one_each e ≡ expr_size e + 1
test_ones e = omega (arith, ones (expr_code e), expr_length e)

simple_ones : (s : Simple) → simple_cost one_each s ≡ operands_size s + 1
simple_ones s = omega (arith, ones (operands_code s), operands_length s)

first_le : (body : Body) (c : ℕ) → first_cost one_each body c ≤ body_size body + c
first_le Empty c = omega arith
first_le (Plain b p s rest) c = omega (arith, simple_ones s)
first_le (When b p e on rest) c = omega (arith, test_ones e)
first_le (Choice b p e on off rest) c = omega (arith, test_ones e)
first_le (Loop b p e body rest) c = omega (arith, test_ones e)
first_le (Turns b p n body rest) c = omega arith

section_le : (body : Body) (c : ℕ) → section_most one_each body c ≤ body_size body + c
section_le Empty c = omega arith
section_le (Plain b p s rest) c = omega (arith, simple_ones s, section_le rest c)
section_le (When b p e on rest) c = omega (arith, test_ones e, section_le on (first_cost one_each rest c), first_le rest c, section_le rest c)
section_le (Choice b p e on off rest) c =
    omega (arith, test_ones e, section_le on (1 + first_cost one_each rest c), section_le off (first_cost one_each rest c), first_le rest c, section_le rest c)
section_le (Loop b p e body rest) c = omega (arith, test_ones e, section_le body (1 + test_cost one_each e), section_le rest c)
section_le (Turns b p n body rest) c = omega (arith, section_le rest c)

pub tasks_le : (bodies : List Body) → tasks_most one_each bodies ≤ tasks_size bodies
tasks_le [] = omega arith
tasks_le (body ∷ bodies) = omega (arith, section_le body 1, tasks_le bodies)

pub handler_ones : (body : Body) → handler_most one_each body ≡ most_steps body
handler_ones Empty = refl
handler_ones (Plain b p s rest) = omega (arith, simple_ones s, handler_ones rest)
handler_ones (When b p e on rest) = omega (arith, test_ones e, handler_ones on, handler_ones rest)
handler_ones (Choice b p e on off rest) = omega (arith, test_ones e, handler_ones on, handler_ones off, handler_ones rest)
handler_ones (Loop b p e body rest) = handler_ones rest
handler_ones (Turns b p n body rest) = ap (λ m. 1 + (n * (1 + m + 1) + 1) + handler_most one_each rest) (handler_ones body) ∙ ap (λ m. 1 + (n * (1 + most_steps body + 1) + 1) + m) (handler_ones rest)

-- ---- a run with as many turns as it has places

module _ (mode : Mode) (code : CodeValue) where
  abbrev Next : Type 0
  Next = Held → Option Ended'

  prepended_some : (pc : ℕ) (outs : List Output) (o : Option Ended') (e : Ended') → prepended (pc ∷ []) outs o ≡ Some e → (r : Ended') × (o ≡ Some r) × (e ≡ record { path = pc ∷ r.path; outs = outs ++ r.outs; did = r.did; after = r.after })
  prepended_some pc outs None e w = cc
  prepended_some pc outs (Some r) e w = (r, refl, cc)

  long_step : (next : Next) (pc : ℕ) (o : Option Stepping) (e : Ended') → after_step mode next pc o ≡ Some e → 0 < length e.path
  long_step next pc None e w = cc
  long_step next pc (Some s) e w = by_outs (goes_on mode s.did) w
    where
      by_outs : (g : Option (List Output)) → follow next pc s g ≡ Some e → 0 < length e.path
      by_outs None w = let same : e ≡ record { path = pc ∷ []; outs = []; did = s.did; after = s.after } = cc in omega (arith, ap (λ x. length x.path) same)
      by_outs (Some outs) w = let r = prepended_some pc outs (next s.after) e w in omega (arith, ap (λ x. length x.path) r.2)

  pub path_long : (n : ℕ) (h : Held) (e : Ended') → until n mode code h ≡ Some e → 0 < length e.path
  unfolding until
  path_long zero h e w = cc
  path_long (suc n) h e w = long_step (until n mode code) _ (step_of mode code h) e w

  within_step : (f g : Next) (m pc : ℕ) (o : Option Stepping) (e : Ended') → ((k : Held) (r : Ended') → f k ≡ Some r → length r.path ≤ m → g k ≡ Some r) → after_step mode f pc o ≡ Some e → length e.path ≤ suc m → after_step mode g pc o ≡ Some e
  within_step f g m pc None e more w le = cc
  within_step f g m pc (Some s) e more w le = by_outs (goes_on mode s.did) w
    where
      by_outs : (x : Option (List Output)) → follow f pc s x ≡ Some e → follow g pc s x ≡ Some e
      by_outs None w = w
      by_outs (Some outs) w =
          let r = prepended_some pc outs (f s.after) e w in
          ap (prepended (pc ∷ []) outs) (more s.after r.0 r.1 (omega (arith, ap (λ x. length x.path) r.2))) ∙ ap Some (sym r.2)

  pub until_within : (n : ℕ) (h : Held) (e : Ended') → until n mode code h ≡ Some e → (m : ℕ) → length e.path ≤ m → until m mode code h ≡ Some e
  unfolding until
  until_within zero h e w m le = cc
  until_within (suc n) h e w zero le = absurd (omega (arith, path_long (suc n) h e w))
  until_within (suc n) h e w (suc m) le = within_step (until n mode code) (until m mode code) m _ (step_of mode code h) e (λ k r q l. until_within n k r q m l) w le

  -- more turns change nothing
  more_step : (f g : Next) (pc : ℕ) (o : Option Stepping) (e : Ended') → ((k : Held) (r : Ended') → f k ≡ Some r → g k ≡ Some r) → after_step mode f pc o ≡ Some e → after_step mode g pc o ≡ Some e
  more_step f g pc o e more w = within_step f g (length e.path) pc o e (λ k r q l. more k r q) w (omega arith)

  pub until_more : (n m : ℕ) (h : Held) (e : Ended') → n ≤ m → until n mode code h ≡ Some e → until m mode code h ≡ Some e
  unfolding until
  until_more zero m h e le w = cc
  until_more (suc n) zero h e le w = absurd (omega arith)
  until_more (suc n) (suc m) h e le w = more_step (until n mode code) (until m mode code) _ (step_of mode code h) e (λ k r q. until_more n m k r (omega arith) q) w
