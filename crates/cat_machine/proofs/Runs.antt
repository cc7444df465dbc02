-- Runs of the machine, from one state to another.
use Rattle.std.proofs.Common.{◌≡◌, ℕ, suc, ◌+◌, ◌<◌, ◌≤◌, true, List, [], ◌∷◌, ◌++◌, length, Option, Some, None, refl, ap, ◌∙◌, subst, arith, append_assoc}
use Rattle.std.specs.Prelude.{slice_get, nat_lt, nat_le, ℤ, unwrap_or}
use Rattle.std.proofs.lemmas.Bool.Decides.{nat_tests}
use Rattle.cat_program.specs.Meaning.{Output}
use Rattle.cat_machine.specs.declared.instr.Instr.{Instr}
use Rattle.cat_machine.specs.declared.instr.Mode.{Mode}
use Rattle.cat_machine.specs.ClassOf.{class_of}
use Rattle.cat_machine.specs.Costs.{Costs, code_cost, path_cost}
use Rattle.cat_machine.specs.CodeValue.{CodeValue}
use Rattle.cat_machine.specs.Held.{Held}
use Rattle.cat_machine.specs.Machine.{moved, went, act, fetched, next_of, step_of, Ended', prepended, after_step, until}

pub lt_true : (a b : ℕ) → a < b → nat_lt a b ≡ true
lt_true a b h = grind (arith, nat_tests)

pub le_true : (a b : ℕ) → a ≤ b → nat_le a b ≡ true
le_true a b h = grind (arith, nat_tests)

pub until_suc : (n : ℕ) (mode : Mode) (code : CodeValue) (h : Held) → until (suc n) mode code h ≡ after_step mode (until n mode code) (unwrap_or (next_of code h) 0) (step_of mode code h)
unfolding until
until_suc n mode code h = refl

pub path_cost-append : (f : ℕ → ℕ) (p q : List ℕ) → path_cost f (p ++ q) ≡ path_cost f p + path_cost f q
path_cost-append f [] q = omega arith
path_cost-append f (pc ∷ p) q = omega (arith, path_cost-append f p q)

pub path_cost-length : (p : List ℕ) → path_cost (λ _. 1) p ≡ length p
path_cost-length [] = refl
path_cost-length (pc ∷ p) = omega (arith, path_cost-length p)

pub code_cost-append : (u : Costs) (a b : List Instr) → code_cost u (a ++ b) ≡ code_cost u a + code_cost u b
code_cost-append u [] b = omega arith
code_cost-append u (i ∷ a) b = omega (arith, code_cost-append u a b)

-- what a place costs is what its instruction costs
pub record Weighs (f : ℕ → ℕ) (u : Costs) (code : CodeValue) : Type 0 where
  pub by : (pc : ℕ) (i : Instr) → slice_get code.instrs pc ≡ Some i → f pc ≡ u (class_of i)

pub prepended_twice : (p q : List ℕ) (os os' : List Output) (e : Option Ended') → prepended p os (prepended q os' e) ≡ prepended (p ++ q) (os ++ os') e
prepended_twice p q os os' None = refl
prepended_twice p q os os' (Some e) = simp append_assoc

-- the machine comes from one state to another, at this cost and with these outputs, and goes on from there
pub record Leads (f : ℕ → ℕ) (mode : Mode) (code : CodeValue) (h h' : Held) (cost : ℕ) (outs : List Output) : Type 0 where
  pub path : List ℕ
  pub costs : path_cost f path ≡ cost
  pub by : (k : ℕ) → (j : ℕ) × (until j mode code h ≡ prepended path outs (until k mode code h'))

module _ (f : ℕ → ℕ) (mode : Mode) (code : CodeValue) where
  pub leads_on : (h h1 h2 : Held) (c c' : ℕ) (os os' : List Output) → Leads f mode code h h1 c os → Leads f mode code h1 h2 c' os' → Leads f mode code h h2 (c + c') (os ++ os')
  leads_on h h1 h2 c c' os os' l m = record {
    path = l.path ++ m.path;
    costs = omega (arith, path_cost-append f l.path m.path, l.costs, m.costs);
    by = λ k. let b = m.by k in let a = l.by b.0 in (a.0, a.1 ∙ ap (prepended l.path os) b.1 ∙ prepended_twice l.path m.path os os' (until k mode code h2));
  }

  -- the end and the cost under other names
  pub leads_as : (h h1 h2 : Held) (c c' : ℕ) (os : List Output) → h1 ≡ h2 → c ≡ c' → Leads f mode code h h1 c os → Leads f mode code h h2 c' os
  leads_as h h1 h2 c c' os e d l = subst (λ x. Leads f mode code h h2 x os) d (subst (λ x. Leads f mode code h x c os) e l)

  pub leads_here : (h : Held) → Leads f mode code h h 0 []
  leads_here h = record { path = []; costs = refl; by = λ k. (k, same (until k mode code h)) }
    where
      same : (e : Option Ended') → e ≡ prepended [] [] e
      same None = refl
      same (Some e) = refl

  -- one instruction after which the run goes on
  pub one_leads : (h : Held) (pc : ℕ) (stack : List ℤ) (i : Instr) (h' : Held) → slice_get code.instrs pc ≡ Some i → act mode i pc (moved h pc stack) ≡ went h' → Leads f mode code (moved h pc stack) h' (f pc) []
  one_leads h pc stack i h' at does = record {
    path = pc ∷ [];
    costs = omega arith;
    by = λ k. (suc k, until_suc k mode code (moved h pc stack) ∙ ap (after_step mode (until k mode code) pc) (stepped at does));
  }
    where
      stepped : slice_get code.instrs pc ≡ Some i → act mode i pc (moved h pc stack) ≡ went h' → step_of mode code (moved h pc stack) ≡ went h'
      stepped at does = ap (fetched mode pc (moved h pc stack)) at ∙ does
