-- How the code of a program is laid out: how long each part of it is, and where it stands.
use Rattle.std.specs.Prelude.{◌≡◌, ℕ, ◌+◌, ◌<◌, ◌≤◌, List, [], ◌∷◌, ◌++◌, length, Some, slice_get}
use Rattle.cat_program.specs.declared.syntax.Expr.{Expr}
use Rattle.cat_program.specs.Body.{Simple, Body}
use Rattle.cat_program.specs.Places.{expr_size, operands_size, body_size, task_size, tasks_size, version_size, versions_size}
use Rattle.cat_program.specs.Checked.{Checked, IsChecked, VersionWorks, bodies_of, version_at, most_steps}
use Rattle.cat_machine.specs.declared.instr.Instr.{Instr}
use Rattle.cat_machine.specs.declared.instr.Instr.TheVariants as i
use Rattle.cat_machine.specs.CodeValue.{EntryAt}
use Rattle.cat_machine.specs.Held.{Held}
use Rattle.cat_machine.specs.Machine.{next_of}
use Rattle.cat_machine.specs.Fits.{IsIdle}
use Rattle.cat_machine.specs.Code.{expr_code, operands_code, body_code, task_code, tasks_code, versions_code, code_of}
use Rattle.cat_machine.specs.Costs.{Costs, tasks_most, handler_most}

-- each part of the code has as many instructions as it has places
pub record CodeHasSizes : Type 0 where
  pub expr : (e : Expr) → length (expr_code e) ≡ expr_size e
  pub operands : (s : Simple) → length (operands_code s) ≡ operands_size s
  pub body : (body : Body) (at : ℕ) → length (body_code at body) ≡ body_size body
  pub task : (at t : ℕ) (body : Body) → length (task_code at t body) ≡ task_size body
  pub tasks : (bodies : List Body) (at t : ℕ) → length (tasks_code at t bodies) ≡ tasks_size bodies
  pub version : (body : Body) (at : ℕ) → length (body_code at body ++ i.End ∷ []) ≡ version_size body
  pub versions : (bodies : List Body) (at : ℕ) → length (versions_code at bodies) ≡ versions_size bodies

-- these items stand at a place of a list
module _ {A : Type 0} where
  abbrev pub HasAt : List A → ℕ → List A → Type 0
  HasAt l at [] = Unit {0}
  HasAt l at (x ∷ xs) = (slice_get l at ≡ Some x) × HasAt l (at + 1) xs

-- a version's code stands at its entry, and needs no more than there is
pub record VersionStands (p : Checked) (e v entry : ℕ) : Type 0 where
  pub code_at : HasAt (code_of p).instrs entry (body_code entry (version_at p e v) ++ i.End ∷ [])
  pub works : VersionWorks (length p.words) (length p.tasks) (version_at p e v)

-- code that stands at a place stands there in its parts
pub record CodeStands : Type 0 where
  pub front : (l : List Instr) (at : ℕ) (a b : List Instr) → HasAt l at (a ++ b) → HasAt l at a
  pub rest : (l : List Instr) (at n : ℕ) (a b : List Instr) → at + length a ≡ n → HasAt l at (a ++ b) → HasAt l n b
  pub all : (xs before after : List Instr) → HasAt (before ++ (xs ++ after)) (length before) xs
  pub version : (p : Checked) → IsChecked p → (e v entry : ℕ) → EntryAt (code_of p) e v entry → VersionStands p e v entry
  -- a section begins in the tasks' code, which comes first
  pub section : (p : Checked) (h : Held) (pc : ℕ) → IsIdle p h → next_of (code_of p) h ≡ Some pc → pc < tasks_size (bodies_of p)

-- each instruction costs one
abbrev pub one_each : Costs
one_each c = 1

-- a section has no more instructions than the tasks have, and a list's greatest cost is then its most steps
pub record OnesAreSteps : Type 0 where
  pub tasks : (bodies : List Body) → tasks_most one_each bodies ≤ tasks_size bodies
  pub handler : (body : Body) → handler_most one_each body ≡ most_steps body

pub record CodeIsLaidOut : Type 0 where
  pub sizes : CodeHasSizes
  pub stands : CodeStands
  pub ones : OnesAreSteps
