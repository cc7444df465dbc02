-- What code costs, where each class has its cost.
use Rattle.std.specs.Prelude.{◌≡◌, ℕ, ◌+◌, ◌*◌, ◌<◌, max, List, [], ◌∷◌, length, Option, Some, None, slice_get}
use Rattle.cat_program.specs.declared.syntax.Expr.{Expr}
use Rattle.cat_program.specs.Body.{Simple, Body, Empty, Plain, When, Choice, Loop, Turns}
use Rattle.cat_machine.specs.declared.instr.Instr.{Instr}
use Rattle.nv_memory.specs.declared.device.Class.{Class}
use Rattle.nv_memory.specs.declared.device.Class.TheVariants.{Basic}
use Rattle.cat_machine.specs.ClassOf.{class_of}
use Rattle.cat_machine.specs.CodeValue.{CodeValue}
use Rattle.cat_machine.specs.Code.{expr_code, operands_code, simple_instr}

abbrev pub Costs : Type 0
Costs = Class → ℕ

abbrev pub code_cost : Costs → List Instr → ℕ
code_cost u [] = 0
code_cost u (i ∷ is) = u (class_of i) + code_cost u is

abbrev pub instr_cost : Costs → Option Instr → ℕ
instr_cost u None = 0
instr_cost u (Some i) = u (class_of i)

-- the cost of the instruction at a place
abbrev pub place_cost : Costs → CodeValue → ℕ → ℕ
place_cost u code pc = instr_cost u (slice_get code.instrs pc)

abbrev pub simple_cost : Costs → Simple → ℕ
simple_cost u s = code_cost u (operands_code s) + u (class_of (simple_instr s))

-- a test, and the jump that it decides
abbrev pub test_cost : Costs → Expr → ℕ
test_cost u e = code_cost u (expr_code e) + u Basic

-- ---- sections

-- from the first place of a list up to the first instruction that acts, where c is the cost from the place after the list
abbrev pub first_cost : Costs → Body → ℕ → ℕ
first_cost u Empty c = c
first_cost u (Plain b p s rest) c = simple_cost u s
first_cost u (When b p e on rest) c = test_cost u e
first_cost u (Choice b p e on off rest) c = test_cost u e
first_cost u (Loop b p e body rest) c = test_cost u e
first_cost u (Turns b p n body rest) c = c

-- the greatest cost from any place of a list
abbrev pub section_most : Costs → Body → ℕ → ℕ
section_most u Empty c = 0
section_most u (Plain b p s rest) c = max (simple_cost u s) (section_most u rest c)
section_most u (When b p e on rest) c =
    max (test_cost u e) (max (section_most u on (first_cost u rest c)) (section_most u rest c))
section_most u (Choice b p e on off rest) c =
    max (test_cost u e)
    (max (section_most u on (u Basic + first_cost u rest c))
    (max (u Basic + first_cost u rest c) (max (section_most u off (first_cost u rest c)) (section_most u rest c))))
section_most u (Loop b p e body rest) c =
    max (test_cost u e)
    (max (section_most u body (u Basic + test_cost u e)) (max (u Basic + test_cost u e) (section_most u rest c)))
section_most u (Turns b p n body rest) c = section_most u rest c

-- a task: its begin, its places and its end
abbrev pub task_most : Costs → Body → ℕ
task_most u body = max (u Basic) (section_most u body (u Basic))

abbrev pub tasks_most : Costs → List Body → ℕ
tasks_most u [] = 0
tasks_most u (body ∷ bodies) = max (task_most u body) (tasks_most u bodies)

-- ---- handlers

-- the greatest cost of a list: a choice counts the dearer way, a repeat all its turns
abbrev pub handler_most : Costs → Body → ℕ
handler_most u Empty = 0
handler_most u (Plain b p s rest) = simple_cost u s + handler_most u rest
handler_most u (When b p e on rest) = test_cost u e + handler_most u on + handler_most u rest
handler_most u (Choice b p e on off rest) =
    test_cost u e + max (handler_most u on + u Basic) (handler_most u off) + handler_most u rest
handler_most u (Loop b p e body rest) = handler_most u rest
handler_most u (Turns b p n body rest) =
    u Basic + (n * (u Basic + handler_most u body + u Basic) + u Basic) + handler_most u rest

-- the cost of a path of places
abbrev pub path_cost : (ℕ → ℕ) → List ℕ → ℕ
path_cost f [] = 0
path_cost f (pc ∷ path) = f pc + path_cost f path

-- the places of a path are those of instructions
abbrev pub InCode : CodeValue → List ℕ → Type 0
InCode code [] = Unit {0}
InCode code (pc ∷ path) = ((instr : Instr) × (slice_get code.instrs pc ≡ Some instr)) × InCode code path

-- a path in the code, with one place at least
abbrev pub IsPathIn : CodeValue → List ℕ → Type 0
IsPathIn code path = InCode code path × (0 < length path)
