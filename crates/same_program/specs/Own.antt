-- Lists of a program's own statements, and what each place of its code stands for.
use Rattle.std.specs.Prelude.{◌≡◌, ℕ, List, Option, Some, None, slice_get}
use Rattle.std.specs.Option.{option_and_then}
use Rattle.cat_program.specs.declared.syntax.Expr.{Expr}
use Rattle.cat_program.specs.declared.syntax.Stmt.{Stmt}
use Rattle.cat_program.specs.declared.syntax.Stmt.TheVariants.{Set, SetAt, Out, Post, If, While}
use Rattle.cat_program.specs.Body.{Simple, SetWord, SetElement, Emit, Raise, Body, Empty, Plain, When, Choice, Loop, Turns, block_at}
use Rattle.cat_program.specs.Checked.{Checked}
use Rattle.cat_program.specs.Resting.{RestsAt}
use Rattle.same_program.specs.Alike.{ListIsLike}

-- what a statement does, where it is a simple one
abbrev pub simple_of : Stmt → Option Simple
simple_of (Set word value) = Some (SetWord word value)
simple_of (SetAt base len index value) = Some (SetElement base len index value)
simple_of (Out channel value) = Some (Emit channel value)
simple_of (Post task) = Some (Raise task)
simple_of _ = None

-- what it tests, where it does
abbrev pub test_of : Stmt → Option Expr
test_of (If test on off) = Some test
test_of (While test body) = Some test
test_of _ = None

-- so it is with the statement at a place of a block
abbrev pub simple_at : List (List Stmt) → ℕ → ℕ → Option Simple
simple_at blocks b p = option_and_then simple_of (slice_get (block_at blocks b) p)

abbrev pub test_at : List (List Stmt) → ℕ → ℕ → Option Expr
test_at blocks b p = option_and_then test_of (slice_get (block_at blocks b) p)

-- Each statement of a list has the texts that stand at its place of its block.
abbrev pub IsOwn : List (List Stmt) → Body → Type 0
IsOwn blocks Empty = Unit {0}
IsOwn blocks (Plain b p simple rest) = (simple_at blocks b p ≡ Some simple) × IsOwn blocks rest
IsOwn blocks (When b p test on rest) = (test_at blocks b p ≡ Some test) × IsOwn blocks on × IsOwn blocks rest
IsOwn blocks (Choice b p test on off rest) = (test_at blocks b p ≡ Some test) × IsOwn blocks on × IsOwn blocks off × IsOwn blocks rest
IsOwn blocks (Loop b p test body rest) = (test_at blocks b p ≡ Some test) × IsOwn blocks body × IsOwn blocks rest
IsOwn blocks (Turns b p n body rest) = IsOwn blocks body × IsOwn blocks rest

-- a list of the program's own, or none
abbrev pub IsOwnList : Checked → Option Body → Type 0
IsOwnList p None = Unit {0}
IsOwnList p (Some k) = IsOwn p.blocks k

-- a place rests in a program at a list that is like one of another program
pub record RestsLike (q : Checked) (pc : Option ℕ) (list : Option Body) : Type 0 where
  pub other : Option Body
  pub rests : RestsAt q pc other
  pub like : ListIsLike list other
