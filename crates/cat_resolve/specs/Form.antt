-- Expressions and statements of a program as plain data, without the places where they lie in memory.
use Rattle.std.specs.Prelude.{ℕ, ℤ, List, [], ◌∷◌, map, Option}
use Rattle.cat_program.specs.declared.syntax.Sign.{Sign}
use Rattle.cat_program.specs.declared.syntax.Operator.{Operator}
use Rattle.cat_program.specs.declared.syntax.Further.{Further}
use Rattle.cat_program.specs.declared.syntax.Expr.{Expr, Number, Payload, Word, Element', Signed', Chain', Row_of-Further, end_of-Further, more_of-Further}
use Rattle.cat_program.specs.declared.syntax.Stmt.{Stmt}
use Rattle.cat_program.specs.declared.syntax.Stmt.TheVariants.{Set, SetAt, Out, Post, If, While, Repeat}

mutual
  -- an expression
  pub data Formula : Type 0 where
    number : ℤ → Formula
    payload : Formula
    word : ℕ → Formula
    element : (base len : ℕ) → Formula → Formula
    signed : Sign → Formula → Formula
    chain : Formula → Operands → Formula

  -- the further operands of a chain, each behind its operator
  pub data Operands : Type 0 where
    no_operand : Operands
    operand : Operator → Formula → Operands → Operands

abbrev mutual
  pub form : Expr → Formula
  form (Number n) = number n
  form Payload = payload
  form (Word w) = word w
  form (Element' base len p index) = element base len (form index)
  form (Signed' sign p e) = signed sign (form e)
  form (Chain' p first s rest) = chain (form first) (operands rest)

  pub operands : {m : _} → Row_of-Further m → Operands
  operands end_of-Further = no_operand
  operands (more_of-Further o e rest) = operand o (form e) (operands rest)

abbrev pub operands_of : List Further → Operands
operands_of [] = no_operand
operands_of (f ∷ fs) = operand f.operator (form f.operand) (operands_of fs)

-- one after the other
abbrev pub join : Operands → Operands → Operands
join no_operand others = others
join (operand o e rest) others = operand o e (join rest others)

-- one operand more at the end
abbrev pub with_operand : Operands → Operator → Formula → Operands
with_operand rest o e = join rest (operand o e no_operand)

-- a statement
pub data Command : Type 0 where
  set : ℕ → Formula → Command
  set_at : (base len : ℕ) → Formula → Formula → Command
  out : ℕ → Formula → Command
  post : ℕ → Command
  branch : Formula → ℕ → Option ℕ → Command
  loop : Formula → ℕ → Command
  turns : ℕ → ℕ → Command

abbrev pub command : Stmt → Command
command (Set w value) = set w (form value)
command (SetAt base len index value) = set_at base len (form index) (form value)
command (Out channel value) = out channel (form value)
command (Post task) = post task
command (If test on off) = branch (form test) on off
command (While test body) = loop (form test) body
command (Repeat count body) = turns count body

abbrev pub commands : List (List Stmt) → List (List Command)
commands blocks = map (map command) blocks
