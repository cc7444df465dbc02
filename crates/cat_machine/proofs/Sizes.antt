-- The sizes of code and of its places.
use Rattle.std.proofs.Common.{◌≡◌, ℕ, zero, suc, ◌+◌, List, ◌∷◌, ◌++◌, length, Option, Some, None, refl, arith, length-append}
use Rattle.std.specs.Prelude.{replicate}
use Rattle.cat_program.specs.Body.{Simple, SetWord, SetElement, Emit, Raise, Body, Empty, Plain, When, Choice, Loop, Turns, join}
use Rattle.cat_program.specs.Places.{expr_size, operands_size, body_size, Marks, marked, marks_of}
use Rattle.cat_machine.specs.declared.instr.Instr.{Instr}
use Rattle.cat_machine.specs.declared.instr.Instr.TheVariants as i
use Rattle.cat_machine.specs.Code.{expr_code, operands_code, simple_instr, body_code}
use Rattle.cat_machine.proofs.Expressions.{expr_length}

pub operands_length : (s : Simple) → length (operands_code s) ≡ operands_size s
operands_length (SetWord word value) = expr_length value
operands_length (SetElement base len index value) = omega (arith, length-append (expr_code index) (expr_code value), expr_length index, expr_length value)
operands_length (Emit channel value) = expr_length value
operands_length (Raise task) = refl

-- a part, one instruction, and the rest
one_more : (a b : List Instr) (i : Instr) (n m : ℕ) → length a ≡ n → length b ≡ m → length (a ++ (i ∷ b)) ≡ n + 1 + m
one_more a b i n m e f = omega (arith, length-append a (i ∷ b))

pub body_length : (body : Body) (at : ℕ) → length (body_code at body) ≡ body_size body
body_length Empty at = refl
body_length (Plain b p s rest) at = one_more (operands_code s) (body_code (at + operands_size s + 1) rest) (simple_instr s) (operands_size s) (body_size rest) (operands_length s) (body_length rest (at + operands_size s + 1))
body_length (When b p test on rest) at =
    let first = at + expr_size test + 1 in
    let end = first + body_size on in
    omega (
      arith,
      length-append (body_code first on) (body_code end rest),
      body_length on first,
      body_length rest end,
      one_more (expr_code test) (body_code first on ++ body_code end rest) (i.JumpZero end) (expr_size test) _ (expr_length test) refl,
    )
body_length (Choice b p test on off rest) at =
    let first = at + expr_size test + 1 in
    let second = first + body_size on + 1 in
    let end = second + body_size off in
    omega (
      arith,
      length-append (body_code second off) (body_code end rest),
      body_length on first,
      body_length off second,
      body_length rest end,
      one_more (body_code first on) (body_code second off ++ body_code end rest) (i.Jump end) _ _ refl refl,
      one_more (expr_code test) (body_code first on ++ (i.Jump end ∷ (body_code second off ++ body_code end rest))) (i.JumpZero second) (expr_size test) _ (expr_length test) refl,
    )
body_length (Loop b p test body rest) at =
    let first = at + expr_size test + 1 in
    let end = first + body_size body + 1 in
    omega (
      arith,
      body_length body first,
      body_length rest end,
      one_more (body_code first body) (body_code end rest) (i.Jump at) _ _ refl refl,
      one_more (expr_code test) (body_code first body ++ (i.Jump at ∷ body_code end rest)) (i.JumpZero end) (expr_size test) _ (expr_length test) refl,
    )
body_length (Turns b p n body rest) at =
    let first = at + 2 in
    let end = first + body_size body + 1 in
    omega (
      arith,
      body_length body first,
      body_length rest end,
      one_more (body_code first body) (body_code end rest) (i.Jump (at + 1)) _ _ refl refl,
    )

pub none_length : (n : ℕ) → length (replicate {A = Option Body} n None) ≡ n
none_length zero = refl
none_length (suc n) = omega (arith, none_length n)

-- a marked place, n that are not, and the rest
marked_more : (k : Body) (n m : ℕ) (b : Marks) → length b ≡ m → length (marked k n ++ b) ≡ n + 1 + m
marked_more k n m b e = omega (arith, length-append (marked k n) b, none_length n)

pub marks_length : (body k : Body) → length (marks_of body k) ≡ body_size body
marks_length Empty k = refl
marks_length (Plain b p s rest) k = marked_more (Plain b p s (join rest k)) (operands_size s) (body_size rest) (marks_of rest k) (marks_length rest k)
marks_length (When b p test on rest) k =
    omega (
      arith,
      marked_more (When b p test on (join rest k)) (expr_size test) _ (marks_of on (join rest k) ++ marks_of rest k) refl,
      length-append (marks_of on (join rest k)) (marks_of rest k),
      marks_length on (join rest k),
      marks_length rest k,
    )
marks_length (Choice b p test on off rest) k =
    omega (
      arith,
      marked_more (Choice b p test on off (join rest k)) (expr_size test) _ (marks_of on (join rest k) ++ (Some (join rest k) ∷ (marks_of off (join rest k) ++ marks_of rest k))) refl,
      length-append (marks_of on (join rest k)) (Some (join rest k) ∷ (marks_of off (join rest k) ++ marks_of rest k)),
      length-append (marks_of off (join rest k)) (marks_of rest k),
      marks_length on (join rest k),
      marks_length off (join rest k),
      marks_length rest k,
    )
marks_length (Loop b p test body rest) k =
    let this = Loop b p test body (join rest k) in
    omega (
      arith,
      marked_more this (expr_size test) _ (marks_of body this ++ (Some this ∷ marks_of rest k)) refl,
      length-append (marks_of body this) (Some this ∷ marks_of rest k),
      marks_length body this,
      marks_length rest k,
    )
marks_length (Turns b p n body rest) k =
    omega (arith, length-append (replicate {A = Option Body} (2 + body_size body + 1) None) (marks_of rest k), none_length (2 + body_size body + 1), marks_length rest k)
