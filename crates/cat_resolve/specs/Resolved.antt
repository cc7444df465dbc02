-- The program of a source: what its expressions and statements become once names stand for numbers.
use Rattle.std.specs.Prelude.{ℕ, pos, Bool, true, false, Option, Some}
use Rattle.std.specs.Int.{w32, cast_signed}
use Rattle.cn_base.specs.declared.tree.Operator.{Operator as SourceOperator}
use Rattle.cn_base.specs.declared.tree.Operator.TheVariants as source
use Rattle.cn_base.specs.declared.tree.Comparison.{Comparison}
use Rattle.cn_base.specs.declared.tree.Comparison.TheVariants as comparison
use Rattle.cn_base.specs.declared.tree.Sign.{Sign as SourceSign}
use Rattle.cn_base.specs.declared.tree.Sign.TheVariants as mark
use Rattle.cat_program.specs.declared.syntax.Operator.{Operator}
use Rattle.cat_program.specs.declared.syntax.Operator.TheVariants as operator
use Rattle.cat_program.specs.declared.syntax.Sign.{Sign}
use Rattle.cat_program.specs.declared.syntax.Sign.TheVariants as sign
use Rattle.cat_conditions.specs.Plain.{Term, Furthers, no_further, further}
use Rattle.cat_conditions.specs.Plain as plain
use Rattle.cat_resolve.specs.declared.names.Meaning.{Meaning}
use Rattle.cat_resolve.specs.declared.names.Meaning.TheVariants as meaning
use Rattle.cat_resolve.specs.Names.{Meanings}
use Rattle.cat_resolve.specs.Form.{Formula, number, payload, word, element, signed, chain, Operands, no_operand, operand}

abbrev pub operator_of : SourceOperator → Operator
operator_of source.Or = operator.Or
operator_of source.And = operator.And
operator_of source.Add = operator.Add
operator_of source.Sub = operator.Sub
operator_of source.Mul = operator.Mul
operator_of source.Div = operator.Div
operator_of source.Rem = operator.Rem

abbrev pub comparison_of : Comparison → Operator
comparison_of comparison.Eq = operator.Eq
comparison_of comparison.Ne = operator.Ne
comparison_of comparison.Lt = operator.Lt
comparison_of comparison.Le = operator.Le
comparison_of comparison.Gt = operator.Gt
comparison_of comparison.Ge = operator.Ge

abbrev pub sign_of : SourceSign → Sign
sign_of mark.Neg = sign.Neg
sign_of mark.Not = sign.Not

-- in 32 bits
abbrev pub number_form : ℕ → Formula
number_form n = number (cast_signed w32 n)

-- true is 1, false is 0
abbrev pub truth_form : Bool → Formula
truth_form true = number (pos 1)
truth_form false = number (pos 0)

-- The conditions rule out a name that stands for nothing, or not for what is needed here.
abbrev pub name_form : Option Meaning → Formula
name_form (Some (meaning.Word w)) = word w
name_form _ = word 0

abbrev pub element_form : Option Meaning → Formula → Formula
element_form (Some (meaning.Array base len)) index = element base len index
element_form _ index = element 0 0 index

-- a comparison is a chain with one further operand
abbrev pub compared : Formula → Operator → Formula → Formula
compared first o second = chain first (operand o second no_operand)

abbrev mutual
  pub formula_of : Meanings → Term → Formula
  formula_of names (plain.number n) = number_form n
  formula_of names (plain.truth b) = truth_form b
  formula_of names plain.payload = payload
  formula_of names (plain.variable x) = name_form (names x)
  formula_of names (plain.element x index) = element_form (names x) (formula_of names index)
  formula_of names (plain.signed s e) = signed (sign_of s) (formula_of names e)
  formula_of names (plain.chain first others) = chain (formula_of names first) (operands_from names others)
  formula_of names (plain.compare first c second) = compared (formula_of names first) (comparison_of c) (formula_of names second)

  pub operands_from : Meanings → Furthers → Operands
  operands_from names no_further = no_operand
  operands_from names (further o e others) = operand (operator_of o) (formula_of names e) (operands_from names others)
