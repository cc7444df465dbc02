-- The value, the size and the code of an expression, by its plain form.
use Rattle.std.proofs.Common.{◌≡◌, ℕ, ◌+◌, ℤ, List, [], ◌∷◌, ◌++◌, refl, ap, sym, ◌∙◌, arith}
use Rattle.cat_program.specs.declared.syntax.Expr.{Expr, Number, Payload, Word, Element', Signed', Chain', Row_of-Further, end_of-Further, more_of-Further}
use Rattle.cat_program.specs.Value.{operator_value, signed_value, index_of, word_at, value_of, chain_value}
use Rattle.cat_program.specs.Places.{expr_size, chain_size}
use Rattle.cat_machine.specs.declared.instr.Instr.{Instr}
use Rattle.cat_machine.specs.declared.instr.Instr.TheVariants as i
use Rattle.cat_machine.specs.Code.{expr_code, chain_code}
use Rattle.cat_resolve.specs.Form.{Formula, number, payload, word, element, signed, chain, Operands, no_operand, operand, form, operands}

abbrev mutual
  form_value : Formula → List ℤ → ℤ → ℤ
  form_value (number n) words x = n
  form_value payload words x = x
  form_value (word w) words x = word_at words w
  form_value (element base len index) words x = word_at words (base + index_of (form_value index words x) len)
  form_value (signed sign e) words x = signed_value sign (form_value e words x)
  form_value (chain first rest) words x = operands_value rest words x (form_value first words x)

  operands_value : Operands → List ℤ → ℤ → ℤ → ℤ
  operands_value no_operand words x v = v
  operands_value (operand o e rest) words x v = operands_value rest words x (operator_value o v (form_value e words x))

abbrev mutual
  form_size : Formula → ℕ
  form_size (number n) = 1
  form_size payload = 1
  form_size (word w) = 1
  form_size (element base len index) = form_size index + 1
  form_size (signed sign e) = form_size e + 1
  form_size (chain first rest) = form_size first + operands_weigh rest

  operands_weigh : Operands → ℕ
  operands_weigh no_operand = 0
  operands_weigh (operand o e rest) = form_size e + 1 + operands_weigh rest

abbrev mutual
  form_code : Formula → List Instr
  form_code (number n) = i.Push n ∷ []
  form_code payload = i.Payload ∷ []
  form_code (word w) = i.Load w ∷ []
  form_code (element base len index) = form_code index ++ i.LoadAt base len ∷ []
  form_code (signed sign e) = form_code e ++ i.Signed sign ∷ []
  form_code (chain first rest) = form_code first ++ codes_of rest

  codes_of : Operands → List Instr
  codes_of no_operand = []
  codes_of (operand o e rest) = form_code e ++ (i.Operate o ∷ codes_of rest)

-- ---- an expression is as its plain form

mutual
  value_is : (words : List ℤ) (x : ℤ) (e : Expr) → value_of e words x ≡ form_value (form e) words x
  value_is words x (Number n) = refl
  value_is words x Payload = refl
  value_is words x (Word w) = refl
  value_is words x (Element' base len p index) = ap (λ v. word_at words (base + index_of v len)) (value_is words x index)
  value_is words x (Signed' sign p e) = ap (signed_value sign) (value_is words x e)
  value_is words x (Chain' p first s rest) =
      values_are words x rest (value_of first words x) ∙ ap (operands_value (operands rest) words x) (value_is words x first)

  values_are : {m : _} (words : List ℤ) (x : ℤ) (row : Row_of-Further m) (v : ℤ) → chain_value row words x v ≡ operands_value (operands row) words x v
  values_are words x end_of-Further v = refl
  values_are words x (more_of-Further o e rest) v =
      values_are words x rest (operator_value o v (value_of e words x))
      ∙ ap (λ y. operands_value (operands rest) words x (operator_value o v y)) (value_is words x e)

mutual
  size_is : (e : Expr) → expr_size e ≡ form_size (form e)
  size_is (Number n) = refl
  size_is Payload = refl
  size_is (Word w) = refl
  size_is (Element' base len p index) = ap (λ n. n + 1) (size_is index)
  size_is (Signed' sign p e) = ap (λ n. n + 1) (size_is e)
  size_is (Chain' p first s rest) = omega (arith, size_is first, sizes_are rest)

  sizes_are : {m : _} (row : Row_of-Further m) → chain_size row ≡ operands_weigh (operands row)
  sizes_are end_of-Further = refl
  sizes_are (more_of-Further o e rest) = omega (arith, size_is e, sizes_are rest)

mutual
  code_is : (e : Expr) → expr_code e ≡ form_code (form e)
  code_is (Number n) = refl
  code_is Payload = refl
  code_is (Word w) = refl
  code_is (Element' base len p index) = ap (λ c. c ++ i.LoadAt base len ∷ []) (code_is index)
  code_is (Signed' sign p e) = ap (λ c. c ++ i.Signed sign ∷ []) (code_is e)
  code_is (Chain' p first s rest) =
      ap (λ c. c ++ chain_code rest) (code_is first) ∙ ap (λ c. form_code (form first) ++ c) (codes_are rest)

  codes_are : {m : _} (row : Row_of-Further m) → chain_code row ≡ codes_of (operands row)
  codes_are end_of-Further = refl
  codes_are (more_of-Further o e rest) =
      ap (λ c. c ++ (i.Operate o ∷ chain_code rest)) (code_is e) ∙ ap (λ c. form_code (form e) ++ (i.Operate o ∷ c)) (codes_are rest)

-- ---- so expressions of one form are alike

module _ (e f : Expr) (same : form e ≡ form f) where
  pub same_value : (words : List ℤ) (x : ℤ) → value_of e words x ≡ value_of f words x
  same_value words x = value_is words x e ∙ ap (λ g. form_value g words x) same ∙ sym (value_is words x f)

  pub same_size : expr_size e ≡ expr_size f
  same_size = size_is e ∙ ap form_size same ∙ sym (size_is f)

  pub same_code : expr_code e ≡ expr_code f
  same_code = code_is e ∙ ap form_code same ∙ sym (code_is f)
