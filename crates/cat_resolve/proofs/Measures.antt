-- What an expression needs, weighs and reads, by its plain form.
use Rattle.std.proofs.Common.{◌≡◌, ℕ, ◌+◌, ◌<◌, ◌≤◌, Bool, true, false, refl, ap, sym, ◌∙◌, subst, arith}
use Rattle.std.specs.Prelude.{max}
use Rattle.cat_program.specs.declared.syntax.Expr.{Expr, Number, Payload, Word, Element', Signed', Chain', Row_of-Further, end_of-Further, more_of-Further}
use Rattle.cat_program.specs.Places.{expr_size, chain_size}
use Rattle.cat_program.specs.Checked.{expr_need, chain_need, Reads, ChainReads, IsFree, ChainIsFree}
use Rattle.cat_conditions.specs.Plain.{Term, Furthers, no_further, further}
use Rattle.cat_conditions.specs.Plain as plain
use Rattle.cat_conditions.specs.Counts.{need, further_need, size, further_size}
use Rattle.cat_resolve.specs.Names.{Meanings}
use Rattle.cat_resolve.specs.Form.{Formula, number, payload, word, element, signed, chain, Operands, no_operand, operand, form, operands}
use Rattle.cat_resolve.specs.Resolved.{formula_of, operands_from, truth_form}
use Rattle.cat_resolve.proofs.Targets.{name_is, element_is}

-- ---- of plain forms

abbrev mutual
  pub form_need : Formula → ℕ
  form_need (number n) = 1
  form_need payload = 1
  form_need (word w) = 1
  form_need (element base len index) = form_need index
  form_need (signed sign e) = form_need e
  form_need (chain first rest) = max (form_need first) (operands_need rest)

  pub operands_need : Operands → ℕ
  operands_need no_operand = 0
  operands_need (operand o e rest) = max (1 + form_need e) (operands_need rest)

abbrev mutual
  pub form_size : Formula → ℕ
  form_size (number n) = 1
  form_size payload = 1
  form_size (word w) = 1
  form_size (element base len index) = form_size index + 1
  form_size (signed sign e) = form_size e + 1
  form_size (chain first rest) = form_size first + operands_weigh rest

  pub operands_weigh : Operands → ℕ
  operands_weigh no_operand = 0
  operands_weigh (operand o e rest) = form_size e + 1 + operands_weigh rest

abbrev mutual
  pub FormReads : ℕ → Formula → Type 0
  FormReads words (number n) = Unit {0}
  FormReads words payload = Unit {0}
  FormReads words (word w) = w < words
  FormReads words (element base len index) = (0 < len) × (base + len ≤ words) × FormReads words index
  FormReads words (signed sign e) = FormReads words e
  FormReads words (chain first rest) = FormReads words first × OperandsRead words rest

  pub OperandsRead : ℕ → Operands → Type 0
  OperandsRead words no_operand = Unit {0}
  OperandsRead words (operand o e rest) = FormReads words e × OperandsRead words rest

abbrev mutual
  pub FormIsFree : Formula → Type 0
  FormIsFree (number n) = Unit {0}
  FormIsFree payload = ⊥
  FormIsFree (word w) = Unit {0}
  FormIsFree (element base len index) = FormIsFree index
  FormIsFree (signed sign e) = FormIsFree e
  FormIsFree (chain first rest) = FormIsFree first × OperandsAreFree rest

  pub OperandsAreFree : Operands → Type 0
  OperandsAreFree no_operand = Unit {0}
  OperandsAreFree (operand o e rest) = FormIsFree e × OperandsAreFree rest

-- ---- an expression is as its plain form

mutual
  need_of_form : (e : Expr) → expr_need e ≡ form_need (form e)
  need_of_form (Number n) = refl
  need_of_form Payload = refl
  need_of_form (Word w) = refl
  need_of_form (Element' base len p index) = need_of_form index
  need_of_form (Signed' sign p e) = need_of_form e
  need_of_form (Chain' p first s rest) = omega (arith, need_of_form first, need_of_operands rest)

  need_of_operands : {m : _} (row : Row_of-Further m) → chain_need row ≡ operands_need (operands row)
  need_of_operands end_of-Further = refl
  need_of_operands (more_of-Further o e rest) = omega (arith, need_of_form e, need_of_operands rest)

mutual
  size_of_form : (e : Expr) → expr_size e ≡ form_size (form e)
  size_of_form (Number n) = refl
  size_of_form Payload = refl
  size_of_form (Word w) = refl
  size_of_form (Element' base len p index) = omega (arith, size_of_form index)
  size_of_form (Signed' sign p e) = omega (arith, size_of_form e)
  size_of_form (Chain' p first s rest) = omega (arith, size_of_form first, size_of_operands rest)

  size_of_operands : {m : _} (row : Row_of-Further m) → chain_size row ≡ operands_weigh (operands row)
  size_of_operands end_of-Further = refl
  size_of_operands (more_of-Further o e rest) = omega (arith, size_of_form e, size_of_operands rest)

mutual
  reads_of_form : (words : ℕ) (e : Expr) → FormReads words (form e) → Reads words e
  reads_of_form words (Number n) h = tt
  reads_of_form words Payload h = tt
  reads_of_form words (Word w) h = h
  reads_of_form words (Element' base len p index) h = (h.0, h.1, reads_of_form words index h.2)
  reads_of_form words (Signed' sign p e) h = reads_of_form words e h
  reads_of_form words (Chain' p first s rest) h = (reads_of_form words first h.0, reads_of_operands words rest h.1)

  reads_of_operands : {m : _} (words : ℕ) (row : Row_of-Further m) → OperandsRead words (operands row) → ChainReads words row
  reads_of_operands words end_of-Further h = tt
  reads_of_operands words (more_of-Further o e rest) h = (reads_of_form words e h.0, reads_of_operands words rest h.1)

mutual
  free_of_form : (e : Expr) → FormIsFree (form e) → IsFree e
  free_of_form (Number n) h = tt
  free_of_form Payload h = h
  free_of_form (Word w) h = tt
  free_of_form (Element' base len p index) h = free_of_form index h
  free_of_form (Signed' sign p e) h = free_of_form e h
  free_of_form (Chain' p first s rest) h = (free_of_form first h.0, free_of_operands rest h.1)

  free_of_operands : {m : _} (row : Row_of-Further m) → OperandsAreFree (operands row) → ChainIsFree row
  free_of_operands end_of-Further h = tt
  free_of_operands (more_of-Further o e rest) h = (free_of_form e h.0, free_of_operands rest h.1)

-- ---- what a source's expression becomes is as the expression

truth_need : (b : Bool) → form_need (truth_form b) ≡ 1
truth_need true = refl
truth_need false = refl

truth_size : (b : Bool) → form_size (truth_form b) ≡ 1
truth_size true = refl
truth_size false = refl

mutual
  need_of_term : (names : Meanings) (t : Term) → form_need (formula_of names t) ≡ need t
  need_of_term names (plain.number n) = refl
  need_of_term names (plain.truth b) = truth_need b
  need_of_term names plain.payload = refl
  need_of_term names (plain.variable x) = ap form_need (name_is (names x))
  need_of_term names (plain.element x index) = ap form_need (element_is (names x) (formula_of names index)) ∙ need_of_term names index
  need_of_term names (plain.signed s e) = need_of_term names e
  need_of_term names (plain.chain first others) = omega (arith, need_of_term names first, need_of_furthers names others)
  need_of_term names (plain.compare first c second) = omega (arith, need_of_term names first, need_of_term names second)

  need_of_furthers : (names : Meanings) (ts : Furthers) → operands_need (operands_from names ts) ≡ further_need ts
  need_of_furthers names no_further = refl
  need_of_furthers names (further o e others) = omega (arith, need_of_term names e, need_of_furthers names others)

mutual
  size_of_term : (names : Meanings) (t : Term) → form_size (formula_of names t) ≡ size t
  size_of_term names (plain.number n) = refl
  size_of_term names (plain.truth b) = truth_size b
  size_of_term names plain.payload = refl
  size_of_term names (plain.variable x) = ap form_size (name_is (names x))
  size_of_term names (plain.element x index) =
      ap form_size (element_is (names x) (formula_of names index)) ∙ ap (λ n. n + 1) (size_of_term names index)
  size_of_term names (plain.signed s e) = ap (λ n. n + 1) (size_of_term names e)
  size_of_term names (plain.chain first others) = omega (arith, size_of_term names first, size_of_furthers names others)
  size_of_term names (plain.compare first c second) = omega (arith, size_of_term names first, size_of_term names second)

  size_of_furthers : (names : Meanings) (ts : Furthers) → operands_weigh (operands_from names ts) ≡ further_size ts
  size_of_furthers names no_further = refl
  size_of_furthers names (further o e others) = omega (arith, size_of_term names e, size_of_furthers names others)

-- ---- an expression that stands for a source's

module _ (names : Meanings) (t : Term) (e : Expr) (is : form e ≡ formula_of names t) where
  pub same_need : expr_need e ≡ need t
  same_need = need_of_form e ∙ ap form_need is ∙ need_of_term names t

  pub same_size : expr_size e ≡ size t
  same_size = size_of_form e ∙ ap form_size is ∙ size_of_term names t

  pub reads_as : (words : ℕ) → FormReads words (formula_of names t) → Reads words e
  reads_as words h = reads_of_form words e (subst (FormReads words) (sym is) h)

  pub free_as : FormIsFree (formula_of names t) → IsFree e
  free_as h = free_of_form e (subst FormIsFree (sym is) h)
