-- What is read of an expression before it is refused goes on to an expression.
use Rattle.std.proofs.Common.{◌≡◌, ℕ, zero, suc, Bool, true, false, cond, List, [], ◌∷◌, Option, Some, None, refl, sym, subst}
use Rattle.cat_tokens.specs.declared.token.Keyword.TheVariants as k
use Rattle.cat_tokens.specs.declared.token.Symbol.TheVariants as s
use Rattle.cat_tokens.specs.Lexemes.{keyword, name, number, symbol}
use Rattle.cn_base.specs.declared.tree.Operator.{Operator}
use Rattle.cn_base.specs.declared.tree.Comparison.{Comparison}
use Rattle.cn_base.specs.declared.tree.Sign.{Sign}
use Rattle.cn_base.specs.declared.tree.Expr.{Expr}
use Rattle.cn_base.specs.declared.tree.Expr.TheVariants as expr
use Rattle.cn_base.specs.declared.tree.Further.{Further}
use Rattle.cat_syntax.specs.declared.level.Level.{Level}
use Rattle.cat_syntax.specs.declared.level.Level.TheVariants as level
use Rattle.cat_syntax.specs.Levels.{operator_of, comparison_of, sign_of}
use Rattle.cat_syntax.specs.Grammar as g
use Rattle.cat_syntax.specs.Grammar.{further, chained, IsChain, AreFurther, IsOperand, IsComparison, IsUnary, IsPrimary, IsExpr}
use Rattle.cat_syntax.specs.Reader.{Lexemes, Reader, ◌>>=◌, pure, after, sees, read_name, many}
use Rattle.cat_syntax.specs.Reading.{next_operator, next_comparison, next_sign, further_by, one_further, chain, element, named, parenthesized, primary, unary_by, unary, product, sum, compared_by, comparison, both, whole, nested}
use Rattle.cat_syntax.proofs.Readers.{read, sees_is}
use Rattle.cat_syntax.proofs.Sound.{symbol_seen}
use Rattle.cat_syntax.proofs.Viable.{Completes, Viable, Next, Behind, viable_then, wider, viable_map, refuses, behind, viable_close, Step, OneMore, viable_all}

abbrev IsFurther : Level → Lexemes → Further → Lexemes → Type 0
IsFurther l = Step (AreFurther l) (λ ts. g.none)

module _ (l : Level) (operand : Reader Expr) (law : Viable (IsOperand l) operand) where
  further_viable : Viable (OneMore (AreFurther l) (λ ts. g.none)) (one_further l operand)
  unfolding one_further
  further_viable ts = by (next_operator l ts) refl
    where
      by : (o : Option Operator) → next_operator l ts ≡ o → Completes (OneMore (AreFurther l) (λ ts. g.none)) ts (further_by operand o ts)
      by None e = ([], refl, λ other. refl)
      by (Some o) e =
          let seen = symbol_seen (operator_of l) ts o e in
          let all = OneMore (AreFurther l) (λ ts. g.none) in
          behind all (symbol seen.0) ts (after ts) ((operand >>= λ x. pure (Some (further o x))) (after ts)) seen.1
          (viable_map (Behind (symbol seen.0) all) (λ x. Some (further o x)) operand
          (λ us. wider (IsOperand l) (λ vs x end. Behind (symbol seen.0) all vs (Some (further o x)) end) (λ x vs end d xs rest ds. g.more seen.2 d ds) us (operand us) (law us))
          (after ts))

  chain_viable : Viable (IsChain l) (chain l operand)
  unfolding chain
  chain_viable = viable_then (IsOperand l) (IsChain l) operand (λ first. many (one_further l operand) [] >>= λ others. pure (chained first others)) law
      (λ first. viable_map (Next (IsOperand l) (IsChain l) first) (λ others. chained first others) (many (one_further l operand) [])
      (λ us. wider (AreFurther l) (λ vs others end. Next (IsOperand l) (IsChain l) first vs (chained first others) end) (λ others vs end ds ts d. g.chain d ds) us
      (many (one_further l operand) [] us) (viable_all (AreFurther l) (λ ts. g.none) (one_further l operand) further_viable us)))

module _ (inner : Reader Expr) (law : Viable IsExpr inner) where
  element_viable : (x : List ℕ) (us : Lexemes) → Completes (Behind (name x) IsPrimary) (symbol s.LeftBracket ∷ us) (element inner x (symbol s.LeftBracket ∷ us))
  unfolding element after
  element_viable x us = behind (Behind (name x) IsPrimary) (symbol s.LeftBracket) (symbol s.LeftBracket ∷ us) us _ refl
      (viable_close IsExpr (Behind (symbol s.LeftBracket) (Behind (name x) IsPrimary)) s.RightBracket (λ i. expr.Element x i) inner (λ i ts end d. g.element d) law us)

  named_viable : (x : List ℕ) → Viable (Behind (name x) IsPrimary) (named inner x)
  unfolding named
  named_viable x ts = by ts (sees s.LeftBracket ts) refl
    where
      by : (ts : Lexemes) (b : Bool) → sees s.LeftBracket ts ≡ b → Completes (Behind (name x) IsPrimary) ts (cond b (element inner x ts) (read (expr.Name x) ts))
      by ts false e = ([], refl, λ other. g.variable)
      by ts true e = subst (λ us. Completes (Behind (name x) IsPrimary) us (element inner x us)) (sym (sees_is s.LeftBracket ts e)) (element_viable x (after ts))

  parens_viable : (us : Lexemes) → Completes IsPrimary (symbol s.LeftParen ∷ us) (parenthesized inner (symbol s.LeftParen ∷ us))
  unfolding parenthesized after
  parens_viable us = behind IsPrimary (symbol s.LeftParen) (symbol s.LeftParen ∷ us) us _ refl
      (viable_close IsExpr (Behind (symbol s.LeftParen) IsPrimary) s.RightParen (λ x. x) inner (λ x ts end d. g.parens d) law us)

  primary_viable : Viable IsPrimary (primary inner)
  unfolding primary after read_name
  primary_viable (number n ∷ us) = (number n ∷ [], refl, λ other. g.literal)
  primary_viable (keyword k.True ∷ us) = (keyword k.True ∷ [], refl, λ other. g.yes)
  primary_viable (keyword k.False ∷ us) = (keyword k.False ∷ [], refl, λ other. g.no)
  primary_viable (keyword k.Payload ∷ us) = (keyword k.Payload ∷ [], refl, λ other. g.payload)
  primary_viable (name x ∷ us) = behind IsPrimary (name x) (name x ∷ us) us (named inner x us) refl (named_viable x us)
  primary_viable (symbol s.LeftParen ∷ us) = parens_viable us
  primary_viable ts = refuses IsPrimary ts (expr.Number 0) (λ end. (number 0 ∷ end, g.literal))

  unary_viable : Viable IsUnary (unary inner)
  unfolding unary
  unary_viable ts = by (next_sign ts) refl
    where
      by : (o : Option Sign) → next_sign ts ≡ o → Completes IsUnary ts (unary_by inner o ts)
      by None e = wider IsPrimary IsUnary (λ x us end d. g.primary d) ts (primary inner ts) (primary_viable ts)
      by (Some sign) e =
          let seen = symbol_seen sign_of ts sign e in
          behind IsUnary (symbol seen.0) ts (after ts) ((primary inner >>= λ x. pure (expr.Signed sign x)) (after ts)) seen.1
          (viable_map (Behind (symbol seen.0) IsUnary) (λ x. expr.Signed sign x) (primary inner)
          (λ us. wider IsPrimary (λ vs x end. Behind (symbol seen.0) IsUnary vs (expr.Signed sign x) end) (λ x vs end d. g.signed seen.2 d) us (primary inner us) (primary_viable us))
          (after ts))

  product_viable : Viable (IsChain level.Product) (product inner)
  unfolding product
  product_viable = chain_viable level.Product (unary inner) (λ ts. wider IsUnary (IsOperand level.Product) (λ x us end d. g.unary d) ts (unary inner ts) (unary_viable ts))

  sum_viable : Viable (IsChain level.Sum) (sum inner)
  unfolding sum
  sum_viable = chain_viable level.Sum (product inner) (λ ts. wider (IsChain level.Product) (IsOperand level.Sum) (λ x us end d. g.term d) ts (product inner ts) (product_viable ts))

  compared_viable : (x : Expr) → Viable (Next (IsChain level.Sum) IsComparison x) (λ ts. compared_by inner x (next_comparison ts) ts)
  compared_viable x ts = by (next_comparison ts) refl
    where
      by : (o : Option Comparison) → next_comparison ts ≡ o → Completes (Next (IsChain level.Sum) IsComparison x) ts (compared_by inner x o ts)
      by None e = ([], refl, λ other us d. g.sum d)
      by (Some c) e =
          let seen = symbol_seen comparison_of ts c e in
          behind (Next (IsChain level.Sum) IsComparison x) (symbol seen.0) ts (after ts) ((sum inner >>= λ y. pure (expr.Compare x c y)) (after ts)) seen.1
          (viable_map (Behind (symbol seen.0) (Next (IsChain level.Sum) IsComparison x)) (λ y. expr.Compare x c y) (sum inner)
          (λ us. wider (IsChain level.Sum) (λ vs y end. Behind (symbol seen.0) (Next (IsChain level.Sum) IsComparison x) vs (expr.Compare x c y) end) (λ y vs end b ws d. g.compared d seen.2 b) us (sum inner us) (sum_viable us))
          (after ts))

  comparison_viable : Viable IsComparison (comparison inner)
  unfolding comparison
  comparison_viable = viable_then (IsChain level.Sum) IsComparison (sum inner) (λ x ts. compared_by inner x (next_comparison ts) ts) sum_viable compared_viable

  both_viable : Viable (IsChain level.And) (both inner)
  unfolding both
  both_viable = chain_viable level.And (comparison inner) (λ ts. wider IsComparison (IsOperand level.And) (λ x us end d. g.compare d) ts (comparison inner ts) (comparison_viable ts))

  whole_viable : Viable IsExpr (whole inner)
  unfolding whole
  whole_viable = chain_viable level.Or (both inner) (λ ts. wider (IsChain level.And) (IsOperand level.Or) (λ x us end d. g.both d) ts (both inner ts) (both_viable ts))

pub a_number : (end : Lexemes) → IsExpr (number 0 ∷ end) (expr.Number 0) end
a_number end = g.chain (g.both (g.chain (g.compare (g.sum (g.chain (g.term (g.chain (g.unary (g.primary g.literal)) g.none)) g.none))) g.none)) g.none

pub nested_viable : (room : ℕ) → Viable IsExpr (nested room)
unfolding nested
nested_viable zero ts = refuses IsExpr ts (expr.Number 0) (λ end. (number 0 ∷ end, a_number end))
nested_viable (suc room) ts = whole_viable (nested room) (nested_viable room) ts
