-- What each kind of expression of a source becomes.
use Rattle.std.proofs.Common.{◌≡◌, ℕ, Bool, List, ◌∷◌, map, ap, sym, ◌∙◌}
use Rattle.cn_base.specs.declared.tree.Expr.{Expr}
use Rattle.cn_base.specs.declared.tree.Expr.TheVariants as expr
use Rattle.cn_base.specs.declared.tree.Further.{Further, out-Further}
use Rattle.cn_base.specs.declared.tree.Comparison.{Comparison}
use Rattle.cn_base.specs.declared.tree.Sign.{Sign}
use Rattle.cat_conditions.specs.Plain.{term_of, furthers_of, further_of}
use Rattle.cat_conditions.specs.PlainKinds.{ExpressionKinds}
use Rattle.cat_resolve.specs.Names.{Meanings}
use Rattle.cat_resolve.specs.Form.{Formula, Operands, payload, signed, chain, operand}
use Rattle.cat_resolve.specs.Resolved.{formula_of, operands_from, number_form, truth_form, name_form, element_form, compared, sign_of, comparison_of, operator_of}

-- what a source's expression becomes
abbrev pub becomes : Meanings → Expr → Formula
becomes n e = formula_of n (term_of e)

abbrev pub all_become : Meanings → List Further → Operands
all_become n fs = operands_from n (furthers_of (map further_of fs))

module _ (kinds : ExpressionKinds) where
  pub at-number : (n : Meanings) (e : Expr) (m : ℕ) → e ≡ expr.Number m → number_form m ≡ becomes n e
  at-number n e m q = sym (ap (becomes n) q ∙ ap (formula_of n) (kinds.number m))

  pub at-truth : (n : Meanings) (e : Expr) (b : Bool) → e ≡ expr.Truth b → truth_form b ≡ becomes n e
  at-truth n e b q = sym (ap (becomes n) q ∙ ap (formula_of n) (kinds.truth b))

  pub at-payload : (n : Meanings) (e : Expr) → e ≡ expr.Payload → payload ≡ becomes n e
  at-payload n e q = sym (ap (becomes n) q ∙ ap (formula_of n) kinds.payload)

  pub at-name : (n : Meanings) (e : Expr) (x y : List ℕ) → e ≡ expr.Name x → y ≡ x → name_form (n y) ≡ becomes n e
  at-name n e x y q p = sym (ap (becomes n) q ∙ ap (formula_of n) (kinds.name x) ∙ ap (λ z. name_form (n z)) (sym p))

  pub at-element : (n : Meanings) (e : Expr) (x y : List ℕ) (i j : Expr) (f : Formula) → e ≡ expr.Element x i → y ≡ x → j ≡ i → f ≡ becomes n j
      → element_form (n y) f ≡ becomes n e
  at-element n e x y i j f q p r s =
      sym (ap (becomes n) q ∙ ap (formula_of n) (kinds.element x i) ∙ ap (λ z. element_form (n z) (becomes n i)) (sym p)
      ∙ ap (element_form (n y)) (sym (s ∙ ap (becomes n) r)))

  pub at-signed : (n : Meanings) (e : Expr) (m : Sign) (i j : Expr) (f : Formula) (g : _) → e ≡ expr.Signed m i → g ≡ sign_of m → j ≡ i → f ≡ becomes n j
      → signed g f ≡ becomes n e
  at-signed n e m i j f g q p r s =
      sym (ap (becomes n) q ∙ ap (formula_of n) (kinds.signed m i) ∙ ap (λ z. signed z (becomes n i)) (sym p)
      ∙ ap (signed g) (sym (s ∙ ap (becomes n) r)))

  pub at-chain : (n : Meanings) (e : Expr) (i j : Expr) (fs gs : List Further) (f : Formula) (os : Operands) → e ≡ expr.Chain i fs → j ≡ i → gs ≡ fs
      → f ≡ becomes n j → os ≡ all_become n gs → chain f os ≡ becomes n e
  at-chain n e i j fs gs f os q r p s t =
      sym (ap (becomes n) q ∙ ap (formula_of n) (kinds.chain i fs) ∙ ap (chain (becomes n i)) (sym (t ∙ ap (all_become n) p))
      ∙ ap (λ z. chain z os) (sym (s ∙ ap (becomes n) r)))

  pub at-compare : (n : Meanings) (e : Expr) (c : Comparison) (i j k l : Expr) (f g : Formula) (o : _) → e ≡ expr.Compare i c k → o ≡ comparison_of c → j ≡ i → l ≡ k
      → f ≡ becomes n j → g ≡ becomes n l → compared f o g ≡ becomes n e
  at-compare n e c i j k l f g o q p r u s t =
      sym (ap (becomes n) q ∙ ap (formula_of n) (kinds.compare i c k) ∙ ap (λ z. compared (becomes n i) z (becomes n k)) (sym p)
      ∙ ap (λ z. compared z o (becomes n k)) (sym (s ∙ ap (becomes n) r)) ∙ ap (compared f o) (sym (t ∙ ap (becomes n) u)))

  pub at-further : (n : Meanings) (f : Further) (fs : List Further) (o : _) (a : Formula) → o ≡ operator_of (out-Further f).operator → a ≡ becomes n (out-Further f).operand
      → operand o a (all_become n fs) ≡ all_become n (f ∷ fs)
  at-further n f fs o a p q =
      ap (λ z. operand z a (all_become n fs)) p ∙ ap (λ z. operand (operator_of (out-Further f).operator) z (all_become n fs)) q
      ∙ sym (ap (λ z. operands_from n (furthers_of (z ∷ map further_of fs))) (kinds.further f))
