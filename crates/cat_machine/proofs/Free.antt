-- An expression that reads no payload has one value whatever the payload is.
use Rattle.std.proofs.Common.{◌≡◌, ◌+◌, refl, ap, ◌∙◌}
use Rattle.std.specs.Prelude.{ℤ, List}
use Rattle.cat_program.specs.declared.syntax.Expr.{Expr, Number, Payload, Word, Element', Signed', Chain', Row_of-Further, end_of-Further, more_of-Further}
use Rattle.cat_program.specs.Value.{value_of, chain_value, operator_value, signed_value, index_of, word_at}
use Rattle.cat_program.specs.Checked.{IsFree, ChainIsFree}

module _ (words : List ℤ) (x y : ℤ) where
  mutual
    pub value-free : (e : Expr) → IsFree e → value_of e words x ≡ value_of e words y
    value-free (Number n) free = refl
    value-free Payload free = absurd free
    value-free (Word w) free = refl
    value-free (Element' base len p index) free = ap (λ v. word_at words (base + index_of v len)) (value-free index free)
    value-free (Signed' sign p operand) free = ap (signed_value sign) (value-free operand free)
    value-free (Chain' p first s rest) free = ap (chain_value rest words x) (value-free first free.0) ∙ chain-free rest (value_of first words y) free.1

    chain-free : {m : _} (row : Row_of-Further m) (v : ℤ) → ChainIsFree row → chain_value row words x v ≡ chain_value row words y v
    chain-free end_of-Further v free = refl
    chain-free (more_of-Further operator operand rest) v free =
        ap (λ a. chain_value rest words x (operator_value operator v a)) (value-free operand free.0)
        ∙ chain-free rest (operator_value operator v (value_of operand words y)) free.1
