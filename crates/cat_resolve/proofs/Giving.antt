-- A name that is set where it stood for nothing.
use Rattle.std.proofs.Common.{◌≡◌, ℕ, List, Option, Some, None, refl, ap, sym, ◌∙◌, subst}
use Rattle.std.specs.Prelude.{bytes_eq}
use Rattle.std.proofs.lemmas.Bool.{cases_Bool, cond-true, cond-false}
use Rattle.std.specs.Map.{update}
use Rattle.std.specs.Cmp.Lexicographic.{bytes_decides}
use mathlib.Core.Logic.{⊎_elim}
use Rattle.cat_resolve.specs.declared.names.Meaning.{Meaning}
use Rattle.cat_resolve.specs.Names.{Meanings, first_of, of_name}

first_of-none : (m : Option Meaning) → first_of m None ≡ m
first_of-none (Some m) = refl
first_of-none None = refl

pub given : (before : Meanings) (x y : List ℕ) (m : Meaning) → before x ≡ None → update bytes_eq before x (Some m) y ≡ first_of (before y) (of_name x m y)
given before x y m none =
    ⊎_elim
    (λ same.
    let there = subst (λ z. before z ≡ None) ((bytes_decides x y).0 same) none in
    cond-true (bytes_eq x y) (Some m) (before y) same ∙ sym (ap (λ z. first_of z (of_name x m y)) there ∙ cond-true (bytes_eq x y) (Some m) None same))
    (λ other.
    cond-false (bytes_eq x y) (Some m) (before y) other
    ∙ sym (ap (first_of (before y)) (cond-false (bytes_eq x y) (Some m) None other) ∙ first_of-none (before y)))
    (cases_Bool (bytes_eq x y))
