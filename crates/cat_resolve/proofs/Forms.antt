-- The plain form of a chain, by the list of its operands.
use Rattle.std.proofs.Common.{◌≡◌, List, [], ◌∷◌, ◌++◌, refl, ap, ◌∙◌, Option, Some, None}
use Rattle.std.proofs.Common.{Vec, Global}
use Rattle.std.specs.Prelude.{Box, Result, Ok, Err, IfOk}
use Rattle.cat_program.specs.declared.syntax.Operator.{Operator}
use Rattle.cat_program.specs.declared.syntax.Expr.{Expr, Number, Payload, Word, Element', Signed', Chain', Row_of-Further, end_of-Further, more_of-Further, items-the_row-Further, Chain, items_hidden-the_row-Further-0}
use Rattle.cat_program.specs.declared.syntax.Further.{Further}
use Rattle.cat_resolve.specs.Form.{Formula, Operands, no_operand, operand, chain, form, operands, operands_of, join, with_operand}

pub join-none : (a : Operands) → join a no_operand ≡ a
join-none no_operand = refl
join-none (operand o e rest) = ap (operand o e) (join-none rest)

pub join-with : (a b : Operands) (o : Operator) (e : Formula) → join (with_operand a o e) b ≡ join a (operand o e b)
join-with no_operand b o e = refl
join-with (operand p f rest) b o e = ap (operand p f) (join-with rest b o e)

pub operands-more : (fs : List Further) (f : Further) → operands_of (fs ++ f ∷ []) ≡ with_operand (operands_of fs) f.operator (form f.operand)
operands-more [] f = refl
operands-more (g ∷ fs) f = ap (operand g.operator (form g.operand)) (operands-more fs f)

rows : (m : _) (row : Row_of-Further m) → operands row ≡ operands_of (items-the_row-Further m row)
rows m end_of-Further = refl
rows m (more_of-Further o e rest) = ap (operand o (form e)) (rows _ rest)

-- the operands of a chain
abbrev parts_of : Expr → Option (Expr × List Further)
parts_of (Chain' p first s row) = Some (first, items-the_row-Further _ row)
parts_of _ = None

by_parts : (e first : Expr) (fs : List Further) → parts_of e ≡ Some (first, fs) → form e ≡ chain (form first) (operands_of fs)
by_parts (Chain' p x s row) first fs e =
    let got : Expr × List Further = (x, items-the_row-Further _ row) in
    let want : Expr × List Further = (first, fs) in
    let same : got ≡ want = cc in
    let one = ap (λ (q : Expr × List Further). q.0) same in
    let list = ap (λ (q : Expr × List Further). q.1) same in
    ap (λ y. chain (form y) (operands row)) one ∙ ap (chain (form first)) (rows _ row ∙ ap operands_of list)
by_parts (Number n) first fs e = cc
by_parts Payload first fs e = cc
by_parts (Word w) first fs e = cc
by_parts (Element' base len p index) first fs e = cc
by_parts (Signed' sign p inner) first fs e = cc

pub chain-is : (first : Box Expr Global) (rest : Vec Further Global) → form (Chain first rest) ≡ chain (form first.value) (operands_of rest.items)
chain-is first rest = by_parts (Chain first rest) first.value rest.items (ap (λ l. Some (first.value, l)) (items_hidden-the_row-Further-0 rest))

pub forms-to : {E : Type 0} (r : Result Expr E) (f g : Formula) → f ≡ g → IfOk r (λ e. form e ≡ f) → IfOk r (λ e. form e ≡ g)
forms-to (Ok e) f g q h = h ∙ q
forms-to (Err y) f g q h = tt
