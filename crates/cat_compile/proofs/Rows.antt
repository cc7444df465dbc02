-- The further operands of a chain, as a list.
use Rattle.std.proofs.Common.{◌≡◌, List, [], ◌∷◌, ◌++◌, refl, ap, ◌∙◌, Option, Some, None}
use Rattle.std.proofs.Common.{Vec, Global}
use Rattle.std.specs.Prelude.{Box}
use Rattle.cat_program.specs.declared.syntax.Expr.{Expr, Number, Payload, Word, Element', Signed', Chain', Row_of-Further, end_of-Further, more_of-Further, items-the_row-Further, Chain, items_hidden-the_row-Further-0}
use Rattle.cat_program.specs.declared.syntax.Further.{Further}
use Rattle.cat_machine.specs.declared.instr.Instr.{Instr}
use Rattle.cat_machine.specs.declared.instr.Instr.TheVariants as i
use Rattle.cat_machine.specs.Code.{expr_code, chain_code}

abbrev pub rows_code : List Further → List Instr
rows_code [] = []
rows_code (f ∷ fs) = expr_code f.operand ++ (i.Operate f.operator ∷ rows_code fs)

pub chain_rows : (m : _) (row : Row_of-Further m) → chain_code row ≡ rows_code (items-the_row-Further m row)
chain_rows m end_of-Further = refl
chain_rows m (more_of-Further operator operand rest) = ap (λ x. expr_code operand ++ (i.Operate operator ∷ x)) (chain_rows _ rest)

-- the operands of a chain
abbrev parts_of : Expr → Option (Expr × List Further)
parts_of (Chain' p first s row) = Some (first, items-the_row-Further _ row)
parts_of _ = None

by_parts : (e first : Expr) (fs : List Further) → parts_of e ≡ Some (first, fs) → expr_code e ≡ expr_code first ++ rows_code fs
by_parts (Chain' p x s row) first fs e =
    let got : Expr × List Further = (x, items-the_row-Further _ row) in
    let want : Expr × List Further = (first, fs) in
    let same : got ≡ want = cc in
    let one = ap (λ (q : Expr × List Further). q.0) same in
    let list = ap (λ (q : Expr × List Further). q.1) same in
    ap (λ y. expr_code y ++ chain_code row) one ∙ ap (λ y. expr_code first ++ y) (chain_rows _ row ∙ ap rows_code list)
by_parts (Number n) first fs e = cc
by_parts Payload first fs e = cc
by_parts (Word w) first fs e = cc
by_parts (Element' base len p index) first fs e = cc
by_parts (Signed' sign p operand) first fs e = cc

-- the code of a chain, by the list of its operands
pub chain_is : (first : Box Expr Global) (rest : Vec Further Global) → expr_code (Chain first rest) ≡ expr_code first.value ++ rows_code rest.items
chain_is first rest = by_parts (Chain first rest) first.value rest.items (ap (λ l. Some (first.value, l)) (items_hidden-the_row-Further-0 rest))
