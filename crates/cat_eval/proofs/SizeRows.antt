-- The further operands of a chain, as a list.
use Rattle.std.proofs.Common.{◌≡◌, ℕ, zero, suc, ◌+◌, List, [], ◌∷◌, drop, Option, Some, None, refl, ap, ◌∙◌, subst, Vec, Global, arith}
use Rattle.std.specs.Prelude.{Box, slice_get}
use Rattle.cat_program.specs.declared.syntax.Expr.{Expr, Number, Payload, Word, Element', Signed', Chain', Chain, Row_of-Further, end_of-Further, more_of-Further, items-the_row-Further, items_hidden-the_row-Further-0}
use Rattle.cat_program.specs.declared.syntax.Further.{Further}
use Rattle.cat_program.specs.Places.{expr_size, chain_size}

abbrev pub rows_size : List Further → ℕ
rows_size [] = 0
rows_size (f ∷ fs) = expr_size f.operand + 1 + rows_size fs

size_rows : (m : _) (row : Row_of-Further m) → chain_size row ≡ rows_size (items-the_row-Further m row)
size_rows m end_of-Further = refl
size_rows m (more_of-Further operator operand rest) = ap (λ n. expr_size operand + 1 + n) (size_rows _ rest)

-- the operands of a chain
abbrev parts_of : Expr → Option (Expr × List Further)
parts_of (Chain' p first s row) = Some (first, items-the_row-Further _ row)
parts_of _ = None

by_parts : (e first : Expr) (fs : List Further) → parts_of e ≡ Some (first, fs) → expr_size e ≡ expr_size first + rows_size fs
by_parts (Chain' p y s row) first fs e =
    let got : Expr × List Further = (y, items-the_row-Further _ row) in
    let want : Expr × List Further = (first, fs) in
    let same : got ≡ want = cc in
    let here : expr_size (Chain' p y s row) ≡ expr_size y + rows_size (items-the_row-Further _ row) = ap (λ n. expr_size y + n) (size_rows _ row) in
    subst (λ (q : Expr × List Further). expr_size (Chain' p y s row) ≡ expr_size q.0 + rows_size q.1) same here
by_parts (Number n) first fs e = cc
by_parts Payload first fs e = cc
by_parts (Word w) first fs e = cc
by_parts (Element' base len p index) first fs e = cc
by_parts (Signed' sign p operand) first fs e = cc

pub chain_size_is : (first : Box Expr Global) (rest : Vec Further Global) → expr_size (Chain first rest) ≡ expr_size first.value + rows_size rest.items
chain_size_is first rest = by_parts (Chain first rest) first.value rest.items (ap (λ l. Some (first.value, l)) (items_hidden-the_row-Further-0 rest))

-- one operand more
pub rows_more : (fs : List Further) (k : ℕ) (f : Further) → slice_get fs k ≡ Some f → rows_size (drop k fs) ≡ expr_size f.operand + 1 + rows_size (drop (k + 1) fs)
rows_more [] k f e = cc
rows_more (g ∷ fs) zero f e = let same : g ≡ f = cc in ap (λ (y : Further). expr_size y.operand + 1 + rows_size fs) same
rows_more (g ∷ fs) (suc k) f e =
    let more : suc (k + 1) ≡ suc k + 1 = omega arith in
    rows_more fs k f e ∙ ap (λ j. expr_size f.operand + 1 + rows_size (drop j (g ∷ fs))) more
