-- The further operands of a chain, as a list.
use Rattle.std.proofs.Common.{◌≡◌, ℕ, zero, suc, ◌+◌, List, [], ◌∷◌, drop, Option, Some, None, refl, ap, ◌∙◌, subst, Vec, Global, arith}
use Rattle.std.specs.Prelude.{Box, ℤ, slice_get}
use Rattle.cat_program.specs.declared.syntax.Expr.{Expr, Number, Payload, Word, Element', Signed', Chain', Chain, Row_of-Further, end_of-Further, more_of-Further, items-the_row-Further, items_hidden-the_row-Further-0}
use Rattle.cat_program.specs.declared.syntax.Further.{Further}
use Rattle.cat_program.specs.Value.{value_of, chain_value, operator_value}
use Rattle.cat_program.specs.Checked.{Reads, ChainReads}

abbrev pub rows_value : List Further → List ℤ → ℤ → ℤ → ℤ
rows_value [] words x v = v
rows_value (f ∷ fs) words x v = rows_value fs words x (operator_value f.operator v (value_of f.operand words x))

abbrev pub RowsRead : ℕ → List Further → Type 0
RowsRead n [] = Unit {0}
RowsRead n (f ∷ fs) = Reads n f.operand × RowsRead n fs

value_rows : (m : _) (row : Row_of-Further m) (words : List ℤ) (x v : ℤ) → chain_value row words x v ≡ rows_value (items-the_row-Further m row) words x v
value_rows m end_of-Further words x v = refl
value_rows m (more_of-Further operator operand rest) words x v = value_rows _ rest words x _

read_rows : (m : _) (n : ℕ) (row : Row_of-Further m) → ChainReads n row → RowsRead n (items-the_row-Further m row)
read_rows m n end_of-Further h = tt
read_rows m n (more_of-Further operator operand rest) h = (h.0, read_rows _ n rest h.1)

-- the operands of a chain
abbrev parts_of : Expr → Option (Expr × List Further)
parts_of (Chain' p first s row) = Some (first, items-the_row-Further _ row)
parts_of _ = None

record Parts (e first : Expr) (fs : List Further) : Type 0 where
  value_is : (words : List ℤ) (x : ℤ) → value_of e words x ≡ rows_value fs words x (value_of first words x)
  reads : (n : ℕ) → Reads n e → Reads n first × RowsRead n fs

by_parts : (e first : Expr) (fs : List Further) → parts_of e ≡ Some (first, fs) → Parts e first fs
by_parts (Chain' p y s row) first fs e =
    let got : Expr × List Further = (y, items-the_row-Further _ row) in
    let want : Expr × List Further = (first, fs) in
    let same : got ≡ want = cc in
    let here : Parts (Chain' p y s row) y (items-the_row-Further _ row) = record { value_is = λ words x. value_rows _ row words x (value_of y words x); reads = λ n h. (h.0, read_rows _ n row h.1) } in
    subst (λ (q : Expr × List Further). Parts (Chain' p y s row) q.0 q.1) same here
by_parts (Number n) first fs e = cc
by_parts Payload first fs e = cc
by_parts (Word w) first fs e = cc
by_parts (Element' base len p index) first fs e = cc
by_parts (Signed' sign p operand) first fs e = cc

pub chain_value_is : (first : Box Expr Global) (rest : Vec Further Global) (words : List ℤ) (x : ℤ) → value_of (Chain first rest) words x ≡ rows_value rest.items words x (value_of first.value words x)
chain_value_is first rest words x = (by_parts (Chain first rest) first.value rest.items (ap (λ l. Some (first.value, l)) (items_hidden-the_row-Further-0 rest))).value_is words x

pub chain_reads : (first : Box Expr Global) (rest : Vec Further Global) (n : ℕ) → Reads n (Chain first rest) → Reads n first.value × RowsRead n rest.items
chain_reads first rest n h = (by_parts (Chain first rest) first.value rest.items (ap (λ l. Some (first.value, l)) (items_hidden-the_row-Further-0 rest))).reads n h

pub row_reads : (n : ℕ) (fs : List Further) (k : ℕ) (f : Further) → RowsRead n fs → slice_get fs k ≡ Some f → Reads n f.operand
row_reads n [] k f h e = cc
row_reads n (g ∷ fs) zero f h e = let same : g ≡ f = cc in subst (λ (x : Further). Reads n x.operand) same h.0
row_reads n (g ∷ fs) (suc k) f h e = row_reads n fs k f h.1 e

-- one operand more
pub rows_next : (fs : List Further) (k : ℕ) (f : Further) (words : List ℤ) (x v : ℤ) → slice_get fs k ≡ Some f → rows_value (drop k fs) words x v ≡ rows_value (drop (k + 1) fs) words x (operator_value f.operator v (value_of f.operand words x))
rows_next [] k f words x v e = cc
rows_next (g ∷ fs) zero f words x v e = let same : g ≡ f = cc in ap (λ (y : Further). rows_value fs words x (operator_value y.operator v (value_of y.operand words x))) same
rows_next (g ∷ fs) (suc k) f words x v e =
    let more : suc (k + 1) ≡ suc k + 1 = omega arith in
    rows_next fs k f words x v e ∙ ap (λ j. rows_value (drop j (g ∷ fs)) words x (operator_value f.operator v (value_of f.operand words x))) more
