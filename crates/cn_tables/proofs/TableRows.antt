-- The rows of a table, one after the other.
use Rattle.std.proofs.Common.{◌≡◌, ℕ, ◌+◌, List, [], ◌∷◌, Ok, Err, refl, ap}
use Rattle.cn_tables.specs.Table.{Fields, Step, after_row, read_rows}
use Rattle.cn_tables.specs.declared.fault.RowKind.{RowKind}

-- no row is left
pub read_rows-end : {A : Type 0} (step : Step A) (number : ℕ) (found : A) (rows : List Fields) → rows ≡ [] → read_rows step number found rows ≡ Ok found
unfolding read_rows
read_rows-end step number found rows e = rw e refl

-- a row with no fault
pub read_rows-more : {A : Type 0} (step : Step A) (number : ℕ) (found next : A) (rows : List Fields) (fields : Fields) (rest : List Fields) → rows ≡ fields ∷ rest → step number found fields ≡ Ok next
    → read_rows step number found rows ≡ read_rows step (number + 1) next rest
unfolding read_rows
read_rows-more step number found next rows fields rest e good = rw e (ap (after_row (λ a. read_rows step (number + 1) a rest) number) good)

-- a row with a fault
pub read_rows-bad : {A : Type 0} (step : Step A) (number : ℕ) (found : A) (kind : RowKind) (rows : List Fields) (fields : Fields) (rest : List Fields) → rows ≡ fields ∷ rest → step number found fields ≡ Err kind
    → read_rows step number found rows ≡ Err (number, kind)
unfolding read_rows
read_rows-bad step number found kind rows fields rest e bad = rw e (ap (after_row (λ a. read_rows step (number + 1) a rest) number) bad)
