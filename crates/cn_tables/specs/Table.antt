-- The rows of a table, and the first fault among them.
use Rattle.std.specs.Prelude.{ℕ, ◌+◌, nat_eq, nat_lt, if◌then◌else◌, Bool, false, List, [], ◌∷◌, length, Result, Ok, Err}
use Rattle.std.specs.Cmp.Lexicographic.{pointwise}
use Rattle.csv.specs.Reading.{records, default_config, is_bom}
use Rattle.cn_tables.specs.declared.fault.RowKind.{RowKind}
use Rattle.cn_tables.specs.declared.fault.RowKind.TheVariants.{Long, Header}

-- the fields of one record
abbrev pub Fields : Type 0
Fields = List (List ℕ)

-- a row's number and what is wrong with it
abbrev pub Bad : Type 0
Bad = ℕ × RowKind

-- a byte order mark stands at the front
abbrev pub begins_with_mark : List ℕ → Bool
begins_with_mark [] = false
begins_with_mark (a ∷ []) = false
begins_with_mark (a ∷ b ∷ []) = false
begins_with_mark (a ∷ b ∷ c ∷ rest) = is_bom a b c

-- two records with the same fields, byte for byte
abbrev pub same_fields : Fields → Fields → Bool
same_fields = pointwise (pointwise nat_eq)

-- the records after the header, which must come first
abbrev pub rows_under : Fields → List Fields → Result (List Fields) Bad
rows_under header [] = Err (0, Header)
rows_under header (first ∷ rows) = if same_fields first header then Ok rows else Err (0, Header)

-- the greatest length of a file
abbrev pub most_bytes : ℕ
most_bytes = 16777216

-- the rows of a table's text
abbrev pub table_rows : Fields → List ℕ → Result (List Fields) Bad
table_rows header bytes =
    if nat_lt most_bytes (length bytes) then Err (0, Long)
    else if begins_with_mark bytes then Err (0, Header)
    else rows_under header (records default_config bytes)

-- what one row does to what the rows before it came to, by the row's number
abbrev pub Step : Type 0 → Type 0
Step A = ℕ → A → Fields → Result A RowKind

abbrev pub after_row : {A : Type 0} → (A → Result A Bad) → ℕ → Result A RowKind → Result A Bad
after_row more row (Ok found) = more found
after_row more row (Err kind) = Err (row, kind)

-- the rows in order from number `row` on; the first with a fault decides
unfoldable pub read_rows : {A : Type 0} → Step A → ℕ → A → List Fields → Result A Bad
read_rows step row found [] = Ok found
read_rows step row found (fields ∷ rest) = after_row (λ next. read_rows step (row + 1) next rest) row (step row found fields)

abbrev pub then_rows : {A : Type 0} → (List Fields → Result A Bad) → Result (List Fields) Bad → Result A Bad
then_rows more (Ok rows) = more rows
then_rows more (Err bad) = Err bad

-- what a table's text comes to, or its first fault
abbrev pub read_table : {A : Type 0} → Fields → Step A → A → List ℕ → Result A Bad
read_table header step start bytes = then_rows (read_rows step 1 start) (table_rows header bytes)
