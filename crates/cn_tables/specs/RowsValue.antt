-- What a reader of rows is seen as.
use Rattle.std.specs.Prelude.{ℕ, ◌+◌, ◌≡◌, ◌&&◌, ◌||◌, not, Bool, true, false, List, [], length, Option, Some, None, is_none}
use Rattle.csv.specs.Machine.{ends_at_end}
use Rattle.csv.specs.Reading.{default_config, has_failed, names_headers, is_flexible, reader_config, reader_headers, reader_state, reader_trim, records_from, source_of, took_first}
use Rattle.csv.specs.declared.parser.State.{State}
use Rattle.csv.specs.declared.reader.Reader.{Reader}
use Rattle.csv.specs.declared.reader.Trim.TheVariants as trim
use Rattle.cn_tables.specs.Table.{Fields}

-- the fields of the row that was read last, and the rows after it
pub record RowsLeft : Type 0 where
  pub current : List (List ℕ)
  pub left : List (List (List ℕ))

-- the records of these bytes from a state between two records
abbrev pub left_from : State → List ℕ → List Fields
left_from state bytes = records_from default_config (length bytes + 1) state bytes

abbrev pub left_by : State → Option (List ℕ) → List Fields
left_by state None = []
left_by state (Some bytes) = left_from state bytes

-- the records that a reader has yet to give
abbrev pub left_of : {R : Type 0} → (R → Option (List ℕ)) → Reader R → List Fields
left_of rem reader = left_by (reader_state reader) (source_of rem reader)

-- the next read of the reader gives the next record
abbrev pub is_ready : {R : Type 0} → Reader R → Bool
is_ready reader = took_first reader || (not (names_headers reader) && is_none (reader_headers reader))

-- the reader stands between two records of a text with commas, of whatever lengths
pub record IsReading {R : Type 0} (reader : Reader R) : Type 0 where
  pub going : has_failed reader ≡ false
  pub config : reader_config reader ≡ default_config
  pub trim : reader_trim reader ≡ trim.None
  pub flexible : is_flexible reader ≡ true
  pub ready : is_ready reader ≡ true
  pub between : ends_at_end (reader_state reader) ≡ false
