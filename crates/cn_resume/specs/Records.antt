-- What the first records of a log tell.
use Rattle.std.specs.Prelude.{◌≡◌, ⊤, ℕ, ◌<◌, List, map, count_by, slice_index}
use Rattle.std.specs.List.{range_with_len}
use Rattle.cat_program.specs.declared.outs.LogEntry.{LogEntry}
use Rattle.cat_program.specs.declared.outs.LogEntry.TheVariants.{Out, Ran}
use Rattle.cat_program.specs.Checked.{Checked}
use Rattle.nv_memory.specs.declared.layout.Layout.{Layout}
use Rattle.nv_log.specs.Record.{record_bytes, entry_of, IsSpelled}
use Rattle.recovery.specs.Committed.{is_ran}
use Rattle.cn_resume.specs.declared.fault.ImageFault.{ImageFault}
use Rattle.cn_resume.specs.declared.fault.ImageFault.TheVariants.{BadImage, NoMemory}
use Rattle.cn_resume.specs.declared.fault.ImageKind.TheVariants.{Record}

-- the entry that a record stands for, where it spells one
abbrev pub entry_in : Layout → List ℕ → ℕ → LogEntry
entry_in l image k = entry_of l (record_bytes l k image)

-- the entries of the first n records
abbrev pub entries_in : Layout → List ℕ → ℕ → List LogEntry
entries_in l image n = map (entry_in l image) (range_with_len 0 n)

-- an event that ran started before a tick
abbrev pub StartsBefore : ℕ → LogEntry → Type 0
StartsBefore tick (Out channel value) = Unit {0}
StartsBefore tick (Ran event version steps start index) = start < tick

-- a record spells an entry of the program, which is no later than a tick
pub record IsRecord (l : Layout) (program : Checked) (tick : ℕ) (image : List ℕ) (k : ℕ) : Type 0 where
  pub entry : LogEntry
  pub spelled : IsSpelled l program (record_bytes l k image) entry
  pub before : StartsBefore tick entry

-- an event's done count is the number of its entries
abbrev pub IsCounted : List ℕ → List LogEntry → ℕ → Type 0
IsCounted done entries event = slice_index done event ≡ count_by (is_ran event) entries

-- each number below n has a property
abbrev pub EachBelow : (ℕ → Type 0) → ℕ → Type 0
EachBelow P n = (k : ℕ) → k < n → P k

-- the first number below n that doesn't have it
pub record IsFirstWithout (P : ℕ → Type 0) (n at : ℕ) : Type 0 where
  pub within : at < n
  pub before : EachBelow P at
  pub without : ¬ (P at)

-- a record is the first without a property
abbrev pub IsBadRecord : (ℕ → Type 0) → ℕ → ImageFault → Type 0
IsBadRecord P n (BadImage kind at) = (kind ≡ Record) × IsFirstWithout P n at
IsBadRecord P n NoMemory = ⊤
