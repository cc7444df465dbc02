-- The committed log of a replay.
use Rattle.std.specs.Prelude.{ℕ, List, map}
use Rattle.std.specs.List.{range_with_len}
use Rattle.cat_program.specs.Checked.{Checked}
use Rattle.cat_program.specs.declared.outs.LogEntry.{LogEntry}
use Rattle.nv_memory.specs.declared.layout.Layout.{Layout}
use Rattle.nv_log.specs.Record.{entry_of, record_bytes}
use Rattle.recovery.specs.Committed.{Committed, IsCommitted}
use Rattle.recovery.specs.Past.{Past, entry_in, last_slot}

-- its entries, in order
abbrev pub log_of : Past → List LogEntry
log_of past = map (entry_in past) (range_with_len 0 (last_slot past).len)

-- the entry that a record of an image stands for
abbrev pub entry_by : Layout → List ℕ → ℕ → LogEntry
entry_by l image place = entry_of l (record_bytes l place image)

-- the image has committed some value
pub record HasCommitted (l : Layout) (program : Checked) (image : List ℕ) : Type 0 where
  pub value : Committed
  pub is : IsCommitted l program image value
