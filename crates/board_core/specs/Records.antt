-- The entries for which the records of a timeline stand.
use Rattle.std.specs.Prelude.{◌≡◌, ◌⊎◌, ℕ, zero, suc, ◌+◌, ◌*◌, ◌<◌, ◌≤◌, min, get_or, List, [], ◌∷◌, length, Bool, true, false, not, All}
use Rattle.std.specs.List.Sorted.{IsPartitionPoint}
use Rattle.cn_base.specs.declared.TheConstants.{MOST_TICKS}
use Rattle.nv_memory.specs.declared.entry.Entry.{Entry}
use Rattle.nv_memory.specs.declared.entry.Op.{Op}
use Rattle.nv_memory.specs.declared.entry.Op.TheVariants as op
use Rattle.nv_memory.specs.Bytes.{bytes_at}
use Rattle.board_core.specs.declared.record.What.{What}
use Rattle.board_core.specs.declared.record.What.TheVariants as what
use Rattle.board_core.specs.declared.record.Record.{Record}
use Rattle.board_core.specs.declared.record.Record.TheVariants.{Did, Slept}

-- an entry for each of n ticks of sleep, in each of which so much is harvested
unfoldable pub sleeps : ℕ → ℕ → ℕ → ℕ → ℕ → List Entry
sleeps cap tick stored harvest zero = []
sleeps cap tick stored harvest (suc n) =
    record { tick = tick; stored = stored; drawn = 0; ticks = 1; op = op.Sleep; lost = false } ∷ sleeps cap (tick + 1) (min cap (stored + harvest)) harvest n

-- the operation, with the bytes that were laid aside
abbrev pub op_of : List ℕ → What → Op
op_of left (what.Instr class pc) = op.Instr class pc
op_of left (what.Emit pc at from len) = op.Emit pc at (bytes_at from len left)
op_of left (what.Write at from len) = op.Write at (bytes_at from len left)
op_of left what.Wake = op.Wake
op_of left what.Sleep = op.Sleep

-- the entries for which a record stands
abbrev pub entries_by : ℕ → List ℕ → Record → List Entry
entries_by cap left (Did tick stored drawn ticks lost done) =
    record { tick = tick; stored = stored; drawn = drawn; ticks = ticks; op = op_of left done; lost = lost } ∷ []
entries_by cap left (Slept tick stored harvest ticks) = sleeps cap tick stored harvest ticks

-- and how many they are
abbrev pub width : Record → ℕ
width (Did tick stored drawn ticks lost done) = 1
width (Slept tick stored harvest ticks) = ticks

-- whether all of them are silent: ticks of sleep, or an instruction without an output that was done
abbrev pub is_silent : Record → Bool
is_silent (Did tick stored drawn ticks lost (what.Instr class pc)) = not lost
is_silent (Did tick stored drawn ticks lost (what.Emit pc at from len)) = false
is_silent (Did tick stored drawn ticks lost (what.Write at from len)) = false
is_silent (Did tick stored drawn ticks lost what.Wake) = false
is_silent (Did tick stored drawn ticks lost what.Sleep) = false
is_silent (Slept tick stored harvest ticks) = true

-- how many entries there are up to each record and with it, where there are `start` before the first
unfoldable pub ends_from : ℕ → List Record → List ℕ
ends_from start [] = []
ends_from start (r ∷ rs) = (start + width r) ∷ ends_from (start + width r) rs

-- where the bytes end that an operation laid aside, and how many they are
abbrev pub left_end : What → ℕ
left_end (what.Instr class pc) = 0
left_end (what.Emit pc at from len) = from + len
left_end (what.Write at from len) = from + len
left_end what.Wake = 0
left_end what.Sleep = 0

abbrev pub left_len : What → ℕ
left_len (what.Instr class pc) = 0
left_len (what.Emit pc at from len) = len
left_len (what.Write at from len) = len
left_len what.Wake = 0
left_len what.Sleep = 0

abbrev pub record_end : Record → ℕ
record_end (Did tick stored drawn ticks lost done) = left_end done
record_end (Slept tick stored harvest ticks) = 0

abbrev pub record_len : Record → ℕ
record_len (Did tick stored drawn ticks lost done) = left_len done
record_len (Slept tick stored harvest ticks) = 0

-- the tick at which sleep ends, and what was stored as it began
abbrev pub sleep_end : Record → ℕ
sleep_end (Did tick stored drawn ticks lost done) = 0
sleep_end (Slept tick stored harvest ticks) = tick + ticks

abbrev pub sleep_stored : Record → ℕ
sleep_stored (Did tick stored drawn ticks lost done) = 0
sleep_stored (Slept tick stored harvest ticks) = stored

-- a record can be shown
pub record IsHeld (cap size : ℕ) (r : Record) : Type 0 where
  pub some : 1 ≤ width r
  pub in_cap : sleep_stored r ≤ cap
  pub in_time : sleep_end r ≤ MOST_TICKS
  pub in_left : record_end r ≤ size
  pub short : record_len r ≤ 64

-- what a timeline keeps beside its records
pub record IsKept (cap : ℕ) (records : List Record) (ends left : List ℕ) (count : ℕ) : Type 0 where
  pub ends_are : ends ≡ ends_from 0 records
  pub held : All (IsHeld cap (length left)) records
  pub few : length records ≤ count
  pub small : length left ≤ 64 * length records

-- for each 64th place, the record in which it is
pub record IsMarked (marks ends : List ℕ) (count : ℕ) : Type 0 where
  pub covers : count ≤ 64 * length marks
  pub no_more : 64 * length marks < count + 64
  pub inside : (b : ℕ) → b < length marks → get_or marks b 0 < length ends
  pub points : (b : ℕ) → b < length marks → IsPartitionPoint (λ end. end ≤ 64 * b) (λ end. 64 * b < end) ends (get_or marks b 0)

-- where the search for a place under a mark ends: behind the record of the next mark, or at the end
abbrev pub IsLast : List ℕ → List ℕ → ℕ → ℕ → Type 0
IsLast marks ends b last = (last ≡ length ends) ⊎ ((b + 1 < length marks) × (last ≡ get_or marks (b + 1) 0 + 1))

-- the records before `first` end before a place or at it, and those from `last` on behind it
pub record IsNarrow (ends : List ℕ) (place first last : ℕ) : Type 0 where
  pub order : first ≤ last
  pub within : last ≤ length ends
  pub before : (k d : ℕ) → k < first → get_or ends k d ≤ place
  pub behind : (k d : ℕ) → last ≤ k → k < length ends → place < get_or ends k d
