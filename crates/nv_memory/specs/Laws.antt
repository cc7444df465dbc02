-- What holds of writes, of runs and of layouts, whatever they are: the crates above have it from the functions of src/laws.rt.
use Rattle.std.specs.Prelude.{◌≡◌, ◌≢◌, ℕ, ◌+◌, ◌*◌, ◌<◌, ◌≤◌, Bool, List, [], ◌∷◌, ◌++◌, length, take, drop, slice_index}
use Rattle.nv_memory.specs.declared.device.Class.{Class}
use Rattle.nv_memory.specs.declared.device.Device.{Device}
use Rattle.nv_memory.specs.declared.layout.Layout.{Layout}
use Rattle.nv_memory.specs.declared.entry.Op.{Op}
use Rattle.nv_memory.specs.declared.board.Answer.{Answer}
use Rattle.nv_memory.specs.declared.board.Answer.TheVariants.{Done}
use Rattle.nv_memory.specs.Bytes.{written, bytes_at, repeated}
use Rattle.nv_memory.specs.Layout.{cells_of, lines_of, slot_at, log_at, record_len, record_at, size_of}
use Rattle.nv_memory.specs.Board.{State, Start, IsSound, IsIn, Steps, Runs, after, image_after, leaving, left_of, ticks_of}
use Rattle.nv_memory.specs.AnyBoard.{cost_of}

-- a write changes the bytes of its range and no others
pub record WritesAreLocal : Type 0 where
  pub size : (at : ℕ) (bytes image : List ℕ) → at + length bytes ≤ length image → length (written at bytes image) ≡ length image
  -- what stands in front of it stays, and what stands behind it
  pub front : (n at : ℕ) (bytes image : List ℕ) → n ≤ at → at ≤ length image → take n (written at bytes image) ≡ take n image
  pub back : (n at : ℕ) (bytes image : List ℕ) → at + length bytes ≤ n → at + length bytes ≤ length image → drop n (written at bytes image) ≡ drop n image
  -- its range has its bytes, and each range before or behind it what it had
  pub own : (at : ℕ) (bytes image : List ℕ) → at + length bytes ≤ length image → bytes_at at (length bytes) (written at bytes image) ≡ bytes
  pub before : (p n at : ℕ) (bytes image : List ℕ) → p + n ≤ at → at ≤ length image → bytes_at p n (written at bytes image) ≡ bytes_at p n image
  pub behind : (p n at : ℕ) (bytes image : List ℕ) → at + length bytes ≤ p → at + length bytes ≤ length image → bytes_at p n (written at bytes image) ≡ bytes_at p n image
  -- two writes side by side are one
  pub joined : (at : ℕ) (first second image : List ℕ) → at + length first + length second ≤ length image → written (at + length first) second (written at first image) ≡ written at (first ++ second) image
  -- a write of what stands there changes nothing, and neither does one of no bytes
  pub same : (at : ℕ) (bytes image : List ℕ) → at ≤ length image → bytes_at at (length bytes) image ≡ bytes → written at bytes image ≡ image
  pub none : (at : ℕ) (image : List ℕ) → written at [] image ≡ image
  -- lists that agree before a place agree in each range before it
  pub range : (p n at : ℕ) (xs ys : List ℕ) → p + n ≤ at → take at xs ≡ take at ys → bytes_at p n xs ≡ bytes_at p n ys

-- runs follow one another
pub record RunsAreJoined : Type 0 where
  pub joined : (first second : List Op) (old mid new : State) (answer : Answer) → Runs old first Done mid → Runs mid second answer new → Runs old (first ++ second) answer new
  -- a run that stopped asks for nothing more
  pub stopped : (first second : List Op) (old new : State) (answer : Answer) → answer ≢ Done → Runs old first answer new → Runs old (first ++ second) answer new
  pub one : (op : Op) (old new : State) (answer : Answer) → Steps old op answer new → Runs old (op ∷ []) answer new
  -- the operation behind a run that was done, where it stops
  pub stops : (first later : List Op) (op : Op) (old mid new : State) (answer : Answer) → answer ≢ Done → Runs old first Done mid → Steps mid op answer new → Runs old (first ++ op ∷ later) answer new

-- the gate, the slots, the log and its records stand apart
pub record PartsAreApart (l : Layout) : Type 0 where
  pub gate : (s : ℕ) → 64 ≤ slot_at l s
  pub slots : slot_at l 0 + 64 * lines_of l ≤ slot_at l 1
  pub log : (s : ℕ) → s ≤ 1 → slot_at l s + 64 * lines_of l ≤ log_at l
  pub records : (k place : ℕ) → k < place → record_at l k + record_len l ≤ record_at l place
  pub size : (place : ℕ) → place < l.log → record_at l place + record_len l ≤ size_of l
  pub begin : (place : ℕ) → log_at l ≤ record_at l place
  pub fits : log_at l ≤ size_of l
  -- a slot has a line at least, and its numbers fit into its lines
  pub some_lines : 1 ≤ lines_of l
  pub cells : cells_of l ≤ 16 * lines_of l

-- what a layout's type keeps of its numbers makes no two layouts of the same ones
abbrev pub LayoutsAreNumbers : Type 0
LayoutsAreNumbers = (a b : Layout) → a.words ≡ b.words → a.tasks ≡ b.tasks → a.events ≡ b.events → a.log ≡ b.log → a.format ≡ b.format → a.base ≡ b.base → a ≡ b

-- how long an operation takes, and where it writes with other bytes
pub record OperationsAreBounded : Type 0 where
  -- a class takes 1 to 1,000 ticks on each device, and so no operation takes none
  pub some : (d : Device) (kind : Class) → 1 ≤ (cost_of d kind).ticks
  pub few : (d : Device) (kind : Class) → (cost_of d kind).ticks ≤ 1000
  pub ticks : (ticks : Class → ℕ) (op : Op) → ((kind : Class) → 1 ≤ ticks kind) → 1 ≤ ticks_of ticks op
  -- a fill gives as many bytes as are asked for, and with as many bytes an operation writes inside the image again
  pub filling : (fill : List ℕ) (n : ℕ) → length (repeated fill n) ≡ n
  pub within : (op : Op) (bytes image : List ℕ) → length bytes ≡ length (left_of op) → IsIn op image → IsIn (leaving op bytes) image

-- what holds of every board still holds after an operation, whatever it drew and what its ticks gave
abbrev pub BoardsStaySound : Type 0
BoardsStaySound = (start : Start) (s : State) (op : Op) (lost : Bool) (drawn : ℕ) (passed : List ℕ) → IsSound start s → IsIn op s.image → 1 ≤ length passed → s.tick + length passed ≤ s.life
    → ((k : ℕ) → slice_index (image_after op s.image) k < 256) → IsSound start (after s op lost drawn passed)
