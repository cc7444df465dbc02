-- What is read from bytes, zeros standing behind the last one.
use Rattle.std.specs.Prelude.{◌≡◌, ℕ, zero, suc, ◌<◌, ◌≤◌, ◌+◌, ◌*◌, ◌%◌, ◌^◌, ℤ, List, [], ◌∷◌, drop, slice_index, nat_lt, ◌==◌, if◌then◌else◌}
use Rattle.std.specs.Int.{w16, w32, from_le_bytes, cast_signed}
use Rattle.cat_program.specs.declared.syntax.Operator.{Operator}
use Rattle.cat_program.specs.declared.syntax.Operator.TheVariants as o
use Rattle.cat_program.specs.declared.syntax.Sign.TheVariants as s
use Rattle.cat_machine.specs.declared.instr.Instr.{Instr}
use Rattle.cat_machine.specs.declared.instr.Instr.TheVariants as i
use Rattle.cn_object.specs.declared.object.Object.{Object}
use Rattle.cn_object.specs.declared.parts.Parts.{Parts}
use Rattle.cn_object.specs.Spelling.{cut, parts, parts_of}

abbrev pub short_of : List ℕ → ℕ
short_of bytes = from_le_bytes w16 (slice_index bytes 0 ∷ slice_index bytes 1 ∷ [])

abbrev pub number_of : List ℕ → ℕ
number_of bytes = from_le_bytes w32 (slice_index bytes 0 ∷ slice_index bytes 1 ∷ slice_index bytes 2 ∷ slice_index bytes 3 ∷ [])

-- n numbers, each so many bytes behind the one before
abbrev pub read_numbers : ℕ → ℕ → List ℕ → List ℕ
read_numbers step zero bytes = []
read_numbers step (suc n) bytes = number_of bytes ∷ read_numbers step n (drop step bytes)

abbrev pub read_words : ℕ → List ℕ → List ℤ
read_words zero bytes = []
read_words (suc n) bytes = cast_signed w32 (number_of bytes) ∷ read_words n (drop 4 bytes)

abbrev pub read_started : ℕ → List ℕ → List ℕ
read_started zero bytes = []
read_started (suc n) bytes = short_of bytes ∷ read_started n (drop 8 bytes)

-- the entries of one event, and what stands behind it
abbrev pub read_event : List ℕ → List ℕ
read_event bytes = read_numbers 4 (slice_index bytes 0) (drop 4 bytes)

abbrev pub after_event : List ℕ → List ℕ
after_event bytes = drop (4 + 4 * slice_index bytes 0) bytes

abbrev pub read_versions : ℕ → List ℕ → List (List ℕ)
read_versions zero bytes = []
read_versions (suc n) bytes = read_event bytes ∷ read_versions n (after_event bytes)

abbrev pub after_versions : ℕ → List ℕ → List ℕ
after_versions zero bytes = bytes
after_versions (suc n) bytes = after_versions n (after_event bytes)

abbrev pub operator_in : ℕ → Operator
operator_in n =
    if n == 5 then o.Add else if n == 6 then o.Sub else if n == 7 then o.Mul else if n == 8 then o.Div else if n == 9 then o.Rem else if n == 10 then o.Eq
    else if n == 11 then o.Ne else if n == 12 then o.Lt else if n == 13 then o.Le else if n == 14 then o.Gt else if n == 15 then o.Ge else if n == 16 then o.And else o.Or

-- an instruction with a number from 18 on
abbrev pub other_in : Parts → Instr
other_in p =
    if p.number == 18 then i.Jump p.c else if p.number == 19 then i.JumpZero p.c else if p.number == 20 then i.Turn p.c
    else if p.number == 21 then i.Begin p.a else if p.number == 23 then i.LoadAt (p.c % 2 ^ 16) p.b else if p.number == 24 then i.Store (p.c % 2 ^ 16)
    else if p.number == 25 then i.StoreAt (p.c % 2 ^ 16) p.b else if p.number == 26 then i.Post p.a else if p.number == 27 then i.Out p.a else i.End

abbrev pub first_in : Parts → Instr
first_in p =
    if p.number == 0 then i.Push (cast_signed w32 p.c) else if p.number == 1 then i.Load (p.c % 2 ^ 16) else if p.number == 2 then i.Payload
    else if p.number == 3 then i.Signed s.Neg else i.Signed s.Not

abbrev pub instr_in : Parts → Instr
instr_in p = if nat_lt p.number 5 then first_in p else if nat_lt p.number 18 then i.Operate (operator_in p.number) else other_in p

abbrev pub parts_in : List ℕ → Parts
parts_in bytes = parts (slice_index bytes 0) (slice_index bytes 1) (short_of (drop 2 bytes)) (number_of (drop 4 bytes))

abbrev pub read_instrs : ℕ → List ℕ → List Instr
read_instrs zero bytes = []
read_instrs (suc n) bytes = instr_in (cut (parts_in bytes)) ∷ read_instrs n (drop 8 bytes)

abbrev pub read_parts : ℕ → List ℕ → List Parts
read_parts zero bytes = []
read_parts (suc n) bytes = parts_in bytes ∷ read_parts n (drop 8 bytes)

-- the parts are those of an instruction, up to a word that no object has
abbrev pub AreWhole : Parts → Type 0
AreWhole p = parts_of (instr_in (cut p)) ≡ cut p

-- ---- the counts, and the parts behind them

abbrev pub words_in : List ℕ → ℕ
words_in bytes = short_of (drop 4 bytes)

abbrev pub tasks_in : List ℕ → ℕ
tasks_in bytes = slice_index bytes 6

abbrev pub events_in : List ℕ → ℕ
events_in bytes = slice_index bytes 7

abbrev pub count_in : List ℕ → ℕ
count_in bytes = number_of (drop 8 bytes)

abbrev pub after_head : List ℕ → List ℕ
after_head bytes = drop 12 bytes

abbrev pub after_words : List ℕ → List ℕ
after_words bytes = drop (4 * words_in bytes) (after_head bytes)

abbrev pub after_tasks : List ℕ → List ℕ
after_tasks bytes = drop (8 * tasks_in bytes) (after_words bytes)

abbrev pub after_events : List ℕ → List ℕ
after_events bytes = after_versions (events_in bytes) (after_tasks bytes)

abbrev pub read_object : List ℕ → Object
read_object bytes = record {
  code = record {
    instrs = read_instrs (count_in bytes) (after_events bytes);
    tasks = read_numbers 8 (tasks_in bytes) (drop 4 (after_words bytes));
    versions = read_versions (events_in bytes) (after_tasks bytes);
  };
  words = read_words (words_in bytes) (after_head bytes);
  started = read_started (tasks_in bytes) (after_words bytes);
}

-- the counts are within the limits
pub record HasFewParts (bytes : List ℕ) : Type 0 where
  pub words : words_in bytes ≤ 1024
  pub tasks : tasks_in bytes ≤ 16
  pub events : events_in bytes ≤ 16
  pub count : count_in bytes ≤ 60000

pub record AreBytes (bytes : List ℕ) : Type 0 where
  pub each : (k : ℕ) → slice_index bytes k < 256
