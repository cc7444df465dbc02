-- The lines of what came of it: the committed log, how it ended, and the variables.
use Rattle.std.specs.Prelude.{ℕ, ◌+◌, ℤ, pos, List, [], ◌∷◌, map, nat_le, nat_lt, if◌then◌else◌, Bool, Option, Some, None, slice_get, slice_index_or, codes, decimal}
use Rattle.std.specs.Fmt.{signed_decimal}
use Rattle.std.specs.List.{flat_map, range_with_len}
use Rattle.std.specs.Option.{option_map_or}
use Rattle.cat_program.specs.declared.headers.Event.{Event}
use Rattle.cat_program.specs.declared.headers.Variable.{Variable}
use Rattle.cat_program.specs.declared.outs.LogEntry.{LogEntry}
use Rattle.cat_program.specs.declared.outs.LogEntry.TheVariants.{Out, Ran}
use Rattle.event_arrivals.specs.Arrivals.{Lists, arrival_at}
use Rattle.checkpoint_slots.specs.declared.slot.Slot.{Slot}
use Rattle.checkpoint_slots.specs.Slot.{variables_of}
use Rattle.cn_scheduler.specs.declared.engine.End.{End}
use Rattle.cn_scheduler.specs.declared.engine.End.TheVariants.{TraceEnded, LogFull}
use Rattle.cn_base.specs.Texts.{line, in_turn}
use Rattle.cn_report.specs.Report.{name_of}
use Rattle.recovery.specs.Past.{Past, last_slot, entry_in, done_at}

-- ---- the log

-- the tick of an arrival
abbrev pub arrived_at : Lists → ℕ → ℕ → ℕ
arrived_at lists event index = option_map_or (λ arrival. arrival.tick) (arrival_at lists event index) 0

-- the tick by which it is to be done
abbrev pub due_at : List Event → Lists → ℕ → ℕ → ℕ
due_at headers lists event index = arrived_at lists event index + option_map_or (λ header. header.deadline) (slice_get headers event) 0

abbrev pub out_line : ℕ → ℤ → List ℕ
out_line channel value = line (codes "out" ∷ decimal channel ∷ signed_decimal value ∷ [])

-- met where it was done in time
abbrev pub word_of : Bool → List ℕ
word_of met = if met then codes "met" else codes "late"

abbrev pub ran_line : List ℕ → ℕ → ℕ → ℕ → ℕ → ℕ → List ℕ → List ℕ
ran_line name index version arrived started done word =
    line (codes "ran" ∷ name ∷ decimal index ∷ decimal version ∷ decimal arrived ∷ decimal started ∷ decimal done ∷ word ∷ [])

-- where it was there before the run began, which doesn't know when it was done
abbrev pub before_line : List ℕ → ℕ → ℕ → ℕ → ℕ → List ℕ
before_line name index version arrived started =
    line (codes "ran" ∷ name ∷ decimal index ∷ decimal version ∷ decimal arrived ∷ decimal started ∷ codes "-" ∷ codes "before" ∷ [])

-- of an entry of the log, by the tick at which it was committed, where that is known
abbrev pub log_line : List Event → Lists → Option ℕ → LogEntry → List ℕ
log_line headers lists tick (Out channel value) = out_line channel value
log_line headers lists (Some done) (Ran event version steps start index) =
    ran_line (name_of (slice_get headers event)) index version (arrived_at lists event index) start done (word_of (nat_le done (due_at headers lists event index)))
log_line headers lists None (Ran event version steps start index) =
    before_line (name_of (slice_get headers event)) index version (arrived_at lists event index) start

-- what a run knows of when the record at a place was committed: nothing of the first `from` ones, which were there before it began
abbrev pub known_at : Past → ℕ → ℕ → Option ℕ
known_at past from place = if nat_lt place from then None else Some (done_at past place)

-- the line of the record at a place
unfoldable pub record_line : List Event → Lists → Past → ℕ → ℕ → List ℕ
record_line headers lists past from place = log_line headers lists (known_at past from place) (entry_in past place)

abbrev pub log_text : List Event → Lists → Past → ℕ → List ℕ
log_text headers lists past from = in_turn (record_line headers lists past from) (last_slot past).len

-- ---- the end

abbrev pub end_word : End → List ℕ
end_word TraceEnded = codes "trace"
end_word LogFull = codes "log"

abbrev pub end_line : ℕ → ℕ → ℕ → End → List ℕ
end_line tick stored steps ending = line (codes "end" ∷ decimal tick ∷ decimal stored ∷ decimal steps ∷ end_word ending ∷ [])

-- the value of each word of a variable
abbrev pub value_of : Slot → ℕ → ℤ
value_of slot word = slice_index_or (variables_of slot) word (pos 0)

abbrev pub values_of : Slot → Variable → List ℤ
values_of slot variable = map (value_of slot) (range_with_len variable.base variable.len)

abbrev pub variable_line : Slot → Variable → List ℕ
variable_line slot variable = line (codes "var" ∷ variable.name ∷ map signed_decimal (values_of slot variable))

abbrev pub variables_text : Slot → List Variable → List ℕ
variables_text slot variables = flat_map (variable_line slot) variables
