-- How many records of the committed log are of each kind.
use Rattle.std.specs.Prelude.{ℕ, Bool, true, false, not, List, nat_le, count_by}
use Rattle.std.specs.List.{range_with_len}
use Rattle.cat_program.specs.declared.headers.Event.{Event}
use Rattle.cat_program.specs.declared.outs.LogEntry.{LogEntry}
use Rattle.cat_program.specs.declared.outs.LogEntry.TheVariants.{Out, Ran}
use Rattle.event_arrivals.specs.Arrivals.{Lists}
use Rattle.recovery.specs.Past.{Past, last_slot, entry_in, done_at}
use Rattle.cn_report.specs.Outcome.{due_at}

abbrev pub is_out : LogEntry → Bool
is_out (Out channel value) = true
is_out (Ran event version steps start index) = false

-- of an event
abbrev pub is_ran : LogEntry → Bool
is_ran entry = not (is_out entry)

-- of an event that was done in time
abbrev pub is_met : List Event → Lists → ℕ → LogEntry → Bool
is_met headers lists done (Out channel value) = false
is_met headers lists done (Ran event version steps start index) = nat_le done (due_at headers lists event index)

-- how many places of the log have such a record
abbrev pub records : Past → (ℕ → Bool) → ℕ
records past test = count_by test (range_with_len 0 (last_slot past).len)

abbrev pub outs_in : Past → ℕ
outs_in past = records past (λ place. is_out (entry_in past place))

abbrev pub ran_in : Past → ℕ
ran_in past = records past (λ place. is_ran (entry_in past place))

abbrev pub met_in : List Event → Lists → Past → ℕ
met_in headers lists past = records past (λ place. is_met headers lists (done_at past place) (entry_in past place))
