-- The text of a link: how it stood after its table, how many rounds it took from there, and what the host holds in the end.
use Rattle.std.specs.Prelude.{◌≡◌, ℕ, List, [], ◌∷◌, ◌++◌, length, slice_get, codes, decimal}
use Rattle.std.specs.Fmt.{signed_decimal}
use Rattle.std.specs.List.{flat_map}
use Rattle.std.specs.Option.{option_map_or}
use Rattle.cn_base.specs.Texts.{line}
use Rattle.cat_program.specs.declared.headers.Event.{Event}
use Rattle.cat_program.specs.declared.outs.LogEntry.{LogEntry}
use Rattle.cat_program.specs.declared.outs.LogEntry.TheVariants.{Out, Ran}
use Rattle.cn_uplink.specs.Link.{Link, IsFinish, course, first}
use Rattle.cn_uplink.specs.declared.link_step.LinkStep.{LinkStep}
use Rattle.cn_uplink.specs.declared.counts.Counts.{Counts}

-- the name of an event by its number
abbrev pub name_in : List Event → ℕ → List ℕ
name_in headers event = option_map_or (λ header. header.name) (slice_get headers event) []

-- the line of a record, by the events that a program declares
abbrev pub record_line : List Event → LogEntry → List ℕ
record_line headers (Out channel value) = line (codes "out" ∷ decimal channel ∷ signed_decimal value ∷ [])
record_line headers (Ran event version steps start index) =
    line (codes "ran" ∷ name_in headers event ∷ decimal index ∷ decimal version ∷ decimal start ∷ [])

abbrev pub records_text : List Event → List LogEntry → List ℕ
records_text headers entries = flat_map (record_line headers) entries

abbrev pub link_line : Counts → List ℕ
link_line c = line (codes "link" ∷ decimal c.sent ∷ decimal c.host ∷ decimal c.base ∷ [])

abbrev pub rounds_line : ℕ → List ℕ
rounds_line n = line (codes "rounds" ∷ decimal n ∷ [])

abbrev pub counts_text : Counts → List ℕ
counts_text c = link_line c ++ rounds_line c.rounds

-- the two lines of the numbers, and then the line of each record that the host holds
abbrev pub uplink_text : List Event → Counts → List LogEntry → List ℕ
uplink_text headers c host = counts_text c ++ records_text headers host

-- the numbers of a link after its table, and of the rounds from there on
abbrev pub counts_of : Link → ℕ → Counts
counts_of s n = record { sent = length s.sent; host = length s.host; base = s.base; rounds = n }

-- The text of a link over a log: the steps of its table lead from the first state to one that is told, and the rounds from there to
-- an end.
pub record IsUplinkText (headers : List Event) (log : List LogEntry) (steps : List LinkStep) (text : List ℕ) : Type 0 where
  pub n : ℕ
  pub end : Link
  pub finish : IsFinish (course steps (first log)) n end
  pub text_is : text ≡ uplink_text headers (counts_of (course steps (first log)) n) end.host
