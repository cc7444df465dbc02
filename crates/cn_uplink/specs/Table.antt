-- The steps that a link table's text spells.
use Rattle.std.specs.Prelude.{ℕ, ℤ, ◌==◌, nat_lt, nat_eq, if◌then◌else◌, get_or, codes, Bool, List, [], ◌∷◌, ◌++◌, length, Option, Some, None, Result, Ok, Err}
use Rattle.std.specs.Cmp.Lexicographic.{pointwise}
use Rattle.cn_tables.specs.Number.{number_of}
use Rattle.cn_tables.specs.Ranges.{within}
use Rattle.cn_tables.specs.Table.{Bad, Fields, Step, read_table}
use Rattle.cn_tables.specs.declared.fault.RowKind.{RowKind}
use Rattle.cn_tables.specs.declared.fault.RowKind.TheVariants as fault
use Rattle.cn_uplink.specs.declared.link_step.LinkKind.{LinkKind}
use Rattle.cn_uplink.specs.declared.link_step.LinkKind.TheVariants.{Grow, Send, Again, Deliver, Ack, Restart}
use Rattle.cn_uplink.specs.declared.link_step.LinkStep.{LinkStep}

abbrev pub links_header : Fields
links_header = codes "step" ∷ codes "n" ∷ []

abbrev pub is_word : List ℕ → List ℕ → Bool
is_word = pointwise nat_eq

-- the step of this name
abbrev pub kind_named : List ℕ → Option LinkKind
kind_named name =
    if is_word name (codes "grow") then Some Grow
    else if is_word name (codes "send") then Some Send
    else if is_word name (codes "again") then Some Again
    else if is_word name (codes "data") then Some Deliver
    else if is_word name (codes "ack") then Some Ack
    else if is_word name (codes "restart") then Some Restart
    else None

-- the greatest number that a step may have
abbrev pub most_of : LinkKind → ℕ
most_of Send = 0
most_of Restart = 0
most_of _ = 999999

abbrev pub with_range : LinkKind → Option ℕ → Result LinkStep RowKind
with_range kind (Some n) = Ok (record { kind = kind; n = n })
with_range kind None = Err fault.Range

abbrev pub with_name : ℤ → Option LinkKind → Result LinkStep RowKind
with_name z (Some kind) = with_range kind (within 0 (most_of kind) z)
with_name z None = Err fault.Name

abbrev pub with_number : List ℕ → Option ℤ → Result LinkStep RowKind
with_number name (Some z) = with_name z (kind_named name)
with_number name None = Err fault.Number

-- what a row says by itself
abbrev pub link_row : Fields → Result LinkStep RowKind
link_row fields = if length fields == 2 then with_number (get_or fields 0 []) (number_of (get_or fields 1 [])) else Err fault.Fields

-- the row after those before it
abbrev pub with_row : List LinkStep → Result LinkStep RowKind → Result (List LinkStep) RowKind
with_row before (Ok row) = Ok (before ++ row ∷ [])
with_row before (Err bad) = Err bad

-- the greatest number of rows
abbrev pub most_rows : ℕ
most_rows = 100000

abbrev pub links_step : Step (List LinkStep)
links_step number before fields = if nat_lt most_rows number then Err fault.Many else with_row before (link_row fields)

-- the steps that a text spells, or its first fault
abbrev pub links_of : List ℕ → Result (List LinkStep) Bad
links_of bytes = read_table links_header links_step [] bytes
