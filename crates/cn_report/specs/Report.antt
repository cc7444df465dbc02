-- The text of a choice of versions for each row of a forecast, and the line that says why a row has none.
use Rattle.std.specs.Prelude.{ℕ, List, [], ◌∷◌, ◌++◌, length, Option, Some, None, slice_get, slice_index, slice_index_or, codes, decimal, Bool, true, false}
use Rattle.std.specs.List.{flat_map, zip}
use Rattle.cn_base.specs.Texts.{line, in_turn}
use Rattle.cat_program.specs.declared.headers.Event.{Event}
use Rattle.cat_program.specs.Checked.{Checked}
use Rattle.demand_core.specs.declared.Load.{Load}
use Rattle.demand_core.specs.declared.Numbers.{Numbers}
use Rattle.feasibility.specs.declared.decide.Verdict.{Verdict}
use Rattle.feasibility.specs.declared.decide.Verdict.TheVariants.{Yes, F1, F2, F3}
use Rattle.feasibility.specs.Chosen.{no_load}
use Rattle.degradation.specs.declared.chosen.Chosen.{Chosen}
use Rattle.forecast_table.specs.declared.epoch.Epoch.{Epoch}

-- ---- a choice

-- an event's version, and the most units and ticks of a job in it
abbrev pub version_line : List ℕ → ℕ → Load → List ℕ
version_line name version load =
    line (codes "version" ∷ name ∷ decimal version ∷ codes "units" ∷ decimal load.units ∷ codes "ticks" ∷ decimal load.ticks ∷ [])

abbrev pub numbers_line : Numbers → List ℕ
numbers_line n =
    line (codes "numbers" ∷ codes "lines" ∷ decimal n.lines ∷ codes "checkpoint" ∷ decimal n.checkpoint ∷ codes "section" ∷ decimal n.section
    ∷ codes "reserve" ∷ decimal n.reserve ∷ codes "level" ∷ decimal n.level ∷ codes "window" ∷ decimal n.window ∷ [])

abbrev pub name_of : Option Event → List ℕ
name_of None = []
name_of (Some event) = event.name

-- the line of an event by its number
abbrev pub header_line : List Event → Chosen → ℕ → List ℕ
header_line headers chosen e = version_line (name_of (slice_get headers e)) (slice_index chosen.versions e) (slice_index_or chosen.loads e no_load)

abbrev pub event_line : Checked → Chosen → ℕ → List ℕ
event_line p chosen e = header_line p.headers chosen e

-- the line of each declared event in order, and then the numbers
abbrev pub choice_text : List Event → Chosen → List ℕ
choice_text headers chosen = in_turn (header_line headers chosen) (length headers) ++ numbers_line chosen.numbers

-- the line of each event in order, and then the numbers
abbrev pub chosen_text : Checked → Chosen → List ℕ
chosen_text p chosen = in_turn (event_line p chosen) (length p.events) ++ numbers_line chosen.numbers

-- ---- a choice for each row of a forecast

abbrev pub forecast_line : Epoch → List ℕ
forecast_line row = line (codes "forecast" ∷ decimal row.tick ∷ decimal row.p ∷ decimal row.q ∷ [])

-- what stands before a row's choice: the row itself, where it is shown
abbrev pub row_head : Bool → Epoch → List ℕ
row_head true row = forecast_line row
row_head false row = []

abbrev pub row_text : List Event → Bool → Epoch × Chosen → List ℕ
row_text headers shown (row, chosen) = row_head shown row ++ choice_text headers chosen

-- the choice for each row in order
abbrev pub rows_text : List Event → Bool → List Epoch → List Chosen → List ℕ
rows_text headers shown rows found = flat_map (row_text headers shown) (zip rows found)

-- ---- no choice

-- the number of the row that has none, where it is told
abbrev pub row_words : Option ℕ → List (List ℕ)
row_words None = []
row_words (Some row) = decimal row ∷ []

-- with this spacing the window is too long
abbrev pub window_line : Option ℕ → ℕ → List ℕ
window_line row spacing = line (codes "fault" ∷ codes "window" ∷ (row_words row ++ decimal spacing ∷ []))

-- the inequality that fails: at which length, if it has one, and both sides
abbrev pub verdict_words : Verdict → List (List ℕ)
verdict_words Yes = []
verdict_words (F1 left right) = codes "F1" ∷ decimal left ∷ decimal right ∷ []
verdict_words (F2 left right) = codes "F2" ∷ decimal left ∷ decimal right ∷ []
verdict_words (F3 at left right) = codes "F3" ∷ decimal at ∷ decimal left ∷ decimal right ∷ []

abbrev pub rejected_line : Option ℕ → Verdict → List ℕ
rejected_line row verdict = line (codes "fault" ∷ codes "rejected" ∷ (row_words row ++ verdict_words verdict))
