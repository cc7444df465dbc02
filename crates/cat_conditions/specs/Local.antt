-- The pieces that offend by themselves.
use Rattle.std.specs.Prelude.{ℕ, Bool, true, false, not, ◌&&◌, nat_le, nat_lt, length}
use Rattle.cn_base.specs.declared.tree.Item.{Item}
use Rattle.cn_base.specs.declared.tree.Item.TheVariants as item
use Rattle.cn_base.specs.declared.tree.Timing.{Timing}
use Rattle.cn_base.specs.declared.tree.Timing.TheVariants.{Every, Spacing}
use Rattle.cat_conditions.specs.Plain.{Term, payload, Action, out, loop, turns}
use Rattle.cat_conditions.specs.Pieces.{Piece, an_item, a_statement, an_expression}

abbrev pub is_within : ℕ → ℕ → ℕ → Bool
is_within low high n = nat_le low n && nat_le n high

-- a period or spacing has 1 to 1,000,000 ticks, an offset 0 to 1,000,000
abbrev pub has_timing_in_range : Timing → Bool
has_timing_in_range (Every period offset) = is_within 1 1000000 period && nat_le offset 1000000
has_timing_in_range (Spacing least) = is_within 1 1000000 least

abbrev pub has_item_in_range : Item → Bool
has_item_in_range (item.Array x len) = is_within 1 1024 len
has_item_in_range (item.Event x timing deadline versions) = has_timing_in_range timing && is_within 1 1000000 deadline
has_item_in_range _ = true

-- a channel is at most 255, the count of a repeat at most 1,000
abbrev pub has_action_in_range : Action → Bool
has_action_in_range (out channel value) = nat_le channel 255
has_action_in_range (turns count body) = nat_le count 1000
has_action_in_range _ = true

abbrev pub is_out_of_range : Piece → Bool
is_out_of_range (an_item i) = not (has_item_in_range i)
is_out_of_range (a_statement event room a) = not (has_action_in_range a)
is_out_of_range (an_expression event t) = false

abbrev pub has_many_versions : Piece → Bool
has_many_versions (an_item (item.Event x timing deadline versions)) = nat_lt 4 (length versions)
has_many_versions _ = false

abbrev pub is_loop : Action → Bool
is_loop (loop test body) = true
is_loop _ = false

abbrev pub is_event_loop : Piece → Bool
is_event_loop (a_statement event room a) = event && is_loop a
is_event_loop _ = false

abbrev pub is_turns : Action → Bool
is_turns (turns count body) = true
is_turns _ = false

abbrev pub is_task_turns : Piece → Bool
is_task_turns (a_statement event room a) = not event && is_turns a
is_task_turns _ = false

abbrev pub is_payload : Term → Bool
is_payload payload = true
is_payload _ = false

abbrev pub is_task_payload : Piece → Bool
is_task_payload (an_expression event t) = not event && is_payload t
is_task_payload _ = false

-- the ticks from one arrival to the next, at least
abbrev pub least_gap : Timing → ℕ
least_gap (Every period offset) = period
least_gap (Spacing least) = least

abbrev pub is_late : Piece → Bool
is_late (an_item (item.Event x timing deadline versions)) = nat_lt (least_gap timing) deadline
is_late _ = false
