use Rattle.std.proofs.Common.{arith, rules}
use Rattle.board_core.proofs.MarkLemmas.{marked_empty}
use Rattle.board_core.proofs.RecordLemmas.{counted_empty, kept_empty}
use Rattle.board_core.proofs.timeline.Timeline.with_room.Goals as goal

pub invariant_of-result : goal.invariant_of-result
invariant_of-result c =
    let records_are = c.in-Ok.ensures.items in
    record {
      kept = kept_empty c.args.cap _ _ _ records_are c.in-Ok-with_capacity.ensures.items c.in-Ok-with_capacity-3.ensures.items;
      marked = marked_empty _ _ c.in-Ok-with_capacity-2.ensures.items c.in-Ok-with_capacity.ensures.items;
      counted = counted_empty c.args.cap _ _ records_are;
      in_range = c.requires;
      room = search rules;
      room_for_records = search rules;
      room_for_ends = search rules;
      room_for_marks = omega (arith, c.in-Ok-with_capacity-2.ensures.exact);
      room_for_left = search rules;
    }
