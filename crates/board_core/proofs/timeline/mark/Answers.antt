use Rattle.std.proofs.Common.{suc, ◌∷◌, [], length, ap, arith, length-append}
use Rattle.board_core.proofs.MarkLemmas.{one_more}
use Rattle.board_core.proofs.timeline.mark.Goals as goal

pub marks-preserved : goal.marks-preserved
marks-preserved c =
    let before = c.marks.invariant.items in
    let one = length-append c.marks.marks.items (c.args.nth ∷ []) in
    record {
      items = (suc before.0, one_more c.args.marks.now.items c.marks.marks.items c.keep.new.items.items before.0 c.args.nth before.1 c.keep.ensures.items);
      no_more = omega (arith, one, ap length c.keep.ensures.items, c.marks-test.true, c.marks.marks.ok);
      room = omega (arith, c.keep.ensures.capacity, c.marks.invariant.room);
      capacity = omega (arith, c.keep.ensures.capacity, c.marks.invariant.capacity);
    }
