use Rattle.std.proofs.Common.{◌/◌, ◌<◌, ◌≡◌, length, get_or, ◌∙◌, arith}
use Rattle.std.proofs.lemmas.List.{get_or_default}
use Rattle.board_core.proofs.MarkLemmas.{narrow}
use Rattle.board_core.proofs.RecordLemmas.{ends_rise}
use Rattle.board_core.proofs.timeline.Timeline.record_at.Goals as goal

pub ended_by-requires : goal.ended_by-requires
ended_by-requires c =
    let t = c.args.self.now in
    let b = c.args.place / 64 in
    let marked : b < length t.marks.items = omega (arith, c.requires, t.marked.covers) in
    let first_is : c.index.result.now ≡ get_or t.marks.items b 0 = c.index.ensures ∙ get_or_default t.marks.items b c.index.result.now 0 marked in
    let narrowed = narrow t.marks.items t.ends.items t.count c.args.place b c.index.result.now c.last_for-last.result t.marked marked (omega arith) (omega arith) first_is c.last_for-last.ensures in
    record {
      rising = rw c.as_slice.ensures.value (ends_rise t.cap t.records.items t.ends.items t.left.items t.count t.kept);
      narrow = rw c.as_slice.ensures.value narrowed;
    }
