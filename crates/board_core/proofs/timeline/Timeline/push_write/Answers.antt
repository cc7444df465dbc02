use Rattle.std.proofs.Common.{◌+◌, ◌-◌, [], ◌∷◌, ◌++◌, length, false, ◌∙◌, ap, arith, rules, ◌≡◌, length-append}
use Rattle.std.specs.Prelude.{flat_map}
use Rattle.nv_memory.specs.declared.entry.Op.{Op}
use Rattle.board_core.specs.declared.record.Record.{Record}
use Rattle.board_core.specs.declared.record.Record.TheVariants.{Did}
use Rattle.board_core.specs.Records.{IsHeld, entries_by}
use Rattle.board_core.proofs.MarkLemmas.{kept_below, marked_pushed}
use Rattle.board_core.proofs.RecordLemmas.{length_of_ends, pushed}
use Rattle.board_core.proofs.timeline.Timeline.push_write.Goals as goal

pub keep-requires-2 : goal.keep-requires-2
keep-requires-2 c =
    let t = c.args.self.now in
    omega (arith, t.ends.ok, length_of_ends t.cap t.records.items t.ends.items t.left.items t.count t.kept, t.kept.few, t.counted, c.requires.room, t.room_for_ends)

pub invariant_of-self : goal.invariant_of-self
invariant_of-self c =
    let t = c.args.self.now in
    let laid = c.laid_write-what in
    let r : Record = Did c.args.tick c.args.stored c.args.sure.drawn c.args.sure.ticks false laid.result in
    let held : IsHeld t.cap (length laid.new.left.items) r = record { some = omega arith; in_cap = omega arith; in_time = omega arith; in_left = laid.ensures.end; short = laid.ensures.short } in
    let p = pushed t.cap t.records.items c.keep.new.items.items t.ends.items c.keep-2.new.items.items t.left.items laid.new.left.items c.args.bytes.now t.count r t.kept t.counted
    c.keep.ensures.items c.keep-2.ensures.items laid.ensures.items held c.requires.few in
    let nth_is : c.len.result - 1 ≡ length t.ends.items = omega (arith, c.len.ensures, c.keep.new.items.ok, ap length c.keep.ensures.items, length-append t.records.items (r ∷ []), length_of_ends t.cap t.records.items t.ends.items t.left.items t.count t.kept) in
    record {
      kept = p.kept;
      marked = marked_pushed t.marks.items c.mark.new.marks.items t.ends.items c.keep-2.new.items.items t.count (t.count + 1) _ c.mark.ensures.items.0 t.marked
          (kept_below t.cap t.records.items t.ends.items t.left.items t.count t.kept t.counted (length_of_ends t.cap t.records.items t.ends.items t.left.items t.count t.kept)) (omega arith)
          nth_is c.mark.ensures.items.1 c.keep-2.ensures.items c.mark.ensures.covers c.mark.ensures.no_more;
      counted = p.counted;
      in_range = t.in_range;
      room = search rules;
      room_for_records = search rules;
      room_for_ends = search rules;
      room_for_marks = search rules;
      room_for_left = search rules;
    }

pub returns-clause-entries : goal.returns-clause-entries
returns-clause-entries c =
    let t = c.args.self.now in
    let laid = c.laid_write-what in
    let r : Record = Did c.args.tick c.args.stored c.args.sure.drawn c.args.sure.ticks false laid.result in
    let held : IsHeld t.cap (length laid.new.left.items) r = record { some = omega arith; in_cap = omega arith; in_time = omega arith; in_left = laid.ensures.end; short = laid.ensures.short } in
    let p = pushed t.cap t.records.items c.keep.new.items.items t.ends.items c.keep-2.new.items.items t.left.items laid.new.left.items c.args.bytes.now t.count r t.kept t.counted
    c.keep.ensures.items c.keep-2.ensures.items laid.ensures.items held c.requires.few in
    p.entries
    ∙ ap (λ (o : Op). flat_map (entries_by t.cap t.left.items) t.records.items ++ record { tick = c.args.tick; stored = c.args.stored; drawn = c.args.sure.drawn; ticks = c.args.sure.ticks; op = o; lost = false } ∷ []) laid.ensures.op
