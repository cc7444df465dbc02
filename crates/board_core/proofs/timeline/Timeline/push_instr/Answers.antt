use Rattle.std.proofs.Common.{◌+◌, ◌-◌, false, [], ◌∷◌, length, sym, arith, rules, ◌≡◌, ap, length-append}
use Rattle.std.proofs.lemmas.List.{append-nil}
use Rattle.board_core.specs.declared.record.What.TheVariants as what
use Rattle.board_core.specs.declared.record.Record.{Record}
use Rattle.board_core.specs.declared.record.Record.TheVariants.{Did}
use Rattle.board_core.specs.Records.{IsHeld}
use Rattle.board_core.proofs.MarkLemmas.{kept_below, marked_pushed}
use Rattle.board_core.proofs.RecordLemmas.{length_of_ends, pushed}
use Rattle.board_core.proofs.timeline.Timeline.push_instr.Goals as goal

pub keep-requires-2 : goal.keep-requires-2
keep-requires-2 c =
    let t = c.args.self.now in
    omega (arith, t.ends.ok, length_of_ends t.cap t.records.items t.ends.items t.left.items t.count t.kept, t.kept.few, t.counted, c.requires, t.room_for_ends)

pub invariant_of-self : goal.invariant_of-self
invariant_of-self c =
    let t = c.args.self.now in
    let r : Record = Did c.args.tick c.args.stored c.args.sure.drawn c.args.sure.ticks false (what.Instr c.args.class c.args.pc) in
    let held : IsHeld t.cap (length t.left.items) r = record { some = omega arith; in_cap = omega arith; in_time = omega arith; in_left = omega arith; short = omega arith } in
    let p = pushed t.cap t.records.items c.keep.new.items.items t.ends.items c.keep-2.new.items.items t.left.items t.left.items [] t.count r t.kept t.counted
    c.keep.ensures.items c.keep-2.ensures.items (sym (append-nil t.left.items)) held (omega arith) in
    let nth_is : c.len.result - 1 ≡ length t.ends.items = omega (arith, c.len.ensures, c.keep.new.items.ok, ap length c.keep.ensures.items, length-append t.records.items (r ∷ []), length_of_ends t.cap t.records.items t.ends.items t.left.items t.count t.kept) in
    record {
      kept = p.kept;
      marked = marked_pushed t.marks.items c.mark.new.marks.items t.ends.items c.keep-2.new.items.items t.count (t.count + 1) _ c.mark.ensures.items.0 t.marked
          (kept_below t.cap t.records.items t.ends.items t.left.items t.count t.kept t.counted (length_of_ends t.cap t.records.items t.ends.items t.left.items t.count t.kept)) (omega arith)
          nth_is c.mark.ensures.items.1 c.keep-2.ensures.items c.mark.ensures.covers c.mark.ensures.no_more;
      counted = p.counted;
      in_range = t.in_range;
      room = search rules;
      room_for_records = search rules;
      room_for_ends = search rules;
      room_for_marks = search rules;
      room_for_left = t.room_for_left;
    }

pub returns-clause-entries : goal.returns-clause-entries
returns-clause-entries c =
    let t = c.args.self.now in
    let r : Record = Did c.args.tick c.args.stored c.args.sure.drawn c.args.sure.ticks false (what.Instr c.args.class c.args.pc) in
    let held : IsHeld t.cap (length t.left.items) r = record { some = omega arith; in_cap = omega arith; in_time = omega arith; in_left = omega arith; short = omega arith } in
    (pushed t.cap t.records.items c.keep.new.items.items t.ends.items c.keep-2.new.items.items t.left.items t.left.items [] t.count r t.kept t.counted
    c.keep.ensures.items c.keep-2.ensures.items (sym (append-nil t.left.items)) held (omega arith)).entries
