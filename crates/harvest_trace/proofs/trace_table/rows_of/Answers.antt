use Rattle.std.proofs.Common.{◌≡◌, ◌∙◌, ◌<◌, ◌≤◌, ◌+◌, Ok, sym, ap, true, arith, rules, refl}
use Rattle.std.specs.Result.{is_ok}
use Rattle.cn_base.specs.declared.TheConstants.{MOST_TICKS}
use Rattle.harvest_trace.specs.Timeline.{life_of}
use Rattle.harvest_trace.specs.TraceTable.{trace_step, with_row}
use Rattle.harvest_trace.proofs.Steps.{with_row-good, with_row-over}
use Rattle.harvest_trace.proofs.Timelines.{IsTimeline-none, IsTimeline-push}
use Rattle.harvest_trace.proofs.trace_table.rows_of.Goals as goal

pub rows-init : goal.rows-init
rows-init c = rw (c.new-kept.ensures.items, c.new-ends.ensures.items) (record { going = refl; numbered = omega arith; timeline = IsTimeline-none })

pub returns-then-not-found-clause-ok : goal.returns-then-not-found-clause-ok
returns-then-not-found-clause-ok c =
    let none = c.in-Ok.ensures.end c.if-not-found.true in
    c.rows.invariant.going ∙ c.rows_are_read.ensures.end trace_step c.rows.number c.rows.kept.items c.rows.rows.left none ∙ ap Ok (sym c.of.ensures)

pub returns-in-Err-clause-fault : goal.returns-in-Err-clause-fault
returns-in-Err-clause-fault c =
    let more = c.in-Ok.ensures.row c.if-not-found.false in
    let bad = ap (with_row c.rows.kept.items) (sym c.in-Err.ensures.value) in
    c.rows.invariant.going ∙ c.rows_are_read.ensures.bad trace_step c.rows.number c.rows.kept.items c.in-Err.kind c.rows.rows.left c.next_row.new.self.current c.next_row.new.self.left more bad

pub returns-then-life-gt-MOST_TICKS-clause-fault : goal.returns-then-life-gt-MOST_TICKS-clause-fault
returns-then-life-gt-MOST_TICKS-clause-fault c =
    let more = c.in-Ok.ensures.row c.if-not-found.false in
    let row = c.in-Ok-row_of.row in
    let over : MOST_TICKS < life_of c.rows.kept.items + row.ticks = omega (arith, c.rows.invariant.timeline.life_is) in
    let bad = ap (with_row c.rows.kept.items) (sym c.in-Ok-row_of.ensures.value) ∙ with_row-over c.rows.kept.items row over in
    c.rows.invariant.going ∙ c.rows_are_read.ensures.bad trace_step c.rows.number c.rows.kept.items _ c.rows.rows.left c.next_row.new.self.current c.next_row.new.self.left more bad

pub rows-preserved : goal.rows-preserved
rows-preserved c =
    let more = c.in-Ok.ensures.row c.if-not-found.false in
    let row = c.in-Ok-row_of.row in
    let small : life_of c.rows.kept.items + row.ticks ≤ MOST_TICKS = omega (arith, c.rows.invariant.timeline.life_is) in
    let next = ap (with_row c.rows.kept.items) (sym c.in-Ok-row_of.ensures.value) ∙ with_row-good c.rows.kept.items row small in
    let pushed : is_ok c.push.result ≡ true = search rules in
    let ended : is_ok c.push-else-is_err.result ≡ true = search rules in
    let items = rw pushed at c.push.ensures.items in
    let ends = rw ended at c.push-else-is_err.ensures.items in
    rw (items, ends) (record {
      going = c.rows.invariant.going ∙ c.rows_are_read.ensures.more trace_step c.rows.number c.rows.kept.items _ c.rows.rows.left c.next_row.new.self.current c.next_row.new.self.left more next;
      numbered = omega (arith, c.rows.invariant.numbered, c.in-Ok-row_of.ensures.in_range.some_ticks);
      timeline = IsTimeline-push c.rows.kept.items c.rows.ends.items c.rows.life row c.rows.invariant.timeline c.in-Ok-row_of.ensures.in_range (omega arith);
    })
