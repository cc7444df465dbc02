use Rattle.std.proofs.Common.{◌≡◌, ◌∙◌, Ok, sym, ap, true, false, arith, rules, refl}
use Rattle.std.specs.Result.{is_ok}
use Rattle.cn_tables.specs.declared.fault.RowKind.TheVariants as kind
use Rattle.harvest_trace.specs.FailsTable.{fails_step, is_after, last_tick}
use Rattle.harvest_trace.proofs.FailSteps.{fails_step-bad, fails_step-good, fails_step-many, fails_step-order, last_tick-last}
use Rattle.harvest_trace.proofs.FailureLemmas.{IsRising-none, IsRising-push}
use Rattle.harvest_trace.proofs.failures_table.rows_of.Goals as goal

pub rows-init : goal.rows-init
unfolding last_tick
rows-init c = rw c.new-kept.ensures.items (record { going = refl; numbered = omega arith; last_is = refl; rising = IsRising-none })

pub returns-then-not-found-clause-ok : goal.returns-then-not-found-clause-ok
returns-then-not-found-clause-ok c =
    c.rows.invariant.going ∙ c.rows_are_read.ensures.end fails_step c.rows.row c.rows.kept.items c.rows.rows.left (c.in-Ok.ensures.end c.if-not-found.true) ∙ ap Ok (sym c.of.ensures)

pub returns-then-row-gt-MOST_ROWS-clause-fault : goal.returns-then-row-gt-MOST_ROWS-clause-fault
returns-then-row-gt-MOST_ROWS-clause-fault c =
    let more = c.in-Ok.ensures.row c.if-not-found.false in
    c.rows.invariant.going ∙ c.rows_are_read.ensures.bad fails_step c.rows.row c.rows.kept.items kind.Many c.rows.rows.left c.next_row.new.self.current c.next_row.new.self.left more (fails_step-many c.rows.row c.rows.kept.items c.next_row.new.self.current c.if-row-gt-MOST_ROWS.true)

pub returns-in-Err-clause-fault : goal.returns-in-Err-clause-fault
returns-in-Err-clause-fault c =
    let more = c.in-Ok.ensures.row c.if-not-found.false in
    c.rows.invariant.going ∙ c.rows_are_read.ensures.bad fails_step c.rows.row c.rows.kept.items c.in-Err.kind c.rows.rows.left c.next_row.new.self.current c.next_row.new.self.left more (fails_step-bad c.rows.row c.rows.kept.items c.next_row.new.self.current c.in-Err.kind c.if-row-gt-MOST_ROWS.false c.in-Err.ensures)

pub rows-preserved : goal.rows-preserved
rows-preserved c =
    let more = c.in-Ok.ensures.row c.if-not-found.false in
    let f = c.in-Ok-row_of.failure in
    let after : is_after c.rows.last f.tick ≡ true = search rules in
    let next = fails_step-good c.rows.row c.rows.kept.items c.next_row.new.self.current f c.rows.last c.if-row-gt-MOST_ROWS.false c.in-Ok-row_of.ensures c.rows.invariant.last_is after in
    let pushed : is_ok c.push.result ≡ true = search rules in
    let items = rw pushed at c.push.ensures.items in
    rw items (record {
      going = c.rows.invariant.going ∙ c.rows_are_read.ensures.more fails_step c.rows.row c.rows.kept.items _ c.rows.rows.left c.next_row.new.self.current c.next_row.new.self.left more next;
      numbered = omega arith;
      last_is = last_tick-last c.rows.kept.items f;
      rising = IsRising-push c.rows.kept.items f c.rows.last c.rows.invariant.rising c.rows.invariant.last_is after;
    })

pub returns-then-not-is_after-clause-fault : goal.returns-then-not-is_after-clause-fault
returns-then-not-is_after-clause-fault c =
    let more = c.in-Ok.ensures.row c.if-not-found.false in
    let f = c.in-Ok-row_of.failure in
    let before : is_after c.rows.last f.tick ≡ false = search rules in
    let bad = fails_step-order c.rows.row c.rows.kept.items c.next_row.new.self.current f c.rows.last c.if-row-gt-MOST_ROWS.false c.in-Ok-row_of.ensures c.rows.invariant.last_is before in
    c.rows.invariant.going ∙ c.rows_are_read.ensures.bad fails_step c.rows.row c.rows.kept.items kind.Order c.rows.rows.left c.next_row.new.self.current c.next_row.new.self.left more bad

pub of-requires : goal.of-requires
of-requires c = c.rows.invariant.rising
