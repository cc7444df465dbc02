use Rattle.std.proofs.Common.{◌≡◌, ◌∙◌, [], ◌∷◌, length-append, true, arith, rules, refl}
use Rattle.std.specs.Result.{is_ok}
use Rattle.cn_tables.specs.declared.fault.RowKind.TheVariants as kind
use Rattle.event_arrivals.specs.Rows.{arrivals_step, last_tick}
use Rattle.event_arrivals.proofs.Told.{told_rows}
use Rattle.event_arrivals.proofs.Steps.{last_tick-last, step-bad, step-good, step-many, step-order}
use Rattle.event_arrivals.proofs.table.rows_of.Goals as goal

pub rows-init : goal.rows-init
unfolding last_tick
rows-init c = rw c.new-kept.ensures.items (record { going = refl; numbered = omega arith; counted = refl; last_is = refl })

pub returns-then-not-found-clause-ok : goal.returns-then-not-found-clause-ok
returns-then-not-found-clause-ok c =
    c.rows.invariant.going ∙ c.rows_are_read.ensures.end (arrivals_step c.args.program.now.headers) c.rows.number c.rows.kept.items c.rows.rows.left (c.in-Ok.ensures.end c.if-not-found.true)

pub returns-then-number-gt-MOST_ROWS-clause-fault : goal.returns-then-number-gt-MOST_ROWS-clause-fault
returns-then-number-gt-MOST_ROWS-clause-fault c =
    let headers = c.args.program.now.headers in
    let more = c.in-Ok.ensures.row c.if-not-found.false in
    let bad = step-many headers c.rows.number c.rows.kept.items c.next_row.new.self.current c.if-number-gt-MOST_ROWS.true in
    c.rows.invariant.going ∙ c.rows_are_read.ensures.bad (arrivals_step headers) c.rows.number c.rows.kept.items kind.Many c.rows.rows.left c.next_row.new.self.current c.next_row.new.self.left more bad

pub returns-in-Err-clause-fault : goal.returns-in-Err-clause-fault
returns-in-Err-clause-fault c =
    let headers = c.args.program.now.headers in
    let more = c.in-Ok.ensures.row c.if-not-found.false in
    let bad = step-bad headers c.rows.number c.rows.kept.items c.next_row.new.self.current c.in-Err.kind c.if-number-gt-MOST_ROWS.false c.in-Err.ensures in
    c.rows.invariant.going ∙ c.rows_are_read.ensures.bad (arrivals_step headers) c.rows.number c.rows.kept.items c.in-Err.kind c.rows.rows.left c.next_row.new.self.current c.next_row.new.self.left more bad

pub returns-then-row-last-clause-fault : goal.returns-then-row-last-clause-fault
returns-then-row-last-clause-fault c =
    let headers = c.args.program.now.headers in
    let more = c.in-Ok.ensures.row c.if-not-found.false in
    let bad = step-order headers c.rows.number c.rows.kept.items c.next_row.new.self.current c.in-Ok-row_of.row c.rows.last c.if-number-gt-MOST_ROWS.false c.in-Ok-row_of.ensures c.rows.invariant.last_is c.if-row-last.true in
    c.rows.invariant.going ∙ c.rows_are_read.ensures.bad (arrivals_step headers) c.rows.number c.rows.kept.items kind.Order c.rows.rows.left c.next_row.new.self.current c.next_row.new.self.left more bad

pub rows-preserved : goal.rows-preserved
rows-preserved c =
    let headers = c.args.program.now.headers in
    let row = c.in-Ok-row_of.row in
    let more = c.in-Ok.ensures.row c.if-not-found.false in
    let next = step-good headers c.rows.number c.rows.kept.items c.next_row.new.self.current row c.rows.last c.if-number-gt-MOST_ROWS.false c.in-Ok-row_of.ensures c.rows.invariant.last_is c.if-row-last.false in
    let pushed : is_ok c.push.result ≡ true = search rules in
    let items = rw pushed at c.push.ensures.items in
    rw items (record {
      going = c.rows.invariant.going ∙ c.rows_are_read.ensures.more (arrivals_step headers) c.rows.number c.rows.kept.items _ c.rows.rows.left c.next_row.new.self.current c.next_row.new.self.left more next;
      numbered = omega arith;
      counted = omega (arith, c.rows.invariant.counted, length-append c.rows.kept.items (row ∷ []));
      last_is = last_tick-last c.rows.kept.items row;
    })

pub returns-then-not-found-clause-known : goal.returns-then-not-found-clause-known
returns-then-not-found-clause-known c = (told_rows c.args.program.now.headers _ _ (returns-then-not-found-clause-ok c)).known
