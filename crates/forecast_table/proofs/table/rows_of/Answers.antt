use Rattle.std.proofs.Common.{◌≡◌, ◌∙◌, ◌<◌, Ok, sym, ap, true, false, arith, rules, length, length-append, ◌∷◌, [], refl}
use Rattle.std.specs.Result.{is_ok}
use Rattle.cn_tables.specs.declared.fault.RowKind.TheVariants as kind
use Rattle.forecast_table.specs.Table.{follows, forecast_step, with_some}
use Rattle.forecast_table.proofs.Steps.{is_forecast, last_tick-last, rows-none, rows-push, some-none, some-some, step-bad, step-good, step-many, step-order}
use Rattle.forecast_table.proofs.table.rows_of.Goals as goal

pub rows-init : goal.rows-init
rows-init c = rw c.new-kept.ensures.items (record { going = refl; numbered = omega arith; last_is = refl; rows = rows-none })

pub returns-then-row-eq1-clause-fault : goal.returns-then-row-eq1-clause-fault
returns-then-row-eq1-clause-fault c =
    let none : length c.rows.kept.items ≡ 0 = omega (arith, c.rows.invariant.numbered, c.if-row-eq1.true) in
    ap with_some (c.rows.invariant.going ∙ c.rows_are_read.ensures.end forecast_step c.rows.row c.rows.kept.items c.rows.rows.left (c.in-Ok.ensures.end c.if-not-found.true))
    ∙ some-none c.rows.kept.items none

pub returns-then-not-found-clause-ok : goal.returns-then-not-found-clause-ok
returns-then-not-found-clause-ok c =
    let some : 0 < length c.rows.kept.items = omega (arith, c.rows.invariant.numbered, c.if-row-eq1.false) in
    ap with_some (c.rows.invariant.going ∙ c.rows_are_read.ensures.end forecast_step c.rows.row c.rows.kept.items c.rows.rows.left (c.in-Ok.ensures.end c.if-not-found.true))
    ∙ some-some c.rows.kept.items some ∙ ap Ok (sym c.of.ensures)

pub returns-then-row-gt-MOST_EPOCHS-clause-fault : goal.returns-then-row-gt-MOST_EPOCHS-clause-fault
returns-then-row-gt-MOST_EPOCHS-clause-fault c =
    let more = c.in-Ok.ensures.row c.if-not-found.false in
    ap with_some (c.rows.invariant.going ∙ c.rows_are_read.ensures.bad forecast_step c.rows.row c.rows.kept.items kind.Many c.rows.rows.left c.next_row.new.self.current c.next_row.new.self.left more (step-many c.rows.row c.rows.kept.items c.next_row.new.self.current c.if-row-gt-MOST_EPOCHS.true))

pub returns-in-Err-clause-fault : goal.returns-in-Err-clause-fault
returns-in-Err-clause-fault c =
    let more = c.in-Ok.ensures.row c.if-not-found.false in
    ap with_some (c.rows.invariant.going ∙ c.rows_are_read.ensures.bad forecast_step c.rows.row c.rows.kept.items c.in-Err.kind c.rows.rows.left c.next_row.new.self.current c.next_row.new.self.left more (step-bad c.rows.row c.rows.kept.items c.next_row.new.self.current c.in-Err.kind c.if-row-gt-MOST_EPOCHS.false c.in-Err.ensures.value))

pub returns-then-not-follows-clause-fault : goal.returns-then-not-follows-clause-fault
returns-then-not-follows-clause-fault c =
    let more = c.in-Ok.ensures.row c.if-not-found.false in
    let row = c.in-Ok-row_of.epoch in
    let before : follows c.rows.last row.tick ≡ false = search rules in
    let bad = step-order c.rows.row c.rows.kept.items c.next_row.new.self.current row c.rows.last c.if-row-gt-MOST_EPOCHS.false c.in-Ok-row_of.ensures.value c.rows.invariant.last_is before in
    ap with_some (c.rows.invariant.going ∙ c.rows_are_read.ensures.bad forecast_step c.rows.row c.rows.kept.items kind.Order c.rows.rows.left c.next_row.new.self.current c.next_row.new.self.left more bad)

pub rows-preserved : goal.rows-preserved
rows-preserved c =
    let more = c.in-Ok.ensures.row c.if-not-found.false in
    let row = c.in-Ok-row_of.epoch in
    let after : follows c.rows.last row.tick ≡ true = search rules in
    let next = step-good c.rows.row c.rows.kept.items c.next_row.new.self.current row c.rows.last c.if-row-gt-MOST_EPOCHS.false c.in-Ok-row_of.ensures.value c.rows.invariant.last_is after in
    let pushed : is_ok c.push.result ≡ true = search rules in
    let items = rw pushed at c.push.ensures.items in
    let few : length c.rows.kept.items < 64 = omega (arith, c.rows.invariant.numbered, c.if-row-gt-MOST_EPOCHS.false) in
    rw items (record {
      going = c.rows.invariant.going ∙ c.rows_are_read.ensures.more forecast_step c.rows.row c.rows.kept.items _ c.rows.rows.left c.next_row.new.self.current c.next_row.new.self.left more next;
      numbered = omega (arith, c.rows.invariant.numbered, length-append c.rows.kept.items (row ∷ []));
      last_is = last_tick-last c.rows.kept.items row;
      rows = rows-push c.rows.kept.items row c.rows.last c.rows.invariant.rows c.in-Ok-row_of.ensures.in_range few c.rows.invariant.last_is after;
    })

pub of-requires : goal.of-requires
of-requires c =
    let some : 0 < length c.rows.kept.items = omega (arith, c.rows.invariant.numbered, c.if-row-eq1.false) in
    is_forecast c.rows.kept.items c.rows.invariant.rows some
