use Rattle.std.proofs.Common.{◌≡◌, ◌∙◌, Ok, sym, ap, true, arith, rules, refl, length-append, [], ◌∷◌}
use Rattle.std.specs.Result.{is_ok}
use Rattle.cn_tables.specs.declared.fault.RowKind.TheVariants as fault
use Rattle.cn_uplink.specs.Table.{links_step}
use Rattle.cn_uplink.proofs.TableSteps.{step-bad, step-good, step-many}
use Rattle.cn_uplink.proofs.table.rows_of.Goals as goal

pub rows-init : goal.rows-init
rows-init c = rw c.new-kept.ensures.items (record { going = refl; numbered = omega arith; few = omega arith })

pub returns-then-not-found-clause-ok : goal.returns-then-not-found-clause-ok
returns-then-not-found-clause-ok c =
    c.rows.invariant.going ∙ c.rows_are_read.ensures.end links_step c.rows.row c.rows.kept.items c.rows.rows.left (c.in-Ok.ensures.end c.if-not-found.true) ∙ ap Ok (sym c.of.ensures)

pub returns-then-row-gt-MOST_ROWS-clause-fault : goal.returns-then-row-gt-MOST_ROWS-clause-fault
returns-then-row-gt-MOST_ROWS-clause-fault c =
    let more = c.in-Ok.ensures.row c.if-not-found.false in
    c.rows.invariant.going ∙ c.rows_are_read.ensures.bad links_step c.rows.row c.rows.kept.items fault.Many c.rows.rows.left c.next_row.new.self.current c.next_row.new.self.left more (step-many c.rows.row c.rows.kept.items c.next_row.new.self.current c.if-row-gt-MOST_ROWS.true)

pub returns-in-Err-clause-fault : goal.returns-in-Err-clause-fault
returns-in-Err-clause-fault c =
    let more = c.in-Ok.ensures.row c.if-not-found.false in
    c.rows.invariant.going ∙ c.rows_are_read.ensures.bad links_step c.rows.row c.rows.kept.items c.in-Err.kind c.rows.rows.left c.next_row.new.self.current c.next_row.new.self.left more (step-bad c.rows.row c.rows.kept.items c.next_row.new.self.current c.in-Err.kind c.if-row-gt-MOST_ROWS.false c.in-Err.ensures)

pub rows-preserved : goal.rows-preserved
rows-preserved c =
    let more = c.in-Ok.ensures.row c.if-not-found.false in
    let step = c.in-Ok-row_of.step in
    let next = step-good c.rows.row c.rows.kept.items c.next_row.new.self.current step c.if-row-gt-MOST_ROWS.false c.in-Ok-row_of.ensures in
    let pushed : is_ok c.push.result ≡ true = search rules in
    let items = rw pushed at c.push.ensures.items in
    rw items (record {
      going = c.rows.invariant.going ∙ c.rows_are_read.ensures.more links_step c.rows.row c.rows.kept.items _ c.rows.rows.left c.next_row.new.self.current c.next_row.new.self.left more next;
      numbered = omega (arith, length-append c.rows.kept.items (step ∷ []));
      few = omega (arith, length-append c.rows.kept.items (step ∷ []), c.if-row-gt-MOST_ROWS.false);
    })
