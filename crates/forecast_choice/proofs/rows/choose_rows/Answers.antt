use Rattle.std.proofs.Common.{rules, ◌≡◌, true, arith, subst, get_or}
use Rattle.std.specs.Result.{is_ok}
use Rattle.degradation.specs.declared.supply.Supply.{Supply}
use Rattle.degradation.specs.Choice.{IsChoice, IsNoChoice}
use Rattle.forecast_table.specs.declared.epoch.Epoch.{Epoch}
use Rattle.forecast_choice.specs.Rows.{supply_in}
use Rattle.forecast_choice.proofs.Choices.{first-push, first-refused, row_here, suits-push}
use Rattle.forecast_choice.proofs.rows.choose_rows.Goals as goal

-- what stands past the end of the rows
no_row : Epoch
no_row = record { tick = 0; p = 0; q = 0 }

pub returns-in-Err-clause-refused : goal.returns-in-Err-clause-refused
unfolding no_row
returns-in-Err-clause-refused c =
    let p = c.args.program.now in
    let b = c.args.bounds.now in
    let device = c.args.device.now in
    let rows = c.rows-rows.result.now in
    let i = c.loop-row.row-index in
    let none : IsNoChoice p b device (supply_in (get_or rows i no_row)) c.in-Err.fault = subst (λ (s : Supply). IsNoChoice p b device s c.in-Err.fault) c.supply_of-supply.ensures c.in-Err.ensures.refused in
    rw (← c.rows-rows.ensures.rows, c.at_row.ensures)
    (first-refused p b device c.args.lines rows i c.loop-row.number c.loop-row.found.items (get_or rows i no_row) c.in-Err.fault c.loop-row.invariant.first c.loop-row.invariant.numbered (row_here rows i no_row c.loop-row-test.true) none)

pub loop-row-preserved : goal.loop-row-preserved
unfolding no_row
loop-row-preserved c =
    let p = c.args.program.now in
    let b = c.args.bounds.now in
    let device = c.args.device.now in
    let rows = c.rows-rows.result.now in
    let i = c.loop-row.row-index in
    let chosen = c.in-Ok.chosen in
    let choice : IsChoice p b device (supply_in (get_or rows i no_row)) c.args.lines chosen = subst (λ (s : Supply). IsChoice p b device s c.args.lines chosen) c.supply_of-supply.ensures c.in-Ok.ensures.chosen in
    let pushed : is_ok c.push.result ≡ true = search rules in
    let items = rw pushed at c.push.ensures.items in
    rw items (record {
      first = first-push p b device c.args.lines rows i c.loop-row.found.items (get_or rows i no_row) chosen c.loop-row.invariant.first (row_here rows i no_row c.loop-row-test.true) choice;
      suits = suits-push p c.loop-row.found.items chosen c.loop-row.invariant.suits c.in-Ok.ensures.suits;
      numbered = omega (arith, c.loop-row.invariant.numbered);
    })
