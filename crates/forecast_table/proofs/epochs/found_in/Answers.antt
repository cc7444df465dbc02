use Rattle.forecast_table.proofs.InForce.{is_in}
use Rattle.forecast_table.proofs.epochs.found_in.Goals as goal

pub loop-i-preserved : goal.loop-i-preserved
loop-i-preserved c = is_in c.args.rows.now c.loop-i.i c.args.tick _ c.loop-i-test.true c.if-tick-row.false
