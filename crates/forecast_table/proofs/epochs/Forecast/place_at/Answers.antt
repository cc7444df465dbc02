use Rattle.std.proofs.Common.{rules}
use Rattle.forecast_table.proofs.InForce.{not_none}
use Rattle.forecast_table.proofs.epochs.Forecast.place_at.Goals as goal

pub unreachable-requires : goal.unreachable-requires
unreachable-requires c = not_none c.args.self.now c.args.tick c.rows.ensures.sound (search rules)
