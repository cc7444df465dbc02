use Rattle.std.proofs.Common.{refl}
use Rattle.catnap_top.specs.Look.{fits, fails}
use Rattle.catnap_top.proofs.forecast.forecast_of.Goals as goal

pub returns-in-Ok : goal.returns-in-Ok
returns-in-Ok c = fits c.in-Ok.rows c.in-Ok.ensures.ok refl

pub returns-in-Err-BadForecast : goal.returns-in-Err-BadForecast
returns-in-Err-BadForecast c =
    let fault = rw c.in-Err-BadForecast.field-0-is at c.in-Err-BadForecast.ensures.fault in
    fails (c.in-Err-BadForecast.row, c.in-Err-BadForecast.kind) fault refl
