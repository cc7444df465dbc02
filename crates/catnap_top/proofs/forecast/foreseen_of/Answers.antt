use Rattle.std.proofs.Common.{ℕ, List, Result, Some, Ok, Err, true, refl, sym, subst}
use Rattle.std.specs.Prelude.{option_map}
use Rattle.std.specs.Option.{is_some}
use Rattle.forecast_table.specs.declared.epoch.Epoch.{Epoch}
use Rattle.nv_memory.specs.declared.device.Device.{Device}
use Rattle.catnap_top.specs.declared.stop.Stop.{Stop}
use Rattle.catnap_top.specs.Files.{forecast_in, foreseen_in}
use Rattle.catnap_top.specs.Look.{Looks, LooksAs, goes}
use Rattle.catnap_top.proofs.Looks.{stops_first}
use Rattle.catnap_top.proofs.forecast.foreseen_of.Goals as goal

-- what a file says is what is foreseen
by_file : (d : Device) (file : List ℕ) (result : Result (List Epoch) Stop) → Looks (forecast_in file) result
    → LooksAs (λ rows. record { given = true; rows = rows }) (foreseen_in d (Some file)) result
by_file d file (Ok rows) h = goes rows h refl
by_file d file (Err stop) h = stops_first _ _ stop h

pub returns-in-Some-clause-looks : goal.returns-in-Some-clause-looks
returns-in-Some-clause-looks c =
    subst (λ forecast. LooksAs (λ rows. record { given = is_some forecast; rows = rows }) (foreseen_in c.args.device.now (option_map (λ file. file.now) forecast)) c.forecast_of.result)
    (sym c.in-Some.is) (by_file c.args.device.now c.in-Some.file.now c.forecast_of.result c.forecast_of.ensures)
