use Rattle.std.proofs.Common.{refl, sym, subst}
use Rattle.catnap_top.specs.Files.{device_in}
use Rattle.catnap_top.specs.Look.{Stops, fits}
use Rattle.catnap_top.proofs.Stopping.{device_stops}
use Rattle.catnap_top.proofs.profile.device_of.Goals as goal

pub returns-in-Ok : goal.returns-in-Ok
returns-in-Ok c = fits c.in-Ok.device c.in-Ok.ensures refl

pub returns-in-Err : goal.returns-in-Err
returns-in-Err c =
    subst (Stops (device_in c.args.profile.now)) (sym c.stop_for_device.ensures) (device_stops c.args.profile.now c.in-Err.fault c.in-Err.ensures)
