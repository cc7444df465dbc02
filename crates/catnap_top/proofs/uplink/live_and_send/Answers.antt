use Rattle.catnap_top.proofs.Looks.{stops_first}
use Rattle.catnap_top.proofs.Sending.{sends}
use Rattle.catnap_top.proofs.uplink.live_and_send.Goals as goal

pub returns-in-Ok-send : goal.returns-in-Ok-send
returns-in-Ok-send c = sends c.args.files c.args.steps.now c.in-Ok.replayed c.in-Ok-send.uplinked c.in-Ok.ensures.looks c.in-Ok-send.ensures

pub returns-in-Err : goal.returns-in-Err
returns-in-Err c = stops_first _ _ c.in-Err.stop c.in-Err.ensures.looks
