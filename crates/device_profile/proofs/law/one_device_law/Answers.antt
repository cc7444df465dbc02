use Rattle.device_profile.proofs.SameDevice.{device_same}
use Rattle.device_profile.proofs.law.one_device_law.Goals as goal

pub returns : goal.returns
returns c = device_same
