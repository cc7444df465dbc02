use Rattle.catnap_top.proofs.OneProfile.{one_profile}
use Rattle.catnap_top.proofs.one.one_profile.Goals as goal

pub returns : goal.returns
returns c = one_profile c.one_device_law.ensures
