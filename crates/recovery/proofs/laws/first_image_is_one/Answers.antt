use Rattle.recovery.proofs.FreshOnce.{fresh_once}
use Rattle.recovery.proofs.laws.first_image_is_one.Goals as goal

pub returns : goal.returns
returns c = fresh_once
