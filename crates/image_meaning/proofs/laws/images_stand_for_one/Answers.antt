use Rattle.image_meaning.proofs.Committing.{fresh_stands, stands_once}
use Rattle.image_meaning.proofs.laws.images_stand_for_one.Goals as goal

pub returns : goal.returns
returns c = λ l program. record { once = stands_once c.commits_last.ensures l program; fresh = fresh_stands l program }
