use Rattle.cat_machine.proofs.Unread.{sections_read_no_payload}
use Rattle.cat_machine.proofs.run.sections_read_no_payload.Goals as goal

pub returns : goal.returns
returns c = sections_read_no_payload
