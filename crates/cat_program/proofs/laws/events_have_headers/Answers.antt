use Rattle.cat_program.proofs.Members.{headers_length}
use Rattle.cat_program.proofs.laws.events_have_headers.Goals as goal

pub returns : goal.returns
returns c = λ p checked. headers_length p.headers p.events checked.declares
