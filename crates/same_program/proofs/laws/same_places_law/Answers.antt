use Rattle.same_program.proofs.Places.{same_places, same_rests}
use Rattle.same_program.proofs.laws.same_places_law.Goals as goal

pub returns-clause-place : goal.returns-clause-place
returns-clause-place c = same_places

pub returns-clause-rests : goal.returns-clause-rests
returns-clause-rests c = same_rests
