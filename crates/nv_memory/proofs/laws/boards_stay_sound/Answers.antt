use Rattle.nv_memory.proofs.Steps.{sound_after}
use Rattle.nv_memory.proofs.laws.boards_stay_sound.Goals as goal

pub returns : goal.returns
returns c = sound_after
