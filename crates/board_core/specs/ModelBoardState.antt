-- What a board that replays a trace was made of, and what it is now.
use Rattle.nv_memory.specs.Board.{State}
use Rattle.board_core.specs.declared.model_board.ModelBoard.{ModelBoard}
use Rattle.board_core.specs.declared.origin.ModelOrigin.{ModelOrigin}
use Rattle.board_core.specs.Kept.{entries_of}
use Rattle.board_core.specs.ModelState.{model_state}

abbrev pub origin_of : ModelBoard → ModelOrigin
origin_of b = b.origin

abbrev pub state_of : ModelBoard → State
state_of b = model_state b.origin b.image.items (entries_of b.timeline) b.tick b.stored b.losses b.on
