-- How sleep goes on, for a board that passes more than one tick at once.
use Rattle.std.specs.Prelude.{◌≡◌, ◌⊎◌, ℕ, ◌<◌, ◌≤◌}
use Rattle.nv_memory.specs.declared.board.Answer.{Answer}
use Rattle.nv_memory.specs.declared.board.Answer.TheVariants.{Done}
use Rattle.nv_memory.specs.Board.{State, Sleeps}

-- sleep ends in a state that it came to, or goes on from there
abbrev pub Onward : ℕ → ℕ → State → Answer → State → Type 0
Onward upto enough s answer t = ((answer ≡ Done) × (t ≡ s) × ((upto ≤ s.tick) ⊎ (enough ≤ s.stored))) ⊎ ((s.tick < upto) × (s.stored < enough) × Sleeps upto enough s answer t)
