use Rattle.std.proofs.Common.{◌≤◌, ◌<◌, ℕ}
use Rattle.checkpoint_slots.specs.Image.{number_in}
use Rattle.checkpoint_slots.proofs.loading.at_most.Given as goal

abbrev pub invariant-loop-k : goal.invariant-loop-k
invariant-loop-k g l = (j : ℕ) → l.from ≤ j → j < l.k → number_in (g.B.Board.state l.board).image l.at j ≤ l.most
