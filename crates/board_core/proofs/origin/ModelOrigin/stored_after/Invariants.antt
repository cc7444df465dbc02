use Rattle.std.proofs.Common.{◌≡◌, ◌≤◌, ◌-◌, ◌+◌}
use Rattle.nv_memory.specs.Board.{filled}
use Rattle.board_core.specs.Rules.{harvests}
use Rattle.board_core.proofs.origin.ModelOrigin.stored_after.Given as goal

abbrev pub invariant-rows : goal.invariant-rows
invariant-rows l = record {
  begun : l.tick ≤ l.from;
  within : l.from ≤ l.tick + l.ticks;
  so_far : l.stored ≡ filled l.self.device.cap l.fn.stored (harvests l.self.trace l.tick (l.from - l.tick));
  in_cap : l.stored ≤ l.self.device.cap;
}

abbrev pub decreases-rows : goal.decreases-rows
decreases-rows l = (l.tick + l.ticks) - l.from
