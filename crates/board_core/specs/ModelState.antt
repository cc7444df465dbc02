-- The state that a board's fields say.
use Rattle.std.specs.Prelude.{ℕ, ◌-◌, List, Bool}
use Rattle.harvest_trace.specs.Timeline.{life_of}
use Rattle.nv_memory.specs.declared.entry.Entry.{Entry}
use Rattle.nv_memory.specs.Board.{State}
use Rattle.board_core.specs.declared.origin.ModelOrigin.{ModelOrigin}
use Rattle.board_core.specs.Rules.{class_ticks, harvests}

abbrev pub model_state : ModelOrigin → List ℕ → List Entry → ℕ → ℕ → ℕ → Bool → State
model_state o image entries tick stored losses on =
    record {
      image = image;
      tick = tick;
      life = life_of o.trace;
      stored = stored;
      cap = o.device.cap;
      ticks = class_ticks o.device;
      harvest = harvests o.trace o.tick (tick - o.tick);
      on = on;
      timeline = entries;
      losses = losses;
    }
