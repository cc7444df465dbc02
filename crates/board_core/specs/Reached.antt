-- The states that a board comes to by these rules, from its origin on.
use Rattle.std.specs.Prelude.{◌≡◌, ℕ, zero, suc, List, [], ◌∷◌, false}
use Rattle.harvest_trace.specs.Timeline.{life_of}
use Rattle.nv_memory.specs.declared.entry.Op.TheVariants.{Sleep}
use Rattle.nv_memory.specs.declared.entry.Entry.{Entry}
use Rattle.nv_memory.specs.Board.{State, Start}
use Rattle.board_core.specs.declared.origin.ModelOrigin.{ModelOrigin}
use Rattle.board_core.specs.Rules.{class_ticks, model_next}

abbrev pub model_start : ModelOrigin → Start
model_start o = record { tick = o.tick; stored = o.stored; image = o.image }

-- the board as it began: off, with no entries and no losses
abbrev pub first_state : ModelOrigin → State
first_state o =
    record {
      image = o.image;
      tick = o.tick;
      life = life_of o.trace;
      stored = o.stored;
      cap = o.device.cap;
      ticks = class_ticks o.device;
      harvest = [];
      on = false;
      timeline = [];
      losses = 0;
    }

-- the state after the operations of these entries, one after the other
unfoldable pub replayed : ModelOrigin → List Entry → State → State
replayed o [] s = s
replayed o (entry ∷ later) s = replayed o later (model_next o s entry.op)

-- The state is the one to which the rules lead from the origin on, when they are asked for the operations of its own timeline.
-- So they give each entry, the harvest of each tick that has passed, the tick, the store and the image.
abbrev pub IsReached : ModelOrigin → State → Type 0
IsReached o s = s ≡ replayed o s.timeline (first_state o)

-- the state after n ticks of sleep
unfoldable pub slept : ModelOrigin → ℕ → State → State
slept o zero s = s
slept o (suc n) s = slept o n (model_next o s Sleep)
