-- Decision points: where a board stands between two chunks, and what the engine holds there.
use Rattle.std.specs.Prelude.{◌≡◌, ℕ, ℤ, List, [], Bool, Option, None, map}
use Rattle.std.specs.Int.{w32, cast_unsigned}
use Rattle.nv_memory.specs.Board.{State}
use Rattle.cat_machine.specs.Held.{Held}
use Rattle.checkpoint_slots.specs.declared.slot.Slot.{Slot}
use Rattle.nv_memory.specs.declared.layout.Layout.{Layout}
use Rattle.checkpoint_slots.specs.Slot.{variables_of, read_slot, spelling}
use Rattle.checkpoint_slots.specs.Image.{IsWellFormed}

-- The working value: the variables, the posts and the place of the tasks, how many records and steps it has, and how many arrivals
-- of each event are done.
pub record Work : Type 0 where
  pub words : List ℤ
  pub posts : List ℕ
  pub place : Option ℕ
  pub len : ℕ
  pub steps : ℕ
  pub done : List ℕ

-- `dirty` says that the working value is not the committed one
pub record Point : Type 0 where
  pub board : State
  pub work : Work
  pub dirty : Bool

-- the machine at rest, which a handler has left with some payload
abbrev pub held_of : Work → ℤ → Held
held_of w payload = record { words = w.words; posts = w.posts; place = w.place; kept = None; stack = []; payload = payload }

-- the slot that commits a working value
abbrev pub slot_of : Work → Slot
slot_of w = record { len = w.len; steps = w.steps; pc = w.place; words = map (cast_unsigned w32) w.words; posts = w.posts; done = w.done }

-- the working value that a slot has committed
abbrev pub work_of : Slot → Work
work_of s = record { words = variables_of s; posts = s.posts; place = s.pc; len = s.len; steps = s.steps; done = s.done }

-- a slot holds the working value whole: its numbers have their ranges
pub record FitsSlot (l : Layout) (w : Work) : Type 0 where
  pub words : variables_of (slot_of w) ≡ w.words
  pub again : read_slot l (spelling l (slot_of w)) ≡ slot_of w
  pub formed : IsWellFormed l (spelling l (slot_of w))
