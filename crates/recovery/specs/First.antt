-- The image that a device starts with.
use Rattle.std.specs.Prelude.{◌≡◌, ℕ, List, [], replicate, None}
use Rattle.cat_program.specs.Checked.{Checked}
use Rattle.nv_memory.specs.declared.layout.Layout.{Layout}
use Rattle.nv_memory.specs.Layout.{slot_at, size_of}
use Rattle.nv_memory.specs.Bytes.{written}
use Rattle.checkpoint_slots.specs.declared.slot.Slot.{Slot}
use Rattle.checkpoint_slots.specs.Slot.{variables_of, spelling, IsMadeFor}
use Rattle.recovery.specs.Committed.{IsCommitted}

-- the slot that the program starts with
pub record IsFirst (program : Checked) (l : Layout) (s : Slot) : Type 0 where
  pub made : IsMadeFor l s
  pub len : s.len ≡ 0
  pub steps : s.steps ≡ 0
  pub pc : s.pc ≡ None
  pub variables : variables_of s ≡ program.words
  pub posts : s.posts ≡ program.started
  pub done : s.done ≡ replicate l.events 0

-- zeros, and slot 0 spells the first slot, which is committed with no entries
pub record IsFresh (program : Checked) (l : Layout) (image : List ℕ) : Type 0 where
  pub slot : Slot
  pub first : IsFirst program l slot
  pub image_is : image ≡ written (slot_at l 0) (spelling l slot) (replicate (size_of l) 0)
  pub committed : IsCommitted l program image (record { slot = slot; current = None; entries = [] })
