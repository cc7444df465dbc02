-- Entries that do no more than pass ticks.
use Rattle.std.specs.Prelude.{◌≡◌, ◌⊎◌, ℕ, List, Some, false, slice_get}
use Rattle.nv_memory.specs.declared.device.Class.{Class}
use Rattle.nv_memory.specs.declared.entry.Op.TheVariants.{Instr, Sleep}
use Rattle.nv_memory.specs.declared.entry.Entry.{Entry}

-- the entry at a place is a tick of sleep that passed, or an instruction without an output that was done
pub record IsSilent (timeline : List Entry) (place : ℕ) : Type 0 where
  pub entry : Entry
  pub at : slice_get timeline place ≡ Some entry
  pub done : entry.lost ≡ false
  pub silent : (entry.op ≡ Sleep) ⊎ ((kind : Class) × (pc : ℕ) × (entry.op ≡ Instr kind pc))
