-- What a report keeps of an image while it follows the timeline: its first bytes and those of both slots.
use Rattle.std.specs.Prelude.{◌≡◌, ℕ, ◌+◌, ◌≤◌, List, length}
use Rattle.nv_memory.specs.declared.layout.Layout.{Layout}
use Rattle.nv_memory.specs.Bytes.{bytes_at}
use Rattle.nv_memory.specs.Layout.{slot_at}
use Rattle.cn_report.specs.declared.window.Window.{Window}
use Rattle.cn_report.specs.declared.heads.Heads.{Heads}

-- the window shows the bytes of the image from a place on
pub record Shows (image : List ℕ) (at : ℕ) (w : Window) : Type 0 where
  pub within : at + 8 ≤ length image
  pub bytes : w.bytes ≡ bytes_at at 8 image

-- the gate, and the length and steps of each slot
pub record AreHeads (l : Layout) (image : List ℕ) (h : Heads) : Type 0 where
  pub gate : Shows image 0 h.gate
  pub first : Shows image (slot_at l 0) h.first
  pub second : Shows image (slot_at l 1) h.second
