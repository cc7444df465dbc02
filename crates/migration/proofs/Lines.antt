-- The lines of the slot that a move brings over.
use Rattle.std.proofs.Common.{◌≡◌, ℕ, ◌+◌, ◌*◌, ◌/◌, ◌%◌, get_or, ◌≤◌, ◌<◌, List, length, length-drop, take, drop, refl, sym, ◌∙◌, ap, arith}
use Rattle.std.proofs.lemmas.List.{length-take-le, get_or-take}
use Rattle.nv_memory.specs.declared.layout.Layout.{Layout}
use Rattle.nv_memory.specs.Bytes.{bytes_at}
use Rattle.nv_memory.specs.Layout.{lines_of, log_at, slot_at, size_of}
use Rattle.nv_memory.specs.Laws.{WritesAreLocal, PartsAreApart}
use Rattle.checkpoint_slots.specs.Image.{selected_of}
use Rattle.migration.specs.Moves.{AreOfMove, Part, line_part, lines_in, missing, writes_of}
use Rattle.migration.proofs.Upto.{missing_by, writes_by}

pub lines_same : (old new : Layout) → AreOfMove old new → lines_of new ≡ lines_of old
lines_same old new layouts = λ i. (3 + layouts.words i + layouts.tasks i + layouts.events i + 15) / 16

module _ (writes : WritesAreLocal) (parts : (l : Layout) → PartsAreApart l) (old new : Layout) (image : List ℕ) (layouts : AreOfMove old new) (all : size_of new ≤ length image)
    (s : ℕ) (is : s ≡ selected_of image) (one : s ≤ 1) (i : ℕ) (below : i < lines_of old) where
  abbrev part : ℕ → Part
  part = line_part old new image

  -- the line in the first format, before all that is written
  pub in_old : slot_at old s + 64 * i + 64 ≤ size_of old
  in_old = omega (arith, below, (parts old).log s one, (parts old).fits)

  pub in_image : slot_at old s + 64 * i + 64 ≤ length image
  in_image = omega (arith, in_old, layouts.behind, all, (parts new).fits)

  old_is : slot_at old s + 64 * i ≡ slot_at old (selected_of image) + 64 * i
  old_is = ap (λ (n : ℕ). slot_at old n + 64 * i) is

  pub new_is : slot_at new s + 64 * i ≡ (part i).at
  new_is = ap (λ (n : ℕ). slot_at new n + 64 * i) is

  pub long : length (part i).bytes ≡ 64
  long = length-take-le 64 (drop (slot_at old (selected_of image) + 64 * i) image) (omega (arith, length-drop (slot_at old (selected_of image) + 64 * i) image, old_is, in_image))

  pub first : (part 0).at ≤ (part i).at
  first = omega arith

  pub next : (part i).at + length (part i).bytes ≤ (part (i + 1)).at
  next = omega (arith, long)

  pub within : (part i).at + length (part i).bytes ≤ length image
  within = omega (arith, long, new_is, below, lines_same old new layouts, (parts new).log s one, (parts new).fits, all)

  -- what is written is the part
  pub spells : (now line : List ℕ) → take (part 0).at now ≡ take (part 0).at image → line ≡ bytes_at (slot_at old s + 64 * i) 64 now → line ≡ (part i).bytes
  spells now line front read =
      let low : slot_at old s + 64 * i + 64 ≤ (part 0).at = omega (arith, in_old, layouts.behind) in
      read ∙ writes.range (slot_at old s + 64 * i) 64 (part 0).at now image low front ∙ ap (λ (at : ℕ). bytes_at at 64 image) old_is

-- the lines are the same ones where all before the log is as it was
module _ (writes : WritesAreLocal) (parts : (l : Layout) → PartsAreApart l) (old new : Layout) (now image : List ℕ) (layouts : AreOfMove old new) (all : size_of new ≤ length image)
    (front : take (log_at new) now ≡ take (log_at new) image) where
  pub selected_is : selected_of now ≡ selected_of image
  selected_is =
      let some : 0 < log_at new = omega (arith, (parts new).gate 0, (parts new).log 0 (omega arith)) in
      ap (λ (byte : ℕ). byte % 2) (sym (get_or-take (log_at new) now 0 0 some) ∙ ap (λ (l : List ℕ). get_or l 0 0) front ∙ get_or-take (log_at new) image 0 0 some)

  few : selected_of image ≤ 1
  few = omega arith

  part_is : (i : ℕ) → i < lines_of old → line_part old new now i ≡ line_part old new image i
  part_is i below =
      let low : slot_at old (selected_of image) + 64 * i + 64 ≤ log_at new = omega (arith, layouts.behind, in_old writes parts old new image layouts all (selected_of image) refl few i below) in
      let bytes_are : (line_part old new now i).bytes ≡ (line_part old new image i).bytes =
      ap (λ (s : ℕ). bytes_at (slot_at old s + 64 * i) 64 now) selected_is ∙ writes.range (slot_at old (selected_of image) + 64 * i) 64 (log_at new) now image low front in
      λ j. record { at = slot_at new (selected_is j) + 64 * i; bytes = bytes_are j }

  missing_is : (i : ℕ) → i < 0 + lines_of old → missing now (line_part old new now i) ≡ missing image (line_part old new image i)
  missing_is i below =
      let p = line_part old new image i in
      let at_line : i < lines_of old = omega (arith, below) in
      let size = long writes parts old new image layouts all (selected_of image) refl few i at_line in
      let low : p.at + length p.bytes ≤ log_at new = omega (arith, size, at_line, lines_same old new layouts, (parts new).log (selected_of image) few) in
      ap (missing now) (part_is i at_line) ∙ missing_by now image p (writes.range p.at (length p.bytes) (log_at new) now image low front)

  pub lines_by : writes_of now (lines_in old new now) ≡ writes_of image (lines_in old new image)
  lines_by = writes_by now image (line_part old new now) (line_part old new image) 0 (lines_of old) missing_is
