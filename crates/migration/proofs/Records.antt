-- The records that a move brings over.
use Rattle.std.proofs.Common.{◌≡◌, ℕ, ◌+◌, ◌≤◌, ◌<◌, List, length, take, sym, ◌∙◌, ap, arith}
use Rattle.cat_program.specs.declared.outs.LogEntry.{LogEntry}
use Rattle.nv_memory.specs.declared.layout.Layout.{Layout}
use Rattle.nv_memory.specs.Formats.{record_size}
use Rattle.nv_memory.specs.Layout.{log_at, record_at, record_len, size_of}
use Rattle.nv_memory.specs.Laws.{WritesAreLocal, PartsAreApart}
use Rattle.nv_log.specs.Append.{EntriesAreSpelledOnce}
use Rattle.nv_log.specs.Record.{EntryFits, entry_of, record_bytes, record_of}
use Rattle.migration.specs.Moves.{AreOfMove, CanMove, Part, len_in, record_part}

abbrev pub AreReadAgain : Type 0
AreReadAgain = (l : Layout) (entry : LogEntry) → EntryFits l entry → entry_of l (record_of l entry) ≡ entry

pub first_at : (l : Layout) → record_at l 0 ≡ log_at l
first_at l = omega arith

-- the whole image of the first format lies before the slots of the second one
pub old_before : (old new : Layout) → AreOfMove old new → (n : ℕ) → n ≤ size_of old → n ≤ log_at new
old_before old new layouts n within = omega (arith, within, layouts.behind)

module _ (writes : WritesAreLocal) (parts : (l : Layout) → PartsAreApart l) (spelled : EntriesAreSpelledOnce) (again : AreReadAgain) (old new : Layout) (image : List ℕ) (can : CanMove old new image) where
  abbrev pub part : ℕ → Part
  part = record_part old new image

  pub in_image : size_of old ≤ length image
  in_image = omega (arith, can.size, can.layouts.behind, (parts new).fits)

  module _ (k : ℕ) (below : k < len_in old image) where
    pub in_old : k < old.log
    in_old = omega (arith, below, can.formed.len_fits)

    in_new : k < new.log
    in_new = omega (arith, in_old, can.layouts.log)

    pub bytes_are : record_of new (can.forms k below).0 ≡ (part k).bytes
    bytes_are = let form = can.forms k below in ap (record_of new) (sym (ap (entry_of old) form.3 ∙ again old form.0 form.2))

    pub long : length (part k).bytes ≡ record_len new
    long = spelled.length_is new (entry_of old (record_bytes old k image))

    pub some : 1 ≤ length (part k).bytes
    some = let many : record_len new ≡ 24 = ap record_size can.layouts.new_format in omega (arith, long, many)

    pub first : (part 0).at ≤ (part k).at
    first = omega (arith, (parts new).begin k)

    pub next : (part k).at + length (part k).bytes ≤ (part (k + 1)).at
    next = omega (arith, long, (parts new).records k (k + 1) (omega arith))

    pub within : (part k).at + length (part k).bytes ≤ length image
    within = omega (arith, long, can.size, (parts new).size k in_new)

    -- the record of the first format still stands
    pub still : (now : List ℕ) → take (part 0).at now ≡ take (part 0).at image → record_bytes old k now ≡ record_bytes old k image
    still now front =
        let low : record_at old k + record_len old ≤ log_at new = old_before old new can.layouts (record_at old k + record_len old) ((parts old).size k in_old) in
        writes.range (record_at old k) (record_len old) (part 0).at now image (omega (arith, low, first_at new)) front

    -- what is written is the part
    pub spells : (now line : List ℕ) → take (part 0).at now ≡ take (part 0).at image
        → ((entry : LogEntry) → EntryFits new entry → record_bytes old k now ≡ record_of old entry → line ≡ record_of new entry) → line ≡ (part k).bytes
    spells now line front moved = let form = can.forms k below in moved form.0 form.1 (still now front ∙ form.3) ∙ bytes_are
