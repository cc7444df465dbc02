-- The first image commits the first slot.
use Rattle.std.proofs.Common.{◌≡◌, ◌≢◌, ℕ, ◌+◌, ◌*◌, ◌%◌, ◌<◌, ◌≤◌, List, [], length, get_or, sym, ◌∙◌, ap, subst, arith, replicate, Option, None, Some}
use Rattle.std.proofs.lemmas.List.{get_or-take, get_or-replicate, length-replicate}
use Rattle.cat_program.specs.Checked.{Checked}
use Rattle.nv_memory.specs.declared.layout.Layout.{Layout}
use Rattle.nv_memory.specs.Layout.{lines_of, slot_at, size_of}
use Rattle.nv_memory.specs.Bytes.{written, bytes_at}
use Rattle.nv_memory.specs.Laws.{WritesAreLocal, PartsAreApart}
use Rattle.checkpoint_slots.specs.declared.slot.Slot.{Slot}
use Rattle.checkpoint_slots.specs.Slot.{spelling, read_slot}
use Rattle.checkpoint_slots.specs.Image.{selected_of, slot_bytes, committed_bytes, IsWellFormed}
use Rattle.cat_program.specs.Resting.{RestsAt}
use Rattle.recovery.specs.Committed.{IsCommitted}
use Rattle.recovery.specs.First.{IsFirst, IsFresh}

module _ (writes : WritesAreLocal) (program : Checked) (l : Layout) (parts : PartsAreApart l) (s : Slot) (first : IsFirst program l s)
    (long : length (spelling l s) ≡ 64 * lines_of l) (again : read_slot l (spelling l s) ≡ s) (formed : IsWellFormed l (spelling l s)) where
  abbrev zeros : List ℕ
  zeros = replicate (size_of l) 0

  abbrev image : List ℕ
  image = written (slot_at l 0) (spelling l s) zeros

  many : length zeros ≡ size_of l
  many = length-replicate (size_of l) 0

  ends : slot_at l 0 + length (spelling l s) ≤ length zeros
  ends = omega (arith, many, long, parts.log 0 (omega arith), parts.fits)

  gate : selected_of image ≡ 0
  gate =
      let some : 0 < slot_at l 0 = omega (arith, parts.gate 0) in
      let front = writes.front (slot_at l 0) (slot_at l 0) (spelling l s) zeros (omega arith) (omega (arith, ends)) in
      ap (λ (n : ℕ). n % 2) (sym (get_or-take (slot_at l 0) image 0 0 some) ∙ ap (λ (b : List ℕ). get_or b 0 0) front ∙ get_or-take (slot_at l 0) zeros 0 0 some ∙ get_or-replicate (size_of l) 0 0 0 (omega (arith, ends, many, some)))

  spelled_there : committed_bytes l image ≡ spelling l s
  spelled_there =
      ap (λ (sel : ℕ). slot_bytes l sel image) gate
      ∙ ap (λ (n : ℕ). bytes_at (slot_at l 0) n image) (sym long)
      ∙ writes.own (slot_at l 0) (spelling l s) zeros ends

  is_committed : IsCommitted l program image (record { slot = s; current = None; entries = [] })
  is_committed = record {
    formed = subst (IsWellFormed l) (sym spelled_there) formed;
    slot_is = ap (read_slot l) spelled_there ∙ again;
    rests = rests;
    recorded = record {
      many = sym first.len;
      entries_are = λ k e is. absurd (cc);
      counted = λ e below. ap (λ (d : List ℕ). get_or d e 0) first.done ∙ get_or-replicate l.events e 0 0 below;
    };
  }
    where
      rests : RestsAt program s.pc None
      rests = subst (λ (pc : Option ℕ). RestsAt program pc None) (sym first.pc) tt

  pub fresh : (bytes : List ℕ) → bytes ≡ image → IsFresh program l bytes
  fresh bytes is = record {
    slot = s;
    first = first;
    image_is = is;
    committed = subst (λ (b : List ℕ). IsCommitted l program b (record { slot = s; current = None; entries = [] })) (sym is) is_committed;
  }

pub not_last : (program : Checked) (l : Layout) (s : Slot) → IsFirst program l s → s.pc ≢ Some 4294967295
not_last program l s first same = let no_place : s.pc ≡ None = first.pc in cc
