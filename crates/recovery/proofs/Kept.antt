-- What leaves the slots and the records alone leaves the committed value alone.
use Rattle.std.proofs.Common.{inl, inr, ◌≡◌, ◌≢◌, ℕ, ◌*◌, ◌%◌, ◌<◌, ◌≤◌, List, length, get_or, take, drop, sym, ◌∙◌, ap, subst, arith}
use Rattle.std.proofs.lemmas.List.{get_or-take, drop-drop}
use Rattle.std.proofs.lemmas.Option.{slice_get_within}
use Rattle.cat_program.specs.Checked.{Checked}
use Rattle.nv_memory.specs.declared.layout.Layout.{Layout}
use Rattle.nv_memory.specs.declared.board.Answer.{Answer}
use Rattle.nv_memory.specs.declared.board.Answer.TheVariants.{Done, Lost, Over}
use Rattle.nv_memory.specs.Layout.{lines_of, slot_at, log_at, record_len}
use Rattle.nv_memory.specs.Board.{State}
use Rattle.nv_memory.specs.Laws.{WritesAreLocal, PartsAreApart}
use Rattle.checkpoint_slots.specs.Slot.{read_slot, spelling}
use Rattle.checkpoint_slots.specs.Image.{selected_of, slot_bytes, committed_bytes, log_bytes, IsWellFormed}
use Rattle.checkpoint_slots.specs.Save.{IsSaved}
use Rattle.checkpoint_slots.specs.Writes.{StandsForSame}
use Rattle.nv_log.specs.Record.{record_bytes, IsSpelled}
use Rattle.nv_log.specs.Append.{ChangesRecord}
use Rattle.cat_program.specs.Resting.{RestsAt}
use Rattle.recovery.specs.Committed.{Committed, IsRecorded, IsCommitted, Commits}

module _ (writes : WritesAreLocal) (parts : (l : Layout) → PartsAreApart l) where
  -- images that agree before the log commit the same bytes
  committed_front : (l : Layout) (old new : List ℕ) → take (log_at l) new ≡ take (log_at l) old → committed_bytes l new ≡ committed_bytes l old
  committed_front l old new same =
      let some : 0 < log_at l = omega (arith, (parts l).gate 0, (parts l).log 0 (omega arith)) in
      let gate : get_or new 0 0 ≡ get_or old 0 0 = sym (get_or-take (log_at l) new 0 0 some) ∙ ap (λ (b : List ℕ). get_or b 0 0) same ∙ get_or-take (log_at l) old 0 0 some in
      let sel = selected_of old in
      let low : sel ≤ 1 = omega arith in
      ap (λ (g : ℕ). slot_bytes l (g % 2) new) gate ∙ writes.range (slot_at l sel) (64 * lines_of l) (log_at l) new old ((parts l).log sel low) same

  pub kept : (l : Layout) (program : Checked) (place : ℕ) (old new : List ℕ) (v : Committed) → ChangesRecord l place old new → v.slot.len ≤ place → IsCommitted l program old v → IsCommitted l program new v
  kept l program place old new v keeps le committed =
      let same = committed_front l old new keeps.front in
      record {
        formed = subst (IsWellFormed l) (sym same) committed.formed;
        slot_is = ap (read_slot l) same ∙ committed.slot_is;
        rests = committed.rests;
        recorded = record {
          many = committed.recorded.many;
          entries_are = λ k e is.
              let inside : k < length v.entries = slice_get_within v.entries k e is in
              let other : k ≢ place = λ at. omega (arith, inside, committed.recorded.many, le, at) in
              subst (λ (b : List ℕ). IsSpelled l program b e) (sym (keeps.others k other)) (committed.recorded.entries_are k e is);
          counted = committed.recorded.counted;
        };
      }

-- a record is a part of the log
record_in_log : (l : Layout) (k : ℕ) (old new : List ℕ) → log_bytes l new ≡ log_bytes l old → record_bytes l k new ≡ record_bytes l k old
record_in_log l k old new same =
    ap (λ (b : List ℕ). take (record_len l) b) (sym (drop-drop (record_len l * k) (log_at l) new) ∙ ap (λ (b : List ℕ). drop (record_len l * k) b) same ∙ drop-drop (record_len l * k) (log_at l) old)

recorded_again : (l : Layout) (program : Checked) (old new : List ℕ) (v : Committed) → log_bytes l new ≡ log_bytes l old → IsRecorded l program old v → IsRecorded l program new v
recorded_again l program old new v same recorded = record {
  many = recorded.many;
  entries_are = λ k e is. subst (λ (b : List ℕ). IsSpelled l program b e) (sym (record_in_log l k old new same)) (recorded.entries_are k e is);
  counted = recorded.counted;
}

old_again : (l : Layout) (program : Checked) (old new : List ℕ) (v : Committed) → committed_bytes l new ≡ committed_bytes l old → log_bytes l new ≡ log_bytes l old → IsCommitted l program old v → IsCommitted l program new v
old_again l program old new v same log committed = record {
  formed = subst (IsWellFormed l) (sym same) committed.formed;
  slot_is = ap (read_slot l) same ∙ committed.slot_is;
  rests = committed.rests;
  recorded = recorded_again l program old new v log committed.recorded;
}

pub stays : (l : Layout) (program : Checked) (old new : List ℕ) (v : Committed) → StandsForSame l old new → IsCommitted l program old v → IsCommitted l program new v
stays l program old new v same committed = old_again l program old new v same.slot same.log committed

pub spelled : (l : Layout) (program : Checked) (old new : List ℕ) (v : Committed) → IsWellFormed l (spelling l v.slot) → read_slot l (spelling l v.slot) ≡ v.slot
    → RestsAt program v.slot.pc v.current → IsRecorded l program old v → log_bytes l new ≡ log_bytes l old → committed_bytes l new ≡ spelling l v.slot → IsCommitted l program new v
spelled l program old new v formed again rests recorded log same = record {
  formed = subst (IsWellFormed l) (sym same) formed;
  slot_is = ap (read_slot l) same ∙ again;
  rests = rests;
  recorded = recorded_again l program old new v log recorded;
}

module _ (l : Layout) (program : Checked) (before after : State) (old new : Committed) (is_old : IsCommitted l program before.image old) (rests : RestsAt program new.slot.pc new.current) (ready : IsRecorded l program before.image new)
    (formed : IsWellFormed l (spelling l new.slot)) (again : read_slot l (spelling l new.slot) ≡ new.slot) where
  new_stands : (answer : Answer) → IsSaved l new.slot before answer after → committed_bytes l after.image ≡ spelling l new.slot → IsCommitted l program after.image new
  new_stands answer saved same = spelled l program before.image after.image new formed again rests ready saved.log same

  pub commits : (answer : Answer) → IsSaved l new.slot before answer after → Commits l program old new after.image answer
  commits Done saved = new_stands Done saved saved.stands
  commits Lost saved = elim saved.stands [
    | inl same ↦ inl (old_again l program before.image after.image old same saved.log is_old)
    | inr gate ↦ inr (new_stands Lost saved gate.1)
  ]
  commits Over saved = old_again l program before.image after.image old saved.stands saved.log is_old
