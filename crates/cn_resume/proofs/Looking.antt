-- What is found out about a slot and its records decides which fault there is.
use Rattle.std.proofs.Common.{◌≡◌, ◌≤◌, ℕ, Bool, true, false, IsTrue, List, Some, Result, Ok, Err, sym, subst}
use Rattle.std.specs.Prelude.{IfErr}
use Rattle.cat_program.specs.declared.outs.LogEntry.{LogEntry}
use Rattle.cat_program.specs.Checked.{Checked}
use Rattle.nv_memory.specs.declared.layout.Layout.{Layout}
use Rattle.checkpoint_slots.specs.declared.slot.Slot.{Slot}
use Rattle.checkpoint_slots.specs.Image.{committed_bytes, committed_slot, IsWellFormed}
use Rattle.cn_resume.specs.declared.fault.ImageFault.{ImageFault}
use Rattle.cn_resume.specs.declared.fault.ImageFault.TheVariants.{BadImage, NoMemory}
use Rattle.cn_resume.specs.declared.fault.ImageKind.{ImageKind}
use Rattle.cn_resume.specs.declared.fault.ImageKind.TheVariants as kind
use Rattle.cn_resume.specs.Records.{EachBelow, IsBadRecord, IsCounted, IsFirstWithout, IsRecord, entries_in}
use Rattle.cn_resume.specs.Stages.{HasRest, IsNoRest, SlotFault, NoRest, LogFault, BadRecord, BadCount, NoRoom}

pub untrue : (P : Type 0) (b : Bool) → (IsTrue b → P) × (P → IsTrue b) → b ≡ false → ¬ P
untrue P b is off p = let on : b ≡ true = is.1 p in cc

module _ (l : Layout) (program : Checked) (tick : ℕ) (image : List ℕ) where
  pub no_rest : (slot : Slot) (told : Result (Unit {0}) ImageFault) → slot ≡ committed_slot l image → IsWellFormed l (committed_bytes l image) → slot.steps ≤ tick → IfErr told (IsNoRest program slot) → IfErr told (SlotFault l program tick image)
  no_rest slot (Ok done) is formed le bad = tt
  no_rest slot (Err NoMemory) is formed le bad = absurd bad
  no_rest slot (Err (BadImage k at)) is formed le bad =
      let steps = subst (λ (s : Slot). s.steps ≤ tick) is le in
      let place = subst (λ (s : Slot). s.pc ≡ Some at) is bad.1 in
      let never = subst (λ (s : Slot). ¬ (HasRest program s)) is bad.2 in
      subst (λ (x : ImageKind). SlotFault l program tick image (BadImage x at)) (sym bad.0) (NoRest at formed steps place never)

  pub bad_record : (slot : Slot) (fault : ImageFault) → IsBadRecord (IsRecord l program tick image) slot.len fault → LogFault l program tick image slot fault
  bad_record slot (BadImage k at) bad = subst (λ (x : ImageKind). LogFault l program tick image slot (BadImage x at)) (sym bad.0) (BadRecord at bad.1)
  bad_record slot NoMemory bad = NoRoom

  pub bad_count : (slot : Slot) (entries : List LogEntry) (at : ℕ) → entries ≡ entries_in l image slot.len → EachBelow (IsRecord l program tick image) slot.len → IsFirstWithout (IsCounted slot.done entries) l.events at → LogFault l program tick image slot (BadImage kind.Done at)
  bad_count slot entries at is good first = BadCount at good (subst (λ (es : List LogEntry). IsFirstWithout (IsCounted slot.done es) l.events at) is first)
