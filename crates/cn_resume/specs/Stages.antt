-- What is found out about an image, one group of conditions after the other.
use Rattle.std.specs.Prelude.{◌≡◌, ◌≤◌, ◌<◌, ℕ, List, Option, Some}
use Rattle.cat_program.specs.declared.outs.LogEntry.{LogEntry}
use Rattle.cat_program.specs.Body.{Body}
use Rattle.cat_program.specs.Meaning.{TaskState}
use Rattle.cat_program.specs.Checked.{Checked}
use Rattle.cat_program.specs.Resting.{RestsAt}
use Rattle.nv_memory.specs.declared.layout.Layout.{Layout}
use Rattle.checkpoint_slots.specs.declared.slot.Slot.{Slot}
use Rattle.checkpoint_slots.specs.Slot.{variables_of}
use Rattle.checkpoint_slots.specs.Image.{selected_of, committed_bytes, committed_slot, IsWellFormed}
use Rattle.reference_run.specs.declared.schedule.Schedule.{Schedule}
use Rattle.reference_run.specs.Reference.{Setting, Moment, IsReference, HasFault}
use Rattle.cn_resume.specs.declared.fault.ImageFault.{ImageFault}
use Rattle.cn_resume.specs.declared.fault.ImageFault.TheVariants.{BadImage, NoMemory}
use Rattle.cn_resume.specs.declared.fault.ImageKind.TheVariants as kinds
use Rattle.cn_resume.specs.Records.{EachBelow, IsFirstWithout, IsRecord, IsCounted, entries_in}
use Rattle.cn_resume.specs.Fit.{EndsOtherwise}

-- a slot's place stands for a list of statements, or is none
abbrev pub HasRest : Checked → Slot → Type 0
HasRest program slot = (current : Option Body) × RestsAt program slot.pc current

-- it does not
abbrev pub IsNoRest : Checked → Slot → ImageFault → Type 0
IsNoRest program slot (BadImage kind at) = (kind ≡ kinds.Place) × (slot.pc ≡ Some at) × ¬ (HasRest program slot)
IsNoRest program slot NoMemory = ⊥

-- the selected slot was read, and is as it should be
pub record IsSlotRead (l : Layout) (program : Checked) (tick : ℕ) (image : List ℕ) (slot : Slot) : Type 0 where
  pub slot_is : slot ≡ committed_slot l image
  pub formed : IsWellFormed l (committed_bytes l image)
  pub steps : slot.steps ≤ tick
  pub rests : HasRest program slot

-- it is not
pub data SlotFault (l : Layout) (program : Checked) (tick : ℕ) (image : List ℕ) : ImageFault → Type 0 where
  NotFormed : ¬ (IsWellFormed l (committed_bytes l image)) → SlotFault l program tick image (BadImage kinds.Slot (selected_of image))
  TooManySteps : IsWellFormed l (committed_bytes l image) → tick < (committed_slot l image).steps → SlotFault l program tick image (BadImage kinds.Steps (committed_slot l image).steps)
  NoRest : (pc : ℕ) → IsWellFormed l (committed_bytes l image) → (committed_slot l image).steps ≤ tick → (committed_slot l image).pc ≡ Some pc → ¬ (HasRest program (committed_slot l image))
      → SlotFault l program tick image (BadImage kinds.Place pc)

-- the log was read
pub record IsLogRead (l : Layout) (program : Checked) (tick : ℕ) (image : List ℕ) (slot : Slot) (entries : List LogEntry) : Type 0 where
  pub entries_are : entries ≡ entries_in l image slot.len
  pub records : EachBelow (IsRecord l program tick image) slot.len
  pub counts : EachBelow (IsCounted slot.done entries) l.events

pub data LogFault (l : Layout) (program : Checked) (tick : ℕ) (image : List ℕ) (slot : Slot) : ImageFault → Type 0 where
  BadRecord : (at : ℕ) → IsFirstWithout (IsRecord l program tick image) slot.len at → LogFault l program tick image slot (BadImage kinds.Record at)
  BadCount : (at : ℕ) → EachBelow (IsRecord l program tick image) slot.len → IsFirstWithout (IsCounted slot.done (entries_in l image slot.len)) l.events at → LogFault l program tick image slot (BadImage kinds.Done at)
  NoRoom : LogFault l program tick image slot NoMemory

-- the state that a slot tells, where this list is current, and with its entries the moment
abbrev pub said_state : Slot → Option Body → TaskState
said_state slot current = record { store = record { words = variables_of slot; posts = slot.posts }; current = current }

abbrev pub said_moment : Slot → List LogEntry → Option Body → Moment
said_moment slot entries current = record { state = said_state slot current; steps = slot.steps; entries = entries }

pub data RunFault (s : Setting) (schedule : Schedule) (said : Moment) : ImageFault → Type 0 where
  NoRun : (at : ℕ) → HasFault s schedule at → RunFault s schedule said (BadImage kinds.Schedule at)
  OtherEnd : (at : ℕ) (end : Moment) → IsReference s schedule end → EndsOtherwise end said at → RunFault s schedule said (BadImage kinds.State at)
  NoRoom' : RunFault s schedule said NoMemory
