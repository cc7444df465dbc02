-- Which files are a saved image from which a device can go on, and what is wrong with any other file.
use Rattle.std.specs.Prelude.{◌≡◌, ◌≢◌, ◌≤◌, ◌<◌, ◌⊎◌, ⊤, ℕ, ◌+◌, min, List, length, take, drop, codes, Option, Some, slice_get}
use Rattle.std.specs.Option.{option_and_then}
use Rattle.cat_program.specs.declared.outs.LogEntry.{LogEntry}
use Rattle.cat_program.specs.Body.{Body}
use Rattle.cat_program.specs.Checked.{rest_at}
use Rattle.cat_program.specs.Resting.{RestsAt}
use Rattle.nv_memory.specs.declared.layout.Layout.{Layout}
use Rattle.nv_memory.specs.Layout.{size_of}
use Rattle.checkpoint_slots.specs.declared.slot.Slot.{Slot}
use Rattle.checkpoint_slots.specs.Numbers.{number_at}
use Rattle.checkpoint_slots.specs.Slot.{variables_of}
use Rattle.checkpoint_slots.specs.Image.{selected_of, committed_bytes, committed_slot, IsWellFormed}
use Rattle.reference_run.specs.declared.schedule.Schedule.{Schedule}
use Rattle.reference_run.specs.Reference.{Setting, Moment, IsReference, HasFault}
use Rattle.logged_runs.specs.Own.{schedule_of}
use Rattle.cn_resume.specs.declared.fault.ImageKind.{ImageKind}
use Rattle.cn_resume.specs.declared.fault.ImageKind.TheVariants as kind
use Rattle.cn_resume.specs.declared.fault.ImageFault.{ImageFault}
use Rattle.cn_resume.specs.declared.fault.ImageFault.TheVariants.{BadImage, NoMemory}
use Rattle.cn_resume.specs.declared.saved.Saved.{Saved}
use Rattle.cn_resume.specs.Records.{entries_in, IsRecord, IsCounted, EachBelow, IsFirstWithout}

-- What an image is saved for: the program, the versions in which its events are handled and their arrivals; where things stand in
-- the memory of its device; the most units that the device stores; and the ticks of its life.
pub record Purpose : Type 0 where
  pub setting : Setting
  pub layout : Layout
  pub cap : ℕ
  pub life : ℕ

abbrev pub purpose_of : Setting → Layout → ℕ → ℕ → Purpose
purpose_of setting layout cap life = record { setting = setting; layout = layout; cap = cap; life = life }

-- ---- what a file says

abbrev pub tick_in : List ℕ → ℕ
tick_in file = number_at file 1

abbrev pub stored_in : List ℕ → ℕ
stored_in file = number_at file 2

abbrev pub image_in : List ℕ → List ℕ
image_in file = drop 16 file

-- the slot that the image's gate selects
abbrev pub slot_in : Purpose → List ℕ → Slot
slot_in p file = committed_slot p.layout (image_in file)

-- the entries of the records that the slot counts
abbrev pub logged_in : Purpose → List ℕ → List LogEntry
logged_in p file = entries_in p.layout (image_in file) (slot_in p file).len

-- the list of statements that the slot's place stands for, or none
abbrev pub current_in : Purpose → List ℕ → Option Body
current_in p file = option_and_then (rest_at p.setting.program) (slot_in p file).pc

-- the moment of a run that all this tells
abbrev pub moment_in : Purpose → List ℕ → Moment
moment_in p file =
    record {
      state = record { store = record { words = variables_of (slot_in p file); posts = (slot_in p file).posts }; current = current_in p file };
      steps = (slot_in p file).steps;
      entries = logged_in p file;
    }

-- the schedule that the entries and the step count tell
abbrev pub schedule_in : Purpose → List ℕ → Schedule
schedule_in p file = schedule_of (logged_in p file) (slot_in p file).steps

-- ---- the conditions

-- it begins as a saved image does
abbrev pub HasHead : List ℕ → Type 0
HasHead file = take 4 file ≡ codes "CNI1"

-- it has the head and the whole image, and the last number of the head is 0
pub record HasSize (l : Layout) (file : List ℕ) : Type 0 where
  pub size : length file ≡ 16 + size_of l
  pub padding : number_at file 3 ≡ 0

-- the tick is one of the life
abbrev pub HasTick : Purpose → List ℕ → Type 0
HasTick p file = tick_in file ≤ p.life

-- the device can store as many units
abbrev pub HasStore : Purpose → List ℕ → Type 0
HasStore p file = stored_in file ≤ p.cap

-- the selected slot is well formed
abbrev pub HasSlot : Purpose → List ℕ → Type 0
HasSlot p file = IsWellFormed p.layout (committed_bytes p.layout (image_in file))

-- no more steps than ticks have been taken
abbrev pub HasSteps : Purpose → List ℕ → Type 0
HasSteps p file = (slot_in p file).steps ≤ tick_in file

-- the slot's place stands for a list of statements, or is none
abbrev pub HasPlace : Purpose → List ℕ → Type 0
HasPlace p file = (current : Option Body) × RestsAt p.setting.program (slot_in p file).pc current

-- a record of the image spells an entry, and an event that ran started before the tick
abbrev pub IsRecordIn : Purpose → List ℕ → ℕ → Type 0
IsRecordIn p file k = IsRecord p.layout p.setting.program (tick_in file) (image_in file) k

-- so does each record that the slot counts
abbrev pub HasRecords : Purpose → List ℕ → Type 0
HasRecords p file = EachBelow (IsRecordIn p file) (slot_in p file).len

-- the slot's count of an event is the number of its entries
abbrev pub IsCountedIn : Purpose → List ℕ → ℕ → Type 0
IsCountedIn p file event = IsCounted (slot_in p file).done (logged_in p file) event

-- so it is with each event
abbrev pub HasCounts : Purpose → List ℕ → Type 0
HasCounts p file = EachBelow (IsCountedIn p file) p.layout.events

-- the entries and the step count tell a schedule that has a reference run
abbrev pub HasSchedule : Purpose → List ℕ → Type 0
HasSchedule p file = (end : Moment) × IsReference p.setting (schedule_in p file) end

-- this run ends as the image says: in its variables, posts, list of statements, steps and entries
abbrev pub HasRun : Purpose → List ℕ → Type 0
HasRun p file = IsReference p.setting (schedule_in p file) (moment_in p file)

-- The condition of each kind. That of `State` has the one of `Schedule` in it, so these are ten, the last of two kinds.
abbrev pub Holds : Purpose → List ℕ → ImageKind → Type 0
Holds p file kind.Head = HasHead file
Holds p file kind.Size = HasSize p.layout file
Holds p file kind.Tick = HasTick p file
Holds p file kind.Stored = HasStore p file
Holds p file kind.Slot = HasSlot p file
Holds p file kind.Steps = HasSteps p file
Holds p file kind.Place = HasPlace p file
Holds p file kind.Record = HasRecords p file
Holds p file kind.Done = HasCounts p file
Holds p file kind.Schedule = HasSchedule p file
Holds p file kind.State = HasRun p file

-- a device can go on from the file
abbrev pub IsFit : Purpose → List ℕ → Type 0
IsFit p file = (kind : ImageKind) → Holds p file kind

-- ---- what is wrong

-- of a longer file one byte more is looked at
abbrev pub most_bytes : ℕ
most_bytes = 16777216

abbrev pub counted_length : List ℕ → ℕ
counted_length file = min (length file) (most_bytes + 1)

-- the first place at which two lists are not the same: the shorter one differs just after its end
pub record PartsAt (one other : List LogEntry) (at : ℕ) : Type 0 where
  pub same : take at one ≡ take at other
  pub differ : slice_get one at ≢ slice_get other at

-- a run ends otherwise than the image says: in its entries, from this place on, or in its state alone, after all entries
abbrev pub EndsOtherwise : Moment → Moment → ℕ → Type 0
EndsOtherwise end said at = PartsAt end.entries said.entries at ⊎ ((end.entries ≡ said.entries) × (end.state ≢ said.state) × (at ≡ length said.entries))

-- the condition of a kind fails, and the number tells where
abbrev pub Fails : Purpose → List ℕ → ImageKind → ℕ → Type 0
Fails p file kind.Head at = ¬ (HasHead file) × (at ≡ 0)
Fails p file kind.Size at = ¬ (HasSize p.layout file) × (at ≡ counted_length file)
Fails p file kind.Tick at = ¬ (HasTick p file) × (at ≡ tick_in file)
Fails p file kind.Stored at = ¬ (HasStore p file) × (at ≡ stored_in file)
Fails p file kind.Slot at = ¬ (HasSlot p file) × (at ≡ selected_of (image_in file))
Fails p file kind.Steps at = ¬ (HasSteps p file) × (at ≡ (slot_in p file).steps)
Fails p file kind.Place at = ¬ (HasPlace p file) × ((slot_in p file).pc ≡ Some at)
Fails p file kind.Record at = IsFirstWithout (IsRecordIn p file) (slot_in p file).len at
Fails p file kind.Done at = IsFirstWithout (IsCountedIn p file) p.layout.events at
Fails p file kind.Schedule at = HasFault p.setting (schedule_in p file) at
Fails p file kind.State at = (end : Moment) × IsReference p.setting (schedule_in p file) end × EndsOtherwise end (moment_in p file) at

-- the order in which they are looked at
abbrev pub rank : ImageKind → ℕ
rank kind.Head = 0
rank kind.Size = 1
rank kind.Tick = 2
rank kind.Stored = 3
rank kind.Slot = 4
rank kind.Steps = 5
rank kind.Place = 6
rank kind.Record = 7
rank kind.Done = 8
rank kind.Schedule = 9
rank kind.State = 10

-- the conditions before one hold
abbrev pub HoldsBefore : Purpose → List ℕ → ImageKind → Type 0
HoldsBefore p file kind = (earlier : ImageKind) → rank earlier < rank kind → Holds p file earlier

-- the first condition that fails
pub record IsFirstFault (p : Purpose) (file : List ℕ) (kind : ImageKind) (at : ℕ) : Type 0 where
  pub earlier : HoldsBefore p file kind
  pub fails : Fails p file kind at

abbrev pub IsRefused : Purpose → List ℕ → ImageFault → Type 0
IsRefused p file (BadImage kind at) = IsFirstFault p file kind at
IsRefused p file NoMemory = ⊤

-- what is taken from a file
abbrev pub IsTaken : List ℕ → Saved → Type 0
IsTaken file saved = (saved.tick ≡ tick_in file) × (saved.stored ≡ stored_in file) × (saved.image.items ≡ image_in file)
