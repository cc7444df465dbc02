-- What is found out about an image decides its conditions one after the other.
use Rattle.std.proofs.Common.{Bool, true, false, ◌≡◌, ◌≤◌, ◌<◌, ◌+◌, ℕ, List, length, length-drop, Option, Result, Ok, Err, refl, sym, ap, ◌∙◌, subst, arith}
use Rattle.std.specs.Prelude.{IfErr, OnOk, ◌==◌, ◌*◌, if◌then◌else◌}
use Rattle.std.specs.Option.{option_and_then}
use Rattle.std.proofs.lemmas.List.FromFn.{length-map-range_with_len}
use Rattle.cat_program.specs.declared.outs.LogEntry.{LogEntry}
use Rattle.cat_program.specs.Body.{Body}
use Rattle.cat_program.specs.Checked.{Checked, rest_at}
use Rattle.cat_program.specs.Resting.{RestsAt}
use Rattle.nv_memory.specs.declared.layout.Layout.{Layout}
use Rattle.nv_memory.specs.declared.device.Device.{Device}
use Rattle.nv_memory.specs.Laws.{LayoutsAreNumbers}
use Rattle.nv_memory.specs.Layout.{lines_of, size_of}
use Rattle.degradation.specs.Placed.{IsLayoutOf}
use Rattle.checkpoint_slots.specs.declared.slot.Slot.{Slot}
use Rattle.checkpoint_slots.specs.Image.{committed_bytes, committed_slot, IsWellFormed}
use Rattle.checkpoint_slots.specs.Numbers.{number_at}
use Rattle.checkpoint_slots.specs.Slot.{IsMadeFor}
use Rattle.reference_run.specs.Reference.{Setting, IsReference}
use Rattle.logged_runs.specs.Own.{schedule_of}
use Rattle.cn_resume.specs.declared.fault.ImageFault.{ImageFault}
use Rattle.cn_resume.specs.declared.fault.ImageKind.TheVariants as kind
use Rattle.cn_resume.specs.Records.{entries_in, entry_in}
use Rattle.cn_resume.specs.Fit.{Purpose, HasSize, HoldsBefore, IsFit, IsRefused, purpose_of, tick_in, image_in, slot_in, logged_in, current_in, moment_in, schedule_in}
use Rattle.cn_resume.specs.Stages.{IsSlotRead, SlotFault, NotFormed, TooManySteps, NoRest, IsLogRead, LogFault, BadRecord, BadCount, NoRoom, RunFault, NoRun, OtherEnd, NoRoom', said_moment}
use Rattle.cn_resume.proofs.Running.{current_is}
use Rattle.cn_resume.proofs.Order.{one_further, all_hold}

-- an image has less than 2 ^ 32 bytes
few_by : (short : Bool) (base lines log : ℕ) → base ≤ (if short then 64 else 16008640) → lines ≤ 67 → log ≤ 1000000
    → base + 128 * lines + (if short then 16 else 24) * log < 4294967280
few_by true base lines log low few records = omega (arith, low, few, records)
few_by false base lines log low few records = omega (arith, low, few, records)

pub size_few : (l : Layout) → size_of l < 4294967280
size_few l = few_by (l.format == 1) l.base (lines_of l) l.log l.base_in_range (omega (arith, l.words_in_range, l.tasks_in_range, l.events_in_range)) l.log_in_range

-- a program has one layout on a device
pub one_layout : LayoutsAreNumbers → (p : Checked) (d : Device) (a b : Layout) → IsLayoutOf p d a → IsLayoutOf p d b → a ≡ b
one_layout law p d a b one other = law a b (one.words ∙ sym other.words) (one.tasks ∙ sym other.tasks) (one.events ∙ sym other.events) (one.log ∙ sym other.log) (one.format ∙ sym other.format) (one.base ∙ sym other.base)

-- what holds of a tick and an image holds of a file's where they are the same
pub told_of : (T : ℕ → List ℕ → Type 0) (tick : ℕ) (image file : List ℕ) → tick ≡ tick_in file → image ≡ image_in file → T tick image → T (tick_in file) (image_in file)
told_of T tick image file first second h = subst (T (tick_in file)) second (subst (λ (n : ℕ). T n image) first h)

-- the slot that is read has the layout's shape
module _ (l : Layout) (image : List ℕ) (slot : Slot) (is : slot ≡ committed_slot l image) where
  pub slot_made : IsMadeFor l slot
  slot_made = subst (IsMadeFor l) (sym is)
      (let bytes = committed_bytes l image in
      record { words = length-map-range_with_len (number_at bytes) 3 l.words; tasks = length-map-range_with_len (number_at bytes) (3 + l.words) l.tasks; events = length-map-range_with_len (number_at bytes) (3 + l.words + l.tasks) l.events })

  pub logged_few : (entries : List LogEntry) → IsWellFormed l (committed_bytes l image) → entries ≡ entries_in l image slot.len → length entries ≤ 1000000
  logged_few entries formed are =
      let many = ap length are ∙ length-map-range_with_len (entry_in l image) 0 slot.len in
      let len = ap (λ (x : Slot). x.len) is in
      omega (arith, many, len, formed.len_fits, l.log_in_range)

-- what follows in a case
pub on_ok : {E : Type 0} (told : Result (Unit {0}) E) (P Q : Type 0) → (P → Q) → OnOk told P → OnOk told Q
on_ok (Ok done) P Q f p = f p
on_ok (Err e) P Q f p = tt

pub if_err : {E : Type 0} (told : Result (Unit {0}) E) (P Q : E → Type 0) → ((e : E) → P e → Q e) → IfErr told P → IfErr told Q
if_err (Ok done) P Q f p = tt
if_err (Err e) P Q f p = f e p

module _ (s : Setting) (l : Layout) (cap life : ℕ) (file : List ℕ) where
  abbrev P : Purpose
  P = purpose_of s l cap life

  -- what the head says of the rest
  pub sized : HoldsBefore P file kind.Slot → HasSize l file
  sized before = before kind.Size (omega arith)

  pub in_life : HoldsBefore P file kind.Slot → tick_in file ≤ life
  in_life before = before kind.Tick (omega arith)

  pub image_length : HoldsBefore P file kind.Slot → length (image_in file) ≡ size_of l
  image_length before = let whole = (sized before).size in let cut = length-drop 16 file in omega (arith, whole, cut)

  pub slot_refused : (fault : ImageFault) → HoldsBefore P file kind.Slot → SlotFault l s.program (tick_in file) (image_in file) fault → IsRefused P file fault
  slot_refused fault before (NotFormed never) = record { earlier = before; fails = (never, refl) }
  slot_refused fault before (TooManySteps formed lt) = record { earlier = one_further P file kind.Slot kind.Steps refl before formed; fails = ((λ le. absurd (omega (arith, le, lt))), refl) }
  slot_refused fault before (NoRest pc formed le is never) =
      record { earlier = one_further P file kind.Steps kind.Place refl (one_further P file kind.Slot kind.Steps refl before formed) le; fails = (never, is) }

  module _ (slot : Slot) (read : IsSlotRead l s.program (tick_in file) (image_in file) slot) where
    pub after_slot : HoldsBefore P file kind.Slot → HoldsBefore P file kind.Record
    after_slot before =
        let steps : (slot_in P file).steps ≤ tick_in file = subst (λ (x : Slot). x.steps ≤ tick_in file) read.slot_is read.steps in
        let rests : (current : Option Body) × RestsAt s.program (slot_in P file).pc current = subst (λ (x : Slot). (current : Option Body) × RestsAt s.program x.pc current) read.slot_is read.rests in
        one_further P file kind.Place kind.Record refl (one_further P file kind.Steps kind.Place refl (one_further P file kind.Slot kind.Steps refl before read.formed) steps) rests

    pub log_refused : (fault : ImageFault) → HoldsBefore P file kind.Record → LogFault l s.program (tick_in file) (image_in file) slot fault → IsRefused P file fault
    log_refused fault before bad = go fault (subst (λ (x : Slot). LogFault l s.program (tick_in file) (image_in file) x fault) read.slot_is bad)
      where
        go : (f : ImageFault) → LogFault l s.program (tick_in file) (image_in file) (slot_in P file) f → IsRefused P file f
        go f (BadRecord at first) = record { earlier = before; fails = first }
        go f (BadCount at good first) = record { earlier = one_further P file kind.Record kind.Done refl before good; fails = first }
        go f NoRoom = tt

    module _ (entries : List LogEntry) (log : IsLogRead l s.program (tick_in file) (image_in file) slot entries) where
      pub logged_is : entries ≡ logged_in P file
      logged_is = log.entries_are ∙ ap (λ (x : Slot). entries_in l (image_in file) x.len) read.slot_is

      pub after_log : HoldsBefore P file kind.Record → HoldsBefore P file kind.Schedule
      after_log before =
          let own = subst (λ (x : Slot). IsLogRead l s.program (tick_in file) (image_in file) x entries) read.slot_is log in
          let good = subst (λ (es : List LogEntry). IsLogRead l s.program (tick_in file) (image_in file) (slot_in P file) es) logged_is own in
          one_further P file kind.Done kind.Schedule refl (one_further P file kind.Record kind.Done refl before good.records) good.counts

      said_is : (current : Option Body) → RestsAt s.program slot.pc current → said_moment slot entries current ≡ moment_in P file
      said_is current rests =
          let now : current ≡ current_in P file = current_is s.program slot.pc current rests ∙ ap (λ (x : Slot). option_and_then (rest_at s.program) x.pc) read.slot_is in
          ap (said_moment slot entries) now ∙ ap (λ (es : List LogEntry). said_moment slot es (current_in P file)) logged_is ∙ ap (λ (x : Slot). said_moment x (logged_in P file) (current_in P file)) read.slot_is

      schedule_is : schedule_of entries slot.steps ≡ schedule_in P file
      schedule_is = ap (λ (es : List LogEntry). schedule_of es slot.steps) logged_is ∙ ap (λ (x : Slot). schedule_of (logged_in P file) x.steps) read.slot_is

      pub run_refused : (fault : ImageFault) (current : Option Body) → RestsAt s.program slot.pc current → HoldsBefore P file kind.Schedule
          → RunFault s (schedule_of entries slot.steps) (said_moment slot entries current) fault → IsRefused P file fault
      run_refused fault current rests before bad =
          let here = subst (λ x. RunFault s x (said_moment slot entries current) fault) schedule_is bad in
          go fault (subst (λ x. RunFault s (schedule_in P file) x fault) (said_is current rests) here)
        where
          go : (f : ImageFault) → RunFault s (schedule_in P file) (moment_in P file) f → IsRefused P file f
          go f (NoRun at bad) = record { earlier = before; fails = bad }
          go f (OtherEnd at end is other) = record { earlier = one_further P file kind.Schedule kind.State refl before (end, is); fails = (end, is, other) }
          go f NoRoom' = tt

      pub fits : (current : Option Body) → RestsAt s.program slot.pc current → HoldsBefore P file kind.Schedule → IsReference s (schedule_of entries slot.steps) (said_moment slot entries current) → IsFit P file
      fits current rests before is =
          let here = subst (λ x. IsReference s x (said_moment slot entries current)) schedule_is is in
          let own = subst (λ x. IsReference s (schedule_in P file) x) (said_is current rests) here in
          all_hold P file (one_further P file kind.Schedule kind.State refl before (moment_in P file, own)) own
