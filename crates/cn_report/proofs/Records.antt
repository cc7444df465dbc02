-- The committed log of a run.
use Rattle.std.proofs.Common.{◌≡◌, ℕ, ℤ, pos, ◌+◌, ◌≤◌, ◌<◌, List, [], ◌∷◌, length, get_or, replicate, Option, Some, sym, ap, ◌∙◌, subst, arith}
use Rattle.std.proofs.lemmas.Option.{slice_get-get_or}
use Rattle.cat_program.specs.Checked.{Checked}
use Rattle.cat_program.specs.declared.outs.LogEntry.{LogEntry}
use Rattle.cat_program.specs.declared.outs.LogEntry.TheVariants.{Out}
use Rattle.nv_memory.specs.declared.layout.Layout.{Layout}
use Rattle.nv_memory.specs.declared.entry.Entry.{Entry}
use Rattle.nv_memory.specs.declared.entry.Op.{Op}
use Rattle.nv_memory.specs.declared.entry.Op.TheVariants.{Instr, Emit, Write, Wake, Sleep}
use Rattle.std.specs.Int.{cast_signed, w32}
use Rattle.std.proofs.lemmas.List.{length-map, length-replicate}
use Rattle.std.proofs.lemmas.List.FromFn.{length-map-range_with_len}
use Rattle.nv_memory.specs.Layout.{slot_at, size_of}
use Rattle.nv_memory.specs.Board.{State, Start, IsSound, image_after, image_by}
use Rattle.checkpoint_slots.specs.declared.slot.Slot.{Slot}
use Rattle.checkpoint_slots.specs.Numbers.{number_at}
use Rattle.checkpoint_slots.specs.Slot.{spelling, IsMadeFor}
use Rattle.checkpoint_slots.specs.Image.{committed_bytes, committed_slot, IsWellFormed}
use Rattle.nv_log.specs.Record.{record_of, record_bytes, entry_of, EntryFits, IsOf, IsSpelled, IsFound}
use Rattle.recovery.specs.First.{IsFresh}
use Rattle.std.proofs.lemmas.Option.{same_Some}
use Rattle.cat_program.specs.declared.headers.Event.{Event}
use Rattle.event_arrivals.specs.Arrivals.{Lists}
use Rattle.cn_report.specs.Outcome.{known_at, log_line, record_line}
use Rattle.recovery.specs.Past.{Past, past_of, committed_at, last_image, last_slot, entry_in}
use Rattle.cn_report.specs.Whole.{IsReplayed}
use Rattle.cn_report.proofs.Written.{length-written}
use Rattle.cn_report.proofs.Moments.{committed-is, image-none, image-last, sound-last}

-- at first nothing is committed
pub none-first : (program : Checked) (past : Past) → IsFresh program past.layout past.first → (committed_at past 0).len ≡ 0
none-first program past fresh =
    sym (ap (λ (s : Slot). s.len) (committed-is past 0))
    ∙ ap (λ (image : List ℕ). (committed_slot past.layout image).len) (sym (image-none past))
    ∙ ap (λ (s : Slot). s.len) fresh.committed.slot_is
    ∙ fresh.first.len

-- what is read back has the layout's shape
pub committed-made : (l : Layout) (image : List ℕ) → IsMadeFor l (committed_slot l image)
committed-made l image =
    let bytes : List ℕ = committed_bytes l image in
    record {
      words = length-map-range_with_len (number_at bytes) 3 l.words;
      tasks = length-map-range_with_len (number_at bytes) (3 + l.words) l.tasks;
      events = length-map-range_with_len (number_at bytes) (3 + l.words + l.tasks) l.events;
    }

-- a first image has the program's words
pub fresh-words : (program : Checked) (l : Layout) (image : List ℕ) → IsFresh program l image → l.words ≡ length program.words
fresh-words program l image fresh =
    sym fresh.first.made.words
    ∙ sym (length-map fresh.slot.words (cast_signed w32))
    ∙ ap (λ (words : List ℤ). length words) fresh.first.variables

-- ---- the image stays as long as it was

length-after : (op : Op) (image : List ℕ) → length image ≤ length (image_after op image)
length-after (Instr kind pc) image = omega arith
length-after (Emit pc at left) image = length-written at left image
length-after (Write at left) image = length-written at left image
length-after Wake image = omega arith
length-after Sleep image = omega arith

length-by : (entries : List Entry) (image : List ℕ) → length image ≤ length (image_by entries image)
length-by [] image = omega arith
length-by (entry ∷ entries) image = omega (arith, length-after entry.op image, length-by entries (image_after entry.op image))

pub length-last : (past : Past) → length past.first ≤ length (last_image past)
length-last past = omega (arith, length-by past.timeline past.first, ap length (image-last past))

pub fresh-long : (program : Checked) (l : Layout) (image : List ℕ) → IsFresh program l image → size_of l ≤ length image
fresh-long program l image fresh =
    omega (arith, ap length fresh.image_is, length-written (slot_at l 0) (spelling l fresh.slot) (replicate (size_of l) 0), length-replicate {A = ℕ} (size_of l) 0)

pub image-long : (l : Layout) (start : Start) (s : State) → IsSound start s → size_of l ≤ length start.image → size_of l ≤ length s.image
image-long l start s sound large = omega (arith, large, length-last (past_of l start s), ap length (sound-last l start s sound))

module _ (program : Checked) (l : Layout) (start : Start) (s : State) (sound : IsSound start s) (r : IsReplayed program (past_of l start s)) where
  pub image-formed : IsWellFormed l (committed_bytes l s.image)
  image-formed = subst (λ (image : List ℕ). IsWellFormed l (committed_bytes l image)) (sym (sound-last l start s sound)) r.committed.formed

  pub slot-is : committed_slot l s.image ≡ last_slot (past_of l start s)
  slot-is = ap (committed_slot l) (sound-last l start s sound) ∙ committed-is (past_of l start s) (length s.timeline)

-- ---- the records

module _ (program : Checked) (past : Past) (r : IsReplayed program past) where
  last-is : last_slot past ≡ r.value.slot
  last-is = sym (committed-is past (length past.timeline)) ∙ r.committed.slot_is

  count : length r.value.entries ≡ (last_slot past).len
  count = r.committed.recorded.many ∙ ap (λ (s : Slot). s.len) (sym last-is)

  pub few : (last_slot past).len ≤ past.layout.log
  few = omega (arith, r.committed.formed.len_fits, ap (λ (s : Slot). s.len) (committed-is past (length past.timeline)))

  module _ (read_again : (l : Layout) (entry : LogEntry) → EntryFits l entry → entry_of l (record_of l entry) ≡ entry) (place : ℕ) (less : place < (last_slot past).len) where
    abbrev entry : LogEntry
    entry = get_or r.value.entries place (Out 0 (pos 0))

    spelled : IsSpelled past.layout program (record_bytes past.layout place (last_image past)) entry
    spelled = r.committed.recorded.entries_are place entry (slice_get-get_or r.value.entries place (Out 0 (pos 0)) (omega (arith, less, count)))

    entry-is : entry_in past place ≡ entry
    entry-is = ap (entry_of past.layout) spelled.bytes_are ∙ read_again past.layout entry spelled.fits

    pub entry_exists : IsOf program (entry_in past place)
    entry_exists = subst (λ (e : LogEntry). IsOf program e) (sym entry-is) spelled.exists

    pub found_is : (image : List ℕ) (found : Option LogEntry) → image ≡ last_image past → IsFound past.layout program (record_bytes past.layout place image) found → found ≡ Some (entry_in past place)
    found_is image found same is =
        is.only entry (subst (λ (i : List ℕ). IsSpelled past.layout program (record_bytes past.layout place i) entry) (sym same) spelled) ∙ ap Some (sym entry-is)

    pub some_is : (image : List ℕ) (e : LogEntry) → image ≡ last_image past → IsFound past.layout program (record_bytes past.layout place image) (Some e) → e ≡ entry_in past place
    some_is image e same is = same_Some e (entry_in past place) (found_is image (Some e) same is)

pub record-is : (headers : List Event) (lists : Lists) (past : Past) (start place : ℕ) (tick : Option ℕ) (e : LogEntry) → tick ≡ known_at past start place → e ≡ entry_in past place
    → log_line headers lists tick e ≡ record_line headers lists past start place
unfolding record_line
record-is headers lists past start place tick e tick_is e_is =
    ap (λ (t : Option ℕ). log_line headers lists t e) tick_is ∙ ap (log_line headers lists (known_at past start place)) e_is
