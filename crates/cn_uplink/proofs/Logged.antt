-- The committed log of an image.
use Rattle.std.proofs.Common.{◌≡◌, ℕ, pos, ◌≤◌, ◌<◌, List, [], ◌∷◌, ◌++◌, length, map, get_or, ◌+◌, replicate, sym, ap, ◌∙◌, subst, arith, length-append}
use Rattle.std.specs.List.{range_with_len}
use Rattle.std.proofs.lemmas.Grind.{common_steps}
use Rattle.std.proofs.lemmas.List.{length-replicate}
use Rattle.std.proofs.lemmas.List.FromFn.{map-range_with_len_more, length-map-range_with_len}
use Rattle.std.proofs.lemmas.Option.{slice_get-get_or}
use Rattle.std.proofs.Math.Seq.{take-length}
use Rattle.cat_program.specs.Checked.{Checked}
use Rattle.cat_program.specs.declared.outs.LogEntry.{LogEntry}
use Rattle.cat_program.specs.declared.outs.LogEntry.TheVariants.{Out}
use Rattle.nv_memory.specs.Board.{IsSound, Start, State, image_after, image_by}
use Rattle.nv_memory.specs.Bytes.{written}
use Rattle.nv_memory.specs.Layout.{size_of, slot_at}
use Rattle.nv_memory.specs.declared.entry.Entry.{Entry}
use Rattle.nv_memory.specs.declared.entry.Op.{Op}
use Rattle.nv_memory.specs.declared.entry.Op.TheVariants.{Emit, Instr, Sleep, Wake, Write}
use Rattle.nv_memory.specs.declared.layout.Layout.{Layout}
use Rattle.checkpoint_slots.specs.Image.{committed_bytes, committed_slot, IsWellFormed}
use Rattle.checkpoint_slots.specs.Slot.{spelling}
use Rattle.checkpoint_slots.specs.declared.slot.Slot.{Slot}
use Rattle.nv_log.specs.Record.{entry_of, record_bytes, record_of, EntryFits, IsSpelled}
use Rattle.recovery.specs.First.{IsFresh}
use Rattle.recovery.specs.Past.{committed_at, image_at, last_image, last_slot, past_of}
use Rattle.cn_uplink.specs.Log.{entry_by, log_of, HasCommitted}

-- ---- one entry more

pub entry_is : (l : Layout) (program : Checked) (image : List ℕ) (place : ℕ) (entry : LogEntry) → ((l : Layout) (entry : LogEntry) → EntryFits l entry → entry_of l (record_of l entry) ≡ entry)
    → IsSpelled l program (record_bytes l place image) entry → entry ≡ entry_by l image place
entry_is l program image place entry again is = sym (ap (entry_of l) is.bytes_are ∙ again l entry is.fits)

pub one_more : (f : ℕ → LogEntry) (place : ℕ) (entries new : List LogEntry) (entry : LogEntry) → entries ≡ map f (range_with_len 0 place) → new ≡ entries ++ entry ∷ []
    → entry ≡ f place → new ≡ map f (range_with_len 0 (place + 1))
one_more f place entries new entry before pushed same =
    pushed ∙ ap (λ es. es ++ entry ∷ []) before ∙ ap (λ e. map f (range_with_len 0 place) ++ e ∷ []) same
    ∙ sym (map-range_with_len_more f 0 place place (omega arith))

-- ---- an image stays as long as it was

long-written : (at : ℕ) (bytes image : List ℕ) → length image ≤ length (written at bytes image)
long-written at bytes image = simp (length-append) (grind (arith, common_steps))

long-after : (op : Op) (image : List ℕ) → length image ≤ length (image_after op image)
long-after (Instr kind pc) image = omega arith
long-after (Emit pc at left) image = long-written at left image
long-after (Write at left) image = long-written at left image
long-after Wake image = omega arith
long-after Sleep image = omega arith

long-by : (entries : List Entry) (image : List ℕ) → length image ≤ length (image_by entries image)
long-by [] image = omega arith
long-by (entry ∷ entries) image = omega (arith, long-after entry.op image, long-by entries (image_after entry.op image))

fresh-long : (program : Checked) (l : Layout) (image : List ℕ) → IsFresh program l image → size_of l ≤ length image
fresh-long program l image fresh =
    omega (arith, ap length fresh.image_is, long-written (slot_at l 0) (spelling l fresh.slot) (replicate (size_of l) 0), length-replicate {A = ℕ} (size_of l) 0)

-- ---- what a board has committed in the end

module _ (program : Checked) (l : Layout) (start : Start) (s : State) (sound : IsSound start s) where
  last-is : s.image ≡ last_image (past_of l start s)
  unfolding image_at
  last-is = sound.image_is ∙ ap (λ (es : List Entry). image_by es start.image) (sym (take-length s.timeline))

  slot-is : committed_slot l s.image ≡ last_slot (past_of l start s)
  unfolding committed_at
  slot-is = ap (committed_slot l) last-is

  pub image-long : IsFresh program l start.image → size_of l ≤ length s.image
  image-long fresh = omega (arith, fresh-long program l start.image fresh, long-by s.timeline start.image, ap length sound.image_is)

  module _ (committed : HasCommitted l program (last_image (past_of l start s))) where
    held : HasCommitted l program s.image
    held = subst (HasCommitted l program) (sym last-is) committed

    pub image-formed : IsWellFormed l (committed_bytes l s.image)
    image-formed = held.is.formed

    pub len-few : (slot : Slot) → slot ≡ committed_slot l s.image → slot.len ≤ l.log
    len-few slot is = omega (arith, held.is.formed.len_fits, ap (λ (x : Slot). x.len) is)

    pub len-spelled : (slot : Slot) → slot ≡ committed_slot l s.image → (k : ℕ) → k < slot.len → (entry : LogEntry) × IsSpelled l program (record_bytes l k s.image) entry
    len-spelled slot is k less =
        let value = held.value in
        let count : length value.entries ≡ slot.len = held.is.recorded.many ∙ ap (λ (x : Slot). x.len) (sym held.is.slot_is ∙ sym is) in
        let entry = get_or value.entries k (Out 0 (pos 0)) in
        (entry, held.is.recorded.entries_are k entry (slice_get-get_or value.entries k (Out 0 (pos 0)) (omega (arith, less, count))))

  pub log-is : (slot : Slot) (entries : List LogEntry) → slot ≡ committed_slot l s.image → entries ≡ map (entry_by l s.image) (range_with_len 0 slot.len) → entries ≡ log_of (past_of l start s)
  log-is slot entries is read =
      read ∙ ap (λ (image : List ℕ). map (entry_by l image) (range_with_len 0 slot.len)) last-is
      ∙ ap (λ (x : Slot). map (entry_by l (last_image (past_of l start s))) (range_with_len 0 x.len)) (is ∙ slot-is)

  pub log-few : (slot : Slot) (entries : List LogEntry) → slot.len ≤ l.log → entries ≡ map (entry_by l s.image) (range_with_len 0 slot.len) → length entries ≤ l.log
  log-few slot entries few read = omega (arith, few, ap length read, length-map-range_with_len (entry_by l s.image) 0 slot.len)
