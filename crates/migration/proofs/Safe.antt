-- What an image stands for after the writes of a move, wherever they stop.
use Rattle.std.proofs.Common.{◌≡◌, inl, inr, ℕ, zero, suc, ◌+◌, ◌*◌, ◌%◌, ◌==◌, ◌≤◌, ◌<◌, Bool, true, false, List, [], ◌∷◌, length, get_or, take, drop, refl, sym, ◌∙◌, ap, subst, arith}
use Rattle.std.specs.Prelude.{slice_index, if◌then◌else◌}
use Rattle.std.proofs.lemmas.List.{get_or-take, get_or-drop, take_all}
use Rattle.std.proofs.lemmas.Option.{slice_get_within, slice_get-get_or}
use Rattle.cat_program.specs.declared.outs.LogEntry.TheVariants.{Ran}
use Rattle.cat_program.specs.Checked.{Checked}
use Rattle.nv_memory.specs.declared.layout.Layout.{Layout}
use Rattle.nv_memory.specs.declared.board.Answer.{Answer}
use Rattle.nv_memory.specs.declared.entry.Op.{Op}
use Rattle.nv_memory.specs.declared.board.Answer.TheVariants.{Done, Lost, Over}
use Rattle.nv_memory.specs.Bytes.{bytes_at, written}
use Rattle.nv_memory.specs.Board.{State, Runs}
use Rattle.nv_memory.specs.Layout.{cells_of, lines_of, record_at, record_len, slot_at, size_of}
use Rattle.nv_memory.specs.Laws.{WritesAreLocal, PartsAreApart}
use Rattle.nv_log.specs.Append.{EntriesAreSpelledOnce}
use Rattle.nv_log.specs.Record.{EntryFits, IsSpelled, entry_of, record_bytes, record_of}
use Rattle.checkpoint_slots.specs.Numbers.{number_at}
use Rattle.checkpoint_slots.specs.Slot.{numbers_from, read_slot}
use Rattle.checkpoint_slots.specs.Place.{place_of}
use Rattle.checkpoint_slots.specs.Image.{IsWellFormed, committed_bytes, selected_of, slot_bytes}
use Rattle.recovery.specs.Committed.{Committed, IsCommitted}
use Rattle.migration.specs.Moves.{AreOfMove, CanMove, IsInOld, format_write, layout_in, len_in, move_writes, parts_of, writes_of}
use Rattle.migration.specs.Laws.{AllFit, MovesAreSafe, StandsFor}
use Rattle.migration.proofs.Records.{AreReadAgain}
use Rattle.migration.proofs.Lines.{lines_same}
use Rattle.migration.proofs.Kept.{IsKept, clear-take, clear_writes, kept_run, run_apart, run_upto}
use Rattle.migration.proofs.Standing.{clear_old, record_stands, slot_stands}

-- one byte of an image
byte_at : (i : ℕ) (xs : List ℕ) → slice_index (bytes_at i 1 xs) 0 ≡ slice_index xs i
byte_at i xs =
    let at : i + 0 ≡ i = omega arith in
    get_or-take 1 (drop i xs) 0 0 (omega arith) ∙ get_or-drop i xs 0 0 ∙ ap (λ (k : ℕ). get_or xs k 0) at

byte_same : (i : ℕ) (xs ys : List ℕ) → bytes_at i 1 xs ≡ bytes_at i 1 ys → slice_index xs i ≡ slice_index ys i
byte_same i xs ys same = sym (byte_at i xs) ∙ ap (λ (l : List ℕ). slice_index l 0) same ∙ byte_at i ys

-- the gate and all ranges of the first format have the bytes that they had
pub record IsStill (old : Layout) (image now : List ℕ) : Type 0 where
  pub gate : slice_index now 0 ≡ slice_index image 0
  pub ranges : (a n : ℕ) → 64 ≤ a → a + n ≤ size_of old → bytes_at a n now ≡ bytes_at a n image
  pub size : length now ≡ length image

-- what the writes of all parts leave: a run of them alone, or one that asked for the format byte too
pub data IsLeft (mid now : List ℕ) : Type 0 where
  Same : now ≡ mid → IsLeft mid now
  Marked : (left : List ℕ) → length left ≡ 1 → now ≡ written 1 left mid → IsLeft mid now

left_by_format : (m : ℕ) (mid after : State) (answer : Answer) → Runs mid (take m (format_write ∷ [])) answer after → IsLeft mid.image after.image
left_by_format zero mid after Done run = Same (ap (λ (s : State). s.image) run)
left_by_format zero mid after Lost run = absurd run
left_by_format zero mid after Over run = absurd run
left_by_format (suc m) mid after Done (inl stops) = absurd stops
left_by_format (suc m) mid after Lost (inl stops) = Marked stops.left stops.same_length (ap (λ (s : State). s.image) stops.becomes)
left_by_format (suc m) mid after Over (inl stops) = Same (ap (λ (s : State). s.image) stops.same)
left_by_format (suc m) mid after answer (inr (end, done, run)) = later m answer run
  where
    marked : after.image ≡ end.image → IsLeft mid.image after.image
    marked same = Marked (1 ∷ []) refl (same ∙ ap (λ (s : State). s.image) done.becomes)

    later : (m : ℕ) (answer : Answer) → Runs end (take m []) answer after → IsLeft mid.image after.image
    later zero Done run = marked (ap (λ (s : State). s.image) run)
    later zero Lost run = absurd run
    later zero Over run = absurd run
    later (suc m) Done run = marked (ap (λ (s : State). s.image) run)
    later (suc m) Lost run = absurd run
    later (suc m) Over run = absurd run

module _ (writes : WritesAreLocal) (parts : (l : Layout) → PartsAreApart l) (spelled : EntriesAreSpelledOnce) (again : AreReadAgain) (old new : Layout) where
  in_log : (k : ℕ) → 64 ≤ record_at old k
  in_log k = omega (arith, (parts old).gate 0, (parts old).log 0 (omega arith), (parts old).begin k)

  module _ (image now : List ℕ) (still : IsStill old image now) where
    selected_same : selected_of now ≡ selected_of image
    selected_same = ap (λ (byte : ℕ). byte % 2) still.gate

    bytes_same : committed_bytes old now ≡ committed_bytes old image
    bytes_same =
        let s = selected_of image in
        let low : s ≤ 1 = omega arith in
        ap (λ (s : ℕ). slot_bytes old s now) selected_same ∙ still.ranges (slot_at old s) (64 * lines_of old) ((parts old).gate s) (omega (arith, (parts old).log s low, (parts old).fits))

    record_same : (k : ℕ) → k < old.log → record_bytes old k now ≡ record_bytes old k image
    record_same k below = still.ranges (record_at old k) (record_len old) (in_log k) ((parts old).size k below)

    -- the first format tells what it told
    old_committed : (program : Checked) (v : Committed) → IsCommitted old program image v → IsCommitted old program now v
    old_committed program v committed =
        let len_is : len_in old image ≡ v.slot.len = ap (λ s. s.len) committed.slot_is in
        record {
          formed = subst (IsWellFormed old) (sym bytes_same) committed.formed;
          slot_is = ap (read_slot old) bytes_same ∙ committed.slot_is;
          rests = committed.rests;
          recorded = record {
            many = committed.recorded.many;
            entries_are = λ k e is.
                let inside : k < length v.entries = slice_get_within v.entries k e is in
                let below : k < old.log = omega (arith, inside, committed.recorded.many, len_is, committed.formed.len_fits) in
                subst (λ (b : List ℕ). IsSpelled old program b e) (sym (record_same k below)) (committed.recorded.entries_are k e is);
            counted = committed.recorded.counted;
          };
        }

    can_again : CanMove old new image → IsInOld now → CanMove old new now
    can_again can is_old =
        let len_is : len_in old now ≡ len_in old image = ap (λ (b : List ℕ). (read_slot old b).len) bytes_same in
        record {
          layouts = can.layouts;
          size = omega (arith, can.size, still.size);
          format = is_old;
          formed = subst (IsWellFormed old) (sym bytes_same) can.formed;
          forms = λ k below.
              let at : k < len_in old image = omega (arith, below, len_is) in
              let in_old : k < old.log = omega (arith, at, can.formed.len_fits) in
              let form = can.forms k at in
              (form.0, form.1, form.2, record_same k in_old ∙ form.3);
        }

    -- the second format tells it too, once all parts stand
    module _ (can : CanMove old new image) (slot : slot_bytes new (selected_of image) now ≡ slot_bytes old (selected_of image) image)
        (records : (k : ℕ) → k < len_in old image → record_bytes new k now ≡ record_of new (entry_of old (record_bytes old k image))) where
      new_bytes : committed_bytes new now ≡ committed_bytes old image
      new_bytes = ap (λ (s : ℕ). slot_bytes new s now) selected_same ∙ slot

      new_formed : (b : List ℕ) → IsWellFormed old b → IsWellFormed new b
      new_formed b formed = record {
        len_fits = omega (arith, formed.len_fits, can.layouts.log);
        posts_fit = λ k below. let at : k < old.tasks = omega (arith, below, can.layouts.tasks) in subst (λ (w : ℕ). number_at b (3 + w + k) ≤ 65535) (sym can.layouts.words) (formed.posts_fit k at);
        filled = λ k low high.
            let cells : cells_of old ≤ k = omega (arith, low, can.layouts.words, can.layouts.tasks, can.layouts.events) in
            let many : k < 16 * lines_of old = omega (arith, high, lines_same old new can.layouts) in
            formed.filled k cells many;
      }

      same_slot : (b : List ℕ) → read_slot new b ≡ read_slot old b
      same_slot b =
          let w = can.layouts.words in
          let t = can.layouts.tasks in
          let e = can.layouts.events in
          λ i. record {
            len = number_at b 0;
            steps = number_at b 1;
            pc = place_of (number_at b 2);
            words = numbers_from b 3 (w i);
            posts = numbers_from b (3 + w i) (t i);
            done = numbers_from b (3 + w i + t i) (e i);
          }

      new_committed : (program : Checked) (v : Committed) → IsCommitted old program image v → IsCommitted new program now v
      new_committed program v committed =
          let len_is : len_in old image ≡ v.slot.len = ap (λ s. s.len) committed.slot_is in
          record {
            formed = subst (IsWellFormed new) (sym new_bytes) (new_formed (committed_bytes old image) committed.formed);
            slot_is = ap (read_slot new) new_bytes ∙ same_slot (committed_bytes old image) ∙ committed.slot_is;
            rests = committed.rests;
            recorded = record {
              many = committed.recorded.many;
              entries_are = λ k e is.
                  let inside : k < length v.entries = slice_get_within v.entries k e is in
                  let at : k < len_in old image = omega (arith, inside, committed.recorded.many, len_is) in
                  let form = can.forms k at in
                  let told = committed.recorded.entries_are k e is in
                  let one : form.0 ≡ e = spelled.once old form.0 e form.2 told.fits (sym form.3 ∙ told.bytes_are) in
                  record {
                    exists = told.exists;
                    fits = subst (EntryFits new) one form.1;
                    bytes_are = records k at ∙ ap (record_of new) (ap (entry_of old) told.bytes_are ∙ again old e told.fits);
                  };
              counted = λ e below. let at : e < old.events = omega (arith, below, can.layouts.events) in committed.recorded.counted e at;
            };
          }

  -- by the format byte
  by_format : (program : Checked) (v : Committed) (now : List ℕ) (b : Bool) → (slice_index now 1 % 2 == 0) ≡ b → IsCommitted old program now v → (b ≡ false → IsCommitted new program now v)
      → IsCommitted (layout_in old new now) program now v
  by_format program v now true is old_is new_is = subst (λ (b : Bool). IsCommitted (if b then old else new) program now v) (sym is) old_is
  by_format program v now false is old_is new_is = subst (λ (b : Bool). IsCommitted (if b then old else new) program now v) (sym is) (new_is refl)

  -- an image that has committed a value in the first format can be moved
  pub begins : (program : Checked) (image : List ℕ) (v : Committed) → AreOfMove old new → size_of new ≤ length image → IsInOld image → IsCommitted old program image v → AllFit new v → StandsFor old new program image v
  begins program image v layouts size is_old committed fit =
      let len_is : len_in old image ≡ v.slot.len = ap (λ s. s.len) committed.slot_is in
      record {
        committed = subst (λ (b : Bool). IsCommitted (if b then old else new) program image v) (sym (ap (λ (m : ℕ). m == 0) is_old)) committed;
        again = λ in_old. record {
          layouts = layouts;
          size = size;
          format = in_old;
          formed = committed.formed;
          forms = λ k below.
              let inside : k < length v.entries = omega (arith, below, len_is, committed.recorded.many) in
              let e = get_or v.entries k (Ran 0 0 0 0 0) in
              let is = slice_get-get_or v.entries k (Ran 0 0 0 0 0) inside in
              let told = committed.recorded.entries_are k e is in
              (e, fit k e is, told.fits, told.bytes_are);
        };
      }

  module _ (before : State) (can : CanMove old new before.image) where
    some : 2 ≤ size_of old
    some = omega (arith, (parts old).gate 0, (parts old).log 0 (omega arith), (parts old).fits)

    kept : (n : ℕ) (after : State) (answer : Answer) → Runs before (take n (writes_of before.image (parts_of old new before.image))) answer after → (a m : ℕ) → a + m ≤ size_of old → IsKept a m before.image after.image
    kept n after answer run a m low =
        kept_run writes a m (take n (writes_of before.image (parts_of old new before.image))) before after answer
        (clear-take (length before.image) a m n (writes_of before.image (parts_of old new before.image)) (clear_writes (length before.image) a m before.image (parts_of old new before.image) (clear_old writes parts spelled again old new before can a m low))) run

    kept_all : (after : State) (answer : Answer) → Runs before (writes_of before.image (parts_of old new before.image)) answer after → (a m : ℕ) → a + m ≤ size_of old → IsKept a m before.image after.image
    kept_all after answer run a m low =
        kept_run writes a m (writes_of before.image (parts_of old new before.image)) before after answer
        (clear_writes (length before.image) a m before.image (parts_of old new before.image) (clear_old writes parts spelled again old new before can a m low)) run

    still_of : (now : List ℕ) → ((a m : ℕ) → a + m ≤ size_of old → IsKept a m before.image now) → IsStill old before.image now
    still_of now keeps = record {
      gate = byte_same 0 now before.image (keeps 0 1 (omega (arith, some))).bytes;
      ranges = λ a n low high. (keeps a n high).bytes;
      size = (keeps 0 0 (omega arith)).size;
    }

    -- within the parts the format byte stays
    in_parts : (now : List ℕ) → ((a m : ℕ) → a + m ≤ size_of old → IsKept a m before.image now) → IsInOld now
    in_parts now keeps = ap (λ (byte : ℕ). byte % 2) (byte_same 1 now before.image (keeps 1 1 (omega (arith, some))).bytes) ∙ can.format

    module _ (program : Checked) (v : Committed) (committed : IsCommitted old program before.image v) where
      stands_early : (now : List ℕ) → ((a m : ℕ) → a + m ≤ size_of old → IsKept a m before.image now) → StandsFor old new program now v
      stands_early now keeps =
          let still = still_of now keeps in
          let is_old = in_parts now keeps in
          record {
            committed = subst (λ (b : Bool). IsCommitted (if b then old else new) program now v) (sym (ap (λ (m : ℕ). m == 0) is_old)) (old_committed before.image now still program v committed);
            again = can_again before.image now still can;
          }

      -- the format byte was written, or torn
      stands_late : (mid : State) → Runs before (writes_of before.image (parts_of old new before.image)) Done mid → (left now : List ℕ) → length left ≡ 1 → now ≡ written 1 left mid.image → StandsFor old new program now v
      stands_late mid run left now one is =
          let keeps = kept_all mid Done run in
          let size : length mid.image ≡ length before.image = (keeps 0 0 (omega arith)).size in
          let fits : 1 + length left ≤ length mid.image = omega (arith, size, one, can.size, can.layouts.behind, (parts new).fits, (parts new).gate 0, (parts new).log 0 (omega arith)) in
          let behind : (a n : ℕ) → 64 ≤ a → bytes_at a n now ≡ bytes_at a n mid.image = λ a n low. ap (bytes_at a n) is ∙ writes.behind a n 1 left mid.image (omega (arith, one, low)) fits in
          let still : IsStill old before.image now = record {
            gate = byte_same 0 now before.image (ap (bytes_at 0 1) is ∙ writes.before 0 1 1 left mid.image (omega arith) (omega (arith, fits)) ∙ (keeps 0 1 (omega (arith, some))).bytes);
            ranges = λ a n low high. behind a n low ∙ (keeps a n high).bytes;
            size = ap length is ∙ writes.size 1 left mid.image fits ∙ size;
          } in
          let s = selected_of before.image in
          let in_new : (k : ℕ) → 64 ≤ record_at new k = λ k. omega (arith, (parts new).gate 0, (parts new).log 0 (omega arith), (parts new).begin k) in
          let slot = behind (slot_at new s) (64 * lines_of new) ((parts new).gate s) ∙ slot_stands writes parts spelled again old new before can mid run in
          let records : (k : ℕ) → k < len_in old before.image → record_bytes new k now ≡ record_of new (entry_of old (record_bytes old k before.image)) =
          λ k below. behind (record_at new k) (record_len new) (in_new k) ∙ record_stands writes parts spelled again old new before can mid run k below in
          record {
            committed = by_format program v now (slice_index now 1 % 2 == 0) refl (old_committed before.image now still program v committed) (λ odd. new_committed before.image now still can slot records program v committed);
            again = can_again before.image now still can;
          }

      stands : (n : ℕ) (answer : Answer) (after : State) → Runs before (take n (move_writes old new before.image)) answer after → StandsFor old new program after.image v
      stands n answer after run = elim (run_upto n (writes_of before.image (parts_of old new before.image)) (format_write ∷ []) before after answer run) [
        | inl within ↦ stands_early after.image (kept n after answer within)
        | inr (mid, m, all, last) ↦ late mid all (left_by_format m mid after answer last)
      ]
        where
          late : (mid : State) → Runs before (writes_of before.image (parts_of old new before.image)) Done mid → IsLeft mid.image after.image → StandsFor old new program after.image v
          late mid all (Same is) = subst (λ (now : List ℕ). StandsFor old new program now v) (sym is) (stands_early mid.image (kept_all mid Done all))
          late mid all (Marked left one is) = stands_late mid all left after.image one is

    inside : (mid : List ℕ) → length mid ≡ length before.image → 2 ≤ length mid
    inside mid size = omega (arith, size, can.size, can.layouts.behind, (parts new).fits, (parts new).gate 0, (parts new).log 0 (omega arith))

    pub same_size : (n : ℕ) (answer : Answer) (after : State) → Runs before (take n (move_writes old new before.image)) answer after → length after.image ≡ length before.image
    same_size n answer after run = elim (run_upto n (writes_of before.image (parts_of old new before.image)) (format_write ∷ []) before after answer run) [
      | inl within ↦ (kept n after answer within 0 0 (omega arith)).size
      | inr (mid, m, all, last) ↦ late mid (kept_all mid Done all 0 0 (omega arith)).size (left_by_format m mid after answer last)
    ]
      where
        late : (mid : State) → length mid.image ≡ length before.image → IsLeft mid.image after.image → length after.image ≡ length before.image
        late mid size (Same is) = ap length is ∙ size
        late mid size (Marked left one is) = ap length is ∙ writes.size 1 left mid.image (omega (arith, one, inside mid.image size)) ∙ size

    -- a move that found no room has not come to the format byte
    pub over : (after : State) → Runs before (move_writes old new before.image) Over after → IsInOld after.image
    over after run = elim (run_upto (length (move_writes old new before.image)) (writes_of before.image (parts_of old new before.image)) (format_write ∷ []) before after Over whole) [
      | inl within ↦ in_parts after.image (kept (length (move_writes old new before.image)) after Over within)
      | inr (mid, m, all, last) ↦ stopped mid m (kept_all mid Done all) last
    ]
      where
        whole : Runs before (take (length (move_writes old new before.image)) (move_writes old new before.image)) Over after
        whole = subst (λ (ops : List Op). Runs before ops Over after) (sym (take_all (length (move_writes old new before.image)) (move_writes old new before.image) (omega arith))) run

        stopped : (mid : State) (m : ℕ) → ((a m : ℕ) → a + m ≤ size_of old → IsKept a m before.image mid.image) → Runs mid (take m (format_write ∷ [])) Over after → IsInOld after.image
        stopped mid zero keeps last = absurd last
        stopped mid (suc m) keeps (inl stops) = subst IsInOld (sym (ap (λ (s : State). s.image) stops.same)) (in_parts mid.image keeps)
        stopped mid (suc m) keeps (inr (end, done, rest)) = nothing m rest
          where
            nothing : (m : ℕ) → Runs end (take m []) Over after → IsInOld after.image
            nothing zero rest = absurd rest
            nothing (suc m) rest = absurd rest

    pub done : (after : State) → Runs before (move_writes old new before.image) Done after → slice_index after.image 1 ≡ 1
    done after run =
        let (mid, all, last) = run_apart (writes_of before.image (parts_of old new before.image)) (format_write ∷ []) before after run in
        let fits = inside mid.image (kept_all mid Done all 0 0 (omega arith)).size in
        ap (λ (l : List ℕ). slice_index l 1) (marked mid last) ∙ sym (byte_at 1 (written 1 (1 ∷ []) mid.image)) ∙ ap (λ (l : List ℕ). slice_index l 0) (writes.own 1 (1 ∷ []) mid.image fits)
      where
        marked : (mid : State) → Runs mid (format_write ∷ []) Done after → after.image ≡ written 1 (1 ∷ []) mid.image
        marked mid (inl stops) = absurd stops
        marked mid (inr (end, done, same)) = ap (λ (s : State). s.image) same ∙ ap (λ (s : State). s.image) done.becomes

  pub stands_for : (program : Checked) (v : Committed) (before after : State) (n : ℕ) (answer : Answer) → IsInOld before.image → StandsFor old new program before.image v
      → Runs before (take n (move_writes old new before.image)) answer after → StandsFor old new program after.image v
  stands_for program v before after n answer is_old was run =
      let committed = subst (λ (b : Bool). IsCommitted (if b then old else new) program before.image v) (ap (λ (m : ℕ). m == 0) is_old) was.committed in
      stands before (was.again is_old) program v committed n answer after run

pub moves : WritesAreLocal → ((l : Layout) → PartsAreApart l) → EntriesAreSpelledOnce → AreReadAgain → MovesAreSafe
moves writes parts spelled again = record {
  begins = λ old new program image v. begins writes parts spelled again old new program image v;
  stands = λ old new program v before after n answer. stands_for writes parts spelled again old new program v before after n answer;
  done = λ old new before after can. done writes parts spelled again old new before can after;
  over = λ old new before after can. over writes parts spelled again old new before can after;
  size = λ old new before after n answer can. same_size writes parts spelled again old new before can n answer after;
}
