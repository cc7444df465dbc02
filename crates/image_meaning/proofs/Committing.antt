-- The writes of a commit.
use Rattle.std.proofs.Common.{◌≡◌, inl, inr, ℕ, ◌*◌, ◌≤◌, List, [], length, take, drop, None, ℤ, refl, sym, ap, ap₂, ◌∙◌, subst, arith}
use Rattle.std.specs.Prelude.{◌⊎◌}
use Rattle.std.proofs.lemmas.List.{drop-drop}
use Rattle.cat_program.specs.declared.outs.LogEntry.{LogEntry}
use Rattle.cat_program.specs.Checked.{Checked}
use Rattle.cat_program.specs.Meaning.{Store}
use Rattle.nv_memory.specs.declared.layout.Layout.{Layout}
use Rattle.nv_memory.specs.Layout.{log_at, record_len, size_of}
use Rattle.nv_memory.specs.Laws.{WritesAreLocal, PartsAreApart}
use Rattle.nv_memory.specs.Board.{image_after, left_of, leaving}
use Rattle.checkpoint_slots.specs.Slot.{spelling}
use Rattle.checkpoint_slots.specs.Image.{committed_bytes, log_bytes}
use Rattle.checkpoint_slots.specs.Commit.{gate_write}
use Rattle.checkpoint_slots.specs.Writes.{CommitsAreSafe, IsUnderWay}
use Rattle.nv_log.specs.Record.{IsSpelled, record_bytes}
use Rattle.recovery.specs.Committed.{Committed, IsCommitted}
use Rattle.recovery.specs.First.{IsFresh}
use Rattle.recovery.specs.Laws.{CommitsLast}
use Rattle.reference_run.specs.Reference.{Moment, first_moment}
use Rattle.image_meaning.specs.Standing.{IsReady, Spells, StandsFor, moment_of}

record_in_log : (l : Layout) (k : ℕ) (old new : List ℕ) → log_bytes l new ≡ log_bytes l old → record_bytes l k new ≡ record_bytes l k old
record_in_log l k old new same =
    ap (λ (b : List ℕ). take (record_len l) b) (sym (drop-drop (record_len l * k) (log_at l) new) ∙ ap (λ (b : List ℕ). drop (record_len l * k) b) same ∙ drop-drop (record_len l * k) (log_at l) old)

module _ (writes : WritesAreLocal) (parts : (l : Layout) → PartsAreApart l) (safe : CommitsAreSafe) (last : CommitsLast) (l : Layout) (program : Checked) where
  logged : (old new : List ℕ) (entries : List LogEntry) → log_bytes l new ≡ log_bytes l old → Spells l program old entries → Spells l program new entries
  logged old new entries same spell = λ k entry at. subst (λ (b : List ℕ). IsSpelled l program b entry) (sym (record_in_log l k old new same)) (spell k entry at)

  pub lines_keep : (start left image : List ℕ) (old new : Committed) → IsUnderWay l new.slot start left image → IsCommitted l program start old → IsCommitted l program image old
  lines_keep start left image old new under committed = last.same l program start image old (safe.stands l new.slot start left image under) committed

  pub lines_spell : (start left image : List ℕ) (new : Committed) (entries : List LogEntry) → IsUnderWay l new.slot start left image → Spells l program start entries → Spells l program image entries
  lines_spell start left image new entries under spell = logged start image entries (safe.stands l new.slot start left image under).log spell

  pub gate_size : (start image bytes : List ℕ) (new : Committed) → size_of l ≤ length start → IsUnderWay l new.slot start [] image → length bytes ≡ length (left_of (gate_write start))
      → length (image_after (leaving (gate_write start) bytes) image) ≡ length start
  gate_size start image bytes new large under same =
      let long : length image ≡ length start = under.elsewhere.size in
      let some : 1 ≤ size_of l = (let p = parts l in omega (arith, p.gate 0, p.log 0 (omega arith), p.fits)) in
      let one : length bytes ≡ 1 = same in
      writes.size 0 bytes image (omega arith) ∙ long

  pub gate_spells : (start image bytes : List ℕ) (new : Committed) (entries : List LogEntry) → size_of l ≤ length start → IsUnderWay l new.slot start [] image
      → length bytes ≡ length (left_of (gate_write start)) → Spells l program start entries → Spells l program (image_after (leaving (gate_write start) bytes) image) entries
  gate_spells start image bytes new entries large under same spell =
      logged start (image_after (leaving (gate_write start) bytes) image) entries (safe.torn_gate l new.slot start image bytes large under same).0 spell

  gate_left : (start after : List ℕ) (old new : Committed) → length after ≡ length start → log_bytes l after ≡ log_bytes l start → IsCommitted l program start old → IsReady l program start new
      → (committed_bytes l after ≡ committed_bytes l start) ⊎ (committed_bytes l after ≡ spelling l new.slot) → IsCommitted l program after old ⊎ IsCommitted l program after new
  gate_left start after old new size log committed ready (inl is) = inl (last.same l program start after old (record { slot = is; log = log; size = size }) committed)
  gate_left start after old new size log committed ready (inr is) = inr (last.spelled l program start after new ready.storable.formed ready.storable.again ready.rests ready.recorded log is)

  pub torn_gate : (start image bytes : List ℕ) (old new : Committed) → size_of l ≤ length start → IsUnderWay l new.slot start [] image → length bytes ≡ length (left_of (gate_write start))
      → IsCommitted l program start old → IsReady l program start new
      → IsCommitted l program (image_after (leaving (gate_write start) bytes) image) old ⊎ IsCommitted l program (image_after (leaving (gate_write start) bytes) image) new
  torn_gate start image bytes old new large under same committed ready =
      let torn = safe.torn_gate l new.slot start image bytes large under same in
      gate_left start (image_after (leaving (gate_write start) bytes) image) old new (gate_size start image bytes new large under same) torn.0 committed ready torn.1

  pub done_gate : (start image : List ℕ) (new : Committed) → size_of l ≤ length start → IsUnderWay l new.slot start [] image → IsReady l program start new
      → IsCommitted l program (image_after (gate_write start) image) new
  done_gate start image new large under ready =
      last.spelled l program start (image_after (gate_write start) image) new ready.storable.formed ready.storable.again ready.rests ready.recorded
      (safe.torn_gate l new.slot start image (left_of (gate_write start)) large under refl).0 (safe.done_gate l new.slot start image large under)

pub stands_once : (last : CommitsLast) (l : Layout) (program : Checked) (image : List ℕ) (m n : Moment) → StandsFor l program image m → StandsFor l program image n → m ≡ n
stands_once last l program image m n one two = sym one.is ∙ ap moment_of (last.once l program image one.value two.value one.committed two.committed) ∙ two.is

pub fresh_stands : (l : Layout) (program : Checked) (image : List ℕ) → IsFresh program l image → StandsFor l program image (first_moment program)
fresh_stands l program image fresh =
    let first = fresh.first in
    record {
      value = record { slot = fresh.slot; current = None; entries = [] };
      committed = fresh.committed;
      is = ap₂ (λ (s : Store) (n : ℕ). the_first s n) (ap₂ store_with first.variables first.posts) first.steps;
    }
  where
    store_with : List ℤ → List ℕ → Store
    store_with words posts = record { words = words; posts = posts }

    the_first : Store → ℕ → Moment
    the_first s n = record { state = record { store = s; current = None }; steps = n; entries = [] }
