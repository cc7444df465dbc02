-- Operations behind the first records.
use Rattle.std.proofs.Common.{◌≡◌, ◌≢◌, inl, inr, ℕ, zero, suc, ◌<◌, ◌≤◌, List, [], ◌∷◌, ◌++◌, length, Some, refl, sym, ap, ◌∙◌, subst, arith, pos}
use Rattle.std.specs.Prelude.{◌⊎◌, slice_get}
use Rattle.std.proofs.lemmas.Option.{slice_get_within}
use Rattle.cat_program.specs.declared.outs.LogEntry.{LogEntry}
use Rattle.cat_program.specs.declared.outs.LogEntry.TheVariants.{Out}
use Rattle.cat_program.specs.Checked.{Checked}
use Rattle.nv_memory.specs.declared.layout.Layout.{Layout}
use Rattle.nv_memory.specs.declared.entry.Op.{Op}
use Rattle.nv_memory.specs.declared.entry.Op.TheVariants.{Instr, Emit, Write, Wake, Sleep}
use Rattle.nv_memory.specs.Layout.{size_of}
use Rattle.nv_memory.specs.Bytes.{written}
use Rattle.nv_memory.specs.Board.{image_after, left_of, leaving}
use Rattle.nv_log.specs.declared.log.By.{By}
use Rattle.nv_log.specs.declared.log.By.TheVariants as by
use Rattle.nv_log.specs.Append.{append_op, AppendsAreSafe, ChangesRecord, EntriesAreSpelledOnce}
use Rattle.nv_log.specs.Record.{EntryFits, IsOf, IsSpelled, record_bytes, record_of}
use Rattle.recovery.specs.Committed.{Committed, IsCommitted}
use Rattle.recovery.specs.Laws.{CommitsLast}
use Rattle.image_meaning.specs.Standing.{Spells, IsBehind, IsRecordBehind}

pub own_bytes : (op : Op) → leaving op (left_of op) ≡ op
own_bytes (Instr class pc) = refl
own_bytes (Emit pc at left) = refl
own_bytes (Write at left) = refl
own_bytes Wake = refl
own_bytes Sleep = refl

module _ (spelled : EntriesAreSpelledOnce) (appends : AppendsAreSafe) (last : CommitsLast) (l : Layout) (program : Checked) where
  -- an operation changes nothing, or one record behind the first n
  abbrev Changes : ℕ → List ℕ → List ℕ → Type 0
  Changes n old new = (new ≡ old) ⊎ ((place : ℕ) × (n ≤ place) × ChangesRecord l place old new)

  record_changes : (n at : ℕ) (left bytes image : List ℕ) → size_of l ≤ length image → IsRecordBehind l n at left → length bytes ≡ length left → Changes n image (written at bytes image)
  record_changes n at left bytes image large is same =
      let entry : LogEntry = Out 0 (pos 0) in
      let long : length bytes ≡ length (record_of l (Out 0 (pos 0))) = same ∙ is.size ∙ sym (spelled.length_is l (Out 0 (pos 0))) in
      inr (is.place, is.behind, subst (λ (p : ℕ). ChangesRecord l is.place image (written p bytes image)) (sym is.at_is) (appends.torn l is.place (Out 0 (pos 0)) by.Write image bytes is.within large long))

  changes : (n : ℕ) (op : Op) (bytes image : List ℕ) → size_of l ≤ length image → IsBehind l n op → length bytes ≡ length (left_of op) → Changes n image (image_after (leaving op bytes) image)
  changes n (Instr class pc) bytes image large is same = inl refl
  changes n (Emit pc at left) bytes image large is same = record_changes n at left bytes image large is same
  changes n (Write at left) bytes image large is same = record_changes n at left bytes image large is same
  changes n Wake bytes image large is same = inl refl
  changes n Sleep bytes image large is same = inl refl

  kept_by : (n : ℕ) (old new : List ℕ) (v : Committed) → v.slot.len ≤ n → Changes n old new → IsCommitted l program old v → IsCommitted l program new v
  kept_by n old new v low (inl same) is = subst (λ (b : List ℕ). IsCommitted l program b v) (sym same) is
  kept_by n old new v low (inr change) is = last.append l program change.0 old new v change.2 (let far = change.1 in omega arith) is

  spelled_by : (n : ℕ) (old new : List ℕ) (entries : List LogEntry) → length entries ≤ n → Changes n old new → Spells l program old entries → Spells l program new entries
  spelled_by n old new entries low (inl same) spell = subst (λ (b : List ℕ). Spells l program b entries) (sym same) spell
  spelled_by n old new entries low (inr change) spell = λ k entry at.
      let inside : k < length entries = slice_get_within entries k entry at in
      let other : k ≢ change.0 = λ same. (let far = change.1 in omega arith) in
      subst (λ (b : List ℕ). IsSpelled l program b entry) (sym (change.2.others k other)) (spell k entry at)

  sized_by : (n : ℕ) (old new : List ℕ) → Changes n old new → length new ≡ length old
  sized_by n old new (inl same) = ap length same
  sized_by n old new (inr change) = change.2.size

  pub committed_behind : (n : ℕ) (op : Op) (bytes image : List ℕ) (v : Committed) → size_of l ≤ length image → IsBehind l n op → length bytes ≡ length (left_of op)
      → v.slot.len ≤ n → IsCommitted l program image v → IsCommitted l program (image_after (leaving op bytes) image) v
  committed_behind n op bytes image v large is same low committed = kept_by n image (image_after (leaving op bytes) image) v low (changes n op bytes image large is same) committed

  pub spells_behind : (n : ℕ) (op : Op) (bytes image : List ℕ) (entries : List LogEntry) → size_of l ≤ length image → IsBehind l n op → length bytes ≡ length (left_of op)
      → length entries ≤ n → Spells l program image entries → Spells l program (image_after (leaving op bytes) image) entries
  spells_behind n op bytes image entries large is same low spell = spelled_by n image (image_after (leaving op bytes) image) entries low (changes n op bytes image large is same) spell

  pub size_behind : (n : ℕ) (op : Op) (bytes image : List ℕ) → size_of l ≤ length image → IsBehind l n op → length bytes ≡ length (left_of op) → length (image_after (leaving op bytes) image) ≡ length image
  size_behind n op bytes image large is same = sized_by n image (image_after (leaving op bytes) image) (changes n op bytes image large is same)

  pub append_behind : (n place : ℕ) (entry : LogEntry) (kind : By) → n ≤ place → place < l.log → IsBehind l n (append_op l place entry kind)
  append_behind n place entry by.Write low within = record { place = place; behind = low; within = within; at_is = refl; size = spelled.length_is l entry }
  append_behind n place entry (by.Instr pc) low within = record { place = place; behind = low; within = within; at_is = refl; size = spelled.length_is l entry }

  -- ---- an entry more

  -- an entry of a longer list is one of the first, or the last one
  last_or : (entries : List LogEntry) (entry found : LogEntry) (k : ℕ) → slice_get (entries ++ entry ∷ []) k ≡ Some found → (slice_get entries k ≡ Some found) ⊎ ((k ≡ length entries) × (entry ≡ found))
  last_or [] entry found zero at = inr (refl, cc)
  last_or [] entry found (suc k) at = cc
  last_or (x ∷ entries) entry found zero at = inl at
  last_or (x ∷ entries) entry found (suc k) at = by_rest (last_or entries entry found k at)
    where
      by_rest : (slice_get entries k ≡ Some found) ⊎ ((k ≡ length entries) × (entry ≡ found)) → (slice_get (x ∷ entries) (suc k) ≡ Some found) ⊎ ((suc k ≡ length (x ∷ entries)) × (entry ≡ found))
      by_rest (inl first) = inl first
      by_rest (inr end) = inr ((let same = end.0 in omega arith), end.1)

  appended_by : (entry : LogEntry) (image new : List ℕ) (entries : List LogEntry) → ChangesRecord l (length entries) image new → record_bytes l (length entries) new ≡ record_of l entry
      → IsOf program entry → EntryFits l entry → Spells l program image entries → Spells l program new (entries ++ entry ∷ [])
  appended_by entry image new entries change own exists fits spell = λ k found at. by_place k found (last_or entries entry found k at)
    where
      by_place : (k : ℕ) (found : LogEntry) → (slice_get entries k ≡ Some found) ⊎ ((k ≡ length entries) × (entry ≡ found)) → IsSpelled l program (record_bytes l k new) found
      by_place k found (inl first) = spelled_by (length entries) image new entries (omega arith) (inr (length entries, omega arith, change)) spell k found first
      by_place k found (inr end) =
          subst (λ (e : LogEntry). IsSpelled l program (record_bytes l k new) e) end.1
          (subst (λ (j : ℕ). IsSpelled l program (record_bytes l j new) entry) (sym end.0) (record { exists = exists; fits = fits; bytes_are = own }))

  pub appended : (entry : LogEntry) (kind : By) (image : List ℕ) (entries : List LogEntry) → length entries < l.log → size_of l ≤ length image → IsOf program entry → EntryFits l entry
      → Spells l program image entries → Spells l program (image_after (append_op l (length entries) entry kind) image) (entries ++ entry ∷ [])
  appended entry kind image entries within large exists fits spell =
      let done = appends.done l (length entries) entry kind image within large in
      appended_by entry image (image_after (append_op l (length entries) entry kind) image) entries done.0 done.1 exists fits spell
