-- What the instructions of a path leave in the log, and of what is committed.
use Rattle.std.proofs.Common.{◌≡◌, ◌⊎◌, inl, inr, ℕ, ◌+◌, ◌≤◌, ◌<◌, List, [], ◌∷◌, ◌++◌, length, Option, Some, None, refl, sym, ap, ap₂, ◌∙◌, subst, arith, zero, suc, append-nil, append_assoc, length-append}
use Rattle.std.specs.Prelude.{slice_get, map, All, count_by, cond}
use Rattle.std.proofs.Math.Seq.{take-append_seam, drop-append_seam}
use Rattle.std.proofs.lemmas.Option.{slice_get_within}
use Rattle.std.proofs.lemmas.List.{length-map, map-append}
use Rattle.std.proofs.lemmas.List.Elements.{All-take, All-drop}
use Rattle.std.proofs.lemmas.List.Sums.{sum_by-append}
use Rattle.cat_program.specs.declared.outs.LogEntry.{LogEntry}
use Rattle.cat_program.specs.declared.outs.LogEntry.TheVariants.{Out}
use Rattle.cat_program.specs.OutsValue.{entry_of}
use Rattle.cat_program.specs.Meaning.{Output}
use Rattle.cat_program.specs.Checked.{Checked}
use Rattle.nv_memory.specs.declared.device.Class.{Class}
use Rattle.nv_memory.specs.declared.layout.Layout.{Layout}
use Rattle.nv_memory.specs.Layout.{size_of}
use Rattle.nv_memory.specs.Board.{State, IsDone, IsLost}
use Rattle.nv_log.specs.declared.log.By.{By}
use Rattle.nv_log.specs.declared.log.By.TheVariants as by
use Rattle.nv_log.specs.Append.{append_op, ChangesRecord, AppendsAreSafe}
use Rattle.nv_log.specs.Record.{IsOf, EntryFits, IsSpelled, record_of, record_bytes}
use Rattle.recovery.specs.Committed.{Committed, IsCommitted, is_ran}
use Rattle.recovery.specs.Laws.{CommitsLast}
use Rattle.cn_scheduler.specs.declared.engine.Chunk.{Chunk}
use Rattle.cn_scheduler.specs.declared.engine.Chunk.TheVariants.{Ended, Dropped, Lost, Over, Full}
use Rattle.cn_scheduler.specs.Paths.{Act}
use Rattle.cn_scheduler.specs.Asked.{listed, outs_in, ask_with, path_asks, Limits, HasRoom, Stops, Goes, Asked}
use Rattle.cn_scheduler.proofs.Going.{Fit}

All-parts : (xs ys : List Output) → All Fit (xs ++ ys) → All Fit xs × All Fit ys
All-parts xs ys h = (
  subst (All Fit) (take-append_seam xs ys) (All-take Fit (length xs) (xs ++ ys) h),
  subst (All Fit) (drop-append_seam xs ys) (All-drop Fit (length xs) (xs ++ ys) h),
)

module _ (l : Layout) (program : Checked) (limits : Limits) (size : limits.size ≡ l.log) (safe : AppendsAreSafe) (last : CommitsLast) where
  -- an image that has committed a value still, and is as long, and has the records below a place
  pub record IsSame (first : ℕ) (old new : List ℕ) (v : Committed) : Type 0 where
    pub committed : IsCommitted l program new v
    pub long : length new ≡ length old
    pub below : (k : ℕ) → k < first → record_bytes l k new ≡ record_bytes l k old

  pub same_image : (first : ℕ) (old new : State) (v : Committed) → new.image ≡ old.image → IsCommitted l program old.image v → IsSame first old.image new.image v
  same_image first old new v e is = record { committed = subst (λ (i : List ℕ). IsCommitted l program i v) (sym e) is; long = ap length e; below = λ k less. ap (record_bytes l k) e }

  pub changed : (first at : ℕ) (old new : List ℕ) (v : Committed) → v.slot.len ≤ first → first ≤ at → IsCommitted l program old v → ChangesRecord l at old new → IsSame first old new v
  changed first at old new v le up is c = record { committed = last.append l program at old new v c (omega (arith, le, up)) is; long = c.size; below = λ k less. c.others k (λ same. omega (arith, less, up, same)) }

  -- a record that was written or lost at a place behind the committed ones
  module _ (at : ℕ) (entry : LogEntry) (kind : By) (old new : State) (room : at < l.log) (long : size_of l ≤ length old.image) where
    pub done_record : IsDone old (append_op l at entry kind) new → ChangesRecord l at old.image new.image × (record_bytes l at new.image ≡ record_of l entry)
    done_record d =
        let e = ap (λ (t : State). t.image) d.becomes in
        let s = safe.done l at entry kind old.image room long in
        (subst (ChangesRecord l at old.image) (sym e) s.0, ap (record_bytes l at) e ∙ s.1)

    pub lost_record : IsLost old (append_op l at entry kind) new → ChangesRecord l at old.image new.image
    lost_record d =
        let e = ap (λ (t : State). t.image) d.becomes in
        subst (ChangesRecord l at old.image) (sym e) (safe.torn l at entry kind old.image d.left room long d.same_length)

  pub roomy : (at : ℕ) → HasRoom limits.size (Some at) → at < l.log
  roomy at room = subst (λ (n : ℕ). at < n) size room

  -- an operation at which a path stops
  stop_same : (first at pc : ℕ) (class : Class) (out : Option Output) (o : Chunk) (old new : State) (v : Committed) → size_of l ≤ length old.image → v.slot.len ≤ first → first ≤ at → IsCommitted l program old.image v
      → Stops limits old (ask_with l at pc class out) o new → IsSame first old.image new.image v
  stop_same first at pc class out Ended old new v long le up is s = absurd s
  stop_same first at pc class out Dropped old new v long le up is s = same_image first old new v (ap (λ (t : State). t.image) s.1) is
  stop_same first at pc class out Full old new v long le up is s = same_image first old new v (ap (λ (t : State). t.image) s.2) is
  stop_same first at pc class None Over old new v long le up is s = same_image first old new v (ap (λ (t : State). t.image) s.2.same) is
  stop_same first at pc class (Some x) Over old new v long le up is s = same_image first old new v (ap (λ (t : State). t.image) s.2.same) is
  stop_same first at pc class None Lost old new v long le up is s = same_image first old new v (ap (λ (t : State). t.image) s.2.becomes) is
  stop_same first at pc class (Some x) Lost old new v long le up is s =
      changed first at old.image new.image v le up is (lost_record at (Out x.0 x.1) (by.Instr pc) old new (roomy at s.1) long s.2)

  goes_same : (first at pc : ℕ) (class : Class) (out : Option Output) (old new : State) (v : Committed) → size_of l ≤ length old.image → v.slot.len ≤ first → first ≤ at → IsCommitted l program old.image v
      → Goes limits old (ask_with l at pc class out) new → IsSame first old.image new.image v
  goes_same first at pc class None old new v long le up is g = same_image first old new v (ap (λ (t : State). t.image) g.done.becomes) is
  goes_same first at pc class (Some x) old new v long le up is g =
      changed first at old.image new.image v le up is (done_record at (Out x.0 x.1) (by.Instr pc) old new (roomy at g.room) long g.done).0

  -- instructions change nothing that is committed
  pub path_same : (acts : List Act) (first at : ℕ) (o : Chunk) (old new : State) (v : Committed) → size_of l ≤ length old.image → v.slot.len ≤ first → first ≤ at → IsCommitted l program old.image v
      → Asked limits old (path_asks l at acts) o new → IsSame first old.image new.image v
  path_same [] first at Ended old new v long le up is a = same_image first old new v (ap (λ (t : State). t.image) a) is
  path_same [] first at Dropped old new v long le up is a = absurd a
  path_same [] first at Lost old new v long le up is a = absurd a
  path_same [] first at Over old new v long le up is a = absurd a
  path_same [] first at Full old new v long le up is a = absurd a
  path_same (x ∷ acts) first at o old new v long le up is (inl s) = stop_same first at x.pc x.class x.out o old new v long le up is s
  path_same (x ∷ acts) first at o old new v long le up is (inr r) =
      let one = goes_same first at x.pc x.class x.out old r.0 v long le up is r.1 in
      let rest = path_same acts first (at + length (listed x.out)) o r.0 new v (omega (arith, one.long, long)) le (omega (arith, up)) one.committed r.2 in
      record { committed = rest.committed; long = rest.long ∙ one.long; below = λ k less. rest.below k less ∙ one.below k less }

  -- ---- records

  -- these entries stand in the log
  abbrev pub Hold : List ℕ → List LogEntry → Type 0
  Hold image entries = (k : ℕ) (e : LogEntry) → slice_get entries k ≡ Some e → IsSpelled l program (record_bytes l k image) e

  at_end : (xs : List LogEntry) (x : LogEntry) (k : ℕ) (e : LogEntry) → slice_get (xs ++ x ∷ []) k ≡ Some e → (slice_get xs k ≡ Some e × (k < length xs)) ⊎ ((k ≡ length xs) × (e ≡ x))
  at_end [] x zero e is = inr (refl, cc)
  at_end [] x (suc k) e is = cc
  at_end (y ∷ xs) x zero e is = inl (is, omega arith)
  at_end (y ∷ xs) x (suc k) e is = elim (at_end xs x k e is) [ inl a ↦ inl (a.0, omega (arith, a.1)) | inr b ↦ inr (omega (arith, b.0), b.1) ]

  pub hold_more : (at : ℕ) (entry : LogEntry) (entries : List LogEntry) (old new : List ℕ) → length entries ≡ at → ChangesRecord l at old new → record_bytes l at new ≡ record_of l entry → IsOf program entry → EntryFits l entry
      → Hold old entries → Hold new (entries ++ entry ∷ [])
  hold_more at entry entries old new many c bytes of fits h k e is = elim (at_end entries entry k e is) [
    | inl a ↦ subst (λ (b : List ℕ). IsSpelled l program b e) (sym (c.others k (λ same. omega (arith, a.1, many, same)))) (h k e a.0)
    | inr b ↦
        let here : k ≡ at = b.0 ∙ many in
        subst (λ (x : LogEntry). IsSpelled l program (record_bytes l k new) x) (sym b.1)
        (subst (λ (j : ℕ). IsSpelled l program (record_bytes l j new) entry) (sym here) (record { exists = of; fits = fits; bytes_are = bytes }))
  ]

  pub hold_image : (entries : List LogEntry) (old new : State) → new.image ≡ old.image → Hold old.image entries → Hold new.image entries
  hold_image entries old new e h = subst (λ (i : List ℕ). Hold i entries) (sym e) h

  -- entries below the first place stay
  pub same_hold : (first : ℕ) (old new : List ℕ) (v : Committed) (entries : List LogEntry) → length entries ≤ first → IsSame first old new v → Hold old entries → Hold new entries
  same_hold first old new v entries few same h k e is =
      let below : k < first = omega (arith, slice_get_within entries k e is, few) in
      subst (λ (b : List ℕ). IsSpelled l program b e) (sym (same.below k below)) (h k e is)

  -- one instruction
  goes_hold : (at pc : ℕ) (class : Class) (out : Option Output) (entries : List LogEntry) (old new : State) → size_of l ≤ length old.image → length entries ≡ at → All Fit (listed out)
      → Goes limits old (ask_with l at pc class out) new → Hold old.image entries → Hold new.image (entries ++ map entry_of (listed out)) × (length new.image ≡ length old.image)
  goes_hold at pc class None entries old new long many fit g h =
      let e = ap (λ (t : State). t.image) g.done.becomes in
      (subst (Hold new.image) (sym (append-nil entries)) (hold_image entries old new e h), ap length e)
  goes_hold at pc class (Some x) entries old new long many fit g h =
      let d = done_record at (Out x.0 x.1) (by.Instr pc) old new (roomy at g.room) long g.done in
      (hold_more at (Out x.0 x.1) entries old.image new.image many d.0 d.1 tt (fit 0 x (omega arith)) h, d.0.size)

  pub path_hold : (acts : List Act) (at : ℕ) (entries : List LogEntry) (old new : State) → size_of l ≤ length old.image → length entries ≡ at → All Fit (outs_in acts)
      → Asked limits old (path_asks l at acts) Ended new → Hold old.image entries → Hold new.image (entries ++ map entry_of (outs_in acts))
  path_hold [] at entries old new long many fit a h = subst (Hold new.image) (sym (append-nil entries)) (hold_image entries old new (ap (λ (t : State). t.image) a) h)
  path_hold (x ∷ acts) at entries old new long many fit (inl s) h = absurd s
  path_hold (x ∷ acts) at entries old new long many fit (inr r) h =
      let parts = All-parts (listed x.out) (outs_in acts) fit in
      let one = goes_hold at x.pc x.class x.out entries old r.0 long many parts.0 r.1 h in
      let more : length (entries ++ map entry_of (listed x.out)) ≡ at + length (listed x.out) = length-append entries (map entry_of (listed x.out)) ∙ ap₂ (λ (a b : ℕ). a + b) many (length-map (listed x.out) entry_of) in
      let rest = path_hold acts (at + length (listed x.out)) (entries ++ map entry_of (listed x.out)) r.0 new (omega (arith, one.1, long)) more parts.1 r.2 one.0 in
      subst (Hold new.image) (append_assoc entries (map entry_of (listed x.out)) (map entry_of (outs_in acts)) ∙ ap (λ (ys : List LogEntry). entries ++ ys) (sym (map-append entry_of (listed x.out) (outs_in acts)))) rest

-- ---- counts

-- outputs are no entries of an event
pub outs_count : (e : ℕ) (outs : List Output) → count_by (is_ran e) (map entry_of outs) ≡ 0
outs_count e [] = refl
outs_count e (o ∷ outs) = outs_count e outs

pub count_more : (e : ℕ) (entries : List LogEntry) (outs : List Output) → count_by (is_ran e) (entries ++ map entry_of outs) ≡ count_by (is_ran e) entries
count_more e entries outs = sum_by-append (λ x. cond (is_ran e x) 1 0) entries (map entry_of outs) ∙ omega (arith, outs_count e outs)
