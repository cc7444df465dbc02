-- Sections and handlers end.
use Rattle.std.proofs.Common.{◌≡◌, ℕ, ◌+◌, ◌<◌, Bool, List, [], ◌∷◌, length, Option, Some, None, refl, sym, ap, ◌∙◌, subst, arith, length-append, zero, suc}
use Rattle.std.specs.Prelude.{nat_lt, ℤ, slice_get, slice_set, if◌then◌else◌, map, unwrap_or}
use Rattle.std.proofs.lemmas.Option.{slice_get_within}
use Rattle.cat_program.specs.Body.{Body, tree_of}
use Rattle.cat_program.specs.Value.{index_of, word_at}
use Rattle.cat_program.specs.Meaning.{Output, raised, lowered}
use Rattle.cat_program.specs.Places.{tasks_marks, task_marks, tasks_size, version_size, versions_size}
use Rattle.cat_program.specs.Checked.{Checked, IsChecked, HasVersion, rest_at, program_marks, bodies_of}
use Rattle.cat_machine.specs.Code.{code_of, versions_entries, events_entries}
use Rattle.std.proofs.lemmas.List.{length-map}
use Rattle.cat_machine.specs.declared.instr.Instr.{Instr}
use Rattle.cat_machine.specs.declared.instr.Instr.TheVariants as i
use Rattle.cat_machine.specs.declared.instr.Mode.{Mode}
use Rattle.cat_machine.specs.declared.instr.Mode.TheVariants.{Task, Handler}
use Rattle.cat_machine.specs.declared.instr.Did.{Did}
use Rattle.cat_machine.specs.declared.instr.Did.TheVariants.{Went, Acted, Ended, Emitted}
use Rattle.cat_machine.specs.CodeValue.{CodeValue, EntryAt}
use Rattle.cat_machine.specs.Held.{Held}
use Rattle.cat_machine.specs.Machine.{Stepping, moved, stored, if_so, went, acted, on_top, on_two, is_array, ended, act, next_of, step_of, goes_on, until, entered, Unacted}
use Rattle.cat_machine.specs.Fits.{Fits, Stands, Idle, Within, Handling, RunsOn}
use Rattle.cat_machine.specs.Ends.{IsWhole, PutsBy}
use Rattle.cat_machine.proofs.Keeps.{KeptIf, Keeps, AllSome, if_all, top_all, two_all, act_keeps}
use Rattle.cat_machine.proofs.Fitting.{fits_idle, idle_runs, fetched_of}
use Rattle.cat_machine.proofs.Entering.{fits_entered}
use Rattle.cat_machine.proofs.Tasks.{rest_item, task_marks_length}
use Rattle.cat_machine.proofs.Dropping.{unacted_same}

whole_of : (p : Checked) (mode : Mode) (code : CodeValue) (h : Held) → Fits p code h → RunsOn p mode h → IsWhole p mode code h
whole_of p mode code h fits r = record { run = r.run; ends = ap (λ c. until 1000000 mode c h) fits.code_is ∙ r.ends; idle = r.rests }

pub section_ends : (p : Checked) (code : CodeValue) (h : Held) (pc : ℕ) → Fits p code h → h.kept ≡ None → h.stack ≡ [] → next_of code h ≡ Some pc → IsWhole p Task code h
section_ends p code h pc fits free empty next =
    whole_of p Task code h fits (idle_runs p fits.checked h pc (fits_idle p code h fits free empty) fits.shape (sym (ap (λ c. next_of c h) fits.code_is) ∙ next))

pub handler_ends : (p : Checked) (code : CodeValue) (h : Held) (event version entry : ℕ) (payload : ℤ) → Fits p code h → h.kept ≡ None → h.stack ≡ [] → EntryAt code event version entry → IsWhole p Handler code (entered h entry payload)
handler_ends p code h event version entry payload fits free empty there = whole_of p Handler code (entered h entry payload) now (by_stands now.stands)
  where
    now : Fits p code (entered h entry payload)
    now = fits_entered p code h event version entry payload fits free empty there

    by_stands : Stands p (entered h entry payload) → RunsOn p Handler (entered h entry payload)
    by_stands (Idle idle) = let none = idle.corresponds.free in cc
    by_stands (Within f some r) = cc
    by_stands (Handling kept w r) = r

pub place_kept : (mode : Mode) (code : CodeValue) (h : Held) (s : Stepping) (outs : List Output) → step_of mode code h ≡ Some s → goes_on mode s.did ≡ Some outs → s.after.kept ≡ h.kept
place_kept mode code h s outs step on =
    let f = fetched_of mode code h s step in
    let keeps : Keeps mode f.instr h s = subst (AllSome (Keeps mode f.instr h)) f.does (act_keeps mode f.instr f.pc h) in
    by_did mode s.did on keeps.kept
  where
    by_did : (m : Mode) (d : Did) → goes_on m d ≡ Some outs → KeptIf d h s.after → s.after.kept ≡ h.kept
    by_did m Went e k = k
    by_did m Acted e k = k
    by_did m (Emitted c v) e k = k
    by_did Task Ended e k = cc
    by_did Handler Ended e k = cc

-- ---- outputs

abbrev Puts : Instr → Stepping → Type 0
Puts instr s = PutsBy instr s.did

acts_quiet : (mode : Mode) (instr : Instr) (after : Held) → PutsBy instr Acted → PutsBy instr Went → AllSome (Puts instr) (acted mode after)
acts_quiet Task instr after a b = a
acts_quiet Handler instr after a b = b

end_puts : (mode : Mode) (h : Held) (kept : Option (Option ℕ)) → AllSome (Puts i.End) (ended mode h kept)
end_puts Task h None = tt
end_puts Task h (Some kept) = tt
end_puts Handler h None = tt
end_puts Handler h (Some kept) = tt

turn_puts : (t : Bool) (instr : Instr) (to pc : ℕ) (h : Held) (x : ℤ) (below : List ℤ) → PutsBy instr Went → AllSome (Puts instr) (went (if t then moved h to below else moved h pc (x ∷ below)))
turn_puts t instr to pc h x below q = q

act_puts : (mode : Mode) (instr : Instr) (pc : ℕ) (h : Held) → AllSome (Puts instr) (act mode instr pc h)
unfolding act
act_puts mode (i.Push n) pc h = if_all (Puts (i.Push n)) (nat_lt (length {A = ℤ} h.stack) 32) (went (moved h (pc + 1) (n ∷ h.stack))) tt
act_puts mode (i.Load w) pc h = if_all (Puts (i.Load w)) (nat_lt w (length {A = ℤ} h.words)) (if_so (nat_lt (length {A = ℤ} h.stack) 32) (went (moved h (pc + 1) (word_at h.words w ∷ h.stack)))) (if_all (Puts (i.Load w)) (nat_lt (length {A = ℤ} h.stack) 32) (went (moved h (pc + 1) (word_at h.words w ∷ h.stack))) tt)
act_puts mode i.Payload pc h = if_all (Puts i.Payload) (nat_lt (length {A = ℤ} h.stack) 32) (went (moved h (pc + 1) (h.payload ∷ h.stack))) tt
act_puts mode (i.Signed s) pc h = top_all _ h.stack _ (λ x below. tt)
act_puts mode (i.Operate o) pc h = two_all _ h.stack _ (λ x y below. tt)
act_puts mode (i.Jump to) pc h = tt
act_puts Task (i.JumpZero to) pc h = top_all _ h.stack _ (λ x below. tt)
act_puts Handler (i.JumpZero to) pc h = top_all _ h.stack _ (λ x below. tt)
act_puts Task (i.Turn to) pc h = tt
act_puts Handler (i.Turn to) pc h = top_all _ h.stack _ (λ x below. tt)
act_puts Task (i.Begin t) pc h = if_all (Puts (i.Begin t)) (nat_lt t (length {A = ℕ} h.posts)) (acted Task (stored h h.words (lowered h.posts t) (pc + 1) h.stack)) tt
act_puts Handler (i.Begin t) pc h = if_all (Puts (i.Begin t)) (nat_lt t (length {A = ℕ} h.posts)) (acted Handler (stored h h.words (lowered h.posts t) (pc + 1) h.stack)) tt
act_puts mode i.End pc h = end_puts mode h h.kept
act_puts mode (i.LoadAt base len) pc h = if_all (Puts (i.LoadAt base len)) (is_array h.words base len) (on_top h.stack (λ x' x''. went (moved h (pc + 1) (word_at h.words (base + index_of x' len) ∷ x'')))) (top_all (Puts (i.LoadAt base len)) h.stack (λ x' x''. went (moved h (pc + 1) (word_at h.words (base + index_of x' len) ∷ x''))) (λ x below. tt))
act_puts mode (i.Store w) pc h = if_all (Puts (i.Store w)) (nat_lt w (length {A = ℤ} h.words)) (on_top h.stack (λ x' x''. acted mode (stored h (slice_set {A = ℤ} h.words w x') h.posts (pc + 1) x''))) (top_all (Puts (i.Store w)) h.stack (λ x' x''. acted mode (stored h (slice_set {A = ℤ} h.words w x') h.posts (pc + 1) x'')) (λ x below. acts_quiet mode (i.Store w) (stored h (slice_set h.words w x) h.posts (pc + 1) below) tt tt))
act_puts mode (i.StoreAt base len) pc h = if_all (Puts (i.StoreAt base len)) (is_array h.words base len) (on_two h.stack (λ x' x'' x3. acted mode (stored h (slice_set {A = ℤ} h.words (base + index_of x' len) x'') h.posts (pc + 1) x3))) (two_all (Puts (i.StoreAt base len)) h.stack (λ x' x'' x3. acted mode (stored h (slice_set {A = ℤ} h.words (base + index_of x' len) x'') h.posts (pc + 1) x3)) (λ x y below. acts_quiet mode (i.StoreAt base len) (stored h (slice_set h.words (base + index_of x len) y) h.posts (pc + 1) below) tt tt))
act_puts mode (i.Post t) pc h = if_all (Puts (i.Post t)) (nat_lt t (length {A = ℕ} h.posts)) (acted mode (stored h h.words (raised h.posts t) (pc + 1) h.stack)) (acts_quiet mode (i.Post t) (stored h h.words (raised h.posts t) (pc + 1) h.stack) tt tt)
act_puts mode (i.Out c) pc h = top_all _ h.stack _ (λ x below. refl)

pub puts_by : (mode : Mode) (code : CodeValue) (h : Held) (pc : ℕ) (instr : Instr) (s : Stepping) → next_of code h ≡ Some pc → slice_get code.instrs pc ≡ Some instr → step_of mode code h ≡ Some s → PutsBy instr s.did
puts_by mode code h pc instr s next at step =
    let f = fetched_of mode code h s step in
    let place : f.pc ≡ pc = let both = sym f.next ∙ next in cc in
    let one : slice_get code.instrs pc ≡ Some f.instr = subst (λ (n : ℕ). slice_get code.instrs n ≡ Some f.instr) place f.at in
    let same : f.instr ≡ instr = let both = sym one ∙ at in cc in
    subst (λ (x : Instr). PutsBy x s.did) same (subst (AllSome (Puts f.instr)) f.does (act_puts mode f.instr f.pc h))

-- ---- places

pub marks_many : (bodies : List Body) → length (tasks_marks bodies) ≡ tasks_size bodies
marks_many [] = refl
marks_many (body ∷ bodies) = omega (arith, length-append (task_marks body) (tasks_marks bodies), task_marks_length body, marks_many bodies)

pub place_in_code : (p : Checked) (pc : ℕ) (k : Body) → IsChecked p → rest_at p pc ≡ Some k → pc < 60000
place_in_code p pc k checked rest =
    let below = slice_get_within (program_marks p) pc (Some k) (rest_item (program_marks p) pc k rest) in
    omega (arith, below, marks_many (bodies_of p), checked.short)

pub unacted_rest : (code : CodeValue) (before now : Held) → Unacted code before now → (now.words ≡ before.words) × (now.posts ≡ before.posts) × (now.kept ≡ before.kept)
unacted_rest code before now u = let same = unacted_same code before now u in (ap (λ (h : Held). h.words) same, ap (λ (h : Held). h.posts) same, ap (λ (h : Held). h.kept) same)

-- ---- entries

version_entry : (bodies : List Body) (at version : ℕ) → version < length bodies → (entry : ℕ) × (slice_get (versions_entries at bodies) version ≡ Some entry)
version_entry [] at version below = absurd (omega (arith, below))
version_entry (body ∷ bodies) at zero below = (at, refl)
version_entry (body ∷ bodies) at (suc version) below = version_entry bodies (at + version_size body) version (omega (arith, below))

event_entry : (f : ℕ → Body) (events : List (List ℕ)) (at event version : ℕ) → event < length events → version < length (unwrap_or (slice_get events event) [])
    → (entry : ℕ) × (slice_get (unwrap_or (slice_get (events_entries at (map (map f) events)) event) []) version ≡ Some entry)
event_entry f [] at event version there below = absurd (omega (arith, there))
event_entry f (blocks ∷ events) at zero version there below = version_entry (map f blocks) at version (omega (arith, below, length-map blocks f))
event_entry f (blocks ∷ events) at (suc event) version there below = event_entry f events (at + versions_size (map f blocks)) event version (omega (arith, there)) below

pub entry_there : (p : Checked) (event version : ℕ) → HasVersion p event version → (entry : ℕ) × EntryAt (code_of p) event version entry
unfolding code_of
entry_there p event version h = event_entry (tree_of p.blocks) p.events (tasks_size (bodies_of p)) event version h.0 h.1
