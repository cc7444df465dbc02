-- A working state that fits goes on to fit.
use Rattle.std.proofs.Common.{◌≡◌, ℕ, ◌<◌, ◌≤◌, ◌⊎◌, List, [], ◌∷◌, length, Option, Some, None, refl, sym, ap, ◌∙◌, subst, ⊎_elim, arith}
use Rattle.std.specs.Prelude.{slice_get, unwrap_or, MatchOption, IsNone, ◌↔◌}
use Rattle.std.proofs.Common.{inl, inr}
use Rattle.std.proofs.lemmas.List.Quantifiers.{position-Some}
use Rattle.cat_program.specs.Meaning.{Output, first_posted, TaskState, TaskStep, task_step_of}
use Rattle.cat_program.specs.Body.{Body}
use Rattle.cat_program.specs.Places.{rest_in}
use Rattle.cat_program.specs.Resting.{StandsFor}
use Rattle.cat_program.specs.declared.syntax.Stepped.TheVariants.{None as NoStep}
use Rattle.cat_program.specs.Checked.{Checked, IsChecked, bodies_of, body_at, program_marks}
use Rattle.cat_machine.specs.declared.instr.Instr.{Instr}
use Rattle.cat_machine.specs.declared.instr.Instr.TheVariants as i
use Rattle.cat_machine.specs.declared.instr.Fetched.{Fetched as Next}
use Rattle.cat_machine.specs.declared.instr.Mode.{Mode}
use Rattle.cat_machine.specs.declared.instr.Mode.TheVariants.{Task, Handler}
use Rattle.cat_machine.specs.declared.instr.Did.{Did}
use Rattle.cat_machine.specs.declared.instr.Did.TheVariants.{Went, Acted, Ended, Emitted}
use Rattle.cat_machine.specs.CodeValue.{CodeValue}
use Rattle.cat_machine.specs.Held.{Held}
use Rattle.cat_machine.specs.Machine.{Stepping, moved, act, IsNext, fetched, step_at, step_of, next_of, entry_of, place_or, goes_on, Ended', Stopped, prepended, follow, after_step, until}
use Rattle.cat_machine.specs.Code.{code_of}
use Rattle.cat_machine.specs.Fits.{HasShape, Corresponds, IsIdle, RunsOn, Stands, Idle, Within, Handling, Fits, ReadyFor, AnswerMeans, SectionIs, stepped_of}
use Rattle.cat_machine.specs.LaidOut.{one_each}
use Rattle.cat_machine.proofs.Runs.{until_suc, path_cost-length, Weighs}
use Rattle.cat_machine.proofs.Bounds.{tasks_le, until_within, until_more}
use Rattle.cat_machine.proofs.Keeps.{KeptIf, WentOn, Lands, Keeps, AllSome, act_keeps}
use Rattle.cat_machine.proofs.Tasks.{SectionMeets, section_law, jump_rest, entry_begins}

abbrev pub one_at : ℕ → ℕ
one_at _ = 1

pub weighs_one : (code : CodeValue) → Weighs one_at one_each code
weighs_one code = record { by = λ pc instr e. refl }

-- the run of a section, which is short
pub record SectionRuns (p : Checked) (h : Held) (s : TaskStep) : Type 0 where
  pub run : Ended'
  pub ends : until 1000000 Task (code_of p) h ≡ Some run
  pub answer : stepped_of run.did ≡ s.answer
  pub corresponds : Corresponds (program_marks p) run.after s.after
  pub shape : HasShape (length p.words) (length p.tasks) run.after

abbrev pub Law : Checked → Held → Option TaskStep → Type 0
Law p h o = MatchOption o (next_of (code_of p) h ≡ None) (λ r. SectionRuns p h r)

pub section_runs : (p : Checked) → IsChecked p → (h : Held) (s : TaskState) → Corresponds (program_marks p) h s → HasShape (length p.words) (length p.tasks) h → Law p h (task_step_of (body_at p) s)
section_runs p checked h s c shape = short (task_step_of (body_at p) s) (section_law one_at one_each p (weighs_one (code_of p)) checked h s c shape)
  where
    short : (o : Option TaskStep) → MatchOption o (next_of (code_of p) h ≡ None) (λ r. SectionMeets one_at one_each p h r) → Law p h o
    short None e = e
    short (Some r) m =
        let ends = m.answers.ends in
        let long : length ends.path ≤ 1000000 = omega (arith, path_cost-length ends.path, ends.costs, m.within, tasks_le (bodies_of p), checked.short) in
        record { run = _; ends = until_within Task (code_of p) ends.turns h _ ends.is 1000000 long; answer = m.answers.answer; corresponds = m.answers.corresponds; shape = m.answers.shape }

-- an idle state for which there is a next place runs on
pub idle_runs : (p : Checked) → IsChecked p → (h : Held) (pc : ℕ) → IsIdle p h → HasShape (length p.words) (length p.tasks) h → next_of (code_of p) h ≡ Some pc → RunsOn p Task h
idle_runs p checked h pc idle shape next = by_law (task_step_of (body_at p) idle.state) (section_runs p checked h idle.state idle.corresponds shape)
  where
    by_law : (o : Option TaskStep) → Law p h o → RunsOn p Task h
    by_law None e = let both = sym e ∙ next in cc
    by_law (Some r) m = record { run = m.run; ends = m.ends; rests = record { state = r.after; corresponds = m.corresponds } }

-- a run that goes on has a step
pub runs_step : (p : Checked) (mode : Mode) (h : Held) → RunsOn p mode h → (s : Stepping) × (step_of mode (code_of p) h ≡ Some s)
runs_step p mode h r = by_step (step_of mode (code_of p) h) refl (sym (until_suc 999999 mode (code_of p) h) ∙ r.ends)
  where
    by_step : (o : Option Stepping) → step_of mode (code_of p) h ≡ o → after_step mode (until 999999 mode (code_of p)) (unwrap_or (next_of (code_of p) h) 0) (step_of mode (code_of p) h) ≡ Some r.run → (s : Stepping) × (step_of mode (code_of p) h ≡ Some s)
    by_step None e w = let x = ap (after_step mode (until 999999 mode (code_of p)) (unwrap_or (next_of (code_of p) h) 0)) (sym e) ∙ w in cc
    by_step (Some s) e w = (s, e)

-- after a step a run goes on, or has ended
abbrev pub Later : Checked → Mode → Stepping → Option (List Output) → Type 0
Later p mode s None = IsIdle p s.after
Later p mode s (Some outs) = RunsOn p mode s.after

pub runs_later : (p : Checked) (mode : Mode) (h : Held) (s : Stepping) → RunsOn p mode h → step_of mode (code_of p) h ≡ Some s → Later p mode s (goes_on mode s.did)
runs_later p mode h s r step =
    by_outs (goes_on mode s.did)
    (ap (after_step mode (until 999999 mode (code_of p)) (unwrap_or (next_of (code_of p) h) 0)) (sym step) ∙ sym (until_suc 999999 mode (code_of p) h) ∙ r.ends)
  where
    by_run : (outs : List Output) (o : Option Ended') → until 999999 mode (code_of p) s.after ≡ o → prepended (unwrap_or (next_of (code_of p) h) 0 ∷ []) outs o ≡ Some r.run → RunsOn p mode s.after
    by_run outs None e w = cc
    by_run outs (Some run) e w =
        let same : r.run.after ≡ run.after = cc in
        record { run = run; ends = until_more mode (code_of p) 999999 1000000 s.after run (omega arith) e; rests = subst (IsIdle p) same r.rests }

    by_outs : (g : Option (List Output)) → follow (until 999999 mode (code_of p)) (unwrap_or (next_of (code_of p) h) 0) s g ≡ Some r.run → Later p mode s g
    by_outs None w = let same : r.run.after ≡ s.after = cc in subst (IsIdle p) same r.rests
    by_outs (Some outs) w = by_run outs (until 999999 mode (code_of p) s.after) refl w

-- ---- the steps of a state that fits

-- the instruction that is next is the one that a step does
pub step_is_act : (mode : Mode) (code : CodeValue) (h : Held) (f : Next) → IsNext code h f → step_of mode code h ≡ act mode f.instr f.pc h
step_is_act mode code h f next = ap (step_at mode code h) next.0 ∙ ap (fetched mode f.pc h) next.1

-- the place of the instruction, and the instruction
pub record Fetched (mode : Mode) (code : CodeValue) (h : Held) (s : Stepping) : Type 0 where
  pub pc : ℕ
  pub next : next_of code h ≡ Some pc
  pub instr : Instr
  pub at : slice_get code.instrs pc ≡ Some instr
  pub does : act mode instr pc h ≡ Some s

pub fetched_of : (mode : Mode) (code : CodeValue) (h : Held) (s : Stepping) → step_of mode code h ≡ Some s → Fetched mode code h s
fetched_of mode code h s step = by_place (next_of code h) refl step
  where
    by_instr : (pc : ℕ) (o : Option Instr) → next_of code h ≡ Some pc → slice_get code.instrs pc ≡ o → fetched mode pc h o ≡ Some s → Fetched mode code h s
    by_instr pc None e d w = cc
    by_instr pc (Some instr) e d w = record { pc = pc; next = e; instr = instr; at = d; does = w }

    by_place : (o : Option ℕ) → next_of code h ≡ o → step_at mode code h o ≡ Some s → Fetched mode code h s
    by_place None e w = cc
    by_place (Some pc) e w = by_instr pc (slice_get code.instrs pc) e refl w

step_keeps : (mode : Mode) (code : CodeValue) (h : Held) (s : Stepping) (x : Fetched mode code h s) → Keeps mode x.instr h s
step_keeps mode code h s x = subst (AllSome (Keeps mode x.instr h)) x.does (act_keeps mode x.instr x.pc h)

shape_after : (mode : Mode) (instr : Instr) (h : Held) (s : Stepping) (words posts : ℕ) → Keeps mode instr h s → HasShape words posts h → HasShape words posts s.after
shape_after mode instr h s words posts k shape = record { words_are = k.words_len ∙ shape.words_are; posts_are = k.posts_len ∙ shape.posts_are }

-- a state whose place is a jump is idle after it
idle_jumps : (p : Checked) → IsChecked p → (h : Held) (pc to : ℕ) → IsIdle p h → next_of (code_of p) h ≡ Some pc → slice_get (code_of p).instrs pc ≡ Some (i.Jump to) → HasShape (length p.words) (length p.tasks) h → IsIdle p (moved h to h.stack)
idle_jumps p checked h pc to idle next at shape = by_place h.place idle.state.current refl idle.corresponds.place
  where
    by_first : (o : Option ℕ) → first_posted h.posts ≡ o → entry_of (code_of p) o ≡ Some pc → ⊥
    by_first None e w = cc
    by_first (Some t) e w =
        let within = (position-Some _ h.posts t 0 e).0 in
        let begins = entry_begins one_at one_each p (weighs_one (code_of p)) checked t pc (subst (λ n. t < n) shape.posts_are within) w in
        let both : Some (i.Begin t) ≡ Some (i.Jump to) = sym begins ∙ at in
        cc

    by_place : (place : Option ℕ) (current : Option Body) → h.place ≡ place → StandsFor (program_marks p) place current → IsIdle p (moved h to h.stack)
    by_place None None e stands = absurd (by_first (first_posted h.posts) refl (ap (place_or (code_of p) h.posts) (sym e) ∙ next))
    by_place (Some pc') (Some k) e stands =
        let both : Some pc' ≡ Some pc = ap (place_or (code_of p) h.posts) (sym e) ∙ next in
        let same : pc' ≡ pc = cc in
        let stands' = subst (λ j. rest_in (program_marks p) j ≡ Some k) same stands in
        record {
          state = record { store = idle.state.store; current = Some k };
          corresponds = record {
            words = idle.corresponds.words;
            posts = idle.corresponds.posts;
            place = jump_rest one_at one_each p (weighs_one (code_of p)) checked pc to k stands' at;
            free = idle.corresponds.free;
            empty = idle.corresponds.empty;
          };
        }
    by_place None (Some k) e stands = absurd stands
    by_place (Some pc') None e stands = absurd stands

-- what fits and is ready runs on
ready_runs : (p : Checked) (mode : Mode) (code : CodeValue) (h : Held) → Fits p code h → ReadyFor mode code h → RunsOn p mode h
ready_runs p mode code h fits ready = runs mode fits.stands (subst (λ c. ReadyFor mode c h) fits.code_is ready)
  where
    runs : (mode : Mode) → Stands p h → ReadyFor mode (code_of p) h → RunsOn p mode h
    runs Task (Idle idle) ready = idle_runs p fits.checked h ready.1.0 idle fits.shape ready.1.1
    runs Task (Within free some r) ready = r
    runs Task (Handling kept e r) ready = let both = sym e ∙ ready.0 in cc
    runs Handler (Idle idle) ready = let both = sym ready.1 ∙ idle.corresponds.free in cc
    runs Handler (Within free some r) ready = let both = sym ready.1 ∙ free in cc
    runs Handler (Handling kept e r) ready = r

-- what fits and is ready has a step
pub fits_step : (p : Checked) (mode : Mode) (code : CodeValue) (h : Held) → Fits p code h → ReadyFor mode code h → (s : Stepping) × (step_of mode code h ≡ Some s)
fits_step p mode code h fits ready =
    let found = runs_step p mode h (ready_runs p mode code h fits ready) in
    (found.0, ap (λ c. step_of mode c h) fits.code_is ∙ found.1)

-- what its answer means
pub answer_means : (p : Checked) (mode : Mode) (code : CodeValue) (h : Held) (s : Stepping) → Fits p code h → ReadyFor mode code h → step_of mode code h ≡ Some s → AnswerMeans mode p h s.did s.after
answer_means p mode code h s fits ready step =
    by_answer mode s.did s.after ready keeps.kept keeps.lands (runs_later p mode h s (ready_runs p mode code h fits ready) step')
  where
    step' : step_of mode (code_of p) h ≡ Some s
    step' = ap (λ c. step_of mode c h) (sym fits.code_is) ∙ step

    found : Fetched mode (code_of p) h s
    found = fetched_of mode (code_of p) h s step'

    keeps : Keeps mode found.instr h s
    keeps = step_keeps mode (code_of p) h s found

    by_answer : (mode : Mode) (d : Did) (after : Held) → ReadyFor mode code h → KeptIf d h after → Lands mode d after → Later p mode (record { did = d; after = after }) (goes_on mode d) → AnswerMeans mode p h d after
    by_answer Task Went after ready kept lands later = (kept ∙ ready.0, lands)
    by_answer Task Acted after ready kept lands later = later
    by_answer Task (Emitted c v) after ready kept lands later = later
    by_answer Task Ended after ready kept lands later = lands
    by_answer Handler Went after ready kept lands later = (kept, lands)
    by_answer Handler (Emitted c v) after ready kept lands later = (kept, lands)
    by_answer Handler Ended after ready kept lands later = (later, kept)
    by_answer Handler Acted after ready kept lands later = lands

-- after a step it fits again
pub fits_after : (p : Checked) (mode : Mode) (code : CodeValue) (h : Held) (s : Stepping) → Fits p code h → ReadyFor mode code h → step_of mode code h ≡ Some s → Fits p code s.after
fits_after p mode code h s fits ready step = record {
  checked = fits.checked;
  code_is = fits.code_is;
  shape = shape_after mode found.instr h s (length p.words) (length p.tasks) keeps fits.shape;
  stands = by_mode mode found keeps step' fits.stands ready';
}
  where
    step' : step_of mode (code_of p) h ≡ Some s
    step' = ap (λ c. step_of mode c h) (sym fits.code_is) ∙ step

    ready' : ReadyFor mode (code_of p) h
    ready' = subst (λ c. ReadyFor mode c h) fits.code_is ready

    found : Fetched mode (code_of p) h s
    found = fetched_of mode (code_of p) h s step'

    keeps : Keeps mode found.instr h s
    keeps = step_keeps mode (code_of p) h s found

    -- within a section: it acted, it left an operand, or it jumped
    task_did : (d : Did) (instr : Instr) → (after : Held) → KeptIf d h after → WentOn Task instr h d after → h.kept ≡ None → ((to : ℕ) → instr ≡ i.Jump to → after ≡ moved h to h.stack → (0 < length after.stack) ⊎ IsIdle p after) → Later p Task (record { did = d; after = after }) (goes_on Task d) → Stands p after
    task_did Went instr after kept went free jumps later =
        let stays = kept ∙ free in
        ⊎_elim (λ some. Within stays some later)
        (λ j. ⊎_elim (λ some. Within stays some later) (λ idle. Idle idle) (jumps j.0 j.1 j.2))
        went
    task_did Acted instr after kept went free jumps later = Idle later
    task_did Ended instr after kept went free jumps later = Idle later
    task_did (Emitted c v) instr after kept went free jumps later = Idle later

    handler_did : (d : Did) (after : Held) (kept : Option ℕ) → h.kept ≡ Some kept → KeptIf d h after → Later p Handler (record { did = d; after = after }) (goes_on Handler d) → Stands p after
    handler_did Went after kept e k later = Handling kept (k ∙ e) later
    handler_did (Emitted c v) after kept e k later = Handling kept (k ∙ e) later
    handler_did Acted after kept e k later = Idle later
    handler_did Ended after kept e k later = Idle later

    by_mode : (mode : Mode) (f : Fetched mode (code_of p) h s) → Keeps mode f.instr h s → step_of mode (code_of p) h ≡ Some s → Stands p h → ReadyFor mode (code_of p) h → Stands p s.after
    by_mode Task f k st (Idle idle) ready =
        task_did s.did f.instr s.after k.kept k.went idle.corresponds.free
        (λ to e d. inr (subst (IsIdle p) (sym d) (idle_jumps p fits.checked h f.pc to idle f.next (f.at ∙ ap Some e) fits.shape)))
        (runs_later p Task h s (idle_runs p fits.checked h ready.1.0 idle fits.shape ready.1.1) st)
    by_mode Task f k st (Within free some r) ready =
        task_did s.did f.instr s.after k.kept k.went free
        (λ to e d. inl (subst (λ x. 0 < length x.stack) (sym d) some))
        (runs_later p Task h s r st)
    by_mode Task f k st (Handling kept e r) ready = let both = sym e ∙ ready.0 in cc
    by_mode Handler f k st (Idle idle) ready = let both = sym ready.1 ∙ idle.corresponds.free in cc
    by_mode Handler f k st (Within free some r) ready = let both = sym ready.1 ∙ free in cc
    by_mode Handler f k st (Handling kept e r) ready = handler_did s.did s.after kept e k.kept (runs_later p Handler h s r st)

-- there is a next place exactly where the tasks have a step
pub next_steps : (p : Checked) (code : CodeValue) (h : Held) (s : TaskState) (r : Option ℕ) → r ≡ next_of code h → Fits p code h → Corresponds (program_marks p) h s → IsNone r ↔ IsNone (task_step_of (body_at p) s)
next_steps p code h s r e fits same =
    by_law (task_step_of (body_at p) s) r (e ∙ ap (λ c. next_of c h) fits.code_is) (section_runs p fits.checked h s same fits.shape)
  where
    by_place : (o : Option ℕ) (t : TaskStep) (run : Ended') → o ≡ next_of (code_of p) h → after_step Task (until 999999 Task (code_of p)) (unwrap_or o 0) (step_at Task (code_of p) h o) ≡ Some run → IsNone o ↔ IsNone (Some t)
    by_place None t run d w = cc
    by_place (Some pc) t run d w = ((λ x. cc), (λ x. cc))

    by_law : (o : Option TaskStep) (r : Option ℕ) → r ≡ next_of (code_of p) h → Law p h o → IsNone r ↔ IsNone o
    by_law None r d m = let none : r ≡ None = d ∙ m in ((λ x. refl), (λ x. subst (λ (y : Option ℕ). IsNone y) (sym none) refl))
    by_law (Some t) r d m =
        by_place r t m.run d (ap (λ o. after_step Task (until 999999 Task (code_of p)) (unwrap_or o 0) (step_at Task (code_of p) h o)) d ∙ sym (until_suc 999999 Task (code_of p) h) ∙ m.ends)

-- ---- sections

pub fits_idle : (p : Checked) (code : CodeValue) (h : Held) → Fits p code h → h.kept ≡ None → h.stack ≡ [] → IsIdle p h
fits_idle p code h fits free empty = by_stands fits.stands
  where
    by_stands : Stands p h → IsIdle p h
    by_stands (Idle idle) = idle
    by_stands (Within f some r) = absurd (omega (arith, ap length empty))
    by_stands (Handling kept w r) = let both = sym w ∙ free in cc

-- no run begins where there is no next place
pub no_run : (code : CodeValue) (h : Held) (o : Option ℕ) (e : Ended') → o ≡ next_of code h → o ≡ None → until 1000000 Task code h ≡ Some e → ⊥
no_run code h None e d n w = let x = ap (λ o. after_step Task (until 999999 Task code) (unwrap_or o 0) (step_at Task code h o)) d ∙ sym (until_suc 999999 Task code h) ∙ w in cc
no_run code h (Some pc) e d n w = cc

pub section_none : (p : Checked) (code : CodeValue) (h : Held) (s : TaskState) (o : Option ℕ) → o ≡ next_of code h → o ≡ None → Fits p code h → Corresponds (program_marks p) h s → SectionIs p s h NoStep h
section_none p code h s o d n fits same =
    by_law (task_step_of (body_at p) s) (section_runs p fits.checked h s same fits.shape)
  where
    by_law : (t : Option TaskStep) → Law p h t → MatchOption t ((NoStep ≡ NoStep) × (h ≡ h)) (λ r. (NoStep ≡ r.answer) × Corresponds (program_marks p) h r.after)
    by_law None m = (refl, refl)
    by_law (Some t) m = absurd (no_run (code_of p) h o m.run (d ∙ ap (λ c. next_of c h) fits.code_is) n m.ends)

pub section_starts : (p : Checked) (code : CodeValue) (h : Held) (o : Option ℕ) → o ≡ next_of code h → (o ≡ None → ⊥) → Fits p code h → h.kept ≡ None → h.stack ≡ [] → (e : Ended') × (until 1000000 Task code h ≡ Some e)
section_starts p code h None d n fits free empty = absurd (n refl)
section_starts p code h (Some pc) d n fits free empty =
    let r = idle_runs p fits.checked h pc (fits_idle p code h fits free empty) fits.shape (sym (d ∙ ap (λ c. next_of c h) fits.code_is)) in
    (r.run, ap (λ c. until 1000000 Task c h) fits.code_is ∙ r.ends)

pub section_is : (p : Checked) (code : CodeValue) (h : Held) (s : TaskState) (did : Did) (after : Held) → Stopped Task code h [] (record { did = did; after = after }) → Fits p code h → Corresponds (program_marks p) h s → SectionIs p s h (stepped_of did) after × Fits p code after
section_is p code h s did after stopped fits same =
    by_law (task_step_of (body_at p) s) (section_runs p fits.checked h s same fits.shape)
  where
    from : until 1000000 Task (code_of p) h ≡ Some stopped.all
    from = ap (λ c. until 1000000 Task c h) (sym fits.code_is) ∙ stopped.from

    by_law : (t : Option TaskStep) → Law p h t → MatchOption t ((stepped_of did ≡ NoStep) × (after ≡ h)) (λ r. (stepped_of did ≡ r.answer) × Corresponds (program_marks p) after r.after) × Fits p code after
    by_law None m = absurd (no_run (code_of p) h (next_of (code_of p) h) stopped.all refl m from)
    by_law (Some t) m =
        let both : Some m.run ≡ Some stopped.all = sym m.ends ∙ from in
        let run_is : m.run ≡ stopped.all = cc in
        let did_is : m.run.did ≡ did = ap (λ (r : Ended'). r.did) run_is ∙ stopped.did in
        let after_is : m.run.after ≡ after = ap (λ (r : Ended'). r.after) run_is ∙ stopped.after in
        let ends = subst (λ k. Corresponds (program_marks p) k t.after) after_is m.corresponds in (
          (ap stepped_of (sym did_is) ∙ m.answer, ends),
          record { checked = fits.checked; code_is = fits.code_is; shape = subst (HasShape (length p.words) (length p.tasks)) after_is m.shape; stands = Idle (record { state = t.after; corresponds = ends }) },
        )
