-- Every place of every task does what one step of the tasks does.
use Rattle.std.proofs.Common.{◌≡◌, ℕ, zero, suc, ◌+◌, ◌<◌, ◌≤◌, List, [], ◌∷◌, length, Option, Some, None, refl, sym, ap, ◌∙◌, subst, arith, length-append, append-nil}
use Rattle.std.specs.Prelude.{slice_get, slice_index, map, ℤ, unwrap_or, MatchOption}
use Rattle.std.specs.Option.{option_and_then}
use Rattle.std.proofs.lemmas.List.Quantifiers.{position-Some}
use Rattle.std.proofs.Math.ListN.{length-set}
use Rattle.nv_memory.specs.declared.device.Class.TheVariants.{Basic}
use Rattle.cat_program.specs.Body.{Body, Empty, Plain, When, Choice, Loop, Turns, join, tree_of}
use Rattle.cat_program.specs.Meaning.{Store, TaskState, TaskStep, quietly, lowered, first_posted, taken, list_step, step_from, task_step_of}
use Rattle.cat_program.specs.Places.{body_size, Marks, marks_of, task_marks, tasks_marks, rest_in, listed, task_size, tasks_size}
use Rattle.cat_program.specs.Checked.{Checked, IsChecked, program_marks, body_at, bodies_of, versions_of, TaskWorks, EachTaskWorks}
use Rattle.cat_machine.specs.declared.instr.Instr.{Instr}
use Rattle.cat_machine.specs.declared.instr.Instr.TheVariants as i
use Rattle.cat_machine.specs.declared.instr.Mode.TheVariants.{Task}
use Rattle.cat_machine.specs.declared.instr.Did.TheVariants.{Acted}
use Rattle.cat_machine.specs.Costs.{Costs, section_most, task_most, tasks_most}
use Rattle.cat_machine.specs.CodeValue.{CodeValue}
use Rattle.cat_machine.specs.Held.{Held}
use Rattle.cat_machine.specs.Machine.{moved, stored, acted, if_so, act, fetched, step_at, step_of, next_of, place_or, entry_of, after_step, until}
use Rattle.cat_machine.specs.Code.{body_code, task_code, tasks_code, tasks_entries, events_code, code_of}
use Rattle.cat_program.specs.Resting.{StandsFor}
use Rattle.cat_machine.specs.Fits.{HasShape, Corresponds}
use Rattle.cat_machine.specs.LaidOut.{HasAt}
use Rattle.cat_machine.proofs.At.{has_front, has_rest, has_all}
use Rattle.cat_machine.proofs.Runs.{lt_true, until_suc, Weighs}
use Rattle.cat_machine.proofs.Sizes.{body_length, marks_length}
use Rattle.cat_machine.proofs.Sections.{store_of, Answers, Meets, JumpKeeps, EachMeets, Met, each_append, each_more, end_meets, list_met}

-- what a place stands for, as an item of the marks
pub rest_item : (marks : Marks) (pc : ℕ) (k : Body) → rest_in marks pc ≡ Some k → slice_get marks pc ≡ Some (Some k)
rest_item marks pc k e = item (slice_get marks pc) e
  where
    item : (o : Option (Option Body)) → option_and_then listed o ≡ Some k → o ≡ Some (Some k)
    item None e = cc
    item (Some None) e = cc
    item (Some (Some k')) e = cc

pub join_empty : (body : Body) → join body Empty ≡ body
join_empty Empty = refl
join_empty (Plain b p s rest) = ap (Plain b p s) (join_empty rest)
join_empty (When b p e on rest) = ap (When b p e on) (join_empty rest)
join_empty (Choice b p e on off rest) = ap (Choice b p e on off) (join_empty rest)
join_empty (Loop b p e body rest) = ap (Loop b p e body) (join_empty rest)
join_empty (Turns b p n body rest) = ap (Turns b p n body) (join_empty rest)

-- an item of a mapped list
pub mapped_item : {A : Type 0} (g : ℕ → A) (xs : List ℕ) (t : ℕ) → t < length xs → slice_get (map g xs) t ≡ Some (g (slice_index xs t))
mapped_item g [] t h = absurd (omega arith)
mapped_item g (x ∷ xs) zero h = refl
mapped_item g (x ∷ xs) (suc t) h = mapped_item g xs t (omega arith)

pub task_code_length : (at t : ℕ) (body : Body) → length (task_code at t body) ≡ task_size body
task_code_length at t body = omega (arith, length-append (body_code (at + 1) body) (i.End ∷ []), body_length body (at + 1))

pub task_marks_length : (body : Body) → length (task_marks body) ≡ task_size body
task_marks_length body = omega (arith, length-append (marks_of body Empty) (Some Empty ∷ []), marks_length body Empty)

-- where a task stands in the code
pub record Found (instrs : List Instr) (marks : Marks) (entries : List ℕ) (t t' : ℕ) (body : Body) : Type 0 where
  pub entry : ℕ
  pub listed_at : slice_get entries t ≡ Some entry
  pub code_at : HasAt instrs entry (task_code entry t' body)
  pub marks_at : HasAt marks entry (task_marks body)

pub find_task : (instrs : List Instr) (marks : Marks) (bodies : List Body) (at t0 t t' : ℕ) (body : Body) → t0 + t ≡ t' → HasAt instrs at (tasks_code at t0 bodies) → HasAt marks at (tasks_marks bodies) → slice_get bodies t ≡ Some body → Found instrs marks (tasks_entries at bodies) t t' body
find_task instrs marks [] at t0 t t' body e has stand item = cc
find_task instrs marks (b ∷ bodies) at t0 zero t' body e has stand item =
    let same : b ≡ body = cc in
    let there : t0 ≡ t' = omega arith in
    record {
      entry = at;
      listed_at = refl;
      code_at = subst (λ x. HasAt instrs at (task_code at x body)) there (subst (λ x. HasAt instrs at (task_code at t0 x)) same (has_front instrs at (task_code at t0 b) _ has));
      marks_at = subst (λ x. HasAt marks at (task_marks x)) same (has_front marks at (task_marks b) _ stand);
    }
find_task instrs marks (b ∷ bodies) at t0 (suc t) t' body e has stand item =
    let r = find_task instrs marks bodies (at + task_size b) (t0 + 1) t t' body (omega arith)
    (has_rest instrs at (at + task_size b) (task_code at t0 b) (tasks_code (at + task_size b) (t0 + 1) bodies) (ap (λ j. at + j) (task_code_length at t0 b)) has)
    (has_rest marks at (at + task_size b) (task_marks b) (tasks_marks bodies) (ap (λ j. at + j) (task_marks_length b)) stand) item in
    record { entry = r.entry; listed_at = r.listed_at; code_at = r.code_at; marks_at = r.marks_at }

module _ (f : ℕ → ℕ) (u : Costs) (code : CodeValue) (weighs : Weighs f u code) (marks : Marks) (words posts : ℕ) where
  abbrev MeetsHere : ℕ → Body → ℕ → Type 0
  MeetsHere pc k c = Meets f u code weighs marks words posts pc k c

  abbrev JumpHere : ℕ → Body → Type 0
  JumpHere pc k = JumpKeeps f u code weighs marks words posts pc k

  abbrev EachHere : ℕ → ℕ → Marks → Type 0
  EachHere m at ms = EachMeets f u code weighs marks words posts m at ms

  -- one task's list
  task_met : (body : Body) (at t : ℕ) → TaskWorks words posts body → HasAt code.instrs at (task_code at t body) → HasAt marks at (task_marks body) → Met f u code weighs marks words posts body Empty (at + 1) (u Basic)
  task_met body at t works has stand =
      let at_end = has_rest code.instrs (at + 1) (at + 1 + body_size body) (body_code (at + 1) body) (i.End ∷ []) (ap (λ j. at + 1 + j) (body_length body (at + 1))) has.1 in
      let mark_end = has_rest marks (at + 1) (at + 1 + body_size body) (marks_of body Empty) (Some Empty ∷ []) (ap (λ j. at + 1 + j) (marks_length body Empty)) stand.1 in
      list_met f u code weighs marks words posts body Empty (at + 1) (u Basic) works (has_front code.instrs (at + 1) (body_code (at + 1) body) _ has.1) (has_front marks (at + 1) (marks_of body Empty) _ stand.1)
      (ap (option_and_then listed) mark_end.0) (end_meets f u code weighs marks words posts (at + 1 + body_size body) at_end.0)

  task_each : (body : Body) (at t m : ℕ) → task_most u body ≤ m → TaskWorks words posts body → HasAt code.instrs at (task_code at t body) → HasAt marks at (task_marks body) → EachHere m at (task_marks body)
  task_each body at t m le works has stand =
      let r = task_met body at t works has stand in
      let at_end = has_rest code.instrs (at + 1) (at + 1 + body_size body) (body_code (at + 1) body) (i.End ∷ []) (ap (λ j. at + 1 + j) (body_length body (at + 1))) has.1 in
      let e = end_meets f u code weighs marks words posts (at + 1 + body_size body) at_end.0 in
      each_append f u code weighs marks words posts m (at + 1) (at + 1 + body_size body) (marks_of body Empty) (Some Empty ∷ []) (ap (λ j. at + 1 + j) (marks_length body Empty))
      (each_more f u code weighs marks words posts (section_most u body (u Basic)) m (at + 1) (marks_of body Empty) (omega arith) r.each)
      ((u Basic, omega arith, e, (λ to w. let both : Some i.End ≡ Some (i.Jump to) = sym at_end.0 ∙ w in cc)), tt)

  pub tasks_each : (bodies : List Body) (at t m : ℕ) → tasks_most u bodies ≤ m → EachTaskWorks words posts bodies → HasAt code.instrs at (tasks_code at t bodies) → HasAt marks at (tasks_marks bodies) → EachHere m at (tasks_marks bodies)
  tasks_each [] at t m le works has stand = tt
  tasks_each (body ∷ bodies) at t m le works has stand =
      let next = at + task_size body in
      each_append f u code weighs marks words posts m at next (task_marks body) (tasks_marks bodies) (ap (λ j. at + j) (task_marks_length body))
      (task_each body at t m (omega arith) works.0 (has_front code.instrs at (task_code at t body) _ has) (has_front marks at (task_marks body) _ stand))
      (tasks_each bodies next (t + 1) m (omega arith) works.1
      (has_rest code.instrs at next (task_code at t body) (tasks_code next (t + 1) bodies) (ap (λ j. at + j) (task_code_length at t body)) has)
      (has_rest marks at next (task_marks body) (tasks_marks bodies) (ap (λ j. at + j) (task_marks_length body)) stand))

  pub each_at : (ms : Marks) (m at n : ℕ) (k : Body) → EachHere m at ms → slice_get ms n ≡ Some (Some k) → (c : ℕ) × (c ≤ m) × MeetsHere (at + n) k c × JumpHere (at + n) k
  each_at [] m at n k x e = cc
  each_at (None ∷ ms) m at zero k x e = cc
  each_at (Some k' ∷ ms) m at zero k x e =
      let same : k' ≡ k = cc in
      let here : at ≡ at + 0 = omega arith in
      (x.0.0, x.0.1, subst (λ j. MeetsHere j k x.0.0) here (subst (λ y. MeetsHere at y x.0.0) same x.0.2), subst (λ j. JumpHere j k) here (subst (λ y. JumpHere at y) same x.0.3))
  each_at (None ∷ ms) m at (suc n) k x e =
      let r = each_at ms m (at + 1) n k x e in
      let here : at + 1 + n ≡ at + suc n = omega arith in
      (r.0, r.1, subst (λ j. MeetsHere j k r.0) here r.2, subst (λ j. JumpHere j k) here r.3)
  each_at (Some k' ∷ ms) m at (suc n) k x e =
      let r = each_at ms m (at + 1) n k x.1 e in
      let here : at + 1 + n ≡ at + suc n = omega arith in
      (r.0, r.1, subst (λ j. MeetsHere j k r.0) here r.2, subst (λ j. JumpHere j k) here r.3)

-- ---- the whole program

pub has_tasks : (p : Checked) → HasAt (code_of p).instrs 0 (tasks_code 0 0 (bodies_of p))
unfolding code_of
has_tasks p = has_all (tasks_code 0 0 (bodies_of p)) [] (events_code (tasks_size (bodies_of p)) (versions_of p))

pub has_marks : (p : Checked) → HasAt (program_marks p) 0 (program_marks p)
has_marks p = subst (λ l. HasAt l 0 (program_marks p)) (append-nil (program_marks p)) (has_all (program_marks p) [] [])

pub program_entries : (p : Checked) → (code_of p).tasks ≡ tasks_entries 0 (bodies_of p)
unfolding code_of
program_entries p = refl

-- the machine ends a section as one step of the tasks says, at no more than the greatest cost
pub record SectionMeets (f : ℕ → ℕ) (u : Costs) (p : Checked) (h : Held) (s : TaskStep) : Type 0 where
  pub cost : ℕ
  pub within : cost ≤ tasks_most u (bodies_of p)
  pub answers : Answers f (code_of p) (program_marks p) (length p.words) (length p.tasks) h s cost

module _ (f : ℕ → ℕ) (u : Costs) (p : Checked) (weighs : Weighs f u (code_of p)) (checked : IsChecked p) where
  -- where a list is current
  listed_meets : (h : Held) (pc : ℕ) (k : Body) → HasShape (length p.words) (length p.tasks) h → h.kept ≡ None → rest_in (program_marks p) pc ≡ Some k → SectionMeets f u p (moved h pc []) (list_step k (store_of h))
  listed_meets h pc k shape free stands =
      let each = tasks_each f u (code_of p) weighs (program_marks p) (length p.words) (length p.tasks) (bodies_of p) 0 0 (tasks_most u (bodies_of p)) (omega arith) checked.tasks_work (has_tasks p) (has_marks p) in
      let r = each_at f u (code_of p) weighs (program_marks p) (length p.words) (length p.tasks) (program_marks p) (tasks_most u (bodies_of p)) 0 pc k each (rest_item (program_marks p) pc k stands) in
      let here : 0 + pc ≡ pc = omega arith in
      let meets = subst (λ j. Meets f u (code_of p) weighs (program_marks p) (length p.words) (length p.tasks) j k r.0) here r.2 in
      record { cost = r.0; within = r.1; answers = meets h shape free }

  -- a jump keeps the list
  pub jump_rest : (pc to : ℕ) (k : Body) → rest_in (program_marks p) pc ≡ Some k → slice_get (code_of p).instrs pc ≡ Some (i.Jump to) → rest_in (program_marks p) to ≡ Some k
  jump_rest pc to k stands at =
      let each = tasks_each f u (code_of p) weighs (program_marks p) (length p.words) (length p.tasks) (bodies_of p) 0 0 (tasks_most u (bodies_of p)) (omega arith) checked.tasks_work (has_tasks p) (has_marks p) in
      let r = each_at f u (code_of p) weighs (program_marks p) (length p.words) (length p.tasks) (program_marks p) (tasks_most u (bodies_of p)) 0 pc k each (rest_item (program_marks p) pc k stands) in
      let here : pc ≡ 0 + pc = omega arith in
      r.3 to (subst (λ j. slice_get (code_of p).instrs j ≡ Some (i.Jump to)) here at)

  -- where none is current, and task t is the first with posts
  taken_meets : (h : Held) (t : ℕ) → HasShape (length p.words) (length p.tasks) h → h.kept ≡ None → h.place ≡ None → h.stack ≡ [] → first_posted h.posts ≡ Some t → SectionMeets f u p h (quietly (record { words = h.words; posts = lowered h.posts t }) (Some (body_at p t)))
  unfolding act
  taken_meets h t shape free nowhere empty first =
      let within = (position-Some _ h.posts t 0 first).0 in
      let item = mapped_item (tree_of p.blocks) p.tasks t (subst (λ n. t < n) shape.posts_are within) in
      let found = find_task (code_of p).instrs (program_marks p) (bodies_of p) 0 0 t t (body_at p t) (omega arith) (has_tasks p) (has_marks p) item in
      let works = each_works (bodies_of p) t (body_at p t) checked.tasks_work item in
      let met = task_met f u (code_of p) weighs (program_marks p) (length p.words) (length p.tasks) (body_at p t) found.entry t works found.code_at found.marks_at in
      let after = stored h h.words (lowered h.posts t) (found.entry + 1) h.stack in
      let next : next_of (code_of p) h ≡ Some found.entry =
      ap (place_or (code_of p) h.posts) nowhere ∙ ap (entry_of (code_of p)) first ∙ ap (λ l. slice_get l t) (program_entries p) ∙ found.listed_at in
      let does : act Task (i.Begin t) found.entry h ≡ Some (record { did = Acted; after = after }) = ap (λ b. if_so b (acted Task after)) (lt_true t (length h.posts) within) in
      let stepped : step_of Task (code_of p) h ≡ Some (record { did = Acted; after = after }) =
      ap (step_at Task (code_of p) h) next ∙ ap (fetched Task found.entry h) found.code_at.0 ∙ does in
      record {
        cost = u Basic;
        within = most_begin (bodies_of p) t (body_at p t) item;
        answers = record {
          did = Acted;
          after = after;
          ends = record {
            path = found.entry ∷ [];
            costs = omega (arith, weighs.by found.entry (i.Begin t) found.code_at.0);
            turns = 1;
            is = until_suc 0 Task (code_of p) h ∙ ap (λ o. after_step Task (until 0 Task (code_of p)) (unwrap_or o 0) (step_of Task (code_of p) h)) next ∙ ap (after_step Task (until 0 Task (code_of p)) found.entry) stepped;
          };
          answer = refl;
          corresponds = record { words = refl; posts = refl; place = met.here ∙ ap Some (join_empty (body_at p t)); free = free; empty = empty };
          shape = record { words_are = shape.words_are; posts_are = length-set h.posts t _ ∙ shape.posts_are };
        };
      }
    where
      each_works : (bodies : List Body) (t : ℕ) (body : Body) → EachTaskWorks (length p.words) (length p.tasks) bodies → slice_get bodies t ≡ Some body → TaskWorks (length p.words) (length p.tasks) body
      each_works [] t body works e = cc
      each_works (b ∷ bodies) zero body works e = let same : b ≡ body = cc in subst (TaskWorks (length p.words) (length p.tasks)) same works.0
      each_works (b ∷ bodies) (suc t) body works e = each_works bodies t body works.1 e

      most_begin : (bodies : List Body) (t : ℕ) (body : Body) → slice_get bodies t ≡ Some body → u Basic ≤ tasks_most u bodies
      most_begin [] t body e = cc
      most_begin (b ∷ bodies) t body e = omega arith

  abbrev store_by : List ℤ → List ℕ → Store
  store_by words posts = record { words = words; posts = posts }

  -- at a task's entry stands its begin
  pub entry_begins : (t pc : ℕ) → t < length p.tasks → slice_get (code_of p).tasks t ≡ Some pc → slice_get (code_of p).instrs pc ≡ Some (i.Begin t)
  entry_begins t pc within entry =
      let item = mapped_item (tree_of p.blocks) p.tasks t within in
      let found = find_task (code_of p).instrs (program_marks p) (bodies_of p) 0 0 t t (body_at p t) (omega arith) (has_tasks p) (has_marks p) item in
      let both : Some found.entry ≡ Some pc = sym found.listed_at ∙ ap (λ l. slice_get l t) (sym (program_entries p)) ∙ entry in
      let same : found.entry ≡ pc = cc in
      subst (λ j. slice_get (code_of p).instrs j ≡ Some (i.Begin t)) same found.code_at.0

  pub section_law : (h : Held) (s : TaskState) → Corresponds (program_marks p) h s → HasShape (length p.words) (length p.tasks) h → MatchOption (task_step_of (body_at p) s) (next_of (code_of p) h ≡ None) (λ r. SectionMeets f u p h r)
  section_law h s c shape =
      let same : store_of h ≡ s.store = ap (λ w. store_by w h.posts) c.words ∙ ap (λ q. store_by s.store.words q) c.posts in
      subst (λ x. MatchOption (step_from (body_at p) x s.current) (next_of (code_of p) h ≡ None) (λ r. SectionMeets f u p h r)) same (at_place h.place s.current refl c.place)
    where
      here : (pc : ℕ) → h.place ≡ Some pc → moved h pc [] ≡ h
      here pc e = ap (λ x. moved h pc x) (sym c.empty) ∙ ap (λ o. record { words = h.words; posts = h.posts; place = o; kept = h.kept; stack = h.stack; payload = h.payload }) (sym e)

      at_first : (o : Option ℕ) → first_posted h.posts ≡ o → h.place ≡ None → MatchOption (taken (body_at p) (store_of h) o) (next_of (code_of p) h ≡ None) (λ r. SectionMeets f u p h r)
      at_first None e nowhere = ap (place_or (code_of p) h.posts) nowhere ∙ ap (entry_of (code_of p)) e
      at_first (Some t) e nowhere = taken_meets h t shape c.free nowhere c.empty e

      at_place : (place : Option ℕ) (current : Option Body) → h.place ≡ place → StandsFor (program_marks p) place current → MatchOption (step_from (body_at p) (store_of h) current) (next_of (code_of p) h ≡ None) (λ r. SectionMeets f u p h r)
      at_place None None e stands = at_first (first_posted h.posts) refl e
      at_place (Some pc) (Some k) e stands = subst (λ x. SectionMeets f u p x (list_step k (store_of h))) (here pc e) (listed_meets h pc k shape c.free stands)
      at_place None (Some k) e stands = absurd stands
      at_place (Some pc) None e stands = absurd stands
