-- Tasks, versions and events, one after the other.
use Rattle.std.proofs.Common.{◌≡◌, ℕ, zero, suc, ◌+◌, ◌<◌, ◌≤◌, List, [], ◌∷◌, ◌++◌, length, drop, Some, refl, sym, ap, ◌∙◌, subst, arith, append_assoc, append-nil, length-append}
use Rattle.std.specs.Prelude.{slice_get, map}
use Rattle.std.proofs.Common.{Vec, Global}
use Rattle.std.proofs.lemmas.List.{drop_all, length-map}
use Rattle.cat_program.specs.Body.{Body, tree_of}
use Rattle.cat_program.specs.Places.{body_size, task_size, tasks_size, version_size, versions_size, events_size}
use Rattle.cat_program.specs.Checked.{Checked, IsChecked, bodies_of, versions_of, EachBelow, EachListBelow}
use Rattle.cat_machine.specs.declared.instr.Instr.{Instr}
use Rattle.cat_machine.specs.declared.instr.Instr.TheVariants as i
use Rattle.cat_machine.specs.CodeValue.{CodeValue, entries_of}
use Rattle.cat_machine.specs.Code.{body_code, task_code, tasks_code, tasks_entries, versions_code, versions_entries, events_code, events_entries, code_of}
use Rattle.cat_machine.specs.LaidOut.{CodeHasSizes}

pub drop_next : {A : Type 0} (xs : List A) (n : ℕ) (x : A) → slice_get xs n ≡ Some x → drop n xs ≡ x ∷ drop (n + 1) xs
drop_next [] n x e = cc
drop_next (y ∷ xs) zero x e = let same : y ≡ x = cc in ap (λ z. z ∷ xs) same
drop_next (y ∷ xs) (suc n) x e = let more : suc (n + 1) ≡ suc n + 1 = omega arith in drop_next xs n x e ∙ ap (λ j. x ∷ drop j (y ∷ xs)) more

pub below_at : (m : ℕ) (bs : List ℕ) (n b : ℕ) → EachBelow m bs → slice_get bs n ≡ Some b → b < m
below_at m [] n b h e = cc
below_at m (x ∷ bs) zero b h e = let same : x ≡ b = cc in subst (λ y. y < m) same h.0
below_at m (x ∷ bs) (suc n) b h e = below_at m bs n b h.1 e

pub lists_below_at : (m : ℕ) (ls : List (List ℕ)) (n : ℕ) (bs : List ℕ) → EachListBelow m ls → slice_get ls n ≡ Some bs → EachBelow m bs
lists_below_at m [] n bs h e = cc
lists_below_at m (x ∷ ls) zero bs h e = let same : x ≡ bs = cc in subst (EachBelow m) same h.0
lists_below_at m (x ∷ ls) (suc n) bs h e = lists_below_at m ls n bs h.1 e

-- a piece joins what is there, and the rest follows
joined : (now piece rest new : List Instr) → new ≡ now ++ piece → now ++ (piece ++ rest) ≡ new ++ rest
joined now piece rest new e = sym (append_assoc now piece rest) ∙ ap (λ l. l ++ rest) (sym e)

entered_one : (entries more : List ℕ) (e : ℕ) (new : List ℕ) → new ≡ entries ++ e ∷ [] → entries ++ e ∷ more ≡ new ++ more
entered_one entries more e new w = sym (append_assoc entries (e ∷ []) more) ∙ ap (λ l. l ++ more) (sym w)

-- ---- tasks

pub record TasksLoop (p : Checked) (now : List Instr) (entries : List ℕ) (t : ℕ) : Type 0 where
  pub code_is : tasks_code 0 0 (bodies_of p) ≡ now ++ tasks_code (length now) t (map (tree_of p.blocks) (drop t p.tasks))
  pub entries_are : tasks_entries 0 (bodies_of p) ≡ entries ++ tasks_entries (length now) (map (tree_of p.blocks) (drop t p.tasks))
  pub room : length now + tasks_size (map (tree_of p.blocks) (drop t p.tasks)) ≤ 60000

pub tasks_start : (p : Checked) → IsChecked p → TasksLoop p [] [] 0
tasks_start p checked = record { code_is = refl; entries_are = refl; room = omega (arith, checked.short) }

module _ (p : Checked) (now : List Instr) (entries : List ℕ) (t b : ℕ) (item : slice_get p.tasks t ≡ Some b) (loop : TasksLoop p now entries t) where
  abbrev Rest : List Body
  Rest = map (tree_of p.blocks) (drop (t + 1) p.tasks)

  pub tasks_room : length now + 1 + body_size (tree_of p.blocks b) + 1 ≤ 60000
  tasks_room = omega (arith, loop.room, ap (λ l. tasks_size (map (tree_of p.blocks) l)) (drop_next p.tasks t b item))

  pub tasks_go : CodeHasSizes → (new : List Instr) (more : List ℕ) → new ≡ now ++ task_code (length now) t (tree_of p.blocks b) → more ≡ entries ++ length now ∷ [] → TasksLoop p new more (t + 1)
  tasks_go sizes new more e d =
      let body = tree_of p.blocks b in
      let long : length new ≡ length now + task_size body = omega (arith, ap length e, length-append now (task_code (length now) t body), sizes.task (length now) t body) in
      record {
        code_is = loop.code_is
            ∙ ap (λ l. now ++ tasks_code (length now) t (map (tree_of p.blocks) l)) (drop_next p.tasks t b item)
            ∙ joined now (task_code (length now) t body) (tasks_code (length now + task_size body) (t + 1) Rest) new e
            ∙ ap (λ j. new ++ tasks_code j (t + 1) Rest) (sym long);
        entries_are = loop.entries_are
            ∙ ap (λ l. entries ++ tasks_entries (length now) (map (tree_of p.blocks) l)) (drop_next p.tasks t b item)
            ∙ entered_one entries (tasks_entries (length now + task_size body) Rest) (length now) more d
            ∙ ap (λ j. more ++ tasks_entries j Rest) (sym long);
        room = omega (arith, loop.room, ap (λ l. tasks_size (map (tree_of p.blocks) l)) (drop_next p.tasks t b item));
      }

pub tasks_end : (p : Checked) (now : List Instr) (entries : List ℕ) (t : ℕ) → length p.tasks ≤ t → TasksLoop p now entries t → (now ≡ tasks_code 0 0 (bodies_of p)) × (entries ≡ tasks_entries 0 (bodies_of p))
tasks_end p now entries t le loop =
    let none = drop_all t p.tasks le in (
      sym (loop.code_is ∙ ap (λ l. now ++ tasks_code (length now) t (map (tree_of p.blocks) l)) none ∙ append-nil now),
      sym (loop.entries_are ∙ ap (λ l. entries ++ tasks_entries (length now) (map (tree_of p.blocks) l)) none ∙ append-nil entries),
    )

-- ---- the versions of an event

pub record VersionsLoop (p : Checked) (vs : List ℕ) (start now : List Instr) (entries : List ℕ) (n : ℕ) : Type 0 where
  pub code_is : start ++ versions_code (length start) (map (tree_of p.blocks) vs) ≡ now ++ versions_code (length now) (map (tree_of p.blocks) (drop n vs))
  pub entries_are : versions_entries (length start) (map (tree_of p.blocks) vs) ≡ entries ++ versions_entries (length now) (map (tree_of p.blocks) (drop n vs))
  pub room : length now + versions_size (map (tree_of p.blocks) (drop n vs)) ≤ 60000

pub versions_start : (p : Checked) (vs : List ℕ) (start : List Instr) → length start + versions_size (map (tree_of p.blocks) vs) ≤ 60000 → VersionsLoop p vs start start [] 0
versions_start p vs start room = record { code_is = refl; entries_are = refl; room = room }

module _ (p : Checked) (vs : List ℕ) (start now : List Instr) (entries : List ℕ) (n b : ℕ) (item : slice_get vs n ≡ Some b) (loop : VersionsLoop p vs start now entries n) where
  pub versions_room : length now + body_size (tree_of p.blocks b) + 1 ≤ 60000
  versions_room = omega (arith, loop.room, ap (λ l. versions_size (map (tree_of p.blocks) l)) (drop_next vs n b item))

  pub versions_go : CodeHasSizes → (new : List Instr) (more : List ℕ) → new ≡ now ++ (body_code (length now) (tree_of p.blocks b) ++ i.End ∷ []) → more ≡ entries ++ length now ∷ [] → VersionsLoop p vs start new more (n + 1)
  versions_go sizes new more e d =
      let body = tree_of p.blocks b in
      let piece = body_code (length now) body ++ i.End ∷ [] in
      let rest = map (tree_of p.blocks) (drop (n + 1) vs) in
      let long : length new ≡ length now + version_size body = omega (arith, ap length e, length-append now piece, sizes.version body (length now)) in
      record {
        code_is = loop.code_is
            ∙ ap (λ l. now ++ versions_code (length now) (map (tree_of p.blocks) l)) (drop_next vs n b item)
            ∙ joined now piece (versions_code (length now + version_size body) rest) new e
            ∙ ap (λ j. new ++ versions_code j rest) (sym long);
        entries_are = loop.entries_are
            ∙ ap (λ l. entries ++ versions_entries (length now) (map (tree_of p.blocks) l)) (drop_next vs n b item)
            ∙ entered_one entries (versions_entries (length now + version_size body) rest) (length now) more d
            ∙ ap (λ j. more ++ versions_entries j rest) (sym long);
        room = omega (arith, loop.room, ap (λ l. versions_size (map (tree_of p.blocks) l)) (drop_next vs n b item));
      }

pub versions_end : (p : Checked) (vs : List ℕ) (start now : List Instr) (entries : List ℕ) (n : ℕ) → length vs ≤ n → VersionsLoop p vs start now entries n → (now ≡ start ++ versions_code (length start) (map (tree_of p.blocks) vs)) × (entries ≡ versions_entries (length start) (map (tree_of p.blocks) vs))
versions_end p vs start now entries n le loop =
    let none = drop_all n vs le in (
      sym (loop.code_is ∙ ap (λ l. now ++ versions_code (length now) (map (tree_of p.blocks) l)) none ∙ append-nil now),
      sym (loop.entries_are ∙ ap (λ l. entries ++ versions_entries (length now) (map (tree_of p.blocks) l)) none ∙ append-nil entries),
    )

-- ---- events

abbrev pub bodies_of_events : Checked → List (List ℕ) → List (List Body)
bodies_of_events p events = map (λ event. map (tree_of p.blocks) event) events

pub record EventsLoop (p : Checked) (start now : List Instr) (entries : List (List ℕ)) (n : ℕ) : Type 0 where
  pub code_is : start ++ events_code (length start) (versions_of p) ≡ now ++ events_code (length now) (bodies_of_events p (drop n p.events))
  pub entries_are : events_entries (length start) (versions_of p) ≡ entries ++ events_entries (length now) (bodies_of_events p (drop n p.events))
  pub room : length now + events_size (bodies_of_events p (drop n p.events)) ≤ 60000

pub events_start : CodeHasSizes → (p : Checked) (start : List Instr) → IsChecked p → start ≡ tasks_code 0 0 (bodies_of p) → EventsLoop p start start [] 0
events_start sizes p start checked e =
    record { code_is = refl; entries_are = refl; room = omega (arith, checked.short, ap length e, sizes.tasks (bodies_of p) 0 0) }

module _ (p : Checked) (start now : List Instr) (entries : List (List ℕ)) (n : ℕ) (vs : List ℕ) (item : slice_get p.events n ≡ Some vs) (loop : EventsLoop p start now entries n) where
  pub events_room : length now + versions_size (map (tree_of p.blocks) vs) ≤ 60000
  events_room = omega (arith, loop.room, ap (λ l. events_size (bodies_of_events p l)) (drop_next p.events n vs item))

  pub events_go : CodeHasSizes → (new : List Instr) (some : List ℕ) (more : List (List ℕ)) → new ≡ now ++ versions_code (length now) (map (tree_of p.blocks) vs) → some ≡ versions_entries (length now) (map (tree_of p.blocks) vs) → more ≡ entries ++ some ∷ [] → EventsLoop p start new more (n + 1)
  events_go sizes new some more e s d =
      let bodies = map (tree_of p.blocks) vs in
      let rest = bodies_of_events p (drop (n + 1) p.events) in
      let long : length new ≡ length now + versions_size bodies = omega (arith, ap length e, length-append now (versions_code (length now) bodies), sizes.versions bodies (length now)) in
      record {
        code_is = loop.code_is
            ∙ ap (λ l. now ++ events_code (length now) (bodies_of_events p l)) (drop_next p.events n vs item)
            ∙ joined now (versions_code (length now) bodies) (events_code (length now + versions_size bodies) rest) new e
            ∙ ap (λ j. new ++ events_code j rest) (sym long);
        entries_are = loop.entries_are
            ∙ ap (λ l. entries ++ events_entries (length now) (bodies_of_events p l)) (drop_next p.events n vs item)
            ∙ ap (λ x. entries ++ x ∷ events_entries (length now + versions_size bodies) rest) (sym s)
            ∙ sym (append_assoc entries (some ∷ []) (events_entries (length now + versions_size bodies) rest))
            ∙ ap (λ l. l ++ events_entries (length now + versions_size bodies) rest) (sym d)
            ∙ ap (λ j. more ++ events_entries j rest) (sym long);
        room = omega (arith, loop.room, ap (λ l. events_size (bodies_of_events p l)) (drop_next p.events n vs item));
      }

pub events_end : (p : Checked) (start now : List Instr) (entries : List (List ℕ)) (n : ℕ) → length p.events ≤ n → EventsLoop p start now entries n → (now ≡ start ++ events_code (length start) (versions_of p)) × (entries ≡ events_entries (length start) (versions_of p))
events_end p start now entries n le loop =
    let none = drop_all n p.events le in (
      sym (loop.code_is ∙ ap (λ l. now ++ events_code (length now) (bodies_of_events p l)) none ∙ append-nil now),
      sym (loop.entries_are ∙ ap (λ l. entries ++ events_entries (length now) (bodies_of_events p l)) none ∙ append-nil entries),
    )

-- the three parts are the program's code
abbrev code_by : List Instr → List ℕ → List (List ℕ) → CodeValue
code_by instrs tasks versions = record { instrs = instrs; tasks = tasks; versions = versions }

pub whole_is : CodeHasSizes → (p : Checked) (middle all : List Instr) (tasks : List ℕ) (versions : List (List ℕ)) → middle ≡ tasks_code 0 0 (bodies_of p) → tasks ≡ tasks_entries 0 (bodies_of p) → all ≡ middle ++ events_code (length middle) (versions_of p) → versions ≡ events_entries (length middle) (versions_of p) → record { instrs = all; tasks = tasks; versions = versions } ≡ code_of p
unfolding code_of
whole_is sizes p middle all tasks versions m t a v =
    let long : length middle ≡ tasks_size (bodies_of p) = ap length m ∙ sizes.tasks (bodies_of p) 0 0 in
    ap (λ l. code_by l tasks versions) (a ∙ ap (λ j. middle ++ events_code j (versions_of p)) long ∙ ap (λ l. l ++ events_code (tasks_size (bodies_of p)) (versions_of p)) m)
    ∙ ap (λ l. code_by (tasks_code 0 0 (bodies_of p) ++ events_code (tasks_size (bodies_of p)) (versions_of p)) l versions) t
    ∙ ap (λ l. code_by (tasks_code 0 0 (bodies_of p) ++ events_code (tasks_size (bodies_of p)) (versions_of p)) (tasks_entries 0 (bodies_of p)) l) (v ∙ ap (λ j. events_entries j (versions_of p)) long)

events_length : CodeHasSizes → (events : List (List Body)) (at : ℕ) → length (events_code at events) ≡ events_size events
events_length sizes [] at = refl
events_length sizes (event ∷ events) at =
    omega (arith, length-append (versions_code at event) (events_code (at + versions_size event) events), sizes.versions event at, events_length sizes events (at + versions_size event))

pub whole_short : CodeHasSizes → (p : Checked) (middle all : List Instr) → IsChecked p → middle ≡ tasks_code 0 0 (bodies_of p) → all ≡ middle ++ events_code (length middle) (versions_of p) → length all ≤ 60000
whole_short sizes p middle all checked m a =
    omega (arith, checked.short, ap length m, sizes.tasks (bodies_of p) 0 0, ap length a, length-append middle (events_code (length middle) (versions_of p)), events_length sizes (versions_of p) (length middle))

pub tasks_entries_length : (bodies : List Body) (at : ℕ) → length (tasks_entries at bodies) ≡ length bodies
tasks_entries_length [] at = refl
tasks_entries_length (body ∷ bodies) at = ap suc (tasks_entries_length bodies (at + task_size body))

pub events_entries_length : (events : List (List Body)) (at : ℕ) → length (events_entries at events) ≡ length events
events_entries_length [] at = refl
events_entries_length (event ∷ events) at = ap suc (events_entries_length events (at + versions_size event))

pub whole_few_tasks : (p : Checked) (tasks : List ℕ) → IsChecked p → tasks ≡ tasks_entries 0 (bodies_of p) → length tasks ≤ 16
whole_few_tasks p tasks checked e =
    omega (arith, checked.few_tasks, ap length e, tasks_entries_length (bodies_of p) 0, length-map p.tasks (tree_of p.blocks))

pub whole_few_events : (p : Checked) (middle : List Instr) (events : List (Vec ℕ Global)) → IsChecked p → entries_of events ≡ events_entries (length middle) (versions_of p) → length events ≤ 16
whole_few_events p middle events checked e =
    omega (
      arith,
      checked.few_events,
      ap length e,
      events_entries_length (versions_of p) (length middle),
      length-map p.events (λ (event : List ℕ). map (tree_of p.blocks) event),
      length-map events (λ (v : Vec ℕ Global). v.items),
    )
