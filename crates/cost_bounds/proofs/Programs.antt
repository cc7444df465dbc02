-- The greatest sums over the paths of a program's code, and its runs.
use Rattle.std.proofs.Common.{◌≡◌, ℕ, zero, suc, ◌+◌, ◌<◌, ◌≤◌, List, [], ◌∷◌, ◌++◌, length, Some, None, refl, ap, ◌∙◌, subst, arith, inl, inr, ⊎_elim}
use Rattle.std.specs.Prelude.{slice_get, unwrap_or, map, ℤ, ◌⊎◌}
use Rattle.nv_memory.specs.declared.device.Class.TheVariants.{Basic}
use Rattle.cat_program.specs.Body.{Body, tree_of}
use Rattle.cat_program.specs.Places.{body_size, tasks_size, version_size, versions_size}
use Rattle.cat_program.specs.Checked.{Checked, IsChecked, HasVersion, bodies_of, versions_of, version_at}
use Rattle.nv_memory.specs.declared.device.Device.{Device}
use Rattle.cat_machine.specs.declared.instr.Instr.TheVariants as i
use Rattle.cat_machine.specs.declared.instr.Mode.TheVariants.{Task, Handler}
use Rattle.cat_machine.specs.CodeValue.{CodeValue, EntryAt}
use Rattle.cat_machine.specs.Held.{Held}
use Rattle.cat_machine.specs.Machine.{Ended', entered, until}
use Rattle.cat_machine.specs.Code.{body_code, tasks_code, events_code, versions_entries, events_entries, code_of}
use Rattle.cat_machine.specs.Costs.{Costs, tasks_most, handler_most}
use Rattle.cat_machine.specs.Fits.{HasShape, IsIdle, Stands, Idle, Within, Handling, Fits}
use Rattle.cat_machine.specs.Spending.{Spends}
use Rattle.cat_machine.specs.LaidOut.{HasAt, VersionStands, CodeIsLaidOut}
use Rattle.cost_bounds.specs.declared.job.Job.{Job}
use Rattle.cost_bounds.specs.BoundsValue.{BoundsValue, HasJob, job_at}
use Rattle.cost_bounds.specs.Paths.{IsSection, HandlerFrom, Ends, IsHandler}
use Rattle.cost_bounds.specs.Greatest.{units_of, ticks_of, sum_over, IsGreatest, whole_job, AreBounds, IsWithin, spent, RunsWithin}
use Rattle.cost_bounds.proofs.TaskPaths.{one_section, Sums, Most, tasks_places}
use Rattle.cost_bounds.proofs.Runs.{front_sums}
use Rattle.cost_bounds.proofs.HandlerPaths.{Made, at_end, body_comes, body_made}

-- ---- sections

pub tasks_stand : CodeIsLaidOut → (p : Checked) → HasAt (code_of p).instrs 0 (tasks_code 0 0 (bodies_of p))
unfolding code_of
tasks_stand laid p = laid.stands.all (tasks_code 0 0 (bodies_of p)) [] (events_code (tasks_size (bodies_of p)) (versions_of p))

pub section_greatest : CodeIsLaidOut → (u : Costs) (p : Checked) → IsChecked p → IsGreatest (IsSection p) (sum_over u p) (tasks_most u (bodies_of p))
section_greatest laid u p checked = record { upper = upper; reached = by_most places.reached }
  where
    size : ℕ
    size = tasks_size (bodies_of p)

    most : ℕ
    most = tasks_most u (bodies_of p)

    places : Most u (code_of p) 0 (0 + size) most
    places = tasks_places u (code_of p) laid (length p.words) (length p.tasks) (bodies_of p) 0 0 (tasks_stand laid p) checked.tasks_work

    upper : (path : List ℕ) → IsSection p path → sum_over u p path ≤ most
    upper path s =
        let r = places.each s.from (omega arith) (omega (arith, s.within)) in
        let same = one_section (code_of p) s.from path r.1.path s.is r.1.is in
        omega (arith, ap (sum_over u p) same, r.1.sums, r.2)

    Reached : Type 0
    Reached = ((path : List ℕ) × IsSection p path × (sum_over u p path ≡ most)) ⊎ (((path : List ℕ) → IsSection p path → ⊥) × (most ≡ 0))

    by_size : most ≡ 0 → (n : ℕ) → size ≡ n → Reached
    by_size none zero e = inr (λ path s. absurd (omega (arith, s.within, e)), none)
    by_size none (suc n) e =
        let r = places.each 0 (omega arith) (omega (arith, e)) in
        inl (r.1.path, record { from = 0; within = omega (arith, e); is = r.1.is }, omega (arith, r.1.sums, r.2, none))

    by_most : (((pc : ℕ) × (0 ≤ pc) × (pc < 0 + size) × Sums u (code_of p) pc most) ⊎ (most ≡ 0)) → Reached
    by_most (inl r) = inl (r.3.path, record { from = r.0; within = omega (arith, r.2); is = r.3.is }, r.3.sums)
    by_most (inr none) = by_size none size refl

-- ---- handlers

pub handler_greatest : CodeIsLaidOut → (u : Costs) (p : Checked) → IsChecked p → (event version entry : ℕ) → EntryAt (code_of p) event version entry → IsGreatest (IsHandler p event version) (sum_over u p) (handler_most u (version_at p event version) + u Basic)
handler_greatest laid u p checked event version entry at = record { upper = upper; reached = inl (made.path, record { entry = entry; enters = at; is = made.is }, omega (arith, made.sums, ended)) }
  where
    code : CodeValue
    code = code_of p

    body : Body
    body = version_at p event version

    stands : VersionStands p event version entry
    stands = laid.stands.version p checked event version entry at

    end : ℕ
    end = entry + body_size body

    body_at : HasAt code.instrs entry (body_code entry body)
    body_at = laid.stands.front code.instrs entry (body_code entry body) (i.End ∷ []) stands.code_at

    ends_at : slice_get code.instrs end ≡ Some i.End
    ends_at = (laid.stands.rest code.instrs entry end (body_code entry body) (i.End ∷ []) (ap (λ j. entry + j) (laid.sizes.body body entry)) stands.code_at).0

    upper : (path : List ℕ) → IsHandler p event version path → sum_over u p path ≤ handler_most u body + u Basic
    upper path h =
        let same : h.entry ≡ entry = cc in
        let c = body_comes u code laid (length p.words) (length p.tasks) body 0 entry [] path body_at stands.works.works (subst (λ z. HandlerFrom code z [] path) same h.is) in
        omega (arith, c.sums, at_end u code end [] c.rest ends_at c.is)

    last : HandlerFrom code end [] (end ∷ [])
    last = Ends ends_at

    ended : sum_over u p (end ∷ []) ≡ u Basic
    ended = at_end u code end [] (end ∷ []) ends_at last

    made : Made u code entry [] (end ∷ []) (handler_most u body)
    made = body_made u code laid (length p.words) (length p.tasks) body 0 entry [] (end ∷ []) body_at stands.works.works last

-- ---- each version has an entry

pub program_versions : (p : Checked) → (code_of p).versions ≡ events_entries (tasks_size (bodies_of p)) (versions_of p)
unfolding code_of
program_versions p = refl

item_at : {A : Type 0} (xs : List A) (k : ℕ) → k < length xs → (x : A) × (slice_get xs k ≡ Some x)
item_at [] k lt = absurd (omega arith)
item_at (x ∷ xs) zero lt = (x, refl)
item_at (x ∷ xs) (suc k) lt = item_at xs k (omega arith)

mapped_item : {A B : Type 0} (g : A → B) (xs : List A) (k : ℕ) (x : A) → slice_get xs k ≡ Some x → slice_get (map g xs) k ≡ Some (g x)
mapped_item g [] k x e = cc
mapped_item g (y ∷ xs) zero x e = cc
mapped_item g (y ∷ xs) (suc k) x e = mapped_item g xs k x e

version_entry : (bodies : List Body) (at v : ℕ) (body : Body) → slice_get bodies v ≡ Some body → (entry : ℕ) × (slice_get (versions_entries at bodies) v ≡ Some entry)
version_entry [] at v body e = cc
version_entry (b ∷ bodies) at zero body e = (at, refl)
version_entry (b ∷ bodies) at (suc v) body e = version_entry bodies (at + version_size b) v body e

event_entries : (events : List (List Body)) (at e : ℕ) (bodies : List Body) → slice_get events e ≡ Some bodies → (from : ℕ) × (slice_get (events_entries at events) e ≡ Some (versions_entries from bodies))
event_entries [] at e bodies d = cc
event_entries (b ∷ events) at zero bodies d = let same : b ≡ bodies = cc in (at, ap (λ x. Some (versions_entries at x)) same)
event_entries (b ∷ events) at (suc e) bodies d = event_entries events (at + versions_size b) e bodies d

pub entry_of_version : (p : Checked) (event version : ℕ) → HasVersion p event version → (entry : ℕ) × EntryAt (code_of p) event version entry
entry_of_version p event version has =
    let blocks = item_at p.events event has.0 in
    let here : length (unwrap_or (slice_get p.events event) []) ≡ length blocks.0 = ap (λ o. length (unwrap_or o [])) blocks.1 in
    let block = item_at blocks.0 version (omega (arith, has.1, here)) in
    let bodies = mapped_item (λ (x : List ℕ). map (tree_of p.blocks) x) p.events event blocks.0 blocks.1 in
    let entries = event_entries (versions_of p) (tasks_size (bodies_of p)) event (map (tree_of p.blocks) blocks.0) bodies in
    let entry = version_entry (map (tree_of p.blocks) blocks.0) entries.0 version (tree_of p.blocks block.0) (mapped_item (tree_of p.blocks) blocks.0 version block.0 block.1) in
    (entry.0, ap (λ l. slice_get (unwrap_or (slice_get l event) []) version) (program_versions p) ∙ ap (λ o. slice_get (unwrap_or o []) version) entries.1 ∙ entry.1)

-- ---- runs

pub at_most : (is_path : List ℕ → Type 0) (sum : List ℕ → ℕ) (m n : ℕ) → IsGreatest is_path sum m → IsGreatest is_path sum n → m ≤ n
at_most is_path sum m n a b =
    let some : ((path : List ℕ) × is_path path × (sum path ≡ m)) → m ≤ n = λ r. omega (arith, b.upper r.0 r.1, r.2) in
    let none : (((path : List ℕ) → is_path path → ⊥) × (m ≡ 0)) → m ≤ n = λ r. omega (arith, r.1) in
    ⊎_elim some none a.reached

-- a state between two sections
idle_of : (p : Checked) (h : Held) → h.kept ≡ None → h.stack ≡ [] → Stands p h → IsIdle p h
idle_of p h free empty (Idle idle) = idle
idle_of p h free empty (Within none long runs) = absurd (omega (arith, long, ap length empty))
idle_of p h free empty (Handling kept e runs) = cc

-- what the law of spending says
abbrev Spending : Type 0
Spending = (u : Costs) (p : Checked) (h : Held) → IsChecked p → IsIdle p h → HasShape (length p.words) (length p.tasks) h → Spends u p h

pub runs_within : CodeIsLaidOut → Spending → (p : Checked) (device : Device) (lines : ℕ) (b : BoundsValue) (h : Held) → AreBounds p device lines b → Fits p (code_of p) h → h.kept ≡ None → h.stack ≡ [] → RunsWithin p device lines b h
runs_within laid spends p device lines b h bounds fits free empty = record { section = section; handler = handler; section_part = section_part; handler_part = handler_part }
  where
    idle : IsIdle p h
    idle = idle_of p h free empty fits.stands

    section : (run : Ended') → until 1000000 Task (code_of p) h ≡ Some run → IsWithin (spent device p run.path) b.section
    section run e = record {
      units = omega (arith, (spends (units_of device) p h fits.checked idle fits.shape).section run e, at_most (IsSection p) (sum_over (units_of device) p) (tasks_most (units_of device) (bodies_of p)) b.section.units (section_greatest laid (units_of device) p fits.checked) bounds.section.units);
      ticks = omega (arith, (spends (ticks_of device) p h fits.checked idle fits.shape).section run e, at_most (IsSection p) (sum_over (ticks_of device) p) (tasks_most (ticks_of device) (bodies_of p)) b.section.ticks (section_greatest laid (ticks_of device) p fits.checked) bounds.section.ticks);
    }

    least : (u : Costs) (event version entry : ℕ) (payload : ℤ) (run : Ended') (m : ℕ) → EntryAt (code_of p) event version entry → until 1000000 Handler (code_of p) (entered h entry payload) ≡ Some run → IsGreatest (IsHandler p event version) (sum_over u p) m → sum_over u p run.path ≤ m
    least u event version entry payload run m at e g =
        let most = handler_most u (version_at p event version) + u Basic in
        omega (arith, (spends u p h fits.checked idle fits.shape).handler event version entry payload run at e, at_most (IsHandler p event version) (sum_over u p) most m (handler_greatest laid u p fits.checked event version entry at) g)

    handler : (event version entry : ℕ) (payload : ℤ) (run : Ended') (job : Job) → EntryAt (code_of p) event version entry → until 1000000 Handler (code_of p) (entered h entry payload) ≡ Some run → job_at b event version ≡ Some job → IsWithin (whole_job device lines (spent device p run.path)) job
    handler event version entry payload run job at e found =
        let j = bounds.jobs event version job found in
        let units = least (units_of device) event version entry payload run j.handler.units at e j.greatest.units in
        let ticks = least (ticks_of device) event version entry payload run j.handler.ticks at e j.greatest.ticks in
        record {
          units = omega (arith, units, ap (λ (x : Job). x.units) j.whole);
          ticks = omega (arith, ticks, ap (λ (x : Job). x.ticks) j.whole);
        }

    part_of : (u : Costs) (path front rest : List ℕ) → path ≡ front ++ rest → sum_over u p front ≤ sum_over u p path
    part_of u path front rest is = omega (arith, front_sums u p front rest, ap (sum_over u p) is)

    section_part : (run : Ended') (front rest : List ℕ) → until 1000000 Task (code_of p) h ≡ Some run → run.path ≡ front ++ rest → IsWithin (spent device p front) b.section
    section_part run front rest e is =
        let whole = section run e in
        record { units = omega (arith, whole.units, part_of (units_of device) run.path front rest is); ticks = omega (arith, whole.ticks, part_of (ticks_of device) run.path front rest is) }

    handler_part : (event version entry : ℕ) (payload : ℤ) (run : Ended') (job : Job) (front rest : List ℕ) → EntryAt (code_of p) event version entry → until 1000000 Handler (code_of p) (entered h entry payload) ≡ Some run → job_at b event version ≡ Some job
        → run.path ≡ front ++ rest → IsWithin (whole_job device lines (spent device p front)) job
    handler_part event version entry payload run job front rest at e found is =
        let whole = handler event version entry payload run job at e found in
        record { units = omega (arith, whole.units, part_of (units_of device) run.path front rest is); ticks = omega (arith, whole.ticks, part_of (ticks_of device) run.path front rest is) }

-- ---- each version has a job

same_lengths : (jobs : List (List Job)) (events : List (List ℕ)) → map length jobs ≡ map length events → (event version : ℕ) → event < length events → version < length (unwrap_or (slice_get events event) []) → (event < length jobs) × (version < length (unwrap_or (slice_get jobs event) []))
same_lengths [] [] e event version lt within = absurd (omega (arith, lt))
same_lengths [] (vs ∷ events) e event version lt within = cc
same_lengths (js ∷ jobs) [] e event version lt within = cc
same_lengths (js ∷ jobs) (vs ∷ events) e zero version lt within = let same : length js ≡ length vs = cc in (omega arith, omega (arith, within, same))
same_lengths (js ∷ jobs) (vs ∷ events) e (suc event) version lt within =
    let same : map length jobs ≡ map length events = cc in
    let r = same_lengths jobs events same event version (omega (arith, lt)) within in
    (omega (arith, r.0), r.1)

pub versions_have_jobs : (p : Checked) (device : Device) (lines : ℕ) (b : BoundsValue) (event version : ℕ) → AreBounds p device lines b → HasVersion p event version → HasJob b event version
versions_have_jobs p device lines b event version bounds has = same_lengths b.jobs p.events bounds.versions event version has.0 has.1
