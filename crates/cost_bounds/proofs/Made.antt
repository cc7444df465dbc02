-- The bounds that the pass gives are the greatest sums over the paths.
use Rattle.std.proofs.Common.{◌≡◌, ℕ, zero, suc, ◌+◌, ◌*◌, ◌<◌, ◌≤◌, List, [], ◌∷◌, ◌++◌, length, take, Option, Some, None, refl, sym, ap, ◌∙◌, subst, arith, inl, inr, ⊎_elim, append-nil}
use Rattle.std.specs.Prelude.{slice_get, unwrap_or, map, ◌⊎◌}
use Rattle.nv_memory.specs.declared.device.Class.{Class}
use Rattle.nv_memory.specs.declared.device.Class.TheVariants.{Basic, Memory, Out, Write, Wake}
use Rattle.cat_program.specs.Body.{Body, tree_of}
use Rattle.cat_program.specs.Places.{body_size, tasks_size, version_size, versions_size}
use Rattle.cat_program.specs.Checked.{Checked, IsChecked, bodies_of, versions_of, version_at}
use Rattle.nv_memory.specs.declared.device.Device.{Device}
use Rattle.cat_machine.specs.declared.instr.Instr.{Instr}
use Rattle.cat_machine.specs.declared.instr.Instr.TheVariants as i
use Rattle.cat_machine.specs.ClassOf.{class_of}
use Rattle.cat_machine.specs.CodeValue.{CodeValue, EntryAt}
use Rattle.cat_machine.specs.Code.{body_code, tasks_code, events_code, versions_entries, events_entries, code_of}
use Rattle.cat_machine.specs.Costs.{Costs, instr_cost, place_cost, path_cost, tasks_most, handler_most}
use Rattle.std.proofs.lemmas.List.{length-map}
use Rattle.cat_machine.specs.LaidOut.{HasAt, one_each, CodeIsLaidOut}
use Rattle.cost_bounds.specs.declared.job.Job.{Job}
use Rattle.cost_bounds.specs.BoundsValue.{BoundsValue, job_at}
use Rattle.cost_bounds.specs.Paths.{SectionFrom, Acts, GoesOn, IsSection, IsHandler}
use Rattle.cost_bounds.specs.Greatest.{units_of, ticks_of, sum_over, IsGreatest, times, whole_job, IsJob, AreBounds}
use Rattle.cost_bounds.specs.Pass.{capped, job_in, plus_capped, times_capped, front_of, SumsTo, AtEnd, IsWorth, IsTop, entry_job, cost_job, around_job, AreMade}
use Rattle.cost_bounds.proofs.TaskPaths.{one_section, Most, tasks_places}
use Rattle.cost_bounds.proofs.Worths.{body_worth}
use Rattle.cost_bounds.proofs.Programs.{handler_greatest, program_versions}
use Rattle.cost_bounds.proofs.Ends.{code_covers}

-- ---- sums are small

units_small : (d : Device) (c : Class) → units_of d c ≤ 1000000
units_small d Basic = d.basic.bound_in_range
units_small d Memory = d.memory.bound_in_range
units_small d Out = d.out.bound_in_range
units_small d Write = d.write.bound_in_range
units_small d Wake = d.wake.bound_in_range

ticks_small : (d : Device) (c : Class) → ticks_of d c ≤ 1000000
ticks_small d Basic = omega (arith, d.basic.few_ticks)
ticks_small d Memory = omega (arith, d.memory.few_ticks)
ticks_small d Out = omega (arith, d.out.few_ticks)
ticks_small d Write = omega (arith, d.write.few_ticks)
ticks_small d Wake = omega (arith, d.wake.few_ticks)

abbrev Small : Costs → Type 0
Small u = (c : Class) → u c ≤ 1000000

instr_small : (u : Costs) → Small u → (o : Option Instr) → instr_cost u o ≤ 1000000 * instr_cost one_each o
instr_small u small None = omega arith
instr_small u small (Some x) = omega (arith, small (class_of x))

path_small : (u : Costs) (code : CodeValue) → Small u → (path : List ℕ) → path_cost (place_cost u code) path ≤ 1000000 * path_cost (place_cost one_each code) path
path_small u code small [] = omega arith
path_small u code small (pc ∷ path) = omega (arith, instr_small u small (slice_get code.instrs pc), path_small u code small path)

-- a greatest sum is small where there are few instructions on each path
greatest_small : (is_path : List ℕ → Type 0) (u : Costs) (p : Checked) (m n : ℕ) → Small u → IsGreatest is_path (sum_over u p) m → IsGreatest is_path (sum_over one_each p) n → m ≤ 1000000 * n
greatest_small is_path u p m n small a b =
    let some : ((path : List ℕ) × is_path path × (sum_over u p path ≡ m)) → m ≤ 1000000 * n = λ r. omega (arith, r.2, path_small u (code_of p) small r.0, b.upper r.0 r.1) in
    let none : (((path : List ℕ) → is_path path → ⊥) × (m ≡ 0)) → m ≤ 1000000 * n = λ r. omega (arith, r.1) in
    ⊎_elim some none a.reached

handler_small : CodeIsLaidOut → (u : Costs) (p : Checked) → IsChecked p → Small u → (event version entry : ℕ) → EntryAt (code_of p) event version entry → handler_most u (version_at p event version) + u Basic ≤ 1000000000000
handler_small laid u p checked small event version entry at =
    let body = version_at p event version in
    let stands = laid.stands.version p checked event version entry at in
    let le = greatest_small (IsHandler p event version) u p (handler_most u body + u Basic) (handler_most one_each body + 1) small (handler_greatest laid u p checked event version entry at) (handler_greatest laid one_each p checked event version entry at) in
    omega (arith, le, laid.ones.handler body, stands.works.short)

-- ---- handlers

handler_is : CodeIsLaidOut → (u : Costs) (p : Checked) (m : ℕ) → IsChecked p → Small u → (event version entry : ℕ) → EntryAt (code_of p) event version entry → IsWorth u (code_of p) entry m → m ≡ handler_most u (version_at p event version) + u Basic
handler_is laid u p m checked small event version entry at known =
    let code = code_of p in
    let body = version_at p event version in
    let stands = laid.stands.version p checked event version entry at in
    let end = entry + body_size body in
    let body_at = laid.stands.front code.instrs entry (body_code entry body) (i.End ∷ []) stands.code_at in
    let ends_at = (laid.stands.rest code.instrs entry end (body_code entry body) (i.End ∷ []) (ap (λ j. entry + j) (laid.sizes.body body entry)) stands.code_at).0 in
    let worth = body_worth u code laid (length p.words) (length p.tasks) body 0 entry (u Basic) body_at stands.works.works (AtEnd ends_at) in
    known.by (handler_most u body + u Basic) worth (omega (arith, handler_small laid u p checked small event version entry at))

-- ---- sections

take_front : {A : Type 0} (xs ys : List A) (n : ℕ) → length xs ≡ n → take n (xs ++ ys) ≡ xs
take_front [] ys zero e = refl
take_front [] ys (suc n) e = absurd (omega (arith, e))
take_front (x ∷ xs) ys zero e = absurd (omega (arith, e))
take_front (x ∷ xs) ys (suc n) e = ap (λ l. x ∷ l) (take_front xs ys n (omega (arith, e)))

front_found : {A : Type 0} (n : ℕ) (xs : List A) (j : ℕ) (x : A) → slice_get (take n xs) j ≡ Some x → slice_get xs j ≡ Some x
front_found zero xs j x e = cc
front_found (suc n) [] j x e = cc
front_found (suc n) (y ∷ xs) zero x e = e
front_found (suc n) (y ∷ xs) (suc j) x e = front_found n xs j x e

-- a section of the front is one of the whole
record Whole (u : Costs) (end : ℕ) (code : CodeValue) (pc : ℕ) (path : List ℕ) : Type 0 where
  is : SectionFrom code pc path
  sums : path_cost (place_cost u (front_of end code)) path ≡ path_cost (place_cost u code) path
  long : path_cost (place_cost one_each (front_of end code)) path ≡ length path

whole_of : (u : Costs) (end : ℕ) (code : CodeValue) (pc : ℕ) (path : List ℕ) → SectionFrom (front_of end code) pc path → Whole u end code pc path
whole_of u end code pc path (Acts x e t) =
    let found = front_found end code.instrs pc x e in
    record { is = Acts x found t; sums = omega (arith, ap (instr_cost u) e, ap (instr_cost u) found); long = omega (arith, ap (instr_cost one_each) e) }
whole_of u end code pc path (GoesOn {path = q} x e t rest) =
    let found = front_found end code.instrs pc x e in
    let w = whole_of u end code _ q rest in
    record { is = GoesOn x found t w.is; sums = omega (arith, ap (instr_cost u) e, ap (instr_cost u) found, w.sums); long = omega (arith, ap (instr_cost one_each) e, w.long) }

front_is : CodeIsLaidOut → (p : Checked) → (front_of (tasks_size (bodies_of p)) (code_of p)).instrs ≡ tasks_code 0 0 (bodies_of p)
unfolding code_of
front_is laid p = take_front (tasks_code 0 0 (bodies_of p)) (events_code (tasks_size (bodies_of p)) (versions_of p)) (tasks_size (bodies_of p)) (laid.sizes.tasks (bodies_of p) 0 0)

front_stands : CodeIsLaidOut → (p : Checked) → HasAt (front_of (tasks_size (bodies_of p)) (code_of p)).instrs 0 (tasks_code 0 0 (bodies_of p))
front_stands laid p =
    let xs = tasks_code 0 0 (bodies_of p) in
    subst (λ l. HasAt l 0 xs) (sym (front_is laid p)) (subst (λ l. HasAt l 0 xs) (append-nil xs) (laid.stands.all xs [] []))

module _ (laid : CodeIsLaidOut) (u : Costs) (p : Checked) (checked : IsChecked p) (small : Small u) where
  abbrev Size : ℕ
  Size = tasks_size (bodies_of p)

  abbrev Front : CodeValue
  Front = front_of Size (code_of p)

  front_places : (v : Costs) → Most v Front 0 (0 + Size) (tasks_most v (bodies_of p))
  front_places v = tasks_places v Front laid (length p.words) (length p.tasks) (bodies_of p) 0 0 (front_stands laid p) checked.tasks_work

  -- the section from a place of the tasks' code
  record Found (pc m : ℕ) : Type 0 where
    path : List ℕ
    is : SectionFrom (code_of p) pc path
    sums : sum_over u p path ≡ m

  found : (pc m : ℕ) → pc < Size → SumsTo u Front pc m → Found pc m
  found pc m lt known =
      let r = (front_places u).each pc (omega arith) (omega (arith, lt)) in
      let one = (front_places one_each).each pc (omega arith) (omega (arith, lt)) in
      let same = one_section Front pc r.1.path one.1.path r.1.is one.1.is in
      let w = whole_of u Size (code_of p) pc r.1.path r.1.is in
      let ones = ap (λ l. path_cost (place_cost one_each Front) l) same in
      let few : length r.1.path ≤ Size = omega (arith, w.long, ones, one.1.sums, one.2, laid.ones.tasks (bodies_of p)) in
      let long : length Front.instrs ≡ Size = ap length (front_is laid p) ∙ laid.sizes.tasks (bodies_of p) 0 0 in
      let le = path_small u Front small r.1.path in
      let is = known.by r.1.path r.1.is (omega (arith, few, long)) (omega (arith, le, w.long, few, checked.short)) in
      record { path = r.1.path; is = w.is; sums = omega (arith, w.sums, is) }

  section_top : (f : Job → ℕ) (most : List Job) (m : ℕ) → ((pc : ℕ) → pc < Size → SumsTo u Front pc (f (job_in most pc))) → Size ≤ length most → IsTop f (take Size most) m → IsGreatest (IsSection p) (sum_over u p) m
  section_top f most m known all top = record { upper = upper; reached = by_top top.reached }
    where
      in_front : (jobs : List Job) (n k : ℕ) → k < n → job_in (take n jobs) k ≡ job_in jobs k
      in_front jobs zero k lt = absurd (omega (arith, lt))
      in_front [] (suc n) k lt = refl
      in_front (x ∷ jobs) (suc n) zero lt = refl
      in_front (x ∷ jobs) (suc n) (suc k) lt = in_front jobs n k (omega (arith, lt))

      long_front : (jobs : List Job) (n : ℕ) → n ≤ length jobs → length (take n jobs) ≡ n
      long_front jobs zero le = refl
      long_front [] (suc n) le = absurd (omega (arith, le))
      long_front (x ∷ jobs) (suc n) le = ap suc (long_front jobs n (omega (arith, le)))

      upper : (path : List ℕ) → IsSection p path → sum_over u p path ≤ m
      upper path s =
          let r = found s.from (f (job_in most s.from)) s.within (known s.from s.within) in
          let same = one_section (code_of p) s.from path r.path s.is r.is in
          let le = top.upper s.from (omega (arith, s.within, long_front most Size all)) in
          omega (arith, ap (sum_over u p) same, r.sums, le, ap f (in_front most Size s.from s.within))

      Reached : Type 0
      Reached = ((path : List ℕ) × IsSection p path × (sum_over u p path ≡ m)) ⊎ (((path : List ℕ) → IsSection p path → ⊥) × (m ≡ 0))

      by_size : m ≡ 0 → (n : ℕ) → Size ≡ n → Reached
      by_size none zero e = inr (λ path s. absurd (omega (arith, s.within, e)), none)
      by_size none (suc n) e =
          let within : 0 < Size = omega (arith, e) in
          let r = found 0 (f (job_in most 0)) within (known 0 within) in
          let le = top.upper 0 (omega (arith, within, long_front most Size all)) in
          inl (r.path, record { from = 0; within = within; is = r.is }, omega (arith, r.sums, le, ap f (in_front most Size 0 within), none))

      by_top : (((k : ℕ) × (k < length (take Size most)) × (f (job_in (take Size most) k) ≡ m)) ⊎ (m ≡ 0)) → Reached
      by_top (inl (k, lt, e)) =
          let within : k < Size = omega (arith, lt, long_front most Size all) in
          let r = found k (f (job_in most k)) within (known k within) in
          inl (r.path, record { from = k; within = within; is = r.is }, omega (arith, r.sums, ap f (in_front most Size k within), e))
      by_top (inr none) = by_size none Size refl

-- ---- jobs

pub job_ext : (a b : Job) → a.units ≡ b.units → a.ticks ≡ b.ticks → a ≡ b
job_ext a b e d =
    ap (λ x. let v : Job = record { units = x; ticks = a.ticks } in v) e ∙ ap (λ x. let v : Job = record { units = b.units; ticks = x } in v) d

times_small : (a n : ℕ) → a ≤ 1000000 → a * n ≤ 1000000 * n
times_small a zero le = omega arith
times_small a (suc n) le = omega (arith, le, times_small a n le)

entry_back : (g : ℕ → Job) (versions : List (List ℕ)) (e v : ℕ) (job : Job) → slice_get (unwrap_or (slice_get (map (λ (entries : List ℕ). map g entries) versions) e) []) v ≡ Some job → (entry : ℕ) × (slice_get (unwrap_or (slice_get versions e) []) v ≡ Some entry) × (g entry ≡ job)
entry_back g [] e v job w = cc
entry_back g (entries ∷ versions) zero v job w = mapped_back entries v w
  where
    mapped_back : (entries : List ℕ) (v : ℕ) → slice_get (map g entries) v ≡ Some job → (entry : ℕ) × (slice_get entries v ≡ Some entry) × (g entry ≡ job)
    mapped_back [] v w = cc
    mapped_back (x ∷ entries) zero w = (x, refl, cc)
    mapped_back (x ∷ entries) (suc v) w = mapped_back entries v w
entry_back g (entries ∷ versions) (suc e) v job w = entry_back g versions e v job w

entries_after : (events : List (List Body)) (at e v entry : ℕ) → slice_get (unwrap_or (slice_get (events_entries at events) e) []) v ≡ Some entry → at ≤ entry
entries_after [] at e v entry w = cc
entries_after (event ∷ events) at zero v entry w = of_event event at v w
  where
    of_event : (bodies : List Body) (at v : ℕ) → slice_get (versions_entries at bodies) v ≡ Some entry → at ≤ entry
    of_event [] at v w = cc
    of_event (body ∷ bodies) at zero w = let same : at ≡ entry = cc in omega (arith, same)
    of_event (body ∷ bodies) at (suc v) w = omega (arith, of_event bodies (at + version_size body) v w)
entries_after (event ∷ events) at (suc e) v entry w = omega (arith, entries_after events (at + versions_size event) e v entry w)

mapped_lengths : (g : ℕ → Job) (versions : List (List ℕ)) → map length (map (λ (entries : List ℕ). map g entries) versions) ≡ map length versions
mapped_lengths g [] = refl
mapped_lengths g (entries ∷ versions) = ap (λ n. n ∷ map length (map (λ (x : List ℕ). map g x) versions)) (length-map entries g) ∙ ap (λ l. length entries ∷ l) (mapped_lengths g versions)

entries_lengths : (f : ℕ → Body) (events : List (List ℕ)) (at : ℕ) → map length (events_entries at (map (λ (event : List ℕ). map f event) events)) ≡ map length events
entries_lengths f [] at = refl
entries_lengths f (event ∷ events) at =
    let next = at + versions_size (map f event) in
    ap (λ n. n ∷ map length (events_entries next (map (λ (x : List ℕ). map f x) events))) (of_event (map f event) at ∙ length-map event f) ∙ ap (λ l. length event ∷ l) (entries_lengths f events next)
  where
    of_event : (bodies : List Body) (at : ℕ) → length (versions_entries at bodies) ≡ length bodies
    of_event [] at = refl
    of_event (body ∷ bodies) at = ap suc (of_event bodies (at + version_size body))

module _ (laid : CodeIsLaidOut) (p : Checked) (device : Device) (lines : ℕ) (fits : lines < 4294967296) (checked : IsChecked p) where
  whole_is : (job around handler : Job) → around ≡ around_job device lines → job ≡ plus_capped around handler → handler.units ≤ 1000000000000 → handler.ticks ≤ 1000000000000 → job ≡ whole_job device lines handler
  whole_is job around handler around_is job_is few_units few_ticks =
      let all = job_is ∙ ap (λ j. plus_capped j handler) around_is in
      let units = times_small device.write.bound (lines + 2) device.write.bound_in_range in
      let ticks = times_small device.write.ticks (lines + 2) (omega (arith, device.write.few_ticks)) in
      job_ext job (whole_job device lines handler)
      (ap (λ (j : Job). j.units) all ∙ sums device.wake.bound device.write.bound (lines + 2) handler.units device.wake.bound_in_range units (omega (arith, fits)) few_units)
      (ap (λ (j : Job). j.ticks) all ∙ sums device.wake.ticks device.write.ticks (lines + 2) handler.ticks (omega (arith, device.wake.few_ticks)) ticks (omega (arith, fits)) few_ticks)
    where
      sums : (wake write n handler : ℕ) → wake ≤ 1000000 → write * n ≤ 1000000 * n → n ≤ 4294967300 → handler ≤ 1000000000000 → capped (capped (wake + capped (write * n)) + handler) ≡ 1 * wake + handler + n * write
      sums wake write n handler a b c d = omega (arith, a, b, c, d)

  times_is : (n : ℕ) → n ≤ 4294967300 → times_capped (cost_job device.write) n ≡ times n device.write
  times_is n le =
      job_ext (times_capped (cost_job device.write) n) (times n device.write)
      (product device.write.bound n (times_small device.write.bound n device.write.bound_in_range) le)
      (product device.write.ticks n (times_small device.write.ticks n (omega (arith, device.write.few_ticks))) le)
    where
      product : (a n : ℕ) → a * n ≤ 1000000 * n → n ≤ 4294967300 → capped (a * n) ≡ n * a
      product a n small le = omega (arith, small, le)

  module _ (b : BoundsValue) (made : AreMade (code_of p) device lines (tasks_size (bodies_of p)) b) where
    version_job : (event version : ℕ) (job : Job) → job_at b event version ≡ Some job → IsJob p device lines event version job
    version_job event version job at =
        let versions = (code_of p).versions in
        let around = around_job device lines in
        let r = entry_back (entry_job around made.most) versions event version job (ap (λ l. slice_get (unwrap_or (slice_get l event) []) version) (sym made.jobs) ∙ at) in
        let entry = r.0 in
        let after = entries_after (versions_of p) (tasks_size (bodies_of p)) event version entry (ap (λ l. slice_get (unwrap_or (slice_get l event) []) version) (sym (program_versions p)) ∙ r.1) in
        let known = (made.known entry (omega arith)).handler after in
        let handler = job_in made.most entry in
        let units_are = handler_is laid (units_of device) p handler.units checked (units_small device) event version entry r.1 known.units in
        let ticks_are = handler_is laid (ticks_of device) p handler.ticks checked (ticks_small device) event version entry r.1 known.ticks in
        record {
          handler = handler;
          greatest = record {
            units = subst (IsGreatest (IsHandler p event version) (sum_over (units_of device) p)) (sym units_are) (handler_greatest laid (units_of device) p checked event version entry r.1);
            ticks = subst (IsGreatest (IsHandler p event version) (sum_over (ticks_of device) p)) (sym ticks_are) (handler_greatest laid (ticks_of device) p checked event version entry r.1);
          };
          whole = whole_is job around handler refl (sym r.2) (omega (arith, units_are, handler_small laid (units_of device) p checked (units_small device) event version entry r.1)) (omega (arith, ticks_are, handler_small laid (ticks_of device) p checked (ticks_small device) event version entry r.1));
        }

    pub are_bounds : AreBounds p device lines b
    are_bounds =
        let size = tasks_size (bodies_of p) in
        let all : size ≤ length made.most = omega (arith, made.all, front_size) in
        record {
          versions = ap (map length) made.jobs ∙ mapped_lengths (entry_job (around_job device lines) made.most) (code_of p).versions ∙ ap (map length) (program_versions p) ∙ entries_lengths (tree_of p.blocks) p.events size;
          jobs = version_job;
          section = record {
            units = section_top laid (units_of device) p checked (units_small device) (λ j. j.units) made.most b.section.units (λ pc lt. ((made.known pc (omega arith)).section lt).units) all made.section.units;
            ticks = section_top laid (ticks_of device) p checked (ticks_small device) (λ j. j.ticks) made.most b.section.ticks (λ pc lt. ((made.known pc (omega arith)).section lt).ticks) all made.section.ticks;
          };
          checkpoint = made.checkpoint ∙ times_is (lines + 1) (omega (arith, fits));
          wake = made.wake ∙ job_ext (cost_job device.wake) (times 1 device.wake) (omega arith) (omega arith);
        }
      where
        front_size : tasks_size (bodies_of p) ≤ length (code_of p).instrs
        front_size = code_covers laid p
