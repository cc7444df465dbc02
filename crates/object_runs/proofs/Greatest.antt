-- What the pass over verified code works out are the greatest sums over its paths.
use Rattle.std.proofs.Common.{◌≡◌, ℕ, zero, suc, ◌+◌, ◌*◌, ◌<◌, ◌≤◌, ◌⊎◌, inl, inr, List, [], ◌∷◌, length, take, refl, sym, ◌∙◌, ap, subst, true, false, arith}
use Rattle.std.specs.Prelude.{Option, Some, None, map, slice_get, unwrap_or}
use Rattle.std.specs.List.{All, flat_map}
use Rattle.std.proofs.lemmas.List.{length-map}
use Rattle.nv_memory.specs.declared.device.Class.{Class}
use Rattle.nv_memory.specs.declared.device.Class.TheVariants.{Basic, Memory, Out, Write, Wake}
use Rattle.nv_memory.specs.declared.device.Device.{Device}
use Rattle.cat_machine.specs.declared.instr.Instr.{Instr}
use Rattle.cat_machine.specs.ClassOf.{class_of}
use Rattle.cat_machine.specs.CodeValue.{CodeValue, EntryAt}
use Rattle.cat_machine.specs.Costs.{Costs, instr_cost, place_cost}
use Rattle.cost_bounds.specs.declared.job.Job.{Job}
use Rattle.cost_bounds.specs.BoundsValue.{BoundsValue, job_at}
use Rattle.cost_bounds.specs.Paths.{acts, place_after, SectionFrom, Acts, GoesOn, HandlerFrom}
use Rattle.cost_bounds.specs.Greatest.{units_of, ticks_of, IsGreatest, times, whole_job}
use Rattle.cost_bounds.specs.Pass.{capped, job_in, plus_capped, times_capped, front_of, tasks_in, SumsTo, IsWorth, IsTop, entry_job, cost_job, around_job, AreMade}
use Rattle.cn_object.specs.Spelling.{HasVersions}
use Rattle.cn_object.specs.Operands.{target_of}
use Rattle.cn_object.specs.Regions.{version_entries, versions_begin}
use Rattle.cn_object.specs.Verified.{IsVerified}
use Rattle.cn_object.specs.Sums.{HandlerSums}
use Rattle.object_runs.specs.Bounds.{sum_in, IsSectionPath, IsJobAt, AreBoundsIn}
use Rattle.object_runs.proofs.Places.{At, next_in_tasks, one_instr, target_in_tasks, tasks_within, version_entry, version_entry_high}
use Rattle.object_runs.proofs.Handlers.{entry_found}
use Rattle.object_runs.proofs.Sections.{jump_or, quiet_end, section_exists}

-- ---- sums are small

units_small : (d : Device) (c : Class) → units_of d c ≤ 1000000
units_small d Basic = d.basic.bound_in_range
units_small d Memory = d.memory.bound_in_range
units_small d Out = d.out.bound_in_range
units_small d Write = d.write.bound_in_range
units_small d Wake = d.wake.bound_in_range

ticks_small : (d : Device) (c : Class) → ticks_of d c ≤ 1000000
ticks_small d Basic = omega (arith, d.basic.few_ticks)
ticks_small d Memory = omega (arith, d.memory.few_ticks)
ticks_small d Out = omega (arith, d.out.few_ticks)
ticks_small d Write = omega (arith, d.write.few_ticks)
ticks_small d Wake = omega (arith, d.wake.few_ticks)

abbrev Small : Costs → Type 0
Small u = (c : Class) → u c ≤ 1000000

instr_small : (u : Costs) → Small u → (o : Option Instr) → instr_cost u o ≤ 1000000
instr_small u small None = omega arith
instr_small u small (Some x) = small (class_of x)

path_small : (u : Costs) (code : CodeValue) → Small u → (path : List ℕ) → sum_in u code path ≤ 1000000 * length path
path_small u code small [] = omega arith
path_small u code small (pc ∷ path) = omega (arith, instr_small u small (slice_get code.instrs pc), path_small u code small path)

-- ---- lists

front_get : {A : Type 0} (end : ℕ) (xs : List A) (j : ℕ) (x : A) → j < end → slice_get xs j ≡ Some x → slice_get (take end xs) j ≡ Some x
front_get end [] j x lt e = absurd (let none : None ≡ Some x = e in cc)
front_get zero (y ∷ xs) j x lt e = absurd (omega (arith, lt))
front_get (suc end) (y ∷ xs) zero x lt e = e
front_get (suc end) (y ∷ xs) (suc j) x lt e = front_get end xs j x (omega (arith, lt)) e

front_length : {A : Type 0} (n : ℕ) (xs : List A) → n ≤ length xs → length (take n xs) ≡ n
front_length zero xs le = refl
front_length (suc n) [] le = absurd (omega (arith, le))
front_length (suc n) (x ∷ xs) le = ap suc (front_length n xs (omega (arith, le)))

front_job : (jobs : List Job) (n k : ℕ) → k < n → job_in (take n jobs) k ≡ job_in jobs k
front_job jobs zero k lt = absurd (omega (arith, lt))
front_job [] (suc n) k lt = refl
front_job (x ∷ jobs) (suc n) zero lt = refl
front_job (x ∷ jobs) (suc n) (suc k) lt = front_job jobs n k (omega (arith, lt))

-- the tasks' code ends where that of the first version begins
first_same : (versions : List (List ℕ)) (count : ℕ) → All HasVersions versions → unwrap_or (slice_get (unwrap_or (slice_get versions 0) []) 0) count ≡ unwrap_or (slice_get (flat_map (λ (entries : List ℕ). entries) versions) 0) count
first_same [] count all = refl
first_same ([] ∷ versions) count all = absurd (let some = (all 0 [] (omega arith)).0 in omega (arith, some))
first_same ((entry ∷ entries) ∷ versions) count all = refl

pub tasks_same : (words tasks : ℕ) (code : CodeValue) → IsVerified words tasks code → All HasVersions code.versions → tasks_in code ≡ versions_begin code
tasks_same words tasks code v all =
    let low = tasks_within words tasks code v in
    let same = first_same code.versions (length code.instrs) all in
    omega (arith, low, same)

-- ---- from a place there is at most one section

one_section : (code : CodeValue) {pc : ℕ} {a : List ℕ} → SectionFrom code pc a → (b : List ℕ) → SectionFrom code pc b → a ≡ b
one_section code (Acts x e t) b (Acts y d s) = refl
one_section code (Acts {pc} x e t) b (GoesOn y d s rest) = absurd (let same : x ≡ y = one_instr code pc x y e d in let clash : true ≡ false = sym t ∙ ap acts same ∙ s in cc)
one_section code (GoesOn {pc} x e t rest) b (Acts y d s) = absurd (let same : x ≡ y = one_instr code pc x y e d in let clash : false ≡ true = sym t ∙ ap acts same ∙ s in cc)
one_section code (GoesOn {pc} {path} x e t rest) b (GoesOn {path = q} y d s more) =
    let same : y ≡ x = one_instr code pc y x d e in
    ap (λ l. pc ∷ l) (one_section code rest q (subst (λ z. SectionFrom code (place_after z pc) q) same more))

-- ---- jobs

job_ext : (a b : Job) → a.units ≡ b.units → a.ticks ≡ b.ticks → a ≡ b
job_ext a b e d =
    ap (λ x. let v : Job = record { units = x; ticks = a.ticks } in v) e ∙ ap (λ x. let v : Job = record { units = b.units; ticks = x } in v) d

times_small : (a n : ℕ) → a ≤ 1000000 → a * n ≤ 1000000 * n
times_small a zero le = omega arith
times_small a (suc n) le = omega (arith, le, times_small a n le)

-- the job of an entry is that of its place
mapped_at : (g : ℕ → Job) (entries : List ℕ) (k entry : ℕ) (job : Job) → slice_get entries k ≡ Some entry → slice_get (map g entries) k ≡ Some job → job ≡ g entry
mapped_at g [] k entry job at is = absurd (let none : None ≡ Some entry = at in cc)
mapped_at g (x ∷ entries) zero entry job at is = let same : x ≡ entry = cc in let value : g x ≡ job = cc in sym value ∙ ap g same
mapped_at g (x ∷ entries) (suc k) entry job at is = mapped_at g entries k entry job at is

job_of_entry : (g : ℕ → Job) (versions : List (List ℕ)) (e k entry : ℕ) (job : Job) → slice_get (unwrap_or (slice_get versions e) []) k ≡ Some entry → slice_get (unwrap_or (slice_get (map (λ (entries : List ℕ). map g entries) versions) e) []) k ≡ Some job → job ≡ g entry
job_of_entry g [] e k entry job at is = absurd (let none : None ≡ Some entry = at in cc)
job_of_entry g (entries ∷ versions) zero k entry job at is = mapped_at g entries k entry job at is
job_of_entry g (entries ∷ versions) (suc e) k entry job at is = job_of_entry g versions e k entry job at is

mapped_lengths : (g : ℕ → Job) (versions : List (List ℕ)) → map length (map (λ (entries : List ℕ). map g entries) versions) ≡ map length versions
mapped_lengths g [] = refl
mapped_lengths g (entries ∷ versions) = ap (λ n. n ∷ map length (map (λ (x : List ℕ). map g x) versions)) (length-map entries g) ∙ ap (λ l. length entries ∷ l) (mapped_lengths g versions)

module _ (words tasks : ℕ) (code : CodeValue) (v : IsVerified words tasks code) (few : length code.instrs ≤ 60000) where
  abbrev Size : ℕ
  Size = versions_begin code

  after_low : (pc : ℕ) (x : Instr) → At code pc x → acts x ≡ false → pc < Size → place_after x pc < Size
  after_low pc x is quiet low =
      elim (jump_or x quiet) [
        | inl jump ↦ (let there = target_in_tasks words tasks code v pc jump.0 (x, is, ap target_of jump.1) low in subst (λ z. place_after z pc < Size) (sym jump.1) there)
        | inr on ↦ (let next = next_in_tasks words tasks code v pc x is (quiet_end x quiet) low in let e = on pc in omega (arith, next, e))
      ]

  module _ (u : Costs) (small : Small u) where
    -- ---- sections

    abbrev Front : CodeValue
    Front = front_of Size code

    front_sum : (pc : ℕ) (x : Instr) → At code pc x → pc < Size → place_cost u Front pc ≡ place_cost u code pc
    front_sum pc x is low = ap (instr_cost u) (front_get Size code.instrs pc x low is) ∙ sym (ap (instr_cost u) is)

    to_front : {pc : ℕ} {path : List ℕ} → SectionFrom code pc path → pc < Size → SectionFrom Front pc path × (sum_in u Front path ≡ sum_in u code path)
    to_front (Acts {pc} x is acting) low = (Acts x (front_get Size code.instrs pc x low is) acting, let e = front_sum pc x is low in omega (arith, e))
    to_front (GoesOn {pc} {path} x is quiet rest) low =
        let r = to_front rest (after_low pc x is quiet low) in
        (GoesOn x (front_get Size code.instrs pc x low is) quiet r.0, let e = front_sum pc x is low in let d = r.1 in omega (arith, e, d))

    -- the section from a place of the tasks' code
    record Found (pc m : ℕ) : Type 0 where
      path : List ℕ
      is : SectionFrom code pc path
      sums : sum_in u code path ≡ m

    found : (pc m : ℕ) → pc < Size → SumsTo u Front pc m → Found pc m
    found pc m low known =
        let s = section_exists words tasks code v pc low in
        let f = to_front s.1 low in
        let within = tasks_within words tasks code v in
        let long : length Front.instrs ≡ Size = front_length Size code.instrs within in
        let le = path_small u code small s.0 in
        let is = known.by s.0 f.0 (omega (arith, s.2, long)) (omega (arith, le, f.1, s.2, within, few)) in
        record { path = s.0; is = s.1; sums = omega (arith, is, f.1) }

    section_top : (f : Job → ℕ) (most : List Job) (m : ℕ) → ((pc : ℕ) → pc < Size → SumsTo u Front pc (f (job_in most pc))) → Size ≤ length most → IsTop f (take Size most) m → IsGreatest (IsSectionPath code) (sum_in u code) m
    section_top f most m known all top = record { upper = upper; reached = by_top top.reached }
      where
        upper : (path : List ℕ) → IsSectionPath code path → sum_in u code path ≤ m
        upper path s =
            let r = found s.from (f (job_in most s.from)) s.within (known s.from s.within) in
            let same = one_section code s.is r.path r.is in
            let le = top.upper s.from (omega (arith, s.within, front_length Size most all)) in
            omega (arith, ap (sum_in u code) same, r.sums, le, ap f (front_job most Size s.from s.within))

        Reached : Type 0
        Reached = ((path : List ℕ) × IsSectionPath code path × (sum_in u code path ≡ m)) ⊎ (((path : List ℕ) → IsSectionPath code path → ⊥) × (m ≡ 0))

        by_size : m ≡ 0 → (n : ℕ) → Size ≡ n → Reached
        by_size none zero e = inr (λ path s. absurd (let low = s.within in omega (arith, low, e)), none)
        by_size none (suc n) e =
            let within : 0 < Size = omega (arith, e) in
            let r = found 0 (f (job_in most 0)) within (known 0 within) in
            let le = top.upper 0 (omega (arith, within, front_length Size most all)) in
            inl (r.path, record { from = 0; within = within; is = r.is }, omega (arith, r.sums, le, ap f (front_job most Size 0 within), none))

        by_top : (((k : ℕ) × (k < length (take Size most)) × (f (job_in (take Size most) k) ≡ m)) ⊎ (m ≡ 0)) → Reached
        by_top (inl (k, lt, e)) =
            let within : k < Size = omega (arith, lt, front_length Size most all) in
            let r = found k (f (job_in most k)) within (known k within) in
            inl (r.path, record { from = k; within = within; is = r.is }, omega (arith, r.sums, ap f (front_job most Size k within), e))
        by_top (inr none) = by_size none Size refl

    -- ---- handlers

    -- what an entry is worth, where its version is short
    record Greatest (entry m : ℕ) : Type 0 where
      greatest : IsGreatest (HandlerFrom code entry []) (sum_in u code) m
      low : m ≤ 1000000000000

    handler_greatest : (k entry m : ℕ) → slice_get (version_entries code) k ≡ Some entry → entry < length code.instrs → HandlerSums code entry → IsWorth u code entry m → Greatest entry m
    handler_greatest k entry m at within sums known =
        let w = sums.greatest u in
        let low : w.0 ≤ 1000000000000 = elim w.2.reached [
          | inl r ↦ (let le = path_small u code small r.0 in let short = v.short entry within k at r.0 r.1 in omega (arith, le, short, r.2))
          | inr none ↦ (let z = none.1 in omega (arith, z))
        ] in
        let same : m ≡ w.0 = known.by w.0 w.1 (omega (arith, low)) in
        record { greatest = subst (IsGreatest (HandlerFrom code entry []) (sum_in u code)) (sym same) w.2; low = omega (arith, same, low) }

module _ (device : Device) (lines : ℕ) (fits : lines < 4294967296) where
  whole_is : (job handler : Job) → job ≡ plus_capped (around_job device lines) handler → handler.units ≤ 1000000000000 → handler.ticks ≤ 1000000000000 → job ≡ whole_job device lines handler
  whole_is job handler is few_units few_ticks =
      let units = times_small device.write.bound (lines + 2) device.write.bound_in_range in
      let ticks = times_small device.write.ticks (lines + 2) (omega (arith, device.write.few_ticks)) in
      job_ext job (whole_job device lines handler)
      (ap (λ (j : Job). j.units) is ∙ sums device.wake.bound device.write.bound (lines + 2) handler.units device.wake.bound_in_range units (omega (arith, fits)) few_units)
      (ap (λ (j : Job). j.ticks) is ∙ sums device.wake.ticks device.write.ticks (lines + 2) handler.ticks (omega (arith, device.wake.few_ticks)) ticks (omega (arith, fits)) few_ticks)
    where
      sums : (wake write n handler : ℕ) → wake ≤ 1000000 → write * n ≤ 1000000 * n → n ≤ 4294967300 → handler ≤ 1000000000000 → capped (capped (wake + capped (write * n)) + handler) ≡ 1 * wake + handler + n * write
      sums wake write n handler a b c d = omega (arith, a, b, c, d)

  times_is : (n : ℕ) → n ≤ 4294967300 → times_capped (cost_job device.write) n ≡ times n device.write
  times_is n le =
      job_ext (times_capped (cost_job device.write) n) (times n device.write)
      (product device.write.bound n (times_small device.write.bound n device.write.bound_in_range) le)
      (product device.write.ticks n (times_small device.write.ticks n (omega (arith, device.write.few_ticks))) le)
    where
      product : (a n : ℕ) → a * n ≤ 1000000 * n → n ≤ 4294967300 → capped (a * n) ≡ n * a
      product a n small le = omega (arith, small, le)

  module _ (words tasks : ℕ) (code : CodeValue) (v : IsVerified words tasks code) (few : length code.instrs ≤ 60000) (b : BoundsValue) (made : AreMade code device lines (versions_begin code) b) where
    version_job : (event version entry : ℕ) (job : Job) → EntryAt code event version entry → HandlerSums code entry → job_at b event version ≡ Some job → IsJobAt code device lines entry job
    version_job event version entry job at sums is =
        let k = entry_found code event version entry at in
        let high = version_entry_high words tasks code v k.0 entry k.1 in
        let begins = version_entry code k.0 entry k.1 in
        let within = v.entries.within begins.0 entry begins.1 in
        let known = (made.known entry (omega arith)).handler high in
        let handler = job_in made.most entry in
        let units = handler_greatest words tasks code v few (units_of device) (units_small device) k.0 entry handler.units k.1 within sums known.units in
        let ticks = handler_greatest words tasks code v few (ticks_of device) (ticks_small device) k.0 entry handler.ticks k.1 within sums known.ticks in
        let same = job_of_entry (entry_job (around_job device lines) made.most) code.versions event version entry job at (ap (λ l. slice_get (unwrap_or (slice_get l event) []) version) (sym made.jobs) ∙ is) in
        record {
          handler = handler;
          greatest = record { units = units.greatest; ticks = ticks.greatest };
          whole = whole_is job handler same units.low ticks.low;
        }

    pub are_bounds : ((event version entry : ℕ) → EntryAt code event version entry → HandlerSums code entry) → AreBoundsIn code device lines b
    are_bounds sums =
        let size = versions_begin code in
        let all : size ≤ length made.most = let low = tasks_within words tasks code v in omega (arith, made.all, low) in
        record {
          versions = ap (map length) made.jobs ∙ mapped_lengths (entry_job (around_job device lines) made.most) code.versions;
          jobs = λ event version entry job at is. version_job event version entry job at (sums event version entry at) is;
          section = record {
            units = section_top words tasks code v few (units_of device) (units_small device) (λ j. j.units) made.most b.section.units (λ pc lt. ((made.known pc (omega arith)).section lt).units) all made.section.units;
            ticks = section_top words tasks code v few (ticks_of device) (ticks_small device) (λ j. j.ticks) made.most b.section.ticks (λ pc lt. ((made.known pc (omega arith)).section lt).ticks) all made.section.ticks;
          };
          checkpoint = made.checkpoint ∙ times_is (lines + 1) (omega (arith, fits));
          wake = made.wake ∙ job_ext (cost_job device.wake) (times 1 device.wake) (omega arith) (omega arith);
        }
