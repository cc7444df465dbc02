-- The code of a checked program keeps all rules.
use Rattle.std.proofs.Common.{◌≡◌, ℕ, zero, suc, ◌+◌, ◌<◌, ◌≤◌, ◌⊎◌, inl, inr, Bool, true, false, List, [], ◌∷◌, length, refl, sym, ap, ◌∙◌, subst, arith}
use Rattle.std.specs.Prelude.{Option, Some, None, slice_get, unwrap_or}
use Rattle.std.proofs.lemmas.Option.{slice_get_within}
use Rattle.cat_program.specs.Checked.{Checked, IsChecked}
use Rattle.cat_machine.specs.declared.instr.Instr.{Instr}
use Rattle.cat_machine.specs.declared.instr.Instr.TheVariants as i
use Rattle.cat_machine.specs.Code.{code_of}
use Rattle.cat_machine.specs.LaidOut.{CodeIsLaidOut}
use Rattle.cn_object.specs.Operands.{target_of, HasOperands, OperandsAt}
use Rattle.cn_object.specs.Regions.{version_entries, all_entries, IsEntry, SameRegion, IsRegionEnd, versions_begin, SuitsRegion, RegionAt}
use Rattle.cn_object.specs.Depths.{taken, way, ways_of, LeadsTo, Brings, Enters, Follows, IsDepth, SuitsDepth, StackAt}
use Rattle.cn_object.specs.Loops.{TurnsAt, IsRepeat, TaskLoopsAt, VersionLoopsAt, LoopsAt}
use Rattle.cn_object.specs.Verified.{ShortAt, IsVerified}
use Rattle.compiled_objects.proofs.Stretches.{depth_at}
use Rattle.compiled_objects.proofs.Flows.{some_same, IsFirst, IsLater}
use Rattle.compiled_objects.proofs.Places.{no_task}
use Rattle.compiled_objects.proofs.Regions.{Whole, Regions, are_entries}
use Rattle.compiled_objects.proofs.EachPlace.{opened, Each, each}
use Rattle.compiled_objects.proofs.Lists.{slice_get_left, slice_get_right, slice_get_behind}
use Rattle.compiled_objects.proofs.Laying.{whole_of, tasks_counted, program_regions}
use Rattle.compiled_objects.proofs.Lengths.{HandlerPaths, versions_short}

module _ (w : Whole) (rs : Regions w 0 0 (all_entries w.code) (length w.code.instrs)) (posts : w.tasks ≤ w.posts) (counted : length w.code.tasks ≡ w.tasks) where
  abbrev Count : ℕ
  Count = length w.code.instrs

  abbrev E : ℕ → Type 0
  E pc = Each w rs posts pc

  abbrev DA : ℕ → ℕ
  DA pc = depth_at w.code pc

  its : (pc : ℕ) → pc < Count → E pc
  its pc lt = each w rs posts pc lt

  at_place : (pc : ℕ) (x : Instr) → slice_get w.code.instrs pc ≡ Some x → E pc
  at_place pc x e = its pc (slice_get_within w.code.instrs pc x e)

  same_instr : (pc : ℕ) (x : Instr) (e : E pc) → slice_get w.code.instrs pc ≡ Some x → e.x ≡ x
  same_instr pc x e h = some_same e.x x (sym e.at ∙ h)

  -- ---- entries

  -- an entry up to a place is up to its region's begin
  entry_side : (pc : ℕ) (e : E pc) (entry : ℕ) → IsEntry w.code entry → (entry ≤ e.f.low) ⊎ (e.f.high ≤ entry)
  entry_side pc e entry h = elim (e.f.beside h.0 entry h.1) [
    | inl a ↦ inl (omega (arith, a.1))
    | inr b ↦ elim b [ inl c ↦ inl (omega (arith, c.1)) | inr d ↦ inr d.1 ]
  ]

  same_region : (pc : ℕ) (e : E pc) (to : ℕ) → e.f.low ≤ to → to < e.f.high → SameRegion w.code pc to
  same_region pc e to low high entry h = elim (entry_side pc e entry h) [
    | inl le ↦ (λ a. omega (arith, le, low), λ a. omega (arith, le, e.f.from))
    | inr ge ↦ (λ a. absurd (omega (arith, ge, a, e.f.before)), λ a. absurd (omega (arith, ge, a, high)))
  ]

  task_entry : (t pc : ℕ) → slice_get w.code.tasks t ≡ Some pc → slice_get (all_entries w.code) t ≡ Some pc
  task_entry t pc h = slice_get_left w.code.tasks (version_entries w.code) t (slice_get_within w.code.tasks t pc h) ∙ h

  entry_task : (t pc : ℕ) → t < w.tasks → slice_get (all_entries w.code) t ≡ Some pc → slice_get w.code.tasks t ≡ Some pc
  entry_task t pc lt h = sym (slice_get_left w.code.tasks (version_entries w.code) t (omega (arith, lt, counted))) ∙ h

  -- ---- tasks come first

  first_version : (v : ℕ) → slice_get (version_entries w.code) 0 ≡ Some v → slice_get (all_entries w.code) w.tasks ≡ Some v
  first_version v h =
      let same : length w.code.tasks + 0 ≡ w.tasks = omega (arith, counted) in
      ap (slice_get (all_entries w.code)) (sym same) ∙ slice_get_behind w.code.tasks (version_entries w.code) 0 ∙ h

  task_high : (pc : ℕ) (e : E pc) → e.f.j < w.tasks → (o : Option ℕ) → slice_get (version_entries w.code) 0 ≡ o → e.f.high ≤ unwrap_or o Count
  task_high pc e lt None h = e.f.within
  task_high pc e lt (Some v) h = elim (e.f.beside w.tasks v (first_version v h)) [
    | inl a ↦ absurd (omega (arith, a.0, lt))
    | inr b ↦ elim b [ inl c ↦ absurd (omega (arith, c.0, lt)) | inr d ↦ d.1 ]
  ]

  some_left : {A : Type 0} (xs : List A) (k : ℕ) (x : A) → slice_get xs k ≡ Some x → slice_get xs 0 ≡ None → ⊥
  some_left [] k x h none = let bad : None ≡ Some x = h in cc
  some_left (y ∷ xs) k x h none = cc

  version_low : (pc : ℕ) (e : E pc) → w.tasks ≤ e.f.j → (o : Option ℕ) → slice_get (version_entries w.code) 0 ≡ o → unwrap_or o Count ≤ e.f.low
  version_low pc e le None h =
      let got = slice_get_right w.code.tasks (version_entries w.code) e.f.j (omega (arith, le, counted)) in
      absurd (some_left (version_entries w.code) got.0 e.f.low (sym got.1 ∙ e.f.at) h)
  version_low pc e le (Some v) h = elim (e.f.beside w.tasks v (first_version v h)) [
    | inl a ↦ omega (arith, a.1)
    | inr b ↦ elim b [ inl c ↦ omega (arith, c.1) | inr d ↦ absurd (omega (arith, d.0, le)) ]
  ]

  task_before : (pc : ℕ) (e : E pc) → e.f.region.task ≡ true → pc < versions_begin w.code
  task_before pc e t = elim (opened w rs posts pc e.f) [
    | inl o ↦ (let high = task_high pc e (omega (arith, o.1.0)) (slice_get (version_entries w.code) 0) refl in omega (arith, high, e.f.before))
    | inr o ↦ absurd (no_task e.f.region.task t o.0)
  ]

  version_after : (pc : ℕ) (e : E pc) → e.f.region.task ≡ false → versions_begin w.code ≤ pc
  version_after pc e t = elim (opened w rs posts pc e.f) [
    | inl o ↦ absurd (no_task e.f.region.task o.0 t)
    | inr o ↦ (let low = version_low pc e (omega (arith, o.1)) (slice_get (version_entries w.code) 0) refl in omega (arith, low, e.f.from))
  ]

  by_side : (pc : ℕ) (e : E pc) (t : Bool) → e.f.region.task ≡ t → (pc < versions_begin w.code → e.f.region.task ≡ true) × (versions_begin w.code ≤ pc → e.f.region.task ≡ false)
  by_side pc e true h = (λ lt. h, λ le. absurd (let lt = task_before pc e h in omega (arith, le, lt)))
  by_side pc e false h = (λ lt. absurd (let le = version_after pc e h in omega (arith, le, lt)), λ le. h)

  is_task : (pc : ℕ) (e : E pc) → pc < versions_begin w.code → e.f.region.task ≡ true
  is_task pc e lt = (by_side pc e e.f.region.task refl).0 lt

  is_version : (pc : ℕ) (e : E pc) → versions_begin w.code ≤ pc → e.f.region.task ≡ false
  is_version pc e le = (by_side pc e e.f.region.task refl).1 le

  -- ---- operands and regions

  operands : (pc : ℕ) → pc < Count → OperandsAt w.words w.posts w.code pc
  operands pc lt x h = let e = its pc lt in subst (HasOperands w.words w.posts Count) (same_instr pc x e h) e.is.operands

  region_end : (pc : ℕ) (e : E pc) → pc + 1 ≡ e.f.high → IsRegionEnd w.code (pc + 1)
  region_end pc e same = elim e.f.next [
    | inl h ↦ inl (suc e.f.j, h ∙ ap Some (sym same))
    | inr h ↦ inr (same ∙ h)
  ]

  end_region : (pc : ℕ) (e : E pc) → IsRegionEnd w.code (pc + 1) → e.x ≡ i.End
  end_region pc e (inl entry) = elim (entry_side pc e (pc + 1) entry) [
    | inl le ↦ absurd (omega (arith, le, e.f.from))
    | inr ge ↦ e.is_end (omega (arith, ge, e.f.before))
  ]
  end_region pc e (inr count) = e.is_end (omega (arith, count, e.f.within, e.f.before))

  suits_region : (pc : ℕ) (e : E pc) → SuitsRegion w.code pc e.x
  suits_region pc e = record {
    begins = λ t. (
      λ h. (let b = e.begins t h in
          let number : e.f.j ≡ t = b.1 in
          entry_task t pc (omega (arith, number, b.2)) (ap (slice_get (all_entries w.code)) (sym number) ∙ e.f.at ∙ ap Some (sym b.0))),
      λ h. elim (e.f.beside t pc (task_entry t pc h)) [
        | inl a ↦ (let lt : t < w.tasks = omega (arith, slice_get_within w.code.tasks t pc h, counted) in
            e.is_begin a.1 (omega (arith, lt, a.0)) ∙ ap i.Begin (sym a.0))
        | inr b ↦ absurd (elim b [ inl c ↦ omega (arith, c.1, e.f.from) | inr d ↦ omega (arith, d.1, e.f.before) ])
      ],
    );
    ends = (λ h. region_end pc e (e.ends h), end_region pc e);
    stays = λ to h. let may = e.is.goes to h in record { region = same_region pc e to may.low may.high; no_begin = may.no_begin };
    forward = λ to h le. (e.is.goes to h).forward le;
    payload = λ h. version_after pc e (e.is.payload h);
    turn = λ to h. version_after pc e (e.is.turn to h).0;
  }

  regions : (pc : ℕ) → pc < Count → RegionAt w.code pc
  regions pc lt x h = let e = its pc lt in subst (SuitsRegion w.code pc) (same_instr pc x e h) (suits_region pc e)

  -- ---- depths

  entry_deep : (pc : ℕ) (e : E pc) → IsEntry w.code pc → DA pc ≡ 0
  entry_deep pc e entry = elim (entry_side pc e pc entry) [
    | inl le ↦ (let same : pc ≡ e.f.low = omega (arith, le, e.f.from) in ap DA same ∙ e.f.deep)
    | inr ge ↦ absurd (omega (arith, ge, e.f.before))
  ]

  entry_within : (pc : ℕ) → IsEntry w.code pc → pc < Count
  entry_within pc entry = (are_entries w Count (all_entries w.code) rs).within entry.0 pc entry.1

  brings_to : (n pc : ℕ) → pc < n → pc < Count → Brings w.code pc (DA pc)
  brings_to zero pc lt within = absurd (omega (arith, lt))
  brings_to (suc n) pc lt within = by_reached (λ q less. brings_to n q (omega (arith, lt, less)) (omega (arith, less, within))) (its pc within)
    where
      by_reached : ((q : ℕ) → q < pc → Brings w.code q (DA q)) → E pc → Brings w.code pc (DA pc)
      by_reached before e = elim e.is.reached [
        | IsFirst entry ↦ subst (Brings w.code pc) (sym (entry_deep pc e entry)) (Enters entry)
        | IsLater q less leads ↦ Follows (before q less) less leads
      ]

  leads_deep : (pc to later under : ℕ) → under ≡ DA pc → LeadsTo w.code pc under to later → DA to ≡ later
  leads_deep pc to later under same (x, k, h, found) =
      let e = at_place pc x h in
      let here : x ≡ e.x = sym (same_instr pc x e h) in
      e.is.ways k to later (subst (λ z. slice_get (ways_of z pc (DA pc)) k ≡ Some (way to later)) here (subst (λ n. slice_get (ways_of x pc n) k ≡ Some (way to later)) same found))

  brought_deep : (pc depth : ℕ) → Brings w.code pc depth → depth ≡ DA pc
  brought_deep pc depth (Enters entry) = sym (entry_deep pc (its pc (entry_within pc entry)) entry)
  brought_deep pc depth (Follows {pc = q} {depth = under} b ahead leads) = sym (leads_deep q pc depth under (brought_deep q under b) leads)

  deep_at : (pc : ℕ) → pc < Count → IsDepth w.code pc (DA pc)
  deep_at pc lt = record { brought = brings_to (suc pc) pc (omega arith) lt; agreed = λ other b. brought_deep pc other b }

  suits_depth : (pc : ℕ) (e : E pc) → SuitsDepth w.code pc (DA pc) e.x
  suits_depth pc e = record {
    finds = e.is.finds;
    acting = λ lt acts. e.is.acting (is_task pc e lt) acts;
    ends = e.is.ends;
    back = λ to h le. (let found : slice_get (ways_of e.x pc (DA pc)) 0 ≡ Some (way to (DA pc)) = ap (λ z. slice_get (ways_of z pc (DA pc)) 0) h in
        let same = e.is.ways 0 to (DA pc) found in
        let target : target_of e.x ≡ Some to = ap target_of h in
        let within : to < Count = omega (arith, (e.is.goes to target).high, e.f.within) in
        subst (IsDepth w.code to) same (deep_at to within));
  }

  stacks : (pc : ℕ) → pc < Count → StackAt w.code pc
  stacks pc lt =
      let e = its pc lt in
      (DA pc, record { is = deep_at pc lt; room = e.is.room; suits = λ x h. subst (SuitsDepth w.code pc (DA pc)) (same_instr pc x e h) (suits_depth pc e) })

  -- ---- loops

  task_loops : (pc : ℕ) (e : E pc) → e.f.region.task ≡ true → TaskLoopsAt w.code pc
  task_loops pc e t to h le = elim (e.is.back to (same_instr pc (i.Jump to) e h) le) [
    | inl a ↦ a.1
    | inr b ↦ absurd (no_task e.f.region.task t b.0)
  ]

  repeats : (pc : ℕ) (e : E pc) (end : ℕ) → TurnsAt w.code pc end → IsRepeat w.code pc end
  repeats pc e end h =
      let r = (e.is.turn end (same_instr pc (i.Turn end) e h)).1 in
      record {
        before = r.before;
        turns = r.turns;
        just_before = r.just_before;
        few = r.few;
        pushed = r.pushed;
        last = r.last;
        just_after = r.just_after;
        back = r.back;
        only = λ q goes. (let d = at_place q goes.0 goes.1 in
            let target : target_of d.x ≡ Some pc = ap target_of (same_instr q goes.0 d goes.1) ∙ goes.2 in
            let end_is = (d.is.goes pc target).only end h in
            omega (arith, end_is, r.just_after));
      }

  version_loops : (pc : ℕ) (e : E pc) → e.f.region.task ≡ false → VersionLoopsAt w.code pc
  version_loops pc e t = record {
    turn = repeats pc e;
    back = λ to h le. elim (e.is.back to (same_instr pc (i.Jump to) e h) le) [
      | inl a ↦ absurd (no_task e.f.region.task a.0 t)
      | inr b ↦ b.1
    ];
    jump = λ to goes. (let target : target_of e.x ≡ Some to = ap target_of (same_instr pc goes.0 e goes.1) ∙ goes.2 in (e.is.goes to target).crosses t);
    above = λ x turn end under depth h turns between low high.
        (let a : under ≡ DA turn = brought_deep turn under low.brought in
        let b : depth ≡ DA pc = brought_deep pc depth high.brought in
        let c : taken e.x ≡ taken x = ap taken (same_instr pc x e h) in
        let d = e.is.above turn end turns between in
        omega (arith, a, b, c, d));
  }

  loops : (pc : ℕ) → pc < Count → LoopsAt w.code pc
  loops pc lt =
      let e = its pc lt in
      record { task = λ before. task_loops pc e (is_task pc e before); version = λ after. version_loops pc e (is_version pc e after) }

  pub all_hold : ((pc : ℕ) → pc < Count → ShortAt w.code pc) → IsVerified w.words w.posts w.code
  all_hold short = record {
    operands = operands;
    entries = are_entries w Count (all_entries w.code) rs;
    regions = regions;
    stacks = stacks;
    loops = loops;
    short = short;
  }

pub whole_verified : CodeIsLaidOut → HandlerPaths → (p : Checked) → IsChecked p → IsVerified (length p.words) (length p.tasks) (code_of p)
whole_verified laid paths p checked =
    all_hold (whole_of p) (program_regions laid p checked) (omega arith) (tasks_counted p) (λ pc lt k h path is. versions_short laid paths p checked k pc h path is)
