-- A section of verified code: there is one from each place of the tasks' code, and it is short.
use Rattle.std.proofs.Common.{◌≡◌, ◌≢◌, ℕ, zero, suc, ◌+◌, ◌-◌, ◌<◌, ◌≤◌, ◌⊎◌, inl, inr, List, [], ◌∷◌, length, get_or, refl, sym, ◌∙◌, ap, subst, true, false, arith}
use Rattle.std.specs.Prelude.{Some, None, slice_get}
use Rattle.std.proofs.lemmas.Bool.{cases_lt}
use Rattle.cat_machine.specs.declared.instr.Instr.{Instr}
use Rattle.cat_machine.specs.declared.instr.Instr.TheVariants as i
use Rattle.cat_machine.specs.declared.instr.Mode.TheVariants.{Task}
use Rattle.cat_machine.specs.CodeValue.{CodeValue}
use Rattle.cat_machine.specs.Held.{Held}
use Rattle.cat_machine.specs.Machine.{Ended', next_of, until}
use Rattle.cat_machine.specs.Fits.{HasShape}
use Rattle.cost_bounds.specs.Paths.{acts, place_after, SectionFrom, Acts, GoesOn}
use Rattle.cn_object.specs.Operands.{target_of}
use Rattle.cn_object.specs.Regions.{versions_begin}
use Rattle.cn_object.specs.Loops.{ActsSoon, Acts as SoonActs, GoesOn as SoonOn}
use Rattle.cn_object.specs.Verified.{IsVerified}
use Rattle.cn_object.specs.Fitting.{StandsIn, InTask}
use Rattle.object_runs.specs.Resting.{IsResting}
use Rattle.object_runs.specs.Whole.{SectionEnds}
use Rattle.object_runs.proofs.Places.{At, in_code, next_in_tasks, one_instr, split, target_in_tasks, tasks_within}
use Rattle.object_runs.proofs.Acts.{does}
use Rattle.object_runs.proofs.Runs.{acts_here, alone, then, until_goes, until_stops}
use Rattle.object_runs.proofs.Tasks.{IsIn, further, further_in, over, rest_stands, stands_task}
use Rattle.object_runs.proofs.Fitting.{bool_is, instr_at}
use Rattle.object_runs.proofs.Handlers.{NeverStuck, fits_by}

-- ---- instructions

after_plain : (x : Instr) (pc : ℕ) → target_of x ≡ None → place_after x pc ≡ pc + 1
after_plain (i.Jump to) pc e = absurd (let clash : Some to ≡ None = e in cc)
after_plain _ pc e = refl

-- an instruction that doesn't act goes on to the next place, or is a jump
pub jump_or : (x : Instr) → acts x ≡ false → ((to : ℕ) × (x ≡ i.Jump to)) ⊎ ((pc : ℕ) → place_after x pc ≡ pc + 1)
jump_or (i.Jump to) e = inl (to, refl)
jump_or _ e = inr (λ pc. refl)

pub quiet_end : (x : Instr) → acts x ≡ false → x ≢ i.End
quiet_end x quiet e = let clash : false ≡ true = sym quiet ∙ ap acts e in cc

-- ---- the places behind a jump back

-- from a place on, instructions that neither jump nor act, up to the last one, which acts
record Soon (code : CodeValue) (from last : ℕ) : Type 0 where
  path : List ℕ
  is : SectionFrom code from path
  ahead : from ≤ last
  long : length path + from ≡ last + 1
  straight : (q : ℕ) → from ≤ q → q < last → (x : Instr) × At code q x × (target_of x ≡ None)
  acting : (x : Instr) → At code last x → acts x ≡ true

soon : (code : CodeValue) {from : ℕ} → ActsSoon code from → (last : ℕ) × Soon code from last
soon code (SoonActs {pc} x is acting) = (
  pc,
  record {
    path = pc ∷ [];
    is = Acts x is acting;
    ahead = omega arith;
    long = omega arith;
    straight = λ q low high. absurd (omega (arith, low, high));
    acting = λ y at. ap acts (one_instr code pc y x at is) ∙ acting;
  },
)
soon code (SoonOn {pc} x is quiet plain rest) =
    let r = soon code rest in (
      r.0,
      record {
        path = pc ∷ r.1.path;
        is = GoesOn x is quiet (subst (λ q. SectionFrom code q r.1.path) (sym (after_plain x pc plain)) r.1.is);
        ahead = let h = r.1.ahead in omega (arith, h);
        long = let h = r.1.long in omega (arith, h);
        straight = λ q low high. elim (cases_lt pc q) [
          | inl later ↦ r.1.straight q (omega (arith, later)) high
          | inr here ↦ (let same : pc ≡ q = omega (arith, low, here) in (x, ap (slice_get code.instrs) (sym same) ∙ is, plain))
        ];
        acting = r.1.acting;
      },
    )

module _ (words tasks : ℕ) (code : CodeValue) (v : IsVerified words tasks code) where
  -- a section from a place: of later places alone, but for those behind a jump back, which are before the place
  data Short (pc : ℕ) (path : List ℕ) : Type 0 where
    Ahead : length path + pc ≤ versions_begin code → Short pc path
    Back : (to last : ℕ) → Soon code to last → last < pc → length path + pc ≤ versions_begin code + (last + 1 - to) → Short pc path

  record Section (pc : ℕ) : Type 0 where
    path : List ℕ
    is : SectionFrom code pc path
    short : Short pc path

  -- one place more, before those of a section
  short_more : (pc q : ℕ) (x : Instr) (path : List ℕ) → At code pc x → acts x ≡ false → pc < q → (q ≡ pc + 1) ⊎ ((to : ℕ) × (target_of x ≡ Some to)) → Short q path → Short pc (pc ∷ path)
  short_more pc q x path is quiet ahead way (Ahead h) = Ahead (omega (arith, h, ahead))
  short_more pc q x path is quiet ahead way (Back to last s before h) =
      split last pc (λ low. Back to last s low (omega (arith, h, ahead)))
      (λ same. absurd (let clash : true ≡ false = sym (s.acting x (ap (slice_get code.instrs) same ∙ is)) ∙ quiet in cc))
      (λ high. Ahead (elim way [
        | inl next ↦ absurd (omega (arith, next, high, before))
        | inr jump ↦ elim (cases_lt pc to) [
          | inl inner ↦ (let up = s.ahead in omega (arith, h, ahead, inner, before, up))
          | inr outer ↦ absurd (let found = s.straight pc outer high in
              let none : target_of x ≡ None = ap target_of (one_instr code pc x found.0 is found.1) ∙ found.2 in
              let clash : Some jump.0 ≡ None = sym jump.1 ∙ none in cc)
        ]
      ]))

  short_back : (pc to last : ℕ) → At code pc (i.Jump to) → pc < versions_begin code → to ≤ pc → (s : Soon code to last) → Short pc (pc ∷ s.path)
  short_back pc to last is low back s =
      let before : last < pc = split last pc (λ h. h)
      (λ same. absurd (let clash : true ≡ false = sym (s.acting (i.Jump to) (ap (slice_get code.instrs) same ∙ is)) in cc))
      (λ high. absurd (let found = s.straight pc back high in
      let none : Some to ≡ None = ap target_of (one_instr code pc (i.Jump to) found.0 is found.1) ∙ found.2 in cc)) in
      Back to last s before (let long = s.long in let up = s.ahead in omega (arith, long, low, up))

  section_jump : (pc to : ℕ) → At code pc (i.Jump to) → pc < versions_begin code → ((q : ℕ) → pc < q → q < versions_begin code → Section q) → Section pc
  section_jump pc to is low later =
      elim (cases_lt pc to) [
        | inl ahead ↦ (let r = later to ahead (target_in_tasks words tasks code v pc to (i.Jump to, is, refl) low) in
            record { path = pc ∷ r.path; is = GoesOn (i.Jump to) is refl r.is; short = short_more pc to (i.Jump to) r.path is refl ahead (inr (to, refl)) r.short })
        | inr back ↦ (let r = soon code ((v.loops pc (in_code words tasks code v pc low)).task low to is back) in
            record { path = pc ∷ r.1.path; is = GoesOn (i.Jump to) is refl r.1.is; short = short_back pc to r.0 is low back r.1 })
      ]

  section_here : (pc : ℕ) (x : Instr) → At code pc x → pc < versions_begin code → ((q : ℕ) → pc < q → q < versions_begin code → Section q) → Section pc
  section_here pc x is low later =
      elim (bool_is (acts x)) [
        | inl acting ↦ record { path = pc ∷ []; is = Acts x is acting; short = Ahead (omega (arith, low)) }
        | inr quiet ↦ elim (jump_or x quiet) [
          | inl jump ↦ section_jump pc jump.0 (is ∙ ap Some jump.1) low later
          | inr on ↦ (let r = later (pc + 1) (omega arith) (next_in_tasks words tasks code v pc x is (quiet_end x quiet) low) in
              record { path = pc ∷ r.path; is = GoesOn x is quiet (subst (λ q. SectionFrom code q r.path) (sym (on pc)) r.is); short = short_more pc (pc + 1) x r.path is quiet (omega arith) (inl refl) r.short })
        ]
      ]

  section_within : (n pc : ℕ) → versions_begin code ≤ pc + n → pc < versions_begin code → Section pc
  section_within zero pc h low = absurd (omega (arith, h, low))
  section_within (suc n) pc h low = section_here pc (get_or code.instrs pc i.End) (instr_at code pc (in_code words tasks code v pc low)) low (λ q ahead inside. section_within n q (omega (arith, h, ahead)) inside)

  short_long : (pc : ℕ) (path : List ℕ) → Short pc path → length path ≤ versions_begin code
  short_long pc path (Ahead h) = omega (arith, h)
  short_long pc path (Back to last s before h) = omega (arith, h, before)

  pub section_exists : (pc : ℕ) → pc < versions_begin code → (path : List ℕ) × SectionFrom code pc path × (length path ≤ versions_begin code)
  section_exists pc low = let r = section_within (versions_begin code) pc (omega arith) low in (r.path, r.is, short_long pc r.path r.short)

  -- ---- the machine goes along it

  module _ (counted : length code.tasks ≡ tasks) (stuck : NeverStuck) where
    record SectionRan (n : ℕ) (h : Held) (path : List ℕ) : Type 0 where
      run : Ended'
      ends : until n Task code h ≡ Some run
      path_is : run.path ≡ path
      rests : IsResting words tasks code run.after

    section_ran : {pc : ℕ} {path : List ℕ} → SectionFrom code pc path → (n : ℕ) (h : Held) → HasShape words tasks h → IsIn words tasks code v h pc → StandsIn code h → length path ≤ n → SectionRan n h path
    section_ran (Acts x is acting) zero h shape here stands long = absurd (omega (arith, long))
    section_ran (GoesOn x is quiet rest) zero h shape here stands long = absurd (omega (arith, long))
    section_ran (Acts {pc} x is acting) (suc n) h shape here stands long =
        let s = stuck code h Task (fits_by words tasks code h v counted shape stands) (here.kept, (pc, here.next)) in
        let o = over words tasks code v pc x h s.0 here is acting (does Task pc h x s.0 (acts_here Task code h pc s.0 here.next s.1 x is)) in
        record {
          run = alone pc s.0;
          ends = until_stops Task code h pc s.0 here.next s.1 n o.stops;
          path_is = refl;
          rests = record {
            shape = record { words_are = o.words_are ∙ shape.words_are; posts_are = o.posts_are ∙ shape.posts_are };
            place = o.place;
            free = o.free;
            empty = o.empty;
          };
        }
    section_ran (GoesOn {pc} {path} x is quiet rest) (suc n) h shape here stands long =
        let s = stuck code h Task (fits_by words tasks code h v counted shape stands) (here.kept, (pc, here.next)) in
        let g = further words tasks code v pc x h s.0 here is quiet (does Task pc h x s.0 (acts_here Task code h pc s.0 here.next s.1 x is)) in
        let there = further_in words tasks code v pc x h s.0 here g in
        let r = section_ran rest n s.0.after (record { words_are = g.stays.words ∙ shape.words_are; posts_are = g.stays.posts ∙ shape.posts_are }) there (InTask (place_after x pc) there.kept g.place g.task g.stands) (omega (arith, long)) in
        record {
          run = then pc [] r.run;
          ends = until_goes Task code h pc s.0 here.next s.1 n [] r.run g.goes r.ends;
          path_is = ap (λ l. pc ∷ l) r.path_is;
          rests = r.rests;
        }

    pub section_ends : (h : Held) (pc : ℕ) → length code.instrs ≤ 60000 → IsResting words tasks code h → next_of code h ≡ Some pc → SectionEnds words tasks code h pc
    section_ends h pc short rest next =
        let stands = rest_stands words tasks code v h rest.free rest.empty rest.place in
        let here = stands_task words tasks code v h pc stands rest.free next in
        let path = section_exists pc here.low in
        let last = tasks_within words tasks code v in
        let r = section_ran path.1 1000000 h rest.shape here stands (omega (arith, path.2, last, short)) in
        record { run = r.run; is = record { ends = r.ends; path = subst (SectionFrom code pc) (sym r.path_is) path.1 }; rests = r.rests }
