-- A handler of verified code runs along a path of its version, to its end.
use Rattle.std.proofs.Common.{◌≡◌, ℕ, zero, suc, ◌+◌, ◌≤◌, ◌⊎◌, inl, inr, ℤ, List, [], ◌∷◌, length, get_or, refl, sym, ◌∙◌, ap, subst, arith}
use Rattle.std.specs.Prelude.{Option, Some, None, slice_get, unwrap_or}
use Rattle.std.specs.List.{flat_map}
use Rattle.cat_machine.specs.declared.instr.Instr.{Instr}
use Rattle.cat_machine.specs.declared.instr.Instr.TheVariants as i
use Rattle.cat_machine.specs.declared.instr.Mode.{Mode}
use Rattle.cat_machine.specs.declared.instr.Mode.TheVariants.{Handler}
use Rattle.cat_machine.specs.declared.instr.Did.TheVariants.{Ended}
use Rattle.cat_machine.specs.CodeValue.{CodeValue, EntryAt}
use Rattle.cat_machine.specs.Held.{Held}
use Rattle.cat_machine.specs.Machine.{Ended', Stepping, entered, goes_on, next_of, place_or, step_of, until}
use Rattle.cat_machine.specs.Fits.{HasShape, ReadyFor}
use Rattle.cost_bounds.specs.Paths.{HandlerFrom, Ends as PathEnds, LeadsOn as PathOn}
use Rattle.cn_object.specs.Regions.{version_entries, versions_begin}
use Rattle.cn_object.specs.Verified.{IsVerified}
use Rattle.cn_object.specs.Fitting.{CanBeKept, FitsCode, StandsAt, StandsIn, InVersion}
use Rattle.cn_object.specs.Sums.{PartFrom, Stops, LeadsOn, HandlerSums}
use Rattle.object_runs.specs.Resting.{IsResting}
use Rattle.object_runs.specs.Whole.{HandlerEnds}
use Rattle.object_runs.proofs.Places.{At, behind, entry_depth, entry_no_round, in_front, some_same, stack_at, version_entry, version_entry_high}
use Rattle.object_runs.proofs.Acts.{Does, does}
use Rattle.object_runs.proofs.Onward.{Matches, onward}
use Rattle.object_runs.proofs.Runs.{acts_here, alone, then, until_goes, until_stops}
use Rattle.object_runs.proofs.Tasks.{no_stack}
use Rattle.object_runs.proofs.Fitting.{end_or, finished, instr_at}

-- a version's entry is one of all
flat_at : (lists : List (List ℕ)) (e k entry : ℕ) → slice_get (unwrap_or (slice_get lists e) []) k ≡ Some entry → (j : ℕ) × (slice_get (flat_map (λ (entries : List ℕ). entries) lists) j ≡ Some entry)
flat_at [] e k entry at = absurd (let none : None ≡ Some entry = at in cc)
flat_at (l ∷ ls) zero k entry at = (k, in_front l (flat_map (λ (entries : List ℕ). entries) ls) k entry at)
flat_at (l ∷ ls) (suc e) k entry at = let r = flat_at ls e k entry at in (length l + r.0, behind l (flat_map (λ (entries : List ℕ). entries) ls) r.0 entry r.1)

pub entry_found : (code : CodeValue) (event version entry : ℕ) → EntryAt code event version entry → (k : ℕ) × (slice_get (version_entries code) k ≡ Some entry)
entry_found code event version entry at = flat_at code.versions event version entry at

abbrev pub NeverStuck : Type 0
NeverStuck = (code : CodeValue) (h : Held) (mode : Mode) → FitsCode code h → ReadyFor mode code h → (s : Stepping) × (step_of mode code h ≡ Some s)

pub fits_by : (words tasks : ℕ) (code : CodeValue) (h : Held) → IsVerified words tasks code → length code.tasks ≡ tasks → HasShape words tasks h → StandsIn code h → FitsCode code h
fits_by words tasks code h v counted shape stands = record {
  verified = subst (λ z. IsVerified z (length h.posts) code) (sym shape.words_are) (subst (λ z. IsVerified words z code) (sym shape.posts_are) v);
  tasks = counted ∙ sym shape.posts_are;
  stands = stands;
}

module _ (words tasks : ℕ) (code : CodeValue) (v : IsVerified words tasks code) (counted : length code.tasks ≡ tasks) (stuck : NeverStuck) where
  -- within a handler
  record Handling (h : Held) (pc : ℕ) (kept : Option ℕ) : Type 0 where
    shape : HasShape words tasks h
    keeps : h.kept ≡ Some kept
    can : CanBeKept code kept
    place : h.place ≡ Some pc
    high : versions_begin code ≤ pc
    stands : StandsAt code pc h.stack

  -- it ends within so many instructions, along a path
  record Handled (n : ℕ) (h : Held) (pc : ℕ) (kept : Option ℕ) (left : List ℕ) : Type 0 where
    run : Ended'
    ends : until n Handler code h ≡ Some run
    path : HandlerFrom code pc left run.path
    did : run.did ≡ Ended
    rests : IsResting words tasks code run.after
    back : run.after.place ≡ kept

  -- or it has taken so many along the first part of one
  abbrev Outcome : ℕ → Held → ℕ → Option ℕ → List ℕ → Type 0
  Outcome n h pc kept left = Handled n h pc kept left ⊎ ((path : List ℕ) × PartFrom code pc left path × (length path ≡ n))

  handled_end : (n : ℕ) (h : Held) (pc : ℕ) (kept : Option ℕ) (left : List ℕ) (x : Instr) (s : Stepping) → Handling h pc kept → step_of Handler code h ≡ Some s → At code pc x → x ≡ i.End → Does Handler pc h x s → Handled (suc n) h pc kept left
  handled_end n h pc kept left x s k step is e done =
      let f = finished pc h x s e done in
      let none = ((stack_at words tasks code v pc k.stands.within k.stands.depth k.stands.is).suits x is).ends e in
      let same : kept ≡ s.after.place = some_same kept s.after.place (sym k.keeps ∙ f.back) in
      record {
        run = alone pc s;
        ends = until_stops Handler code h pc s (ap (place_or code h.posts) k.place) step n (ap (goes_on Handler) f.did);
        path = PathEnds (is ∙ ap Some e);
        did = f.did;
        rests = record {
          shape = record { words_are = f.words_are ∙ k.shape.words_are; posts_are = f.posts_are ∙ k.shape.posts_are };
          place = subst (CanBeKept code) same k.can;
          free = f.free;
          empty = f.stack_is ∙ no_stack h.stack k.stands.depth k.stands.stack_is none;
        };
        back = sym same;
      }

  handles : (n : ℕ) (h : Held) (pc : ℕ) (kept : Option ℕ) (left : List ℕ) (k : Handling h pc kept) → Matches code pc k.stands.depth h.stack left → Outcome n h pc kept left
  handles zero h pc kept left k m = inr ([], Stops, refl)
  handles (suc n) h pc kept left k m =
      let fits = fits_by words tasks code h v counted k.shape (InVersion pc kept k.keeps k.can k.place k.high k.stands) in
      let next : next_of code h ≡ Some pc = ap (place_or code h.posts) k.place in
      let s = stuck code h Handler fits (kept, k.keeps) in
      let x = get_or code.instrs pc i.End in
      let is = instr_at code pc k.stands.within in
      let done = does Handler pc h x s.0 (acts_here Handler code h pc s.0 next s.1 x is) in
      elim (end_or x) [
        | inl e ↦ inl (handled_end n h pc kept left x s.0 k s.1 is e done)
        | inr on ↦ (let o = onward words tasks code v pc x h s.0 k.stands is k.high on done in
            let l = o.leads left m in
            let later : Handling s.0.after o.next kept = record {
              shape = record { words_are = o.stays.words ∙ k.shape.words_are; posts_are = o.stays.posts ∙ k.shape.posts_are };
              keeps = o.stays.kept ∙ k.keeps;
              can = k.can;
              place = o.place;
              high = o.high;
              stands = o.stands;
            } in
            elim (handles n s.0.after o.next kept l.0 later l.2) [
              | inl r ↦ inl (record {
                run = then pc o.outs r.run;
                ends = until_goes Handler code h pc s.0 next s.1 n o.outs r.run o.goes r.ends;
                path = PathOn x is l.1 r.path;
                did = r.did;
                rests = r.rests;
                back = r.back;
              })
              | inr p ↦ inr (pc ∷ p.0, LeadsOn x is l.1 p.1, ap suc p.2)
            ])
      ]

  -- a handler from a state between two sections
  pub handler_ends : (h : Held) (k entry : ℕ) (payload : ℤ) → IsResting words tasks code h → slice_get (version_entries code) k ≡ Some entry → HandlerSums code entry → HandlerEnds words tasks code h entry payload
  handler_ends h k entry payload rest at sums =
      let begins = version_entry code k entry at in
      let within = v.entries.within begins.0 entry begins.1 in
      let start = entered h entry payload in
      let handling : Handling start entry h.place = record {
        shape = record { words_are = rest.shape.words_are; posts_are = rest.shape.posts_are };
        keeps = refl;
        can = rest.place;
        place = refl;
        high = version_entry_high words tasks code v k entry at;
        stands = record {
          within = within;
          depth = 0;
          is = entry_depth words tasks code v entry within begins;
          stack_is = ap length rest.empty;
          counters = λ turn end under turns round d. absurd (entry_no_round words tasks code v entry turn end begins turns round);
        };
      } in
      let matches : Matches code entry 0 h.stack [] = record {
        loops = [];
        falls = tt;
        each = λ turn end turns round. entry_no_round words tasks code v entry turn end begins turns round;
        all = λ turn has. absurd has;
        counts = tt;
      } in
      elim (handles 1000000 start entry h.place [] handling matches) [
        | inl r ↦ record { run = r.run; ends = r.ends; path = r.path; did = r.did; rests = r.rests; back = r.back }
        | inr p ↦ absurd (let low = sums.few p.0 p.1 in omega (arith, low, p.2))
      ]
