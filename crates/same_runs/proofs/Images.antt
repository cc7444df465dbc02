-- What is said of a saved image for programs that say the same.
use Rattle.std.proofs.Common.{◌≡◌, ◌<◌, ℕ, inl, inr, List, [], length, take, Option, Some, None, refl, ap, sym, ◌∙◌, subst}
use Rattle.std.specs.Prelude.{◌↔◌, slice_get, unwrap_or}
use Rattle.std.specs.Option.{option_and_then}
use Rattle.cat_program.specs.declared.outs.LogEntry.{LogEntry}
use Rattle.cat_program.specs.declared.outs.LogEntry.TheVariants.{Out, Ran}
use Rattle.cat_program.specs.Checked.{Checked, rest_at}
use Rattle.cat_program.specs.Meaning.{TaskState}
use Rattle.nv_memory.specs.declared.layout.Layout.{Layout}
use Rattle.nv_log.specs.Record.{IsOf}
use Rattle.reference_run.specs.Reference.{Setting, Moment, IsReference}
use Rattle.cn_resume.specs.declared.fault.ImageKind.{ImageKind}
use Rattle.cn_resume.specs.declared.fault.ImageKind.TheVariants as kind
use Rattle.cn_resume.specs.declared.fault.ImageFault.{ImageFault}
use Rattle.cn_resume.specs.declared.fault.ImageFault.TheVariants.{BadImage, NoMemory}
use Rattle.cn_resume.specs.Fit.{Purpose, purpose_of, slot_in, moment_in, schedule_in, HasPlace, IsRecordIn, HasRun, Holds, IsFit, EndsOtherwise, Fails, IsFirstFault, IsRefused}
use Rattle.same_program.specs.Alike.{ListIsLike, neither, StateIsLike}
use Rattle.same_program.specs.Own.{IsOwnList}
use Rattle.same_runs.specs.Alike.{AreSameSettings, MomentIsLike, AreSamePurposes}
use Rattle.same_runs.proofs.Given.{SameSteps, Likeness, SamePlaces, OwnLists}
use Rattle.same_runs.proofs.Runs.{same_turned, reference_like, fault_like, same_runs}
use Rattle.same_runs.proofs.Lists.{end_own}

pub record Laws : Type 0 where
  pub steps : SameSteps
  pub likeness : Likeness
  pub places : SamePlaces
  pub lists : OwnLists

-- ---- states of one program that are alike to one of another

state_one : (lists : OwnLists) (p : Checked) (s t : TaskState) → IsOwnList p s.current → IsOwnList p t.current → StateIsLike s t → s ≡ t
state_one lists p s t own also like =
    let list = lists.one p s.current t.current own also like.current in
    λ i. record { store = like.store i; current = list i }

moment_one : (m n : Moment) → m.state ≡ n.state → m.steps ≡ n.steps → m.entries ≡ n.entries → m ≡ n
moment_one m n state steps entries = λ i. record { state = state i; steps = steps i; entries = entries i }

-- ---- what a purpose's program has to do with it

module _ (laws : Laws) (layout : Layout) (cap life : ℕ) where
  abbrev of : Setting → Purpose
  of s = purpose_of s layout cap life

  module _ (file : List ℕ) where
    abbrev said : Setting → Moment
    said s = moment_in (of s) file

    said_own : (s : Setting) → IsOwnList s.program (said s).state.current
    said_own s = by (slot_in (of s) file).pc
      where
        by : (pc : Option ℕ) → IsOwnList s.program (option_and_then (rest_at s.program) pc)
        by None = tt
        by (Some pc) = laws.lists.place s.program pc

    module _ (s t : Setting) (same : AreSameSettings s t) where
      said_like : MomentIsLike (said s) (said t)
      said_like = record { state = record { store = refl; current = by (slot_in (of s) file).pc }; steps = refl; entries = refl }
        where
          by : (pc : Option ℕ) → ListIsLike (option_and_then (rest_at s.program) pc) (option_and_then (rest_at t.program) pc)
          by None = neither
          by (Some pc) = laws.places.place s.program t.program pc same.programs

      place_to : HasPlace (of s) file → HasPlace (of t) file
      place_to place =
          let there = laws.places.rests s.program t.program (slot_in (of s) file).pc place.0 same.programs place.1 in
          (there.other, there.rests)

      version_to : (entry : LogEntry) → IsOf s.program entry → IsOf t.program entry
      version_to (Out channel value) is = tt
      version_to (Ran event version steps start index) is =
          subst (λ (l : List (List ℕ)). (event < length l) × (version < length (unwrap_or (slice_get l event) []))) same.programs.events is

      record_to : (k : ℕ) → IsRecordIn (of s) file k → IsRecordIn (of t) file k
      record_to k is =
          record {
            entry = is.entry;
            spelled = record { exists = version_to is.entry is.spelled.exists; fits = is.spelled.fits; bytes_are = is.spelled.bytes_are };
            before = is.before;
          }

      run_to : HasRun (of s) file → HasRun (of t) file
      run_to run =
          let there = reference_like laws.steps s t same (schedule_in (of s) file) (said s) run in
          let own = end_own laws.lists t (schedule_in (of t) file) there.other there.run in
          let like = laws.likeness.onward there.other.state (said s).state (said t).state (laws.likeness.turned (said s).state there.other.state there.like.state) said_like.state in
          let state = state_one laws.lists t.program there.other.state (said t).state own (said_own t) like in
          let is : there.other ≡ said t = moment_one there.other (said t) state (sym there.like.steps) (sym there.like.entries) in
          subst (λ m. IsReference t (schedule_in (of t) file) m) is there.run

      holds_to : (k : ImageKind) → Holds (of s) file k → Holds (of t) file k
      holds_to kind.Head holds = holds
      holds_to kind.Size holds = holds
      holds_to kind.Tick holds = holds
      holds_to kind.Stored holds = holds
      holds_to kind.Slot holds = holds
      holds_to kind.Steps holds = holds
      holds_to kind.Place holds = place_to holds
      holds_to kind.Record holds = λ k within. record_to k (holds k within)
      holds_to kind.Done holds = holds
      holds_to kind.Schedule holds = (same_runs laws.steps s t (schedule_in (of s) file) same).0 holds
      holds_to kind.State holds = run_to holds

      otherwise_to : (end other : Moment) (at : ℕ) → IsOwnList s.program end.state.current → MomentIsLike end other → EndsOtherwise end (said s) at → EndsOtherwise other (said t) at
      otherwise_to end other at own like (inl parts) =
          inl (record { same = ap (λ l. take at l) (sym like.entries) ∙ parts.same; differ = λ e. parts.differ (ap (λ l. slice_get l at) like.entries ∙ e) })
      otherwise_to end other at own like (inr state) =
          inr (
            sym like.entries ∙ state.0,
            (λ e.
                let back = laws.likeness.turned (said s).state (said t).state said_like.state in
                let alike = laws.likeness.onward end.state (said t).state (said s).state (subst (λ x. StateIsLike end.state x) e like.state) back in
                state.1 (state_one laws.lists s.program end.state (said s).state own (said_own s) alike)),
            state.2,
          )

    module _ (s t : Setting) (same : AreSameSettings s t) where
      fails_to : (k : ImageKind) (at : ℕ) → Fails (of s) file k at → Fails (of t) file k at
      fails_to kind.Head at fails = fails
      fails_to kind.Size at fails = fails
      fails_to kind.Tick at fails = fails
      fails_to kind.Stored at fails = fails
      fails_to kind.Slot at fails = fails
      fails_to kind.Steps at fails = fails
      fails_to kind.Place at fails = ((λ place. fails.0 (place_to t s (same_turned s t same) place)), fails.1)
      fails_to kind.Record at fails =
          record {
            within = fails.within;
            before = λ k within. record_to s t same k (fails.before k within);
            without = λ is. fails.without (record_to t s (same_turned s t same) at is);
          }
      fails_to kind.Done at fails = fails
      fails_to kind.Schedule at fails = fault_like laws.steps laws.likeness s t same (schedule_in (of s) file) at fails
      fails_to kind.State at fails =
          let there = reference_like laws.steps s t same (schedule_in (of s) file) fails.0 fails.1 in
          let own = end_own laws.lists s (schedule_in (of s) file) fails.0 fails.1 in
          (there.other, there.run, otherwise_to s t same fails.0 there.other at own there.like fails.2)

-- ---- the law

module _ (laws : Laws) (p q : Purpose) (same : AreSamePurposes p q) where
  -- p, with the memory and the life of q
  by_other : p ≡ purpose_of p.setting q.layout q.cap q.life
  by_other = λ i. record { setting = p.setting; layout = same.layout i; cap = same.cap i; life = same.life i }

  fit_to : (file : List ℕ) → IsFit p file → IsFit q file
  fit_to file fit = λ k. holds_to laws q.layout q.cap q.life file p.setting q.setting same.settings k (subst (λ x. Holds x file k) by_other (fit k))

  fault_to : (file : List ℕ) (k : ImageKind) (at : ℕ) → IsFirstFault p file k at → IsFirstFault q file k at
  fault_to file k at fault =
      let first : IsFirstFault (purpose_of p.setting q.layout q.cap q.life) file k at = subst (λ x. IsFirstFault x file k at) by_other fault in
      record {
        earlier = λ j lower. holds_to laws q.layout q.cap q.life file p.setting q.setting same.settings j (first.earlier j lower);
        fails = fails_to laws q.layout q.cap q.life file p.setting q.setting same.settings k at first.fails;
      }

  refused_to : (file : List ℕ) (fault : ImageFault) → IsRefused p file fault → IsRefused q file fault
  refused_to file (BadImage k at) refused = fault_to file k at refused
  refused_to file NoMemory refused = refused

purposes_turned : (p q : Purpose) → AreSamePurposes p q → AreSamePurposes q p
purposes_turned p q same = record { settings = same_turned p.setting q.setting same.settings; layout = sym same.layout; cap = sym same.cap; life = sym same.life }

pub same_fit : Laws → (p q : Purpose) (file : List ℕ) → AreSamePurposes p q → IsFit p file ↔ IsFit q file
same_fit laws p q file same = (fit_to laws p q same file, fit_to laws q p (purposes_turned p q same) file)

pub same_fault : Laws → (p q : Purpose) (file : List ℕ) (k : ImageKind) (at : ℕ) → AreSamePurposes p q → IsFirstFault p file k at ↔ IsFirstFault q file k at
same_fault laws p q file k at same = (fault_to laws p q same file k at, fault_to laws q p (purposes_turned p q same) file k at)

pub same_refused : Laws → (p q : Purpose) (file : List ℕ) (fault : ImageFault) → AreSamePurposes p q → IsRefused p file fault ↔ IsRefused q file fault
same_refused laws p q file fault same = (refused_to laws p q same file fault, refused_to laws q p (purposes_turned p q same) file fault)
