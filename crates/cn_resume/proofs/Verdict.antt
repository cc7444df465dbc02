-- A condition that holds doesn't fail, and one that fails does so in one way.
use Rattle.std.proofs.Common.{◌≡◌, ℕ, zero, suc, ◌<◌, List, [], ◌∷◌, take, Some, refl, sym, ap, ◌∙◌, subst, arith, inl, inr}
use Rattle.std.specs.Prelude.{slice_get}
use Rattle.std.proofs.lemmas.Bool.{cases_order}
use Rattle.cat_program.specs.declared.outs.LogEntry.{LogEntry}
use Rattle.reference_run.specs.declared.schedule.Schedule.{Schedule}
use Rattle.reference_run.specs.Reference.{Setting, Moment, IsReference, HasFault}
use Rattle.cn_resume.specs.declared.fault.ImageKind.{ImageKind}
use Rattle.cn_resume.specs.declared.fault.ImageKind.TheVariants as kind
use Rattle.cn_resume.specs.Records.{IsFirstWithout}
use Rattle.cn_resume.specs.Fit.{Purpose, Holds, Fails, IsFit, IsFirstFault, PartsAt, EndsOtherwise, moment_in, rank, schedule_in}
use Rattle.cn_resume.proofs.Order.{one_rank}

-- a schedule has one run or one fault
pub record RunsAreOne : Type 0 where
  pub end : (s : Setting) (schedule : Schedule) (a b : Moment) → IsReference s schedule a → IsReference s schedule b → a ≡ b
  pub fault : (s : Setting) (schedule : Schedule) (i j : ℕ) → HasFault s schedule i → HasFault s schedule j → i ≡ j
  pub either : (s : Setting) (schedule : Schedule) (end : Moment) (i : ℕ) → IsReference s schedule end → HasFault s schedule i → ⊥

first_is_one : (P : ℕ → Type 0) (n i j : ℕ) → IsFirstWithout P n i → IsFirstWithout P n j → i ≡ j
first_is_one P n i j a b =
    elim (cases_order i j) [
      | inl same ↦ same
      | inr differ ↦ elim differ [
        | inl less ↦ absurd (a.without (b.before i less))
        | inr more ↦ absurd (b.without (a.before j more))
      ]
    ]

-- an element is told by a longer front
taken_get : (l : List LogEntry) (i j : ℕ) → i < j → slice_get (take j l) i ≡ slice_get l i
taken_get [] i zero lt = absurd (omega (arith, lt))
taken_get [] i (suc j) lt = refl
taken_get (x ∷ l) i zero lt = absurd (omega (arith, lt))
taken_get (x ∷ l) zero (suc j) lt = refl
taken_get (x ∷ l) (suc i) (suc j) lt = taken_get l i j (omega (arith, lt))

taken_at : (xs ys : List LogEntry) (i j : ℕ) → i < j → take j xs ≡ take j ys → slice_get xs i ≡ slice_get ys i
taken_at xs ys i j lt e = sym (taken_get xs i j lt) ∙ ap (λ (l : List LogEntry). slice_get l i) e ∙ taken_get ys i j lt

parts_are_one : (one other : List LogEntry) (i j : ℕ) → PartsAt one other i → PartsAt one other j → i ≡ j
parts_are_one one other i j a b =
    elim (cases_order i j) [
      | inl same ↦ same
      | inr differ ↦ elim differ [
        | inl less ↦ absurd (a.differ (taken_at one other i j less b.same))
        | inr more ↦ absurd (b.differ (taken_at one other j i more a.same))
      ]
    ]

not_itself : (m : Moment) (at : ℕ) → EndsOtherwise m m at → ⊥
not_itself m at other = elim other [
  | inl parts ↦ parts.differ refl
  | inr states ↦ states.1 refl
]

ends_are_one : (end said : Moment) (i j : ℕ) → EndsOtherwise end said i → EndsOtherwise end said j → i ≡ j
ends_are_one end said i j a b = elim a [
  | inl parts ↦ elim b [
    | inl other ↦ parts_are_one end.entries said.entries i j parts other
    | inr states ↦ absurd (parts.differ (ap (λ (l : List LogEntry). slice_get l i) states.0))
  ]
  | inr states ↦ elim b [
    | inl parts ↦ absurd (parts.differ (ap (λ (l : List LogEntry). slice_get l j) states.0))
    | inr other ↦ states.2 ∙ sym other.2
  ]
]

module _ (runs : RunsAreOne) (p : Purpose) (file : List ℕ) where
  pub fails_not : (k : ImageKind) (at : ℕ) → Fails p file k at → Holds p file k → ⊥
  fails_not kind.Head at fails holds = fails.0 holds
  fails_not kind.Size at fails holds = fails.0 holds
  fails_not kind.Tick at fails holds = fails.0 holds
  fails_not kind.Stored at fails holds = fails.0 holds
  fails_not kind.Slot at fails holds = fails.0 holds
  fails_not kind.Steps at fails holds = fails.0 holds
  fails_not kind.Place at fails holds = fails.0 holds
  fails_not kind.Record at fails holds = fails.without (holds at fails.within)
  fails_not kind.Done at fails holds = fails.without (holds at fails.within)
  fails_not kind.Schedule at fails holds = runs.either p.setting (schedule_in p file) holds.0 at holds.1 fails
  fails_not kind.State at fails holds =
      let same = runs.end p.setting (schedule_in p file) fails.0 (moment_in p file) fails.1 holds in
      not_itself (moment_in p file) at (subst (λ (m : Moment). EndsOtherwise m (moment_in p file) at) same fails.2)

  one_number : (k : ImageKind) (i j : ℕ) → Fails p file k i → Fails p file k j → i ≡ j
  one_number kind.Head i j a b = a.1 ∙ sym b.1
  one_number kind.Size i j a b = a.1 ∙ sym b.1
  one_number kind.Tick i j a b = a.1 ∙ sym b.1
  one_number kind.Stored i j a b = a.1 ∙ sym b.1
  one_number kind.Slot i j a b = a.1 ∙ sym b.1
  one_number kind.Steps i j a b = a.1 ∙ sym b.1
  one_number kind.Place i j a b = let e : Some i ≡ Some j = sym a.1 ∙ b.1 in cc
  one_number kind.Record i j a b = first_is_one _ _ i j a b
  one_number kind.Done i j a b = first_is_one _ _ i j a b
  one_number kind.Schedule i j a b = runs.fault p.setting (schedule_in p file) i j a b
  one_number kind.State i j a b =
      let same = runs.end p.setting (schedule_in p file) a.0 b.0 a.1 b.1 in
      ends_are_one b.0 (moment_in p file) i j (subst (λ (m : Moment). EndsOtherwise m (moment_in p file) i) same a.2) b.2

  pub fit_has_none : (k : ImageKind) (at : ℕ) → IsFit p file → IsFirstFault p file k at → ⊥
  fit_has_none k at fit fault = fails_not k at fault.fails (fit k)

  pub one_fault : (k j : ImageKind) (at by : ℕ) → IsFirstFault p file k at → IsFirstFault p file j by → (k ≡ j) × (at ≡ by)
  one_fault k j at by a b =
      elim (cases_order (rank k) (rank j)) [
        | inl same ↦
            (let kinds = one_rank k j same in
            (kinds, one_number j at by (subst (λ (x : ImageKind). Fails p file x at) kinds a.fails) b.fails))
        | inr differ ↦ elim differ [
          | inl less ↦ absurd (fails_not k at a.fails (b.earlier k less))
          | inr more ↦ absurd (fails_not j by b.fails (a.earlier j more))
        ]
      ]
