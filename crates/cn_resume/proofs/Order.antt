-- The conditions in their order.
use Rattle.std.proofs.Common.{◌≡◌, ℕ, ◌+◌, ◌<◌, List, [], ◌∷◌, get_or, inl, inr, refl, sym, ap, ◌∙◌, subst, arith}
use Rattle.std.proofs.lemmas.Bool.{cases_lt}
use Rattle.cn_resume.specs.declared.fault.ImageKind.{ImageKind}
use Rattle.cn_resume.specs.declared.fault.ImageKind.TheVariants as kind
use Rattle.cn_resume.specs.Fit.{Purpose, Holds, HoldsBefore, IsFit, rank}

-- the kinds in their order
abbrev kinds : List ImageKind
kinds = kind.Head ∷ kind.Size ∷ kind.Tick ∷ kind.Stored ∷ kind.Slot ∷ kind.Steps ∷ kind.Place ∷ kind.Record ∷ kind.Done ∷ kind.Schedule ∷ []

-- the kind of a rank
abbrev kind_of : ℕ → ImageKind
kind_of n = get_or kinds n kind.State

kind_again : (k : ImageKind) → kind_of (rank k) ≡ k
kind_again kind.Head = refl
kind_again kind.Size = refl
kind_again kind.Tick = refl
kind_again kind.Stored = refl
kind_again kind.Slot = refl
kind_again kind.Steps = refl
kind_again kind.Place = refl
kind_again kind.Record = refl
kind_again kind.Done = refl
kind_again kind.Schedule = refl
kind_again kind.State = refl

pub one_rank : (a b : ImageKind) → rank a ≡ rank b → a ≡ b
one_rank a b same = sym (kind_again a) ∙ ap kind_of same ∙ kind_again b

-- nothing comes before the first one
pub none_before : (p : Purpose) (file : List ℕ) → HoldsBefore p file kind.Head
none_before p file earlier lt = absurd (omega (arith, lt))

-- one condition more
pub one_further : (p : Purpose) (file : List ℕ) (a b : ImageKind) → rank b ≡ rank a + 1 → HoldsBefore p file a → Holds p file a → HoldsBefore p file b
one_further p file a b next before here earlier lt =
    elim (cases_lt (rank earlier) (rank a)) [
      | inl less ↦ before earlier less
      | inr more ↦ subst (Holds p file) (one_rank a earlier (omega arith)) here
    ]

-- the last one comes last
pub highest : (k : ImageKind) → rank k < 11
highest kind.Head = omega arith
highest kind.Size = omega arith
highest kind.Tick = omega arith
highest kind.Stored = omega arith
highest kind.Slot = omega arith
highest kind.Steps = omega arith
highest kind.Place = omega arith
highest kind.Record = omega arith
highest kind.Done = omega arith
highest kind.Schedule = omega arith
highest kind.State = omega arith

-- all conditions
pub all_hold : (p : Purpose) (file : List ℕ) → HoldsBefore p file kind.State → Holds p file kind.State → IsFit p file
all_hold p file before here k =
    elim (cases_lt (rank k) 10) [
      | inl less ↦ before k less
      | inr more ↦ subst (Holds p file) (one_rank kind.State k (let most = highest k in omega arith)) here
    ]
