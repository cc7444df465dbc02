-- There is one verdict on a set, and one window.
use Rattle.std.proofs.Common.{◌≡◌, ℕ, ◌+◌, List, inl, inr, refl, ap, sym, ◌∙◌, arith}
use Rattle.std.proofs.lemmas.Bool.{cases_lt}
use Rattle.demand_core.specs.declared.Load.{Load}
use Rattle.demand_core.specs.declared.Base.{Base}
use Rattle.demand_core.specs.Demand.{dbf, block, IsWindow, IsFeasible}
use Rattle.feasibility.specs.declared.decide.Verdict.{Verdict}
use Rattle.feasibility.specs.declared.decide.Verdict.TheVariants.{Yes, F1, F2, F3}
use Rattle.feasibility.specs.Verdicts.{IsFirstLate, IsVerdict}

pub one_window : (p : ℕ) (loads : List Load) (v w : ℕ) → IsWindow p loads v → IsWindow p loads w → v ≡ w
one_window p loads v w first second =
    let less = first.least w second.positive second.of_p second.of_spacings in
    let more = second.least v first.positive first.of_p first.of_spacings in
    omega arith

-- ---- verdicts

one_late : (base : Base) (loads : List Load) (window m n : ℕ) → IsFirstLate base loads window m → IsFirstLate base loads window n → m ≡ n
one_late base loads window m n first second =
    elim (cases_lt m n) [
      | inl less ↦ let fits = second.before m first.from less in let late = first.late in absurd (omega arith)
      | inr le ↦
          elim (cases_lt n m) [
            | inl more ↦ let fits = first.before n second.from more in let late = second.late in absurd (omega arith)
            | inr ge ↦ omega arith
          ]
    ]

not_feasible : (base : Base) (loads : List Load) (window : ℕ) (v : Verdict) → IsFeasible base loads window → IsVerdict base loads window v → Yes ≡ v
not_feasible base loads window Yes fits is = refl
not_feasible base loads window (F1 left right) fits is = let energy = fits.energy in absurd (omega arith)
not_feasible base loads window (F2 left right) fits is = let room = fits.room in absurd (omega arith)
not_feasible base loads window (F3 at left right) fits is =
    elim (is.2) [
      | inl busy ↦ let time = fits.busy in absurd (omega arith)
      | inr late ↦
          let first = late.1 in
          let due = fits.due at first.some first.from first.within in
          let over = first.late in
          absurd (omega arith)
    ]

pub one_verdict : (base : Base) (loads : List Load) (window : ℕ) (v w : Verdict) → IsVerdict base loads window v → IsVerdict base loads window w → v ≡ w
one_verdict base loads window Yes w first second = not_feasible base loads window w first second
one_verdict base loads window (F1 a b) Yes first second = sym (not_feasible base loads window (F1 a b) second first)
one_verdict base loads window (F2 a b) Yes first second = sym (not_feasible base loads window (F2 a b) second first)
one_verdict base loads window (F3 at a b) Yes first second = sym (not_feasible base loads window (F3 at a b) second first)
one_verdict base loads window (F1 a b) (F1 c d) first second =
    let left : a ≡ c = omega arith in
    let right : b ≡ d = omega arith in
    cc
one_verdict base loads window (F1 a b) (F2 c d) first second = absurd (omega arith)
one_verdict base loads window (F1 a b) (F3 at c d) first second = absurd (omega arith)
one_verdict base loads window (F2 a b) (F1 c d) first second = absurd (omega arith)
one_verdict base loads window (F2 a b) (F2 c d) first second =
    let left : a ≡ c = omega arith in
    let right : b ≡ d = omega arith in
    cc
one_verdict base loads window (F2 a b) (F3 at c d) first second = absurd (omega arith)
one_verdict base loads window (F3 at a b) (F1 c d) first second = absurd (omega arith)
one_verdict base loads window (F3 at a b) (F2 c d) first second = absurd (omega arith)
one_verdict base loads window (F3 m a b) (F3 n c d) first second =
    elim (first.2) [
      | inl busy ↦
          elim (second.2) [
            | inl same ↦
                let at : m ≡ n = omega arith in
                let left : a ≡ c = omega arith in
                let right : b ≡ d = omega arith in
                cc
            | inr late ↦ absurd (omega arith)
          ]
      | inr late ↦
          elim (second.2) [
            | inl busy ↦ absurd (omega arith)
            | inr other ↦
                let at : m ≡ n = one_late base loads window m n late.1 other.1 in
                let left : a ≡ c = late.2 ∙ ap (λ l. dbf loads l + block base loads l) at ∙ sym other.2 in
                let right : b ≡ d = omega arith in
                cc
          ]
    ]
