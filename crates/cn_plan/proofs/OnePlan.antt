-- There is one least harvest, and one plan.
use Rattle.std.proofs.Common.{◌≡◌, ℕ, ◌+◌, ◌-◌, List, Option, Some, None, inl, inr, refl, ap, sym, ◌∙◌, subst, arith}
use Rattle.std.specs.Prelude.{◌≢◌}
use Rattle.std.specs.Int.{◌∣◌}
use Rattle.std.proofs.lemmas.Bool.{cases_lt}
use Rattle.std.proofs.lemmas.List.Elements.{All-take}
use Rattle.cat_program.specs.Checked.{Checked}
use Rattle.nv_memory.specs.declared.device.Device.{Device}
use Rattle.cost_bounds.specs.BoundsValue.{BoundsValue}
use Rattle.demand_core.specs.declared.Load.{Load}
use Rattle.demand_core.specs.declared.Base.{Base}
use Rattle.demand_core.specs.Demand.{IsWindow}
use Rattle.demand_core.specs.Multiples.{IsTooLong}
use Rattle.feasibility.specs.declared.decide.Verdict.{Verdict}
use Rattle.feasibility.specs.declared.choose.ChooseFault.{ChooseFault}
use Rattle.feasibility.specs.declared.choose.ChooseFault.TheVariants as choose
use Rattle.feasibility.specs.Chosen.{vector_loads}
use Rattle.degradation.specs.declared.chosen.Chosen.{Chosen}
use Rattle.degradation.specs.declared.supply.Supply.{Supply}
use Rattle.degradation.specs.Choice.{supply_of, tables_of, IsChoice, IsNoChoice}
use Rattle.same_program.specs.Setting.{AreSettings}
use Rattle.cn_plan.specs.declared.answer.Least.{Least}
use Rattle.cn_plan.specs.declared.answer.Least.TheVariants.{Found, Never}
use Rattle.cn_plan.specs.declared.answer.LeastFault.TheVariants.{WindowTooLong}
use Rattle.cn_plan.specs.Harvest.{with_harvest, IsCertificate, IsLeastHarvest, IsNoHarvest}
use Rattle.cn_plan.specs.Whole.{whole_loads, device_base, supply_with, IsWholeWindow}
use Rattle.cn_plan.specs.Least.{IsFound, IsNever, IsLeast, IsLeastFault}
use Rattle.cn_plan.proofs.Verdicts.{one_window, one_verdict}

-- ---- the least harvest of a set

one_harvest : (base : Base) (loads : List Load) (window q r : ℕ) (below also : Option Verdict) → IsLeastHarvest base loads window q below
    → IsLeastHarvest base loads window r also → q ≡ r
one_harvest base loads window q r below also first second =
    elim (cases_lt q r) [
      | inl less ↦ absurd (second.least q less first.enough)
      | inr le ↦
          elim (cases_lt r q) [
            | inl more ↦ absurd (first.least r more second.enough)
            | inr ge ↦ omega arith
          ]
    ]

one_certificate : (base : Base) (loads : List Load) (window q : ℕ) (below also : Option Verdict) → IsCertificate base loads window q below
    → IsCertificate base loads window q also → below ≡ also
one_certificate base loads window q None None first second = refl
one_certificate base loads window q None (Some w) first second = let some = second.0 in absurd (omega arith)
one_certificate base loads window q (Some v) None first second = let some = first.0 in absurd (omega arith)
one_certificate base loads window q (Some v) (Some w) first second = ap Some (one_verdict (with_harvest base (q - 1)) loads window v w first.1 second.1)

found_same : (q r : ℕ) (x y : Chosen) (below also : Option Verdict) → q ≡ r → x ≡ y → below ≡ also → Found q x below ≡ Found r y also
found_same q r x y below also a b c = ap (λ n. Found n x below) a ∙ ap (λ v. Found r v below) b ∙ ap (λ v. Found r y v) c

-- ---- programs that say the same

abbrev pub OneBounds : Type 0
OneBounds = (p q : Checked) (d : Device) (lines : ℕ) (b c : BoundsValue) → AreSettings p q d lines b c → b ≡ c

abbrev pub OneChoice : Type 0
OneChoice = (p q : Checked) (d : Device) (supply : Supply) (lines : ℕ) (b c : BoundsValue) → AreSettings p q d lines b c
    → (x y : Chosen) → IsChoice p b d supply lines x → IsChoice q c d supply lines y → x ≡ y

abbrev pub OneReason : Type 0
OneReason = (p q : Checked) (d : Device) (supply : Supply) (lines : ℕ) (b c : BoundsValue) → AreSettings p q d lines b c
    → (f g : ChooseFault) → IsNoChoice p b d supply f → IsNoChoice q c d supply g → f ≢ choose.NoMemory → g ≢ choose.NoMemory → f ≡ g

pub one_spacing : OneReason → (p q : Checked) (d : Device) (lines : ℕ) (b c : BoundsValue) → AreSettings p q d lines b c
    → (s t : ℕ) → IsLeastFault p b d (WindowTooLong s) → IsLeastFault q c d (WindowTooLong t) → s ≡ t
one_spacing reason p q d lines b c are s t first second =
    same_spacing (reason p q d (supply_of d) lines b c are (choose.WindowTooLong s) (choose.WindowTooLong t) first second (λ e. absurd (cc)) (λ e. absurd (cc)))
  where
    same_spacing : choose.WindowTooLong s ≡ choose.WindowTooLong t → s ≡ t
    same_spacing e = cc

module _ (bounds : OneBounds) where
  module _ (p q : Checked) (d : Device) (lines : ℕ) (b c : BoundsValue) (are : AreSettings p q d lines b c) where
    same_bounds : b ≡ c
    same_bounds = bounds p q d lines b c are

    base_same : device_base b d ≡ device_base c d
    base_same = ap (λ (x : BoundsValue). device_base x d) same_bounds

    loads_same : whole_loads p b ≡ whole_loads q c
    loads_same =
        ap (λ (x : BoundsValue). whole_loads p x) same_bounds
        ∙ ap (λ h. vector_loads (tables_of h c.jobs) p.mentions 0) are.same.headers
        ∙ ap (λ m. vector_loads (tables_of q.headers c.jobs) m 0) are.same.mentions

    -- what the other program's is, is this one's
    back : (P : Base → List Load → Type 0) → P (device_base c d) (whole_loads q c) → P (device_base b d) (whole_loads p b)
    back P h = subst (λ x. P x (whole_loads p b)) (sym base_same) (subst (λ l. P (device_base c d) l) (sym loads_same) h)

    window_same : (v w : ℕ) → IsWholeWindow p b d v → IsWholeWindow q c d w → w ≡ v
    window_same v w first second = sym (one_window d.p (whole_loads p b) v w first.is (back (λ base loads. IsWindow d.p loads w) second.is))

    never_same : (v w : Verdict) → IsNever p b d v → IsNever q c d w → v ≡ w
    never_same v w first second =
        let none : IsNoHarvest (device_base b d) (whole_loads p b) first.window w =
        subst (λ n. IsNoHarvest (device_base b d) (whole_loads p b) n w) (window_same first.window second.window first.is_window second.is_window)
        (back (λ base loads. IsNoHarvest base loads second.window w) second.none) in
        one_verdict (with_harvest (device_base b d) 1000000) (whole_loads p b) first.window v w first.none.greatest none.greatest

    found_not_never : (h : ℕ) (x : Chosen) (below : Option Verdict) (w : Verdict) → IsFound p b d lines h x below → IsNever q c d w → ⊥
    found_not_never h x below w first second =
        let none : IsNoHarvest (device_base b d) (whole_loads p b) first.window w =
        subst (λ n. IsNoHarvest (device_base b d) (whole_loads p b) n w) (window_same first.window second.window first.is_window second.is_window)
        (back (λ base loads. IsNoHarvest base loads second.window w) second.none) in
        none.none h first.least.within first.least.enough

    never_not_found : (v : Verdict) (r : ℕ) (y : Chosen) (also : Option Verdict) → IsNever p b d v → IsFound q c d lines r y also → ⊥
    never_not_found v r y also first second =
        let least : IsLeastHarvest (device_base b d) (whole_loads p b) first.window r also =
        subst (λ n. IsLeastHarvest (device_base b d) (whole_loads p b) n r also) (window_same first.window second.window first.is_window second.is_window)
        (back (λ base loads. IsLeastHarvest base loads second.window r also) second.least) in
        first.none.none r least.within least.enough

    found_is_found : OneChoice → (h r : ℕ) (x y : Chosen) (below also : Option Verdict) → IsFound p b d lines h x below → IsFound q c d lines r y also
        → Found h x below ≡ Found r y also
    found_is_found choice h r x y below also first second =
        let least : IsLeastHarvest (device_base b d) (whole_loads p b) first.window r also =
        subst (λ n. IsLeastHarvest (device_base b d) (whole_loads p b) n r also) (window_same first.window second.window first.is_window second.is_window)
        (back (λ base loads. IsLeastHarvest base loads second.window r also) second.least) in
        let same : h ≡ r = one_harvest (device_base b d) (whole_loads p b) first.window h r below also first.least least in
        found_same h r x y below also same
        (choice p q d (supply_with d h) lines b c are x y first.is.choice (subst (λ n. IsChoice q c d (supply_with d n) lines y) (sym same) second.is.choice))
        (one_certificate (device_base b d) (whole_loads p b) first.window h below also first.least.certificate
        (subst (λ n. IsCertificate (device_base b d) (whole_loads p b) first.window n also) (sym same) least.certificate))

    window_or_spacing : (w s : ℕ) → IsWholeWindow p b d w → IsLeastFault q c d (WindowTooLong s) → ⊥
    window_or_spacing w s is fault =
        let long : IsTooLong d.p (whole_loads p b) 1000000 s = back (λ base loads. IsTooLong d.p loads 1000000 s) fault in
        let over = long.exceeds w (is.is.positive, is.is.of_p, All-take (λ (x : Load). x.spacing ∣ w) (long.index + 1) (whole_loads p b) is.is.of_spacings) in
        let short = is.short in
        omega arith

  pub one_plan : OneChoice → (p q : Checked) (d : Device) (lines : ℕ) (b c : BoundsValue) → AreSettings p q d lines b c
      → (x y : Least) → IsLeast p b d lines x → IsLeast q c d lines y → x ≡ y
  one_plan choice p q d lines b c are (Found h x below) (Found r y also) first second = found_is_found p q d lines b c are choice h r x y below also first second
  one_plan choice p q d lines b c are (Found h x below) (Never w) first second = absurd (found_not_never p q d lines b c are h x below w first second)
  one_plan choice p q d lines b c are (Never v) (Found r y also) first second = absurd (never_not_found p q d lines b c are v r y also first second)
  one_plan choice p q d lines b c are (Never v) (Never w) first second = ap Never (never_same p q d lines b c are v w first second)

  pub plan_or_spacing : (p q : Checked) (d : Device) (lines : ℕ) (b c : BoundsValue) → AreSettings p q d lines b c
      → (x : Least) (s : ℕ) → IsLeast p b d lines x → IsLeastFault q c d (WindowTooLong s) → ⊥
  plan_or_spacing p q d lines b c are (Found h x below) s first second = window_or_spacing p q d lines b c are first.window s first.is_window second
  plan_or_spacing p q d lines b c are (Never v) s first second = window_or_spacing p q d lines b c are first.window s first.is_window second
