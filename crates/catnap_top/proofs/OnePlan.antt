-- `plan` over a source and a profile comes to one answer.
use Rattle.std.proofs.Common.{◌≡◌, ℕ, ◌++◌, List, Ok, Err, refl, ap, sym, ◌∙◌, subst}
use Rattle.cat_program.specs.Checked.{Checked}
use Rattle.nv_memory.specs.declared.device.Device.{Device}
use Rattle.nv_memory.specs.declared.layout.Layout.{Layout}
use Rattle.nv_memory.specs.Layout.{lines_of}
use Rattle.cost_bounds.specs.BoundsValue.{BoundsValue}
use Rattle.cost_bounds.specs.Greatest.{AreBounds}
use Rattle.degradation.specs.Placed.{IsLayoutOf}
use Rattle.same_program.specs.Same.{IsSame}
use Rattle.same_program.specs.Setting.{AreSettings}
use Rattle.cn_plan.specs.declared.answer.Least.{Least}
use Rattle.cn_plan.specs.declared.answer.Least.TheVariants.{Found, Never}
use Rattle.cn_plan.specs.declared.answer.LeastFault.{LeastFault}
use Rattle.cn_plan.specs.declared.answer.LeastFault.TheVariants as least
use Rattle.cn_plan.specs.Least.{IsLeast, IsLeastFault}
use Rattle.cn_plan.specs.Plan.{harvest_line, below_line, plan_text}
use Rattle.catnap_top.specs.declared.status.Status.TheVariants.{Done}
use Rattle.catnap_top.specs.Answer.{Answer}
use Rattle.catnap_top.specs.Alike.{Agree, IsSameProgram}
use Rattle.catnap_top.specs.Files.{program_in, device_in}
use Rattle.catnap_top.specs.Look.{Stops, fails}
use Rattle.catnap_top.specs.Plan.{Plans, plan_in, planned, planning, stop_of_plan, window_fault}
use Rattle.catnap_top.proofs.Looks.{by_agree, then_agree, found_agree}
use Rattle.catnap_top.proofs.OneChoice.{back, lines_same}
use Rattle.catnap_top.proofs.Programs.{text_same}

-- ---- what ends it early

pub plan_stops : (p : Checked) (d : Device) (l : Layout) (b : BoundsValue) (f : LeastFault) → IsLayoutOf p d l → AreBounds p d (lines_of l) b
    → IsLeastFault p b d f → Stops (plan_in p d) (stop_of_plan f)
plan_stops p d l b (least.WindowTooLong spacing) layout bounds h = fails spacing (record { l = l; b = b; layout = layout; bounds = bounds; plan = h }) refl
plan_stops p d l b least.NoMemory layout bounds h = tt

-- ---- one plan

abbrev pub OneLeast : Type 0
OneLeast = (p q : Checked) (d : Device) (lines : ℕ) (b c : BoundsValue) → AreSettings p q d lines b c
    → (x y : Least) → IsLeast p b d lines x → IsLeast q c d lines y → x ≡ y

abbrev pub OneSpacing : Type 0
OneSpacing = (p q : Checked) (d : Device) (lines : ℕ) (b c : BoundsValue) → AreSettings p q d lines b c
    → (s t : ℕ) → IsLeastFault p b d (least.WindowTooLong s) → IsLeastFault q c d (least.WindowTooLong t) → s ≡ t

abbrev pub LeastOrSpacing : Type 0
LeastOrSpacing = (p q : Checked) (d : Device) (lines : ℕ) (b c : BoundsValue) → AreSettings p q d lines b c
    → (x : Least) (s : ℕ) → IsLeast p b d lines x → IsLeastFault q c d (least.WindowTooLong s) → ⊥

-- programs that say the same have one plan on a device, or none for one spacing
abbrev pub PlansAgree : Type 0
PlansAgree = (p q : Checked) (d : Device) → IsSameProgram p q → Agree (λ (x y : Least). x ≡ y) (Plans p d) (Plans q d)

settings : (p q : Checked) (d : Device) (l m : Layout) (b c : BoundsValue) → IsSameProgram p q → IsLayoutOf p d l → IsLayoutOf q d m
    → AreBounds p d (lines_of l) b → AreBounds q d (lines_of m) c → AreSettings p q d (lines_of l) b c
settings p q d l m b c are first second bounds others = record {
  checked = are.first;
  same = are.same;
  first = bounds;
  second = subst (λ n. AreBounds q d n c) (sym (lines_same p q d l m are.same first second)) others;
}

module _ (plan : OneLeast) (spacing : OneSpacing) (either : LeastOrSpacing) where
  plan_or_not : (p q : Checked) (d : Device) → IsSameProgram p q → (x : Least) (s : ℕ) → Plans p d (Ok x) → Plans q d (Err s) → ⊥
  plan_or_not p q d are x s first second =
      either p q d (lines_of first.l) first.b second.b
      (settings p q d first.l second.l first.b second.b are first.layout second.layout first.bounds second.bounds) x s first.plan second.plan

  pub plans_agree : PlansAgree
  plans_agree p q d are (Ok x) (Ok y) first second =
      plan p q d (lines_of first.l) first.b second.b
      (settings p q d first.l second.l first.b second.b are first.layout second.layout first.bounds second.bounds) x y first.plan
      (subst (λ n. IsLeast q second.b d n y) (sym (lines_same p q d first.l second.l are.same first.layout second.layout)) second.plan)
  plans_agree p q d are (Ok x) (Err t) first second = plan_or_not p q d are x t first second
  plans_agree p q d are (Err s) (Ok y) first second =
      plan_or_not q p d (record { first = are.second; second = are.first; same = back p q are.same }) y s second first
  plans_agree p q d are (Err s) (Err t) first second =
      spacing p q d (lines_of first.l) first.b second.b
      (settings p q d first.l second.l first.b second.b are first.layout second.layout first.bounds second.bounds) s t first.plan second.plan

-- ---- one answer

plan_text_same : (p q : Checked) (x : Least) → IsSame p q → plan_text p x ≡ plan_text q x
plan_text_same p q (Found h chosen below) same = ap (λ text. harvest_line h ++ (text ++ below_line below)) (text_same p q chosen same)
plan_text_same p q (Never verdict) same = refl

planned_same : (p q : Checked) (x y : Least) → IsSame p q → x ≡ y → planned p x ≡ planned q y
planned_same p q x y same e = ap (planned p) e ∙ ap (λ text. record { status = Done; text = text }) (plan_text_same p q y same)

module _ (programs : (bytes : List ℕ) → Agree IsSameProgram (program_in bytes) (program_in bytes))
    (devices : (bytes : List ℕ) → Agree (λ (d e : Device). d ≡ e) (device_in bytes) (device_in bytes))
    (agree : PlansAgree) where
  plans : (p q : Checked) (d e : Device) → IsSameProgram p q → d ≡ e → Agree (λ (x y : Least). x ≡ y) (plan_in p d) (plan_in q e)
  plans p q d e are same =
      subst (λ e. Agree (λ x y. x ≡ y) (plan_in p d) (plan_in q e)) same
      (by_agree (λ x y. x ≡ y) window_fault (Plans p d) (Plans q d) (agree p q d are))

  pub one_planning : (source profile : List ℕ) → Agree (λ (a b : Answer). a ≡ b) (planning source profile) (planning source profile)
  one_planning source profile =
      then_agree IsSameProgram (λ a b. a ≡ b) _ _ _ _ (programs source)
      (λ p q are. then_agree (λ d e. d ≡ e) (λ a b. a ≡ b) _ _ _ _ (devices profile)
      (λ d e same. then_agree (λ x y. x ≡ y) (λ a b. a ≡ b) _ _ _ _ (plans p q d e are same)
      (λ x y equal. found_agree (λ a b. a ≡ b) _ _ (planned_same p q x y are.same equal))))
