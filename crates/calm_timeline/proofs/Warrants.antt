-- What each choice of the policy says of the decision point.
use Rattle.std.proofs.Common.{◌≡◌, ℕ, ◌<◌, ◌≤◌, ◌⊎◌, inl, inr, arith, refl, sym, subst, Bool, true, false, ◌&&◌, not, nat_le, Option, Some, None, if◌then◌else◌}
use Rattle.std.proofs.lemmas.Bool.Decides.{nat_tests}
use Rattle.event_queue.specs.declared.queue.Due.{Due}
use Rattle.cn_scheduler.specs.declared.plan.Plan.{Plan}
use Rattle.cn_scheduler.specs.declared.choice.Choice.{Choice}
use Rattle.cn_scheduler.specs.declared.choice.Choice.TheVariants.{Job, Section, Checkpoint, Wake, Sleep}
use Rattle.cn_scheduler.specs.InForce.{need_at, level_at, units_of}
use Rattle.cn_scheduler.specs.Point.{Point}
use Rattle.cn_scheduler.specs.Policy.{has_step, choice_with}

-- nothing is pending, or what is next is too dear
abbrev pub IsShort : Plan → Point → Option Due → Type 0
IsShort plan p next = (next ≡ None) ⊎ ((due : Due) × (next ≡ Some due) × (p.board.stored < units_of plan.rows due))

abbrev pub Warrants : Plan → Point → Option Due → Choice → Type 0
Warrants plan p next Section = (next ≡ None) × (need_at plan.rows p.board.tick ≤ p.board.stored)
Warrants plan p next (Job due) = (next ≡ Some due) × (units_of plan.rows due ≤ p.board.stored)
Warrants plan p next Checkpoint = (p.dirty ≡ true) × IsShort plan p next
Warrants plan p next Wake = (next ≡ None) × (p.board.on ≡ false) × (level_at plan.rows p.board.tick ≤ p.board.stored)
Warrants plan p next Sleep = (p.dirty ≡ false) × IsShort plan p next

left_warrant : (plan : Plan) (p : Point) (next : Option Due) (d : Bool) → p.dirty ≡ d → IsShort plan p next → Warrants plan p next (if d then Checkpoint else Sleep)
left_warrant plan p next true dirty short = (dirty, short)
left_warrant plan p next false dirty short = (dirty, short)

le_of : (m n : ℕ) → nat_le m n ≡ true → m ≤ n
le_of m n h = grind (arith, nat_tests)

lt_of : (m n : ℕ) → nat_le m n ≡ false → n < m
lt_of m n h = grind (arith, nat_tests)

last_and : (a b c : Bool) → (a && b && c) ≡ true → c ≡ true
last_and true true c h = h
last_and true false c h = absurd (cc)
last_and false b c h = absurd (cc)

mid_and : (a b c : Bool) → (a && not b && c) ≡ true → b ≡ false
mid_and true true c h = absurd (cc)
mid_and true false c h = refl
mid_and false b c h = absurd (cc)

job_warrant : (plan : Plan) (p : Point) (due : Due) (b : Bool) → nat_le (units_of plan.rows due) p.board.stored ≡ b →
    Warrants plan p (Some due) (if b then Job due else (if p.dirty then Checkpoint else Sleep))
job_warrant plan p due true is = (refl, le_of (units_of plan.rows due) p.board.stored is)
job_warrant plan p due false is = left_warrant plan p (Some due) p.dirty refl (inr (due, refl, lt_of (units_of plan.rows due) p.board.stored is))

task_warrant : (plan : Plan) (p : Point) (a b : Bool) →
    (has_step plan p.work && p.board.on && nat_le (need_at plan.rows p.board.tick) p.board.stored) ≡ a →
    (has_step plan p.work && not p.board.on && nat_le (level_at plan.rows p.board.tick) p.board.stored) ≡ b →
    Warrants plan p None (if a then Section else (if b then Wake else (if p.dirty then Checkpoint else Sleep)))
task_warrant plan p true b is is' =
    (refl, le_of (need_at plan.rows p.board.tick) p.board.stored (last_and (has_step plan p.work) p.board.on (nat_le (need_at plan.rows p.board.tick) p.board.stored) is))
task_warrant plan p false true is is' = (
  refl,
  mid_and (has_step plan p.work) p.board.on (nat_le (level_at plan.rows p.board.tick) p.board.stored) is',
  le_of (level_at plan.rows p.board.tick) p.board.stored (last_and (has_step plan p.work) (not p.board.on) (nat_le (level_at plan.rows p.board.tick) p.board.stored) is'),
)
task_warrant plan p false false is is' = left_warrant plan p None p.dirty refl (inl refl)

warranted_with : (plan : Plan) (p : Point) (next : Option Due) → Warrants plan p next (choice_with plan p next)
warranted_with plan p (Some due) = job_warrant plan p due (nat_le (units_of plan.rows due) p.board.stored) refl
warranted_with plan p None =
    task_warrant plan p (has_step plan p.work && p.board.on && nat_le (need_at plan.rows p.board.tick) p.board.stored)
    (has_step plan p.work && not p.board.on && nat_le (level_at plan.rows p.board.tick) p.board.stored) refl refl

pub warranted : (plan : Plan) (p : Point) (next : Option Due) (choice : Choice) → choice ≡ choice_with plan p next → Warrants plan p next choice
warranted plan p next choice is = subst (λ (c : Choice). Warrants plan p next c) (sym is) (warranted_with plan p next)
