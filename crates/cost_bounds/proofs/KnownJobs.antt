-- The same of jobs: units and ticks, each by itself.
use Rattle.std.proofs.Common.{◌≡◌, ℕ, ◌+◌, ◌<◌, ◌≤◌, true, false, Some, None, refl, ap, ◌∙◌, arith}
use Rattle.std.specs.Prelude.{slice_get, length, pos}
use Rattle.nv_memory.specs.declared.device.Class.{Class}
use Rattle.nv_memory.specs.declared.device.Device.{Device}
use Rattle.cat_machine.specs.declared.instr.Instr.{Instr}
use Rattle.cat_machine.specs.declared.instr.Instr.TheVariants as i
use Rattle.cat_machine.specs.ClassOf.{class_of}
use Rattle.cat_machine.specs.CodeValue.{CodeValue}
use Rattle.cost_bounds.specs.declared.job.Job.{Job}
use Rattle.cost_bounds.specs.Paths.{acts, place_after}
use Rattle.cost_bounds.specs.Greatest.{units_of, ticks_of}
use Rattle.cost_bounds.specs.Pass.{nothing, plus_capped, times_capped, dearer, class_job, SectionKnown, is_straight, HandlerKnown}
use Rattle.cost_bounds.proofs.Known.{end_worth, jump_worth, test_worth, repeat_worth, straight_worth, acts_sums, goes_sums, none_sums, Walked, walk_starts, walk_goes, walk_acts, walk_leaves, walk_ends}

module _ (device : Device) (code : CodeValue) where
  -- what one instruction takes
  abbrev pub IsFirst : Instr → Class → Job → Type 0
  IsFirst x k first = (first ≡ class_job device k) × (k ≡ class_of x)

  first_is : (x : Instr) (k : Class) (first : Job) → IsFirst x k first → first ≡ class_job device (class_of x)
  first_is x k first f = f.0 ∙ ap (class_job device) f.1

  module _ (pc : ℕ) where
    -- ---- handlers

    pub ends : (k : Class) (first : Job) → slice_get code.instrs pc ≡ Some i.End → IsFirst i.End k first → HandlerKnown device code pc first
    ends k first e f =
        let is = first_is i.End k first f in
        record { units = end_worth (units_of device) code pc first.units e (ap (λ (j : Job). j.units) is); ticks = end_worth (ticks_of device) code pc first.ticks e (ap (λ (j : Job). j.ticks) is) }

    pub leaves : (to : ℕ) (k : Class) (first later job : Job) → slice_get code.instrs pc ≡ Some (i.Jump to) → IsFirst (i.Jump to) k first → pc < to → HandlerKnown device code to later → job ≡ plus_capped first later → HandlerKnown device code pc job
    leaves to k first later job e f on known is =
        let all = is ∙ ap (λ j. plus_capped j later) (first_is (i.Jump to) k first f) in
        record {
          units = jump_worth (units_of device) code pc to job.units later.units e (λ lt. known.units) (λ lt. ap (λ (j : Job). j.units) all) (λ le. absurd (omega (arith, on, le)));
          ticks = jump_worth (ticks_of device) code pc to job.ticks later.ticks e (λ lt. known.ticks) (λ lt. ap (λ (j : Job). j.ticks) all) (λ le. absurd (omega (arith, on, le)));
        }

    pub turns_back : (to : ℕ) (k : Class) (first : Job) → slice_get code.instrs pc ≡ Some (i.Jump to) → IsFirst (i.Jump to) k first → to ≤ pc → HandlerKnown device code pc first
    turns_back to k first e f back =
        let is = first_is (i.Jump to) k first f in
        record {
          units = jump_worth (units_of device) code pc to first.units 0 e (λ lt. absurd (omega (arith, back, lt))) (λ lt. absurd (omega (arith, back, lt))) (λ le. ap (λ (j : Job). j.units) is);
          ticks = jump_worth (ticks_of device) code pc to first.ticks 0 e (λ lt. absurd (omega (arith, back, lt))) (λ lt. absurd (omega (arith, back, lt))) (λ le. ap (λ (j : Job). j.ticks) is);
        }

    pub tests : (to : ℕ) (k : Class) (first next later best job : Job) → slice_get code.instrs pc ≡ Some (i.JumpZero to) → IsFirst (i.JumpZero to) k first → HandlerKnown device code (pc + 1) next → (pc < to → HandlerKnown device code to later) → best ≡ dearer next later → job ≡ plus_capped first best → HandlerKnown device code pc job
    tests to k first next later best job e f one other best_is is =
        let all = is ∙ ap (plus_capped first) best_is ∙ ap (λ j. plus_capped j (dearer next later)) (first_is (i.JumpZero to) k first f) in
        record {
          units = test_worth (units_of device) code pc to job.units next.units later.units e one.units (λ lt. (other lt).units) (ap (λ (j : Job). j.units) all);
          ticks = test_worth (ticks_of device) code pc to job.ticks next.ticks later.ticks e one.ticks (λ lt. (other lt).ticks) (ap (λ (j : Job). j.ticks) all);
        }

    pub repeats : (to n : ℕ) (k : Class) (first next later turn all_turns left job : Job) → slice_get code.instrs pc ≡ Some (i.Turn to) → IsFirst (i.Turn to) k first
        → ((m before : ℕ) → pc ≡ before + 1 → slice_get code.instrs before ≡ Some (i.Push (pos m)) → n ≡ m)
        → HandlerKnown device code (pc + 1) next → (pc < to → HandlerKnown device code to later)
        → turn ≡ plus_capped first next → all_turns ≡ times_capped turn n → left ≡ plus_capped all_turns first → job ≡ plus_capped left later → HandlerKnown device code pc job
    repeats to n k first next later turn all_turns left job e f count one other turn_is turns_are left_is is =
        let f_is = first_is (i.Turn to) k first f in
        let all = is ∙ ap (λ j. plus_capped j later) (left_is ∙ ap (λ j. plus_capped j first) (turns_are ∙ ap (λ j. times_capped j n) turn_is)) ∙ ap (λ j. plus_capped (plus_capped (times_capped (plus_capped j next) n) j) later) f_is in
        record {
          units = repeat_worth (units_of device) code pc to job.units next.units later.units n e count one.units (λ lt. (other lt).units) (ap (λ (j : Job). j.units) all);
          ticks = repeat_worth (ticks_of device) code pc to job.ticks next.ticks later.ticks n e count one.ticks (λ lt. (other lt).ticks) (ap (λ (j : Job). j.ticks) all);
        }

    pub goes_straight : (x : Instr) (k : Class) (first next job : Job) → slice_get code.instrs pc ≡ Some x → IsFirst x k first → is_straight x ≡ true → HandlerKnown device code (pc + 1) next → job ≡ plus_capped first next → HandlerKnown device code pc job
    goes_straight x k first next job e f straight one is =
        let all = is ∙ ap (λ j. plus_capped j next) (first_is x k first f) in
        record {
          units = straight_worth (units_of device) code pc x job.units next.units e straight one.units (ap (λ (j : Job). j.units) all);
          ticks = straight_worth (ticks_of device) code pc x job.ticks next.ticks e straight one.ticks (ap (λ (j : Job). j.ticks) all);
        }

    -- ---- sections

    pub section_acts : (x : Instr) (k : Class) (first : Job) → slice_get code.instrs pc ≡ Some x → IsFirst x k first → acts x ≡ true → SectionKnown device code pc first
    section_acts x k first e f t =
        let is = first_is x k first f in
        record { units = acts_sums (units_of device) code pc x first.units e t (ap (λ (j : Job). j.units) is); ticks = acts_sums (ticks_of device) code pc x first.ticks e t (ap (λ (j : Job). j.ticks) is) }

    pub section_goes : (x : Instr) (k : Class) (first next job : Job) → slice_get code.instrs pc ≡ Some x → IsFirst x k first → acts x ≡ false → SectionKnown device code (place_after x pc) next → job ≡ plus_capped first next → SectionKnown device code pc job
    section_goes x k first next job e f t known is =
        let all = is ∙ ap (λ j. plus_capped j next) (first_is x k first f) in
        record {
          units = goes_sums (units_of device) code pc x job.units next.units e t known.units (ap (λ (j : Job). j.units) all);
          ticks = goes_sums (ticks_of device) code pc x job.ticks next.ticks e t known.ticks (ap (λ (j : Job). j.ticks) all);
        }

    pub no_section : (job : Job) → slice_get code.instrs pc ≡ None → SectionKnown device code pc job
    no_section job e = record { units = none_sums (units_of device) code pc job.units e; ticks = none_sums (ticks_of device) code pc job.ticks e }

  -- ---- walks

  pub record Walking (from pc : ℕ) (sum : Job) (steps : ℕ) : Type 0 where
    pub units : Walked (units_of device) code from pc sum.units steps
    pub ticks : Walked (ticks_of device) code from pc sum.ticks steps

  module _ (from : ℕ) where
    pub walking_starts : (sum : Job) → sum ≡ nothing → Walking from from sum 0
    walking_starts sum e = record { units = walk_starts (units_of device) code from sum.units (ap (λ (j : Job). j.units) e); ticks = walk_starts (ticks_of device) code from sum.ticks (ap (λ (j : Job). j.ticks) e) }

    pub walking_goes : (pc steps : ℕ) (x : Instr) (k : Class) (sum first new : Job) → slice_get code.instrs pc ≡ Some x → IsFirst x k first → acts x ≡ false → new ≡ plus_capped sum first → Walking from pc sum steps → Walking from (place_after x pc) new (steps + 1)
    walking_goes pc steps x k sum first new e f t is w =
        let all = is ∙ ap (plus_capped sum) (first_is x k first f) in
        record {
          units = walk_goes (units_of device) code from pc sum.units new.units steps x e t (ap (λ (j : Job). j.units) all) w.units;
          ticks = walk_goes (ticks_of device) code from pc sum.ticks new.ticks steps x e t (ap (λ (j : Job). j.ticks) all) w.ticks;
        }

    pub walking_acts : (pc steps : ℕ) (x : Instr) (k : Class) (sum first new : Job) → slice_get code.instrs pc ≡ Some x → IsFirst x k first → acts x ≡ true → new ≡ plus_capped sum first → Walking from pc sum steps → SectionKnown device code from new
    walking_acts pc steps x k sum first new e f t is w =
        let all = is ∙ ap (plus_capped sum) (first_is x k first f) in
        record {
          units = walk_acts (units_of device) code from pc sum.units new.units steps x e t (ap (λ (j : Job). j.units) all) w.units;
          ticks = walk_acts (ticks_of device) code from pc sum.ticks new.ticks steps x e t (ap (λ (j : Job). j.ticks) all) w.ticks;
        }

    pub walking_leaves : (pc steps : ℕ) (sum job : Job) → slice_get code.instrs pc ≡ None → Walking from pc sum steps → SectionKnown device code from job
    walking_leaves pc steps sum job e w = record { units = walk_leaves (units_of device) code from pc sum.units steps job.units e w.units; ticks = walk_leaves (ticks_of device) code from pc sum.ticks steps job.ticks e w.ticks }

    pub walking_ends : (pc steps : ℕ) (sum job : Job) → length code.instrs ≤ steps → Walking from pc sum steps → SectionKnown device code from job
    walking_ends pc steps sum job many w = record { units = walk_ends (units_of device) code from pc sum.units steps job.units many w.units; ticks = walk_ends (ticks_of device) code from pc sum.ticks steps job.ticks many w.ticks }

pub straight_of : (x : Instr) → ((to : ℕ) → x ≡ i.Jump to → ⊥) → ((to : ℕ) → x ≡ i.JumpZero to → ⊥) → ((to : ℕ) → x ≡ i.Turn to → ⊥) → (x ≡ i.End → ⊥) → is_straight x ≡ true
straight_of (i.Push n) a b c d = refl
straight_of (i.Load w) a b c d = refl
straight_of i.Payload a b c d = refl
straight_of (i.Signed s) a b c d = refl
straight_of (i.Operate o) a b c d = refl
straight_of (i.Jump to) a b c d = absurd (a to refl)
straight_of (i.JumpZero to) a b c d = absurd (b to refl)
straight_of (i.Turn to) a b c d = absurd (c to refl)
straight_of (i.Begin t) a b c d = refl
straight_of i.End a b c d = absurd (d refl)
straight_of (i.LoadAt base len) a b c d = refl
straight_of (i.Store w) a b c d = refl
straight_of (i.StoreAt base len) a b c d = refl
straight_of (i.Post t) a b c d = refl
straight_of (i.Out c') a b c d = refl
