-- What becomes of an operation lies within what a board may do.
use Rattle.std.proofs.Common.{◌≡◌, ◌≢◌, ℕ, ◌+◌, ◌≤◌, ◌<◌, ◌&&◌, nat_le, nat_lt, Bool, true, false, List, [], ◌∷◌, Option, Some, None, refl, subst, arith}
use Rattle.std.specs.Prelude.{if◌then◌else◌}
use Rattle.std.specs.Option.{is_some}
use Rattle.std.proofs.lemmas.Bool.Decides.{nat_tests}
use Rattle.harvest_trace.specs.declared.failures.Failure.{Failure}
use Rattle.harvest_trace.specs.Failures.{first_in}
use Rattle.nv_memory.specs.declared.entry.Op.{Op}
use Rattle.nv_memory.specs.declared.entry.Op.TheVariants.{Instr, Emit, Write, Wake, Sleep}
use Rattle.nv_memory.specs.Board.{Draws, ticks_of}
use Rattle.nv_memory.specs.Laws.{OperationsAreBounded}
use Rattle.board_core.specs.declared.origin.ModelOrigin.{ModelOrigin}
use Rattle.board_core.specs.declared.fate.Fate.{Fate}
use Rattle.board_core.specs.Rules.{class_ticks, cost_at, failure_in, fate_of, unless_failing}

inside : (from upto tick : ℕ) → (nat_le from tick && nat_lt tick upto) ≡ true → (from ≤ tick) × (tick < upto)
inside from upto tick h = (grind (arith, nat_tests), grind (arith, nat_tests))

found_by : (from upto : ℕ) (g f : Failure) (later : Option Failure) (b : Bool) → (nat_le from g.tick && nat_lt g.tick upto) ≡ b → (later ≡ Some f → (from ≤ f.tick) × (f.tick < upto))
    → (if b then Some g else later) ≡ Some f → (from ≤ f.tick) × (f.tick < upto)
found_by from upto g f later true test more is = let here : g ≡ f = cc in subst (λ (h : Failure). (from ≤ h.tick) × (h.tick < upto)) here (inside from upto g.tick test)
found_by from upto g f later false test more is = more is

-- a failure that is found lies in the stretch
pub first_in-within : (from upto : ℕ) (fs : List Failure) (f : Failure) → first_in from upto fs ≡ Some f → (from ≤ f.tick) × (f.tick < upto)
unfolding first_in
first_in-within from upto [] f is = absurd (cc)
first_in-within from upto (g ∷ fs) f is = found_by from upto g f (first_in from upto fs) (nat_le from g.tick && nat_lt g.tick upto) refl (first_in-within from upto fs f) is

-- what holds of what becomes of an operation
pub record IsBounded (stored ticks : ℕ) (op : Op) (fate : Fate) : Type 0 where
  pub affordable : fate.drawn ≤ stored
  pub some_ticks : 1 ≤ fate.ticks
  pub no_more_ticks : fate.ticks ≤ ticks
  -- one that is done takes all its ticks
  pub whole : is_some fate.torn ≡ false → fate.ticks ≡ ticks
  pub draws : is_some fate.torn ≡ false → Draws op fate.drawn
  pub awake : is_some fate.torn ≡ true → op ≢ Sleep

draws_cost : (o : ModelOrigin) (tick : ℕ) (op : Op) → Draws op (cost_at o tick op)
draws_cost o tick (Instr kind pc) = tt
draws_cost o tick (Emit pc at left) = tt
draws_cost o tick (Write at left) = tt
draws_cost o tick Wake = tt
draws_cost o tick Sleep = refl

-- sleep is never too dear, and feels no failure
awake_if_dear : (o : ModelOrigin) (tick stored : ℕ) (op : Op) → stored < cost_at o tick op → op ≢ Sleep
awake_if_dear o tick stored (Instr kind pc) less same = cc
awake_if_dear o tick stored (Emit pc at left) less same = cc
awake_if_dear o tick stored (Write at left) less same = cc
awake_if_dear o tick stored Wake less same = cc
awake_if_dear o tick stored Sleep less same = absurd (omega arith)

awake_if_failing : (o : ModelOrigin) (tick : ℕ) (op : Op) (f : Failure) → failure_in o tick op ≡ Some f → op ≢ Sleep
awake_if_failing o tick (Instr kind pc) f is same = cc
awake_if_failing o tick (Emit pc at left) f is same = cc
awake_if_failing o tick (Write at left) f is same = cc
awake_if_failing o tick Wake f is same = cc
awake_if_failing o tick Sleep f is same = absurd (cc)

pub failure_in-within : (o : ModelOrigin) (tick : ℕ) (op : Op) (f : Failure) → failure_in o tick op ≡ Some f → (tick ≤ f.tick) × (f.tick < tick + ticks_of (class_ticks o.device) op)
failure_in-within o tick (Instr kind pc) f is = first_in-within tick (tick + ticks_of (class_ticks o.device) (Instr kind pc)) o.fails f is
failure_in-within o tick (Emit pc at left) f is = first_in-within tick (tick + ticks_of (class_ticks o.device) (Emit pc at left)) o.fails f is
failure_in-within o tick (Write at left) f is = first_in-within tick (tick + ticks_of (class_ticks o.device) (Write at left)) o.fails f is
failure_in-within o tick Wake f is = first_in-within tick (tick + ticks_of (class_ticks o.device) Wake) o.fails f is
failure_in-within o tick Sleep f is = absurd (cc)

bounded_unless : OperationsAreBounded → (o : ModelOrigin) (tick stored : ℕ) (op : Op) → cost_at o tick op ≤ stored → (found : Option Failure) → failure_in o tick op ≡ found
    → IsBounded stored (ticks_of (class_ticks o.device) op) op (unless_failing tick (cost_at o tick op) (ticks_of (class_ticks o.device) op) found)
bounded_unless law o tick stored op enough None is =
    record {
      affordable = enough;
      some_ticks = law.ticks (class_ticks o.device) op (law.some o.device);
      no_more_ticks = omega arith;
      whole = λ _. refl;
      draws = λ _. draws_cost o tick op;
      awake = λ h. absurd (cc);
    }
bounded_unless law o tick stored op enough (Some f) is =
    let within = failure_in-within o tick op f is in
    record {
      affordable = enough;
      some_ticks = omega (arith, within.0);
      no_more_ticks = omega (arith, within.0, within.1);
      whole = λ h. absurd (cc);
      draws = λ h. absurd (cc);
      awake = λ _. awake_if_failing o tick op f is;
    }

less : (a b : ℕ) → nat_lt a b ≡ true → a < b
less a b h = grind (arith, nat_tests)

not_less : (a b : ℕ) → nat_lt a b ≡ false → b ≤ a
not_less a b h = grind (arith, nat_tests)

bounded_by : OperationsAreBounded → (o : ModelOrigin) (tick stored : ℕ) (op : Op) (b : Bool) → nat_lt stored (cost_at o tick op) ≡ b
    → IsBounded stored (ticks_of (class_ticks o.device) op) op (if b then record { drawn = stored; ticks = 1; torn = Some o.device.fill } else unless_failing tick (cost_at o tick op) (ticks_of (class_ticks o.device) op) (failure_in o tick op))
bounded_by law o tick stored op true is =
    record {
      affordable = omega arith;
      some_ticks = omega arith;
      no_more_ticks = law.ticks (class_ticks o.device) op (law.some o.device);
      whole = λ h. absurd (cc);
      draws = λ h. absurd (cc);
      awake = λ _. awake_if_dear o tick stored op (less stored (cost_at o tick op) is);
    }
bounded_by law o tick stored op false is = bounded_unless law o tick stored op (not_less stored (cost_at o tick op) is) (failure_in o tick op) refl

pub fate_bounded : OperationsAreBounded → (o : ModelOrigin) (tick stored : ℕ) (op : Op) → IsBounded stored (ticks_of (class_ticks o.device) op) op (fate_of o tick stored op)
fate_bounded law o tick stored op = bounded_by law o tick stored op (nat_lt stored (cost_at o tick op)) refl
