-- The bounds of a path of instructions, and of a commit.
use Rattle.std.proofs.Common.{◌≡◌, ℕ, ◌+◌, ◌*◌, ◌≤◌, List, [], ◌∷◌, ◌++◌, length, map, refl, sym, ap, ap₂, subst, ◌∙◌, arith, Bool, true, false, Option, mul-le-mul_right}
use Rattle.std.specs.List.{range_with_len}
use Rattle.std.specs.Option.{option_map_or}
use Rattle.std.proofs.lemmas.List.FromFn.{length-range_with_len}
use Rattle.std.proofs.lemmas.List.Sums.{length-filter, count_by-le-length}
use Rattle.cat_program.specs.Meaning.{Output}
use Rattle.cat_machine.specs.declared.instr.Instr.{Instr}
use Rattle.cat_machine.specs.declared.instr.Instr.TheVariants as i
use Rattle.cat_machine.specs.ClassOf.{class_of}
use Rattle.cat_machine.specs.CodeValue.{CodeValue}
use Rattle.cat_machine.specs.Costs.{InCode, instr_cost, place_cost, path_cost}
use Rattle.nv_memory.specs.declared.device.Class.{Class}
use Rattle.nv_memory.specs.declared.device.Class.TheVariants as class
use Rattle.nv_memory.specs.declared.device.Device.{Device}
use Rattle.nv_memory.specs.declared.layout.Layout.{Layout}
use Rattle.nv_memory.specs.declared.entry.Op.{Op}
use Rattle.nv_memory.specs.Layout.{lines_of}
use Rattle.nv_memory.specs.AnyBoard.{cost_of}
use Rattle.nv_memory.specs.Board.{ticks_of as board_ticks}
use Rattle.checkpoint_slots.specs.declared.slot.Slot.{Slot}
use Rattle.checkpoint_slots.specs.Commit.{differs, differing, or_first, line_write, line_writes, gate_write, other_at, commit_writes}
use Rattle.cost_bounds.specs.Greatest.{units_of, ticks_of}
use Rattle.cn_scheduler.specs.Paths.{is_out, puts_out, own_out, outs_after, acts_of}
use Rattle.cn_scheduler.specs.Asked.{Ask, plain, ask_with, listed, path_asks}
use Rattle.calm_timeline.specs.Calm.{bound_of}
use Rattle.calm_timeline.proofs.Asks.{units_asked, ticks_asked}

-- ---- lists of asks

pub units-append : (device : Device) (xs ys : List Ask) → units_asked device (xs ++ ys) ≡ units_asked device xs + units_asked device ys
units-append device [] ys = omega arith
units-append device (a ∷ xs) ys = let rest = units-append device xs ys in omega arith

pub ticks-append : (ticks : Class → ℕ) (xs ys : List Ask) → ticks_asked ticks (xs ++ ys) ≡ ticks_asked ticks xs + ticks_asked ticks ys
ticks-append ticks [] ys = omega arith
ticks-append ticks (a ∷ xs) ys = let rest = ticks-append ticks xs ys in omega arith

-- ---- a path

class_out : (instr : Instr) → is_out instr ≡ true → class_of instr ≡ class.Out
class_out (i.Push n) is = absurd (cc)
class_out (i.Load w) is = absurd (cc)
class_out i.Payload is = absurd (cc)
class_out (i.Signed s) is = absurd (cc)
class_out (i.Operate o) is = absurd (cc)
class_out (i.Jump to) is = absurd (cc)
class_out (i.JumpZero to) is = absurd (cc)
class_out (i.Turn to) is = absurd (cc)
class_out (i.Begin t) is = absurd (cc)
class_out i.End is = absurd (cc)
class_out (i.LoadAt base len) is = absurd (cc)
class_out (i.Store w) is = absurd (cc)
class_out (i.StoreAt base len) is = absurd (cc)
class_out (i.Post t) is = absurd (cc)
class_out (i.Out c) is = refl

-- the class that an ask is of, and an output's is that of outputs
units_with : (device : Device) (l : Layout) (at pc : ℕ) (instr : Instr) (outs : List Output) →
    bound_of device (ask_with l at pc (class_of instr) (own_out (is_out instr) outs)).op ≡ units_of device (class_of instr)
units_with device l at pc instr outs =
    go (is_out instr) outs refl
  where
    go : (b : Bool) (outs : List Output) → is_out instr ≡ b →
        bound_of device (ask_with l at pc (class_of instr) (own_out b outs)).op ≡ units_of device (class_of instr)
    go true (o ∷ outs) is = sym (ap (λ (k : Class). units_of device k) (class_out instr is))
    go true [] is = refl
    go false outs is = refl

ticks_with : (device : Device) (ticks : Class → ℕ) (same : (c : Class) → ticks c ≡ (cost_of device c).ticks) (l : Layout) (at pc : ℕ) (instr : Instr) (outs : List Output) →
    board_ticks ticks (ask_with l at pc (class_of instr) (own_out (is_out instr) outs)).op ≡ ticks_of device (class_of instr)
ticks_with device ticks same l at pc instr outs =
    go (is_out instr) outs refl
  where
    go : (b : Bool) (outs : List Output) → is_out instr ≡ b →
        board_ticks ticks (ask_with l at pc (class_of instr) (own_out b outs)).op ≡ ticks_of device (class_of instr)
    go true (o ∷ outs) is = same class.Out ∙ sym (ap (λ (k : Class). ticks_of device k) (class_out instr is))
    go true [] is = same (class_of instr)
    go false outs is = same (class_of instr)

-- the bounds of a path's instructions are those of its places
pub path_units : (device : Device) (l : Layout) (code : CodeValue) (path : List ℕ) (at : ℕ) (outs : List Output) → InCode code path →
    units_asked device (path_asks l at (acts_of code path outs)) ≡ path_cost (place_cost (units_of device) code) path
path_units device l code [] at outs within = refl
path_units device l code (pc ∷ path) at outs within =
    ap₂ (λ (m n : ℕ). m + n)
    (subst (λ (found : Option Instr). bound_of device (ask_with l at pc (option_map_or class_of found class.Basic)
    (own_out (option_map_or is_out found false) outs)).op ≡ instr_cost (units_of device) found) (sym within.0.1) (units_with device l at pc within.0.0 outs))
    (path_units device l code path (at + length (listed (own_out (puts_out code pc) outs))) (outs_after (puts_out code pc) outs) within.1)

pub path_ticks : (device : Device) (ticks : Class → ℕ) (same : (c : Class) → ticks c ≡ (cost_of device c).ticks) (l : Layout) (code : CodeValue) (path : List ℕ) (at : ℕ) (outs : List Output) → InCode code path →
    ticks_asked ticks (path_asks l at (acts_of code path outs)) ≡ path_cost (place_cost (ticks_of device) code) path
path_ticks device ticks same l code [] at outs within = refl
path_ticks device ticks same l code (pc ∷ path) at outs within =
    ap₂ (λ (m n : ℕ). m + n)
    (subst (λ (found : Option Instr). board_ticks ticks (ask_with l at pc (option_map_or class_of found class.Basic)
    (own_out (option_map_or is_out found false) outs)).op ≡ instr_cost (ticks_of device) found) (sym within.0.1) (ticks_with device ticks same l at pc within.0.0 outs))
    (path_ticks device ticks same l code path (at + length (listed (own_out (puts_out code pc) outs))) (outs_after (puts_out code pc) outs) within.1)

-- ---- a commit

-- so many writes
units_of_writes : (device : Device) (s : Slot) (at : ℕ) (is : List ℕ) → units_asked device (map plain (map (line_write s at) is)) ≡ length is * device.write.bound
units_of_writes device s at [] = omega arith
units_of_writes device s at (i ∷ is) = let rest = units_of_writes device s at is in omega arith

ticks_of_writes : (ticks : Class → ℕ) (s : Slot) (at : ℕ) (is : List ℕ) → ticks_asked ticks (map plain (map (line_write s at) is)) ≡ length is * ticks class.Write
ticks_of_writes ticks s at [] = omega arith
ticks_of_writes ticks s at (i ∷ is) = let rest = ticks_of_writes ticks s at is in omega arith

length-or_first : (is : List ℕ) (n : ℕ) → length is ≤ n → 1 ≤ n → length (or_first is) ≤ n
length-or_first [] n le some = omega arith
length-or_first (i ∷ is) n le some = omega arith

length-differing : (s : Slot) (at : ℕ) (image : List ℕ) (n : ℕ) → length (differing s at image n) ≤ n
length-differing s at image n =
    omega (arith, length-filter (differs s at image) (range_with_len 0 n), count_by-le-length (differs s at image) (range_with_len 0 n), length-range_with_len 0 n)

plain-append : (xs ys : List Op) → map plain (xs ++ ys) ≡ map plain xs ++ map plain ys
plain-append [] ys = refl
plain-append (x ∷ xs) ys = ap (λ (asks : List Ask). plain x ∷ asks) (plain-append xs ys)

module _ (device : Device) (l : Layout) (s : Slot) (image : List ℕ) where
  some_lines : 1 ≤ lines_of l
  some_lines = omega arith

  few_writes : length (or_first (differing s (other_at l image) image (lines_of l))) ≤ lines_of l
  few_writes = length-or_first (differing s (other_at l image) image (lines_of l)) (lines_of l) (length-differing s (other_at l image) image (lines_of l)) some_lines

  pub commit_units : units_asked device (map plain (commit_writes l s image)) ≤ (lines_of l + 1) * device.write.bound
  commit_units =
      let parts = ap (λ (asks : List Ask). units_asked device asks) (plain-append (line_writes s (other_at l image) image (lines_of l)) (gate_write image ∷ [])) in
      let sum = units-append device (map plain (line_writes s (other_at l image) image (lines_of l))) (map plain (gate_write image ∷ [])) in
      let lines = units_of_writes device s (other_at l image) (or_first (differing s (other_at l image) image (lines_of l))) in
      let most : length (or_first (differing s (other_at l image) image (lines_of l))) * device.write.bound ≤ lines_of l * device.write.bound = mul-le-mul_right device.write.bound few_writes in
      omega arith

  pub commit_ticks : (ticks : Class → ℕ) → ticks_asked ticks (map plain (commit_writes l s image)) ≤ (lines_of l + 1) * ticks class.Write
  commit_ticks ticks =
      let parts = ap (λ (asks : List Ask). ticks_asked ticks asks) (plain-append (line_writes s (other_at l image) image (lines_of l)) (gate_write image ∷ [])) in
      let sum = ticks-append ticks (map plain (line_writes s (other_at l image) image (lines_of l))) (map plain (gate_write image ∷ [])) in
      let lines = ticks_of_writes ticks s (other_at l image) (or_first (differing s (other_at l image) image (lines_of l))) in
      let most : length (or_first (differing s (other_at l image) image (lines_of l))) * ticks class.Write ≤ lines_of l * ticks class.Write = mul-le-mul_right (ticks class.Write) few_writes in
      omega arith
