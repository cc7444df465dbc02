-- A repeat: the push before its turn, and its jump back.
use Rattle.std.proofs.Common.{◌≡◌, ℕ, ◌-◌, ◌<◌, ◌≤◌, List, length, refl, sym, ◌∙◌, ap, subst, arith}
use Rattle.std.specs.Prelude.{pos, Some, slice_get}
use Rattle.std.proofs.lemmas.Option.{slice_get_within}
use Rattle.cat_machine.specs.declared.instr.Instr.{Instr}
use Rattle.cat_machine.specs.declared.instr.Instr.TheVariants as i
use Rattle.cat_machine.specs.CodeValue.{CodeValue}
use Rattle.cn_object.specs.declared.depth.Brought.{Brought}
use Rattle.cn_object.specs.declared.depth.Brought.TheVariants.{One}
use Rattle.cn_object.specs.Operands.{target_of}
use Rattle.cn_object.specs.Loops.{GoesTo, IsRepeat}
use Rattle.cn_object.specs.Looping.{AreComing}
use Rattle.cn_object.specs.Passing.{SumsTo, at_place}
use Rattle.cn_object.proofs.Bringing.{one_of, place_found, found_place}

some_same : {X : Type 0} (x y : X) → Some x ≡ Some y → x ≡ y
some_same x y e = cc

abbrev pub PushesFew : Instr → Type 0
PushesFew x = (n : ℕ) × (n ≤ 1000) × (x ≡ i.Push (pos n))

pub jump_goes : (code : CodeValue) (pc to : ℕ) (x : Instr) → slice_get code.instrs pc ≡ Some x → x ≡ i.Jump to → GoesTo code pc to
jump_goes code pc to x is e = (x, is, ap target_of e)

-- one place goes to a turn
pub one_comes : (code : CodeValue) (coming : List Brought) (turn last : ℕ) → AreComing code coming → slice_get coming turn ≡ Some (One last) → (pc : ℕ) → GoesTo code pc turn → pc ≡ last
one_comes code coming turn last are is =
    let at : at_place coming turn ≡ One last = found_place coming turn last is in
    let sums : SumsTo (λ pc. GoesTo code pc turn) (One last) = subst (SumsTo (λ pc. GoesTo code pc turn)) at (are.each turn (slice_get_within coming turn (One last) is)) in
    sums.1

pub comes_one : (code : CodeValue) (coming : List Brought) (turn last : ℕ) → AreComing code coming → turn < length code.instrs → GoesTo code last turn → ((pc : ℕ) → GoesTo code pc turn → pc ≡ last) → slice_get coming turn ≡ Some (One last)
comes_one code coming turn last are low goes only =
    let inside : turn < length coming = omega (arith, low, are.size) in
    place_found coming turn last inside (one_of (λ pc. GoesTo code pc turn) (at_place coming turn) last goes only (are.each turn inside))

pub repeat_by : (code : CodeValue) (coming : List Brought) (turn end : ℕ) (x y : Instr) → AreComing code coming → 0 < turn → 0 < end → slice_get code.instrs (turn - 1) ≡ Some x → PushesFew x → slice_get code.instrs (end - 1) ≡ Some y → y ≡ i.Jump turn
    → slice_get coming turn ≡ Some (One (end - 1)) → IsRepeat code turn end
repeat_by code coming turn end x y are a b xis few yis jump one = record {
  before = turn - 1;
  turns = few.0;
  just_before = omega (arith, a);
  few = few.1;
  pushed = xis ∙ ap Some few.2;
  last = end - 1;
  just_after = omega (arith, b);
  back = yis ∙ ap Some jump;
  only = one_comes code coming turn (end - 1) are one;
}

pub repeat_pushes : (code : CodeValue) (turn end : ℕ) (x : Instr) → slice_get code.instrs (turn - 1) ≡ Some x → IsRepeat code turn end → PushesFew x
repeat_pushes code turn end x is r =
    let place : turn - 1 ≡ r.before = omega (arith, r.just_before) in
    (r.turns, r.few, some_same x (i.Push (pos r.turns)) (sym is ∙ ap (slice_get code.instrs) place ∙ r.pushed))

pub repeat_jumps : (code : CodeValue) (turn end : ℕ) (y : Instr) → slice_get code.instrs (end - 1) ≡ Some y → IsRepeat code turn end → y ≡ i.Jump turn
repeat_jumps code turn end y is r =
    let place : end - 1 ≡ r.last = omega (arith, r.just_after) in
    some_same y (i.Jump turn) (sym is ∙ ap (slice_get code.instrs) place ∙ r.back)

pub repeat_comes : (code : CodeValue) (coming : List Brought) (turn end : ℕ) → AreComing code coming → turn < length code.instrs → IsRepeat code turn end → slice_get coming turn ≡ Some (One (end - 1))
repeat_comes code coming turn end are low r =
    let place : r.last ≡ end - 1 = omega (arith, r.just_after) in
    subst (λ p. slice_get coming turn ≡ Some (One p)) place (comes_one code coming turn r.last are low (jump_goes code r.last turn (i.Jump turn) r.back refl) r.only)

-- the places of a repeat exist
pub repeat_places : (code : CodeValue) (turn end : ℕ) → IsRepeat code turn end → (0 < turn) × (0 < end) × (end ≤ length code.instrs)
repeat_places code turn end r = (omega (arith, r.just_before), omega (arith, r.just_after), (let low = slice_get_within code.instrs r.last (i.Jump turn) r.back in omega (arith, low, r.just_after)))
