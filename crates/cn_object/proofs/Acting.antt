-- Whether an action comes soon.
use Rattle.std.proofs.Common.{◌≡◌, ℕ, ◌+◌, ◌<◌, ◌≤◌, ◌⊎◌, inl, inr, List, length, refl, sym, ◌∙◌, ap, subst, Bool, true, false, arith}
use Rattle.std.specs.Prelude.{◌↔◌, Some, None, slice_get, slice_set, slice_index_or, unwrap_or, nat_lt, ◌==◌}
use Rattle.std.proofs.lemmas.Option.{slice_get_within, slice_get_past, unwrap_or-slice_get}
use Rattle.std.proofs.lemmas.List.{get_or-set_same, get_or-set_other, length-set}
use borrow.Author.Tests.{eqb-true, eqb-false, ltb-true, ltb-false}
use Rattle.cat_machine.specs.declared.instr.Instr.{Instr}
use Rattle.cat_machine.specs.CodeValue.{CodeValue}
use Rattle.cost_bounds.specs.Paths.{acts}
use Rattle.cn_object.specs.Operands.{target_of}
use Rattle.cn_object.specs.Loops.{ActsSoon, Acts, GoesOn}
use Rattle.cn_object.specs.Looping.{AreActingSoon}

some_same : {X : Type 0} (x y : X) → Some x ≡ Some y → x ≡ y
some_same x y e = cc

pub soon_acts : (code : CodeValue) (pc : ℕ) (x : Instr) → slice_get code.instrs pc ≡ Some x → acts x ≡ true → ActsSoon code pc
soon_acts code pc x is a = Acts x is a

-- an instruction that doesn't act, and jumps
pub not_soon : (code : CodeValue) (pc to : ℕ) (x : Instr) → slice_get code.instrs pc ≡ Some x → acts x ≡ false → target_of x ≡ Some to → ActsSoon code pc → ⊥
not_soon code pc to x is quiet jumps (Acts y yis a) =
    let same : x ≡ y = some_same x y (sym is ∙ yis) in let clash : false ≡ true = sym quiet ∙ ap acts same ∙ a in cc
not_soon code pc to x is quiet jumps (GoesOn y yis a none later) =
    let same : x ≡ y = some_same x y (sym is ∙ yis) in let clash : Some to ≡ None = sym jumps ∙ ap target_of same ∙ none in cc

-- one that neither acts nor jumps
pub soon_later : (code : CodeValue) (pc : ℕ) (x : Instr) → slice_get code.instrs pc ≡ Some x → acts x ≡ false → ActsSoon code pc → ActsSoon code (pc + 1)
soon_later code pc x is quiet (Acts y yis a) =
    let same : x ≡ y = some_same x y (sym is ∙ yis) in let clash : false ≡ true = sym quiet ∙ ap acts same ∙ a in cc
soon_later code pc x is quiet (GoesOn y yis a none later) = later

pub record SoonFrom (code : CodeValue) (n : ℕ) (soon : List Bool) : Type 0 where
  pub size : length soon ≡ length code.instrs
  pub each : (pc : ℕ) → n ≤ pc → pc < length soon → ((slice_index_or soon pc false ≡ true) ↔ ActsSoon code pc)

never_past : (code : CodeValue) (pc : ℕ) → length code.instrs ≤ pc → ActsSoon code pc → ⊥
never_past code pc h (Acts y yis a) = let low = slice_get_within code.instrs pc y yis in omega (arith, h, low)
never_past code pc h (GoesOn y yis a none later) = let low = slice_get_within code.instrs pc y yis in omega (arith, h, low)

past_false : (soon : List Bool) (pc : ℕ) → length soon ≤ pc → slice_index_or soon pc false ≡ false
past_false soon pc h = sym (unwrap_or-slice_get soon pc false) ∙ ap (λ o. unwrap_or o false) (slice_get_past soon pc h)

order_by : (a b : ℕ) (t : Bool) → nat_lt a b ≡ t → (a < b) ⊎ (b ≤ a)
order_by a b true e = inl (ltb-true a b e)
order_by a b false e = inr (ltb-false a b e)

pub soon_at : (code : CodeValue) (n : ℕ) (soon : List Bool) → SoonFrom code n soon → (pc : ℕ) → n ≤ pc → (b : Bool) → b ≡ slice_index_or soon pc false → ((b ≡ true) ↔ ActsSoon code pc)
soon_at code n soon s pc h b e =
    elim (order_by pc (length soon) (nat_lt pc (length soon)) refl) [
      | inl g ↦ (λ t. (s.each pc h g).0 (sym e ∙ t), λ a. e ∙ (s.each pc h g).1 a)
      | inr g ↦ (λ t. absurd (let no = past_false soon pc g in let clash : true ≡ false = sym t ∙ e ∙ no in cc), λ a. absurd (never_past code pc (omega (arith, g, s.size)) a))
    ]

soon_set : (code : CodeValue) (n : ℕ) (soon : List Bool) (b : Bool) → SoonFrom code (n + 1) soon → n < length soon → ((b ≡ true) ↔ ActsSoon code n) → (pc : ℕ) → n ≤ pc → pc < length soon → (t : Bool) → (pc == n) ≡ t → ((slice_index_or (slice_set soon n b) pc false ≡ true) ↔ ActsSoon code pc)
soon_set code n soon b s low h pc from g true e =
    let same : pc ≡ n = eqb-true pc n e in
    let value : slice_index_or (slice_set soon n b) n false ≡ b = get_or-set_same soon n b false low in
    subst (λ q. (slice_index_or (slice_set soon n b) q false ≡ true) ↔ ActsSoon code q) (sym same) (λ t. h.0 (sym value ∙ t), λ a. value ∙ h.1 a)
soon_set code n soon b s low h pc from g false e =
    let differ = eqb-false pc n e in
    let value : slice_index_or (slice_set soon n b) pc false ≡ slice_index_or soon pc false = get_or-set_other soon n pc b false differ in
    let old = s.each pc (omega (arith, from, differ)) g in
    (λ t. old.0 (sym value ∙ t), λ a. value ∙ old.1 a)

pub soon_goes : (code : CodeValue) (n : ℕ) (soon new : List Bool) (b : Bool) → SoonFrom code (n + 1) soon → n < length soon → ((b ≡ true) ↔ ActsSoon code n) → new ≡ slice_set soon n b → SoonFrom code n new
soon_goes code n soon new b s low h e =
    subst (SoonFrom code n) (sym e) (record {
      size = length-set soon n b ∙ s.size;
      each = λ pc from g. soon_set code n soon b s low h pc from (omega (arith, g, length-set soon n b)) (pc == n) refl;
    })

pub soon_starts : (code : CodeValue) (n : ℕ) (soon : List Bool) → length soon ≡ length code.instrs → n ≡ length code.instrs → SoonFrom code n soon
soon_starts code n soon size e = record { size = size; each = λ pc h g. absurd (omega (arith, h, g, size, e)) }

pub soon_ends : (code : CodeValue) (n : ℕ) (soon : List Bool) → n ≡ 0 → SoonFrom code n soon → AreActingSoon code soon
soon_ends code n soon z s = record { size = s.size; each = λ pc g. s.each pc (omega (arith, z)) g }
