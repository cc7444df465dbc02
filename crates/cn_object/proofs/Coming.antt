-- The places that go to each place.
use Rattle.std.proofs.Common.{◌≡◌, ℕ, ◌+◌, ◌<◌, ◌≤◌, ◌⊎◌, inl, inr, List, length, refl, sym, ◌∙◌, ap, subst, Bool, true, false, arith}
use Rattle.std.specs.Prelude.{Option, Some, None, slice_get, ◌==◌, replicate}
use Rattle.std.proofs.lemmas.Option.{slice_get_within}
use borrow.Author.Tests.{eqb-true, eqb-false}
use Rattle.cat_machine.specs.declared.instr.Instr.{Instr}
use Rattle.cat_machine.specs.CodeValue.{CodeValue}
use Rattle.cn_object.specs.declared.depth.Brought.{Brought}
use Rattle.cn_object.specs.declared.depth.Brought.TheVariants.{Nothing}
use Rattle.cn_object.specs.Operands.{target_of}
use Rattle.cn_object.specs.Depths.{way}
use Rattle.cn_object.specs.Loops.{GoesTo}
use Rattle.cn_object.specs.Looping.{AreComing, noted}
use Rattle.cn_object.specs.Passing.{at_place, brought_to, SumsTo}
use Rattle.cn_object.proofs.Bringing.{AddWay, Never, all_same, brought_sums, nothing_yet, length-brought, length-nothing}

some_same : {X : Type 0} (x y : X) → Some x ≡ Some y → x ≡ y
some_same x y e = cc

-- those of the first n places
abbrev ComesBy : CodeValue → ℕ → ℕ → ℕ → Type 0
ComesBy code n to pc = (pc < n) × GoesTo code pc to

pub record IsComing (code : CodeValue) (n : ℕ) (xs : List Brought) : Type 0 where
  pub size : length xs ≡ length code.instrs
  pub each : (to : ℕ) → to < length xs → SumsTo (ComesBy code n to) (at_place xs to)

pub coming_starts : (code : CodeValue) (count : ℕ) (xs : List Brought) → count ≡ length code.instrs → xs ≡ replicate count Nothing → IsComing code 0 xs
coming_starts code count xs size e =
    let sums = all_same Never (ComesBy code 0) (replicate count Nothing) (nothing_yet count) (λ p e f. absurd f) (λ p e x. absurd (let low : e < 0 = x.0 in omega (arith, low))) in
    subst (IsComing code 0) (sym e) (record { size = length-nothing count ∙ size; each = sums.each })

split : (code : CodeValue) (n p e : ℕ) (t : Bool) → (e == n) ≡ t → ComesBy code (n + 1) p e → ComesBy code n p e ⊎ ((e ≡ n) × GoesTo code n p)
split code n p e true same x = let here : e ≡ n = eqb-true e n same in inr (here, subst (λ q. GoesTo code q p) here x.1)
split code n p e false differ x = let other = eqb-false e n differ in inl (omega (arith, x.0, other), x.1)

pub coming_goes : (code : CodeValue) (n to : ℕ) (x : Instr) (xs new : List Brought) → IsComing code n xs → slice_get code.instrs n ≡ Some x → target_of x ≡ Some to → new ≡ brought_to xs (way to n) → IsComing code (n + 1) new
coming_goes code n to x xs new s is goes e =
    let sums = all_same (AddWay (ComesBy code n) (way to n)) (ComesBy code (n + 1)) (brought_to xs (way to n)) (brought_sums (ComesBy code n) xs (way to n) (record { each = s.each }))
    (λ p q y. elim y [ inl f ↦ (omega (arith, f.0), f.1) | inr g ↦ (omega (arith, g.1), (x, ap (slice_get code.instrs) g.1 ∙ is, goes ∙ ap Some (sym g.0))) ])
    (λ p q y. elim (split code n p q (q == n) refl y) [
      | inl f ↦ inl f
      | inr g ↦ (let same : g.1.0 ≡ x = some_same g.1.0 x (sym g.1.1 ∙ is) in
          let there : p ≡ to = some_same p to (sym g.1.2 ∙ ap target_of same ∙ goes) in inr (there, g.0))
    ]) in
    subst (IsComing code (n + 1)) (sym e) (record { size = length-brought xs (way to n) ∙ s.size; each = sums.each })

pub coming_stays : (code : CodeValue) (n : ℕ) (x : Instr) (xs : List Brought) → IsComing code n xs → slice_get code.instrs n ≡ Some x → target_of x ≡ None → IsComing code (n + 1) xs
coming_stays code n x xs s is stays =
    let sums = all_same (ComesBy code n) (ComesBy code (n + 1)) xs (record { each = s.each })
    (λ p q f. (omega (arith, f.0), f.1))
    (λ p q y. elim (split code n p q (q == n) refl y) [
      | inl f ↦ f
      | inr g ↦ absurd (let same : g.1.0 ≡ x = some_same g.1.0 x (sym g.1.1 ∙ is) in let clash : Some p ≡ None = sym g.1.2 ∙ ap target_of same ∙ stays in cc)
    ]) in
    record { size = s.size; each = sums.each }

pub coming_ends : (code : CodeValue) (n : ℕ) (xs : List Brought) → length code.instrs ≤ n → IsComing code n xs → AreComing code xs
coming_ends code n xs h s =
    let sums = all_same (ComesBy code n) (λ to pc. GoesTo code pc to) xs (record { each = s.each })
    (λ p q f. f.1) (λ p q g. (let low = slice_get_within code.instrs q g.0 g.1 in omega (arith, low, h), g)) in
    record { size = s.size; each = sums.each }

pub coming_noted : (code : CodeValue) (n : ℕ) (x : Instr) (target : Option ℕ) (xs new : List Brought) → IsComing code n xs → slice_get code.instrs n ≡ Some x → target ≡ target_of x → new ≡ noted xs target n → IsComing code (n + 1) new
coming_noted code n x None xs new s is t e = subst (IsComing code (n + 1)) (sym e) (coming_stays code n x xs s is (sym t))
coming_noted code n x (Some to) xs new s is t e = coming_goes code n to x xs new s is (sym t) e
