-- Bytes have one verdict.
use Rattle.std.proofs.Common.{◌≡◌, ℕ, zero, List, length, refl, sym, ◌∙◌, subst, arith, inl, inr}
use Rattle.std.proofs.lemmas.Bool.{cases_lt}
use Rattle.cat_machine.specs.CodeValue.{CodeValue}
use Rattle.cn_object.specs.declared.object.Object.{Object}
use Rattle.cn_object.specs.declared.object.Kind.{Kind}
use Rattle.cn_object.specs.declared.object.Kind.TheVariants.{Form, Operand, Region, Stack, Loop, Long}
use Rattle.cn_object.specs.Spelling.{IsReadAs}
use Rattle.cn_object.specs.Verified.{IsVerified}
use Rattle.cn_object.specs.Verdict.{FailsFirst, BreaksRegion, CodeBreaks, RegionsHold, IsBad, NoFile, Broken, IsGood}
use Rattle.cn_object.proofs.Files.{as_is_read, file_is_as}

-- a rule fails first at one place
first_same : (code : CodeValue) (rule : ℕ → Type 0) (p q : ℕ) → FailsFirst code rule p → FailsFirst code rule q → p ≡ q
first_same code rule p q h k =
    elim (cases_lt p q) [
      | inl less ↦ absurd (h.fails (k.before p less))
      | inr le ↦ elim (cases_lt q p) [
        | inl more ↦ absurd (k.fails (h.before q more))
        | inr also ↦ omega (arith, le, also)
      ]
    ]

one_region : (code : CodeValue) (p q : ℕ) → BreaksRegion code p → BreaksRegion code q → p ≡ q
one_region code p q (inl h) (inl k) = h.1 ∙ sym k.1
one_region code p q (inl h) (inr k) = absurd (h.0 k.0)
one_region code p q (inr h) (inl k) = absurd (k.0 h.0)
one_region code p q (inr h) (inr k) = first_same code _ p q h.1 k.1

no_region : {words : ℕ} (code : CodeValue) (p : ℕ) → BreaksRegion code p → RegionsHold words code → ⊥
no_region code p (inl h) hold = h.0 hold.1
no_region code p (inr h) hold = h.1.fails (hold.2 p h.1.within)

-- code breaks one kind of rule first, at one place
one_break : (words : ℕ) (code : CodeValue) (kind also : Kind) (place other : ℕ) → CodeBreaks words code kind place → CodeBreaks words code also other → (kind ≡ also) × (place ≡ other)
one_break words code Form Form place other h k = absurd h
one_break words code Form Operand place other h k = absurd h
one_break words code Form Region place other h k = absurd h
one_break words code Form Stack place other h k = absurd h
one_break words code Form Loop place other h k = absurd h
one_break words code Form Long place other h k = absurd h
one_break words code Operand Form place other h k = absurd k
one_break words code Operand Operand place other h k = (refl, first_same code _ place other h k)
one_break words code Operand Region place other h k = absurd (h.fails (k.0 place h.within))
one_break words code Operand Stack place other h k = absurd (h.fails (k.0.0 place h.within))
one_break words code Operand Loop place other h k = absurd (h.fails (k.0.0.0 place h.within))
one_break words code Operand Long place other h k = absurd (h.fails (k.0.0.0.0 place h.within))
one_break words code Region Form place other h k = absurd k
one_break words code Region Operand place other h k = absurd (k.fails (h.0 other k.within))
one_break words code Region Region place other h k = (refl, one_region code place other h.1 k.1)
one_break words code Region Stack place other h k = absurd (no_region code place h.1 k.0)
one_break words code Region Loop place other h k = absurd (no_region code place h.1 k.0.0)
one_break words code Region Long place other h k = absurd (no_region code place h.1 k.0.0.0)
one_break words code Stack Form place other h k = absurd k
one_break words code Stack Operand place other h k = absurd (k.fails (h.0.0 other k.within))
one_break words code Stack Region place other h k = absurd (no_region code other k.1 h.0)
one_break words code Stack Stack place other h k = (refl, first_same code _ place other h.1 k.1)
one_break words code Stack Loop place other h k = absurd (h.1.fails (k.0.1 place h.1.within))
one_break words code Stack Long place other h k = absurd (h.1.fails (k.0.0.1 place h.1.within))
one_break words code Loop Form place other h k = absurd k
one_break words code Loop Operand place other h k = absurd (k.fails (h.0.0.0 other k.within))
one_break words code Loop Region place other h k = absurd (no_region code other k.1 h.0.0)
one_break words code Loop Stack place other h k = absurd (k.1.fails (h.0.1 other k.1.within))
one_break words code Loop Loop place other h k = (refl, first_same code _ place other h.1 k.1)
one_break words code Loop Long place other h k = absurd (h.1.fails (k.0.1 place h.1.within))
one_break words code Long Form place other h k = absurd k
one_break words code Long Operand place other h k = absurd (k.fails (h.0.0.0.0 other k.within))
one_break words code Long Region place other h k = absurd (no_region code other k.1 h.0.0.0)
one_break words code Long Stack place other h k = absurd (k.1.fails (h.0.0.1 other k.1.within))
one_break words code Long Loop place other h k = absurd (k.1.fails (h.0.1 other k.1.within))
one_break words code Long Long place other h k = (refl, first_same code _ place other h.1 k.1)

one_read : (a b : Object) (bytes : List ℕ) → IsReadAs a bytes → IsReadAs b bytes → a ≡ b
one_read a b bytes h k = sym (as_is_read a bytes h) ∙ as_is_read b bytes k

no_form : (words : ℕ) (code : CodeValue) (place : ℕ) → CodeBreaks words code Form place → ⊥
no_form words code place h = h

pub one_verdict : (bytes : List ℕ) (kind also : Kind) (place other : ℕ) → IsBad bytes kind place → IsBad bytes also other → (kind ≡ also) × (place ≡ other)
one_verdict bytes Form Form zero zero (NoFile none) (NoFile also) = (refl, refl)
one_verdict bytes Form also zero other (NoFile none) (Broken o read breaks) = absurd (none o read)
one_verdict bytes kind Form place zero (Broken o read breaks) (NoFile none) = absurd (none o read)
one_verdict bytes kind also place other (Broken o read breaks) (Broken q again more) =
    one_break (length o.words) o.code kind also place other breaks
    (subst (λ (x : Object). CodeBreaks (length x.words) x.code also other) (one_read q o bytes again read) more)

-- verified code breaks no rule
holds_all : (words : ℕ) (code : CodeValue) (kind : Kind) (place : ℕ) → IsVerified words (length code.tasks) code → CodeBreaks words code kind place → ⊥
holds_all words code Form place v h = h
holds_all words code Operand place v h = h.fails (v.operands place h.within)
holds_all words code Region place v h = no_region {words = words} code place h.1 (v.operands, v.entries, v.regions)
holds_all words code Stack place v h = h.1.fails (v.stacks place h.1.within)
holds_all words code Loop place v h = h.1.fails (v.loops place h.1.within)
holds_all words code Long place v h = h.1.fails (v.short place h.1.within)

pub not_both : (bytes : List ℕ) (o : Object) (kind : Kind) (place : ℕ) → IsGood bytes o → IsBad bytes kind place → ⊥
not_both bytes o Form zero good (NoFile none) = none o (file_is_as o bytes good.file)
not_both bytes o kind place good (Broken q read breaks) =
    holds_all (length o.words) o.code kind place good.verified
    (subst (λ (x : Object). CodeBreaks (length x.words) x.code kind place) (one_read q o bytes read (file_is_as o bytes good.file)) breaks)
