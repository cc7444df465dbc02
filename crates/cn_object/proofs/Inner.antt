-- The innermost loop around each place.
use Rattle.std.proofs.Common.{◌≡◌, ℕ, ◌+◌, ◌<◌, ◌≤◌, ◌⊎◌, inl, inr, List, [], ◌∷◌, ◌++◌, length, get_or, refl, sym, ◌∙◌, ap, subst, Bool, true, false, arith}
use Rattle.std.specs.Prelude.{Option, Some, None, slice_get, slice_index_or, nat_lt}
use Rattle.std.proofs.lemmas.List.{get_or_append_left, get_or-append-add, length-append}
use borrow.Author.Tests.{ltb-true, ltb-false}
use Rattle.cat_machine.specs.declared.instr.Instr.{Instr}
use Rattle.cat_machine.specs.declared.instr.Instr.TheVariants as i
use Rattle.cat_machine.specs.CodeValue.{CodeValue}
use Rattle.cn_object.specs.Loops.{TurnsAt}
use Rattle.cn_object.specs.Looping.{InnerIs, AreInner, IsLatestTurn, IsLatest, latest_of}

some_same : {X : Type 0} (x y : X) → Some x ≡ Some y → x ≡ y
some_same x y e = cc

order_by : (a b : ℕ) (t : Bool) → nat_lt a b ≡ t → (a < b) ⊎ (b ≤ a)
order_by a b true e = inl (ltb-true a b e)
order_by a b false e = inr (ltb-false a b e)

pub order : (a b : ℕ) → (a < b) ⊎ (b ≤ a)
order a b = order_by a b (nat_lt a b) refl

-- a number is below another, or the same, or above it
pub split : {P : Type 0} (a b : ℕ) → (a < b → P) → (a ≡ b → P) → (b < a → P) → P
split a b below same above = elim (order a b) [ inl h ↦ below h | inr h ↦ elim (order b a) [ inl g ↦ above g | inr g ↦ same (omega (arith, h, g)) ] ]

pub turns_same : (code : CodeValue) (turn a b : ℕ) → TurnsAt code turn a → TurnsAt code turn b → a ≡ b
turns_same code turn a b p q = let same : Some (i.Turn a) ≡ Some (i.Turn b) = sym p ∙ q in cc

-- a measure: the turns that may follow on the way outward
abbrev pub outward : Option ℕ → ℕ
outward None = 0
outward (Some turn) = turn + 1

-- a loop that ends at a place or before it is around none of the later places
pub latest_goes : (code : CodeValue) (pc turn : ℕ) (outer : Option ℕ) (l : IsLatestTurn code pc turn) → l.end ≤ pc → InnerIs code turn outer → IsLatest code pc outer
latest_goes code pc turn None l ended none =
    λ other far is before. split other turn
    (λ h. elim (order turn far) [ inl g ↦ absurd (none other far is (h, g)) | inr g ↦ omega (arith, g, l.before) ])
    (λ same. let e : far ≡ l.end = turns_same code turn far l.end (subst (λ t. TurnsAt code t far) same is) l.turns in omega (arith, e, ended))
    (λ h. l.past other far is before h)
latest_goes code pc turn (Some out) l ended inner = record {
  end = inner.end;
  turns = inner.turns;
  before = omega (arith, inner.around.0, l.before);
  past = λ other far is before above. split other turn
      (λ h. elim (order turn far) [ inl g ↦ absurd (let low = inner.last other far is (h, g) in omega (arith, low, above)) | inr g ↦ omega (arith, g, l.before) ])
      (λ same. let e : far ≡ l.end = turns_same code turn far l.end (subst (λ t. TurnsAt code t far) same is) l.turns in omega (arith, e, ended))
      (λ h. l.past other far is before h);
}

-- one that reaches past the place is the innermost
pub latest_is : (code : CodeValue) (pc turn : ℕ) (l : IsLatestTurn code pc turn) → pc < l.end → InnerIs code pc (Some turn)
latest_is code pc turn l on = record {
  end = l.end;
  turns = l.turns;
  around = (l.before, on);
  last = λ other far is b. elim (order turn other) [ inl h ↦ absurd (let low = l.past other far is b.0 h in omega (arith, low, b.1)) | inr h ↦ h ];
}

pub latest_none : (code : CodeValue) (pc : ℕ) → IsLatest code pc None → InnerIs code pc None
latest_none code pc l = λ turn end is b. let low = l turn end is b.0 in omega (arith, low, b.1)

-- from the innermost loop around a place to the latest turn before the next
pub latest_next : (code : CodeValue) (pc : ℕ) (x : Instr) (around : Option ℕ) → slice_get code.instrs pc ≡ Some x → InnerIs code pc around → IsLatest code (pc + 1) (latest_of x pc around)
latest_next code pc (i.Turn end) around is inner = record {
  end = end;
  turns = is;
  before = omega arith;
  past = λ other far at before above. omega (arith, before, above);
}
latest_next code pc x around is inner = stays x around is inner (λ end e. cc) where
  no_turn : (y : Instr) → slice_get code.instrs pc ≡ Some y → ((end : ℕ) → y ≡ i.Turn end → ⊥) → (end : ℕ) → TurnsAt code pc end → ⊥
  no_turn y f not end at = not end (some_same y (i.Turn end) (sym f ∙ at))

  stays : (y : Instr) (o : Option ℕ) → slice_get code.instrs pc ≡ Some y → InnerIs code pc o → ((end : ℕ) → y ≡ i.Turn end → ⊥) → IsLatest code (pc + 1) o
  stays y None f none not =
      λ turn end at before. split turn pc
      (λ h. elim (order pc end) [ inl g ↦ absurd (none turn end at (h, g)) | inr g ↦ omega (arith, g) ])
      (λ same. absurd (no_turn y f not end (subst (λ t. TurnsAt code t end) same at)))
      (λ h. omega (arith, h, before))
  stays y (Some out) f in_it not = record {
    end = in_it.end;
    turns = in_it.turns;
    before = omega (arith, in_it.around.0);
    past = λ other far at before above. split other pc
        (λ h. elim (order pc far) [ inl g ↦ absurd (let low = in_it.last other far at (h, g) in omega (arith, low, above)) | inr g ↦ omega (arith, g) ])
        (λ same. absurd (no_turn y f not far (subst (λ t. TurnsAt code t far) same at)))
        (λ h. omega (arith, h, before));
  }

-- one place more is known
pub inner_more : (code : CodeValue) (pc : ℕ) (inner new : List (Option ℕ)) (around : Option ℕ) → AreInner code pc inner → InnerIs code pc around → new ≡ inner ++ around ∷ [] → AreInner code (pc + 1) new
inner_more code pc inner new around are is e =
    subst (AreInner code (pc + 1)) (sym e) (record {
      size = let long = length-append inner (around ∷ []) in omega (arith, long, are.size);
      each = λ q h. elim (order q (length inner)) [
        | inl g ↦ subst (InnerIs code q) (sym (get_or_append_left inner (around ∷ []) None q g)) (are.each q g)
        | inr g ↦ (let long = length-append inner (around ∷ []) in
            let here : q ≡ length inner + 0 = omega (arith, g, h, long) in
            let value : slice_index_or (inner ++ around ∷ []) q None ≡ around = ap (λ n. get_or (inner ++ around ∷ []) n None) here ∙ get_or-append-add inner (around ∷ []) 0 None in
            let same : pc ≡ q = omega (arith, here, are.size) in
            subst (InnerIs code q) (sym value) (subst (λ p. InnerIs code p around) same is))
      ];
    })
