-- One failure after those before it.
use Rattle.std.proofs.Common.{◌≡◌, ℕ, ◌≤◌, ◌<◌, nat_lt, List, [], ◌∷◌, ◌++◌, Option, Some, Ok, Err, None, true, false, refl, ap, ◌∙◌, sym, arith}
use Rattle.std.proofs.lemmas.Bool.Decides.{nat_tests}
use Rattle.cn_tables.specs.Table.{Fields}
use Rattle.cn_tables.specs.declared.fault.RowKind.{RowKind}
use Rattle.cn_tables.specs.declared.fault.RowKind.TheVariants as kind
use Rattle.harvest_trace.specs.FailsTable.{fail_row, fails_step, is_after, last_tick, with_row}
use Rattle.harvest_trace.specs.declared.failures.Failure.{Failure}

last_tick-push : (last : Option ℕ) (fs : List Failure) (f : Failure) → last_tick last (fs ++ f ∷ []) ≡ Some f.tick
unfolding last_tick
last_tick-push last [] f = refl
last_tick-push last (g ∷ fs) f = last_tick-push (Some g.tick) fs f

pub last_tick-last : (fs : List Failure) (f : Failure) → Some f.tick ≡ last_tick None (fs ++ f ∷ [])
last_tick-last fs f = sym (last_tick-push None fs f)

few : (n : ℕ) → n ≤ 100000 → nat_lt 100000 n ≡ false
few n h = grind (arith, nat_tests)

many : (n : ℕ) → 100000 < n → nat_lt 100000 n ≡ true
many n h = grind (arith, nat_tests)

pub fails_step-many : (n : ℕ) (before : List Failure) (fields : Fields) → 100000 < n → fails_step n before fields ≡ Err kind.Many
fails_step-many n before fields h = rw (many n h) refl

fails_step-few : (n : ℕ) (before : List Failure) (fields : Fields) → n ≤ 100000 → fails_step n before fields ≡ with_row before (fail_row fields)
fails_step-few n before fields h = rw (few n h) refl

pub fails_step-bad : (n : ℕ) (before : List Failure) (fields : Fields) (k : RowKind) → n ≤ 100000 → Err k ≡ fail_row fields → fails_step n before fields ≡ Err k
fails_step-bad n before fields k h e = fails_step-few n before fields h ∙ ap (with_row before) (sym e)

pub fails_step-order : (n : ℕ) (before : List Failure) (fields : Fields) (f : Failure) (last : Option ℕ) → n ≤ 100000 → Ok f ≡ fail_row fields → last ≡ last_tick None before → is_after last f.tick ≡ false
    → fails_step n before fields ≡ Err kind.Order
fails_step-order n before fields f last h e l a = fails_step-few n before fields h ∙ ap (with_row before) (sym e) ∙ rw (← l, a) refl

pub fails_step-good : (n : ℕ) (before : List Failure) (fields : Fields) (f : Failure) (last : Option ℕ) → n ≤ 100000 → Ok f ≡ fail_row fields → last ≡ last_tick None before → is_after last f.tick ≡ true
    → fails_step n before fields ≡ Ok (before ++ f ∷ [])
fails_step-good n before fields f last h e l a = fails_step-few n before fields h ∙ ap (with_row before) (sym e) ∙ rw (← l, a) refl
