-- One record more, and where two lists part.
use Rattle.std.proofs.Common.{◌≡◌, ◌≢◌, ℕ, zero, suc, ◌+◌, ◌<◌, ◌≤◌, List, [], ◌∷◌, ◌++◌, length, take, Option, Some, None, inl, inr, refl, sym, ap, ◌∙◌, subst, arith}
use Rattle.std.specs.Prelude.{min, slice_get}
use Rattle.std.proofs.lemmas.Bool.{cases_lt}
use Rattle.std.proofs.lemmas.List.{take_all}
use Rattle.std.proofs.lemmas.List.FromFn.{map-range_with_len_more}
use Rattle.std.proofs.lemmas.Option.{slice_get_past}
use Rattle.cat_program.specs.declared.outs.LogEntry.{LogEntry}
use Rattle.nv_memory.specs.declared.layout.Layout.{Layout}
use Rattle.cn_resume.specs.Records.{EachBelow, entries_in, entry_in}
use Rattle.cn_resume.specs.Fit.{PartsAt}

entries_more : (l : Layout) (image : List ℕ) (n : ℕ) → entries_in l image (n + 1) ≡ entries_in l image n ++ entry_in l image n ∷ []
entries_more l image n = map-range_with_len_more (entry_in l image) 0 n n (omega arith)

pub entries_with : (l : Layout) (image : List ℕ) (n : ℕ) (es new : List LogEntry) (e : LogEntry) → new ≡ es ++ e ∷ [] → es ≡ entries_in l image n → e ≡ entry_in l image n → new ≡ entries_in l image (n + 1)
entries_with l image n es new e added before is =
    added ∙ ap (λ (x : List LogEntry). x ++ e ∷ []) before ∙ ap (λ (x : LogEntry). entries_in l image n ++ x ∷ []) is ∙ sym (entries_more l image n)

pub each_more : (P : ℕ → Type 0) (n : ℕ) → EachBelow P n → P n → EachBelow P (n + 1)
each_more P n before here k lt =
    elim (cases_lt k n) [
      | inl less ↦ before k less
      | inr more ↦ (let same : n ≡ k = omega arith in subst P same here)
    ]

some_there : (xs : List LogEntry) (n : ℕ) → n < length xs → (x : LogEntry) × (slice_get xs n ≡ Some x)
some_there [] n lt = absurd (omega (arith, lt))
some_there (x ∷ xs) zero lt = (x, refl)
some_there (x ∷ xs) (suc n) lt = some_there xs n (omega (arith, lt))

none_and_some : {A : Type 0} (a b : Option A) (x : A) → a ≡ None → b ≡ Some x → a ≡ b → ⊥
none_and_some a b x none some same = let never : None ≡ Some x = sym none ∙ same ∙ some in cc

-- two lists that are the same up to a place, at which one of them ends
pub parts_at_end : (one other : List LogEntry) (n : ℕ) → n ≡ min (length one) (length other) → length one ≢ length other → take n one ≡ take n other → PartsAt one other n
parts_at_end one other n e differ same =
    record {
      same = same;
      differ = elim (cases_lt (length one) (length other)) [
        | inl less ↦
            (let there = some_there other n (omega (arith, e, less)) in
            none_and_some (slice_get one n) (slice_get other n) there.0 (slice_get_past one n (omega (arith, e, less))) there.1)
        | inr more ↦
            (let there = some_there one n (omega (arith, e, more, differ)) in
            λ alike. none_and_some (slice_get other n) (slice_get one n) there.0 (slice_get_past other n (omega (arith, e, more))) there.1 (sym alike))
      ];
    }

-- two lists of one length that are the same up to it
pub same_at_end : (one other : List LogEntry) (n : ℕ) → length one ≤ n → length other ≤ n → take n one ≡ take n other → one ≡ other
same_at_end one other n a b same = sym (take_all n one a) ∙ same ∙ take_all n other b

-- and where an entry differs
pub parts_at : (one other : List LogEntry) (n : ℕ) (x y : LogEntry) → slice_get one n ≡ Some x → slice_get other n ≡ Some y → x ≢ y → take n one ≡ take n other → PartsAt one other n
parts_at one other n x y first second differ same =
    record { same = same; differ = λ alike. differ (let e : Some x ≡ Some y = sym first ∙ alike ∙ second in cc) }
