-- A record that is committed after some entries was committed by one of them.
use Rattle.std.proofs.Common.{◌≡◌, ℕ, zero, suc, ◌+◌, ◌-◌, ◌<◌, ◌≤◌, inl, inr, List, [], ◌∷◌, length, take, get_or, refl, sym, ap, subst, ◌∙◌, arith, true, false, Option, Some}
use Rattle.std.specs.Prelude.{slice_get}
use Rattle.std.specs.List.{AllByRecursion, range_with_len}
use Rattle.std.specs.Option.{option_map_or}
use Rattle.std.proofs.lemmas.Bool.{cases_lt}
use Rattle.std.proofs.lemmas.Bool.Decides.{nat_tests}
use Rattle.std.proofs.lemmas.List.Elements.{recursion_from_All}
use Rattle.std.proofs.lemmas.List.FromFn.{get_or-range_with_len}
use Rattle.std.proofs.lemmas.List.Sums.{fails_before_first}
use Rattle.nv_memory.specs.declared.entry.Entry.{Entry}
use Rattle.recovery.specs.Past.{Past, committed_at, end_of, has_record, commit_of, done_at}
use Rattle.timely_commits.specs.InTime.{CommitsInTime}

entry_at : (timeline : List Entry) (i n d : ℕ) → i < n → n ≤ length timeline → AllByRecursion (λ entry. end_of entry ≤ d) (take n timeline) →
    (e : Entry) × (slice_get timeline i ≡ Some e) × (end_of e ≤ d)
entry_at [] i n d less within all = absurd (omega arith)
entry_at (e ∷ timeline) i zero d less within all = absurd (omega arith)
entry_at (e ∷ timeline) zero (suc n) d less within all = (e, refl, all.0)
entry_at (e ∷ timeline) (suc i) (suc n) d less within all = entry_at timeline i n d (omega arith) (omega arith) all.1

first_by : (past : Past) (place m : ℕ) → m < length past.timeline → has_record past place m ≡ true → commit_of past place ≤ m
first_by past place m within has =
    elim (cases_lt m (commit_of past place)) [
      | inl before ↦
          let fails = fails_before_first (has_record past place) (range_with_len 0 (length past.timeline)) m 0 before in
          let at : get_or (range_with_len 0 (length past.timeline)) m 0 ≡ m = get_or-range_with_len 0 (length past.timeline) m 0 within ∙ omega arith in
          let fails' : has_record past place m ≡ false = ap (λ (k : ℕ). has_record past place k) (sym at) ∙ fails in
          absurd (cc)
      | inr by_then ↦ by_then
    ]

pub commits_in_time : CommitsInTime
unfolding done_at
commits_in_time past place n d some within committed all =
    let last : n - 1 + 1 ≡ n = omega arith in
    let committed' : place < (committed_at past (n - 1 + 1)).len = subst (λ (k : ℕ). place < (committed_at past k).len) (sym last) committed in
    let has : has_record past place (n - 1) ≡ true = grind (arith, nat_tests) in
    let first = first_by past place (n - 1) (omega arith) has in
    let e = entry_at past.timeline (commit_of past place) n d (omega arith) within (recursion_from_All (λ (entry : Entry). end_of entry ≤ d) (take n past.timeline) all) in
    subst (λ (found : Option Entry). option_map_or end_of found 0 ≤ d) (sym e.1) e.2
