-- The image and what is committed, entry by entry.
use Rattle.std.proofs.Common.{◌≡◌, ℕ, zero, suc, ◌+◌, ◌≤◌, ◌<◌, inl, inr, List, [], ◌∷◌, ◌++◌, length, take, get_or, Option, Some, true, false, nat_lt, refl, sym, ap, ◌∙◌, subst, arith}
use Rattle.std.specs.Prelude.{slice_get}
use Rattle.std.specs.List.{range_with_len}
use Rattle.std.specs.Option.{option_map_or}
use Rattle.std.proofs.lemmas.Bool.{cases_lt}
use Rattle.std.proofs.lemmas.Bool.Decides.{nat_tests}
use Rattle.std.proofs.lemmas.Option.{slice_get_within, get_or_from_slice_get}
use Rattle.std.proofs.lemmas.List.{take_more}
use Rattle.std.proofs.lemmas.List.FromFn.{length-range_with_len, get_or-range_with_len}
use Rattle.std.proofs.lemmas.List.Sums.{position_or_len_is}
use Rattle.std.proofs.Math.Seq.{take-length}
use Rattle.nv_memory.specs.declared.layout.Layout.{Layout}
use Rattle.nv_memory.specs.declared.entry.Entry.{Entry}
use Rattle.nv_memory.specs.Board.{State, Start, IsSound, image_after, image_by}
use Rattle.checkpoint_slots.specs.Image.{committed_slot}
use Rattle.cn_report.specs.declared.heads.Heads.{Heads}
use Rattle.cn_report.specs.declared.cursor.Cursor.{Cursor}
use Rattle.recovery.specs.Past.{Past, past_of, image_at, committed_at, last_image, last_slot, end_of, has_record, commit_of, done_at}
use Rattle.cn_report.specs.Story.{entry_line, moment_line}
use Rattle.cn_report.specs.Windows.{AreHeads}
use Rattle.cn_report.specs.Passed.{HasPassed, IsBefore}

image_by-append : (xs ys : List Entry) (image : List ℕ) → image_by (xs ++ ys) image ≡ image_by ys (image_by xs image)
image_by-append [] ys image = refl
image_by-append (x ∷ xs) ys image = image_by-append xs ys (image_after x.op image)

pub image-none : (past : Past) → past.first ≡ image_at past 0
unfolding image_at
image-none past = refl

pub image-more : (past : Past) (k : ℕ) (entry : Entry) → slice_get past.timeline k ≡ Some entry → image_after entry.op (image_at past k) ≡ image_at past (k + 1)
unfolding image_at
image-more past k entry is =
    let last : get_or past.timeline k entry ≡ entry = get_or_from_slice_get past.timeline k entry entry is in
    sym (ap (λ (l : List Entry). image_by l past.first) (take_more past.timeline k entry (slice_get_within past.timeline k entry is))
    ∙ image_by-append (take k past.timeline) (get_or past.timeline k entry ∷ []) past.first
    ∙ ap (λ (e : Entry). image_after e.op (image_by (take k past.timeline) past.first)) last)

pub image-last : (past : Past) → image_by past.timeline past.first ≡ last_image past
unfolding image_at
image-last past = ap (λ (l : List Entry). image_by l past.first) (sym (take-length past.timeline))

-- what a sound board holds is the last image
pub sound-last : (l : Layout) (start : Start) (s : State) → IsSound start s → s.image ≡ last_image (past_of l start s)
sound-last l start s sound = sound.image_is ∙ image-last (past_of l start s)

pub committed-is : (past : Past) (n : ℕ) → committed_slot past.layout (image_at past n) ≡ committed_at past n
unfolding committed_at
committed-is past n = refl

pub moment-is : (past : Past) (k : ℕ) (entry : Entry) → slice_get past.timeline k ≡ Some entry → entry_line (committed_at past (k + 1)) entry ≡ moment_line past k
unfolding moment_line
moment-is past k entry is = sym (ap (λ (o : Option Entry). option_map_or (entry_line (committed_at past (k + 1))) o []) is)

-- the heads go on
pub heads-more : (past : Past) (k : ℕ) (entry : Entry) (h : Heads) → slice_get past.timeline k ≡ Some entry → AreHeads past.layout (image_after entry.op (image_at past k)) h → AreHeads past.layout (image_at past (k + 1)) h
heads-more past k entry h is heads = subst (λ (image : List ℕ). AreHeads past.layout image h) (image-more past k entry is) heads

-- ---- the cursor

pub starts : (past : Past) (h : Heads) → AreHeads past.layout past.first h → HasPassed past (record { passed = 0; heads = h; ended = 0 })
starts past h heads =
    record {
      within = omega arith;
      heads = subst (λ (image : List ℕ). AreHeads past.layout image h) (image-none past) heads;
      ended = λ k is. absurd (omega (arith, is));
    }

pub goes_on : (past : Past) (k : ℕ) (entry : Entry) (h : Heads) → slice_get past.timeline k ≡ Some entry
    → AreHeads past.layout (image_after entry.op (image_at past k)) h → HasPassed past (record { passed = k + 1; heads = h; ended = end_of entry })
goes_on past k entry h is heads =
    record {
      within = omega (arith, slice_get_within past.timeline k entry is);
      heads = heads-more past k entry h is heads;
      ended = λ j same.
          let here : k ≡ j = omega (arith, same) in
          sym (ap (λ (o : Option Entry). option_map_or end_of o 0) (subst (λ (i : ℕ). slice_get past.timeline i ≡ Some entry) here is));
    }

-- where the record is committed at last, there are more entries as long as it isn't
pub more_left : (past : Past) (place n : ℕ) → n ≤ length past.timeline → (committed_at past n).len ≤ place → place < (last_slot past).len → n < length past.timeline
more_left past place n within none some =
    elim (cases_lt n (length past.timeline)) [
      | inl less ↦ less
      | inr more ↦
          let same : n ≡ length past.timeline = omega arith in
          absurd (omega (arith, none, some, ap (λ (k : ℕ). (committed_at past k).len) same))
    ]

module _ (past : Past) (place k : ℕ) (before : (n : ℕ) → n < k + 1 → (committed_at past n).len ≤ place) (here : place < (committed_at past (k + 1)).len) (within : k + 1 ≤ length past.timeline) where
  earlier : (n : ℕ) → n < k → has_record past place (get_or (range_with_len 0 (length past.timeline)) n 0) ≡ false
  earlier n less =
      let at : get_or (range_with_len 0 (length past.timeline)) n 0 ≡ n = get_or-range_with_len 0 (length past.timeline) n 0 (omega arith) ∙ (omega arith) in
      let low = before (n + 1) (omega arith) in
      let none : nat_lt place (committed_at past (n + 1)).len ≡ false = grind (arith, nat_tests, low) in
      ap (has_record past place) at ∙ none

  now_there : k < length (range_with_len 0 (length past.timeline)) → has_record past place (get_or (range_with_len 0 (length past.timeline)) k 0) ≡ true
  now_there less =
      let at : get_or (range_with_len 0 (length past.timeline)) k 0 ≡ k = get_or-range_with_len 0 (length past.timeline) k 0 (omega arith) ∙ (omega arith) in
      let there : nat_lt place (committed_at past (k + 1)).len ≡ true = grind (arith, nat_tests, here) in
      ap (has_record past place) at ∙ there

  pub commit-is : commit_of past place ≡ k
  commit-is = position_or_len_is (has_record past place) (range_with_len 0 (length past.timeline)) k 0 (omega (arith, within, length-range_with_len 0 (length past.timeline))) earlier now_there

pub done-is : (past : Past) (place : ℕ) (c : Cursor) → HasPassed past c → IsBefore past place c → (committed_at past 0).len ≤ place → place < (committed_at past c.passed).len → c.ended ≡ done_at past place
unfolding done_at
done-is past place c passed before none some =
    elim c.passed as (λ n. c.passed ≡ n → c.ended ≡ option_map_or end_of (slice_get past.timeline (commit_of past place)) 0) [
      | zero ↦ (λ is. absurd (omega (arith, none, some, ap (λ (k : ℕ). (committed_at past k).len) is)))
      | suc k ↦ (λ is.
          let next : c.passed ≡ k + 1 = is ∙ (omega arith) in
          let later : place < (committed_at past (k + 1)).len = subst (λ (n : ℕ). place < (committed_at past n).len) next some in
          let low : (n : ℕ) → n < k + 1 → (committed_at past n).len ≤ place = λ n less. before n (omega (arith, less, next)) in
          passed.ended k next ∙ ap (λ (j : ℕ). option_map_or end_of (slice_get past.timeline j) 0) (sym (commit-is past place k low later (omega (arith, passed.within, next)))))
    ] refl
