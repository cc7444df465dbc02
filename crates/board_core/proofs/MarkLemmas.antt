-- Marks narrow the search for a place to a few records.
use Rattle.std.proofs.Common.{◌≡◌, ◌⊎◌, inl, inr, ℕ, zero, suc, ◌+◌, ◌-◌, ◌*◌, ◌≤◌, ◌<◌, List, [], ◌∷◌, ◌++◌, length, get_or, take, drop, replicate, refl, sym, ◌∙◌, ap, subst, arith, append_assoc, get_or-drop, get_or-take, length-append, length-drop, length-take}
use Rattle.std.specs.Prelude.{flat_map}
use Rattle.std.specs.List.Sorted.{IsNonDecreasing, IsPartitionPoint}
use Rattle.std.proofs.lemmas.List.{get_or-append_right, length-replicate}
use Rattle.std.proofs.Math.ListN.{get_or-append}
use Rattle.board_core.specs.declared.record.Record.{Record}
use Rattle.board_core.specs.Records.{IsKept, IsLast, IsMarked, IsNarrow, ends_from, entries_by, width}
use Rattle.board_core.proofs.RecordLemmas.{length-entries_by}

which : (i n : ℕ) → (i < n) ⊎ (n ≤ i)
which i n = grind arith

get_or-replicate : (n x i d : ℕ) → i < n → get_or (replicate n x) i d ≡ x
get_or-replicate zero x i d h = absurd (omega arith)
get_or-replicate (suc n) x zero d h = refl
get_or-replicate (suc n) x (suc i) d h = get_or-replicate n x i d (omega arith)

-- no record ends behind the last
end-most : (cap : ℕ) (left : List ℕ) (start : ℕ) (rs : List Record) (i d : ℕ) → i < length rs → get_or (ends_from start rs) i d ≤ start + length (flat_map (entries_by cap left) rs)
unfolding ends_from
end-most cap left start [] i d h = absurd (omega arith)
end-most cap left start (r ∷ rs) zero d h = omega (arith, length-entries_by cap left r, length-append (entries_by cap left r) (flat_map (entries_by cap left) rs))
end-most cap left start (r ∷ rs) (suc i) d h =
    let more = end-most cap left (start + width r) rs i d (omega arith) in
    omega (arith, more, length-entries_by cap left r, length-append (entries_by cap left r) (flat_map (entries_by cap left) rs))

pub marked_none : IsMarked [] [] 0
marked_none = record { covers = omega arith; no_more = omega arith; inside = λ b h. absurd (omega arith); points = λ b h. absurd (omega arith) }

pub marked_empty : (marks ends : List ℕ) → marks ≡ [] → ends ≡ [] → IsMarked marks ends 0
marked_empty marks ends marks_are ends_are = subst (λ (l : List ℕ). IsMarked l ends 0) (sym marks_are) (subst (λ (l : List ℕ). IsMarked [] l 0) (sym ends_are) marked_none)

module _ (marks ends : List ℕ) (before count n : ℕ) (h : IsMarked marks ends before) (below : (k d : ℕ) → k < length ends → get_or ends k d ≤ before) (more : before < count)
    (covers : count ≤ 64 * length (marks ++ replicate n (length ends))) (no_more : 64 * length (marks ++ replicate n (length ends)) < count + 64) where
  size : length (marks ++ replicate n (length ends)) ≡ length marks + n
  size = omega (arith, length-append marks (replicate n (length ends)), length-replicate n (length ends))

  mark_is : (b : ℕ) → length marks ≤ b → b < length (marks ++ replicate n (length ends)) → get_or (marks ++ replicate n (length ends)) b 0 ≡ length ends
  mark_is b le lt = get_or-append_right marks (replicate n (length ends)) (length marks) b 0 refl le ∙ get_or-replicate n (length ends) (b - length marks) 0 (omega (arith, size))

  last_is : (d : ℕ) → get_or (ends ++ count ∷ []) (length ends) d ≡ count
  last_is d = get_or-append_right ends (count ∷ []) (length ends) (length ends) d refl (omega arith) ∙ first (length ends - length ends) (omega arith)
    where
      first : (i : ℕ) → i ≡ 0 → get_or (count ∷ []) i d ≡ count
      first zero e = refl
      first (suc i) e = absurd (omega arith)

  ends_size : length (ends ++ count ∷ []) ≡ length ends + 1
  ends_size = length-append ends (count ∷ [])

  inside_by : (b : ℕ) → b < length (marks ++ replicate n (length ends)) → (b < length marks) ⊎ (length marks ≤ b) → get_or (marks ++ replicate n (length ends)) b 0 < length (ends ++ count ∷ [])
  inside_by b lt (inl old) = omega (arith, ends_size, h.inside b old, get_or-append marks (replicate n (length ends)) 0 b old)
  inside_by b lt (inr new) = omega (arith, ends_size, mark_is b new lt)

  old_before : (b k d : ℕ) → b < length marks → k < get_or marks b 0 → get_or (ends ++ count ∷ []) k d ≤ 64 * b
  old_before b k d old lt =
      let within : k < length ends = omega (arith, h.inside b old) in
      rw (get_or-append ends (count ∷ []) d k within) ((h.points b old).0 k d (omega arith) lt)

  old_behind : (b k d : ℕ) → b < length marks → get_or marks b 0 ≤ k → k < length (ends ++ count ∷ []) → (k < length ends) ⊎ (length ends ≤ k) → 64 * b < get_or (ends ++ count ∷ []) k d
  old_behind b k d old le lt (inl within) = rw (get_or-append ends (count ∷ []) d k within) ((h.points b old).1 k d le within)
  old_behind b k d old le lt (inr past) =
      let k_is : k ≡ length ends = omega (arith, ends_size) in
      let is : get_or (ends ++ count ∷ []) k d ≡ count = ap (λ (i : ℕ). get_or (ends ++ count ∷ []) i d) k_is ∙ last_is d in
      omega (arith, is, h.no_more, more)

  new_before : (b k d : ℕ) → length marks ≤ b → k < length ends → get_or (ends ++ count ∷ []) k d ≤ 64 * b
  new_before b k d new within =
      let is = get_or-append ends (count ∷ []) d k within in
      omega (arith, is, below k d within, h.covers)

  new_behind : (b k d : ℕ) → b < length (marks ++ replicate n (length ends)) → length ends ≤ k → k < length (ends ++ count ∷ []) → 64 * b < get_or (ends ++ count ∷ []) k d
  new_behind b k d lt past within =
      let k_is : k ≡ length ends = omega (arith, ends_size) in
      let is : get_or (ends ++ count ∷ []) k d ≡ count = ap (λ (i : ℕ). get_or (ends ++ count ∷ []) i d) k_is ∙ last_is d in
      omega (arith, is, no_more)

  points_by : (b : ℕ) → b < length (marks ++ replicate n (length ends)) → (b < length marks) ⊎ (length marks ≤ b)
      → IsPartitionPoint (λ end. end ≤ 64 * b) (λ end. 64 * b < end) (ends ++ count ∷ []) (get_or (marks ++ replicate n (length ends)) b 0)
  points_by b lt (inl old) =
      let is = get_or-append marks (replicate n (length ends)) 0 b old in
      (λ k d low high. old_before b k d old (omega (arith, is, high)), λ k d low high. old_behind b k d old (omega (arith, is, low)) high (which k (length ends)))
  points_by b lt (inr new) =
      let is = mark_is b new lt in
      (λ k d low high. new_before b k d new (omega (arith, is, high)), λ k d low high. new_behind b k d lt (omega (arith, is, low)) high)

  marked_more : IsMarked (marks ++ replicate n (length ends)) (ends ++ count ∷ []) count
  marked_more = record {
    covers = covers;
    no_more = no_more;
    inside = λ b lt. inside_by b lt (which b (length marks));
    points = λ b lt. points_by b lt (which b (length marks));
  }

pub marked_pushed : (marks marks' ends ends' : List ℕ) (before count nth n : ℕ) → IsMarked marks ends before → ((k d : ℕ) → k < length ends → get_or ends k d ≤ before) → before < count
    → nth ≡ length ends → marks' ≡ marks ++ replicate n nth → ends' ≡ ends ++ count ∷ [] → count ≤ 64 * length marks' → 64 * length marks' < count + 64 → IsMarked marks' ends' count
marked_pushed marks marks' ends ends' before count nth n h below more nth_is marks_are ends_are covers no_more =
    let are : marks' ≡ marks ++ replicate n (length ends) = marks_are ∙ ap (λ (r : ℕ). marks ++ replicate n r) nth_is in
    let covers' : count ≤ 64 * length (marks ++ replicate n (length ends)) = subst (λ (l : List ℕ). count ≤ 64 * length l) are covers in
    let no_more' : 64 * length (marks ++ replicate n (length ends)) < count + 64 = subst (λ (l : List ℕ). 64 * length l < count + 64) are no_more in
    let all = marked_more marks ends before count n h below more covers' no_more' in
    let with_ends = subst (λ (l : List ℕ). IsMarked (marks ++ replicate n (length ends)) l count) (sym ends_are) all in
    subst (λ (l : List ℕ). IsMarked l ends' count) (sym are) with_ends

pub kept_below : (cap : ℕ) (rs : List Record) (ends left : List ℕ) (count : ℕ) → IsKept cap rs ends left count → count ≡ length (flat_map (entries_by cap left) rs) → length ends ≡ length rs
    → (k d : ℕ) → k < length ends → get_or ends k d ≤ count
kept_below cap rs ends left count h counted size k d within =
    let is : get_or ends k d ≡ get_or (ends_from 0 rs) k d = ap (λ (l : List ℕ). get_or l k d) h.ends_are in
    omega (arith, is, counted, end-most cap left 0 rs k d (omega (arith, size)))

not_before : (marks ends : List ℕ) (count b : ℕ) → IsMarked marks ends count → b + 1 < length marks → get_or marks (b + 1) 0 < get_or marks b 0 → ⊥
not_before marks ends count b h next less =
    let low = (h.points b (omega arith)).0 (get_or marks (b + 1) 0) 0 (omega arith) less in
    let high = (h.points (b + 1) next).1 (get_or marks (b + 1) 0) 0 (omega arith) (h.inside (b + 1) next) in
    omega (arith, low, high)

ordered : (a b : ℕ) → (b < a → ⊥) → a ≤ b
ordered a b h = elim (which b a) [ inl less ↦ absurd (h less) | inr le ↦ le ]

pub narrow : (marks ends : List ℕ) (count place b first last : ℕ) → IsMarked marks ends count → b < length marks → 64 * b ≤ place → place < 64 * b + 64 → first ≡ get_or marks b 0 → IsLast marks ends b last → IsNarrow ends place first last
narrow marks ends count place b first last h marked low high first_is (inl all) =
    record {
      order = omega (arith, first_is, all, h.inside b marked);
      within = omega (arith, all);
      before = λ k d less. (let is = (h.points b marked).0 k d (omega arith) (omega (arith, first_is)) in omega (arith, is));
      behind = λ k d le lt. absurd (omega (arith, all));
    }
narrow marks ends count place b first last h marked low high first_is (inr (next, last_is)) =
    let order = ordered (get_or marks b 0) (get_or marks (b + 1) 0) (not_before marks ends count b h next) in
    record {
      order = omega (arith, first_is, last_is, order);
      within = omega (arith, last_is, h.inside (b + 1) next);
      before = λ k d less. (let is = (h.points b marked).0 k d (omega arith) (omega (arith, first_is)) in omega (arith, is));
      behind = λ k d le lt. (let is = (h.points (b + 1) next).1 k d (omega (arith, last_is)) lt in omega (arith, is));
    }

-- what is found in the part is found in the whole
pub widened : (ends part : List ℕ) (place first last r : ℕ) → IsNarrow ends place first last → length part ≡ last - first → ((i d : ℕ) → i < last - first → get_or part i d ≡ get_or ends (first + i) d)
    → r ≤ length part → IsPartitionPoint (λ end. end ≤ place) (λ end. place < end) part r → IsPartitionPoint (λ end. end ≤ place) (λ end. place < end) ends (first + r)
widened ends part place first last r h size part_is most point =
    (λ k d low high. before_by k d high (which k first), λ k d low high. behind_by k d low high (which k last))
  where
    before_by : (k d : ℕ) → k < first + r → (k < first) ⊎ (first ≤ k) → get_or ends k d ≤ place
    before_by k d high (inl less) = h.before k d less
    before_by k d high (inr le) =
        let i = k - first in
        let k_is : first + i ≡ k = omega arith in
        let is : get_or part i d ≡ get_or ends k d = part_is i d (omega (arith, size)) ∙ ap (λ (j : ℕ). get_or ends j d) k_is in
        omega (arith, is, point.0 i d (omega arith) (omega (arith, k_is)))

    behind_by : (k d : ℕ) → first + r ≤ k → k < length ends → (k < last) ⊎ (last ≤ k) → place < get_or ends k d
    behind_by k d low high (inl less) =
        let i = k - first in
        let k_is : first + i ≡ k = omega arith in
        let is : get_or part i d ≡ get_or ends k d = part_is i d (omega arith) ∙ ap (λ (j : ℕ). get_or ends j d) k_is in
        omega (arith, is, point.1 i d (omega (arith, k_is)) (omega (arith, size)))
    behind_by k d low high (inr le) = h.behind k d le high

pub rising_part : (ends part : List ℕ) (first last : ℕ) → IsNonDecreasing ends → length part ≡ last - first → last ≤ length ends → first ≤ last → ((i d : ℕ) → i < last - first → get_or part i d ≡ get_or ends (first + i) d) → IsNonDecreasing part
rising_part ends part first last rises size within order part_is i j d le lt =
    let a = part_is i d (omega (arith, size)) in
    let b = part_is j d (omega (arith, size)) in
    omega (arith, a, b, rises (first + i) (first + j) d (omega arith) (omega (arith, size)))

replicate-push : (n x : ℕ) → replicate n x ++ x ∷ [] ≡ replicate (suc n) x
replicate-push zero x = refl
replicate-push (suc n) x = ap (λ (l : List ℕ). x ∷ l) (replicate-push n x)

pub one_more : (marks marks' marks'' : List ℕ) (n x : ℕ) → marks' ≡ marks ++ replicate n x → marks'' ≡ marks' ++ x ∷ [] → marks'' ≡ marks ++ replicate (suc n) x
one_more marks marks' marks'' n x before after =
    after ∙ ap (λ (l : List ℕ). l ++ x ∷ []) before ∙ append_assoc marks (replicate n x) (x ∷ []) ∙ ap (λ (l : List ℕ). marks ++ l) (replicate-push n x)

pub part_of : (ends : List ℕ) (first last i d : ℕ) → last ≤ length ends → i < last - first → get_or (take (last - first) (drop first ends)) i d ≡ get_or ends (first + i) d
part_of ends first last i d within less = rw (get_or-take, get_or-drop) refl

pub part_size : (ends : List ℕ) (first last : ℕ) → last ≤ length ends → first ≤ last → length (take (last - first) (drop first ends)) ≡ last - first
part_size ends first last within order = omega (arith, length-take (last - first) (drop first ends), length-drop first ends)
