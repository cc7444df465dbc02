-- The rows of a trace, and the row that holds at a tick.
use Rattle.std.proofs.Common.{◌≡◌, ℕ, zero, suc, ◌+◌, ◌-◌, ◌≤◌, ◌<◌, ◌≢◌, nat_lt, List, [], ◌∷◌, ◌++◌, length, get_or, Some, true, false, refl, sym, ap, ◌∙◌, subst, arith}
use Rattle.std.specs.Prelude.{pos}
use Rattle.std.proofs.lemmas.List.{get_or_default}
use Rattle.std.proofs.lemmas.Bool.Decides.{nat_tests}
use Rattle.std.specs.List.{All}
use Rattle.std.specs.List.Sorted.{IsNonDecreasing, IsPartitionPoint}
use Rattle.std.proofs.lemmas.List.Elements.{All-append}
use Rattle.cn_base.specs.declared.TheConstants.{MOST_TICKS}
use Rattle.harvest_trace.specs.Timeline.{IsInRange, IsTimeline, ends_from, life_of, row_at}
use Rattle.harvest_trace.specs.declared.row.TraceRow.{TraceRow}

pub life_of-push : (rows : List TraceRow) (row : TraceRow) → life_of (rows ++ row ∷ []) ≡ life_of rows + row.ticks
unfolding life_of
life_of-push [] row = omega arith
life_of-push (r ∷ rows) row = let more = life_of-push rows row in omega (arith, more)

ends_from-push : (start : ℕ) (rows : List TraceRow) (row : TraceRow) → ends_from start (rows ++ row ∷ []) ≡ ends_from start rows ++ (start + life_of rows + row.ticks) ∷ []
unfolding ends_from life_of
ends_from-push start [] row = let e : start + row.ticks ≡ start + 0 + row.ticks = omega arith in ap (λ n. n ∷ []) e
ends_from-push start (r ∷ rows) row =
    let e : start + r.ticks + life_of rows + row.ticks ≡ start + (r.ticks + life_of rows) + row.ticks = omega arith in
    ap (λ t. (start + r.ticks) ∷ t) (ends_from-push (start + r.ticks) rows row ∙ ap (λ n. ends_from (start + r.ticks) rows ++ n ∷ []) e)

pub IsTimeline-none : IsTimeline [] [] 0
unfolding ends_from life_of
IsTimeline-none = record { ends_are = refl; life_is = refl; bounded = omega arith; in_range = λ k d h. absurd (omega arith) }

alone : (row : TraceRow) → IsInRange row → All IsInRange (row ∷ [])
alone row good zero d h = good
alone row good (suc k) d h = absurd (omega arith)

pub IsTimeline-push : (rows : List TraceRow) (ends : List ℕ) (life : ℕ) (row : TraceRow) → IsTimeline rows ends life → IsInRange row → life + row.ticks ≤ MOST_TICKS
    → IsTimeline (rows ++ row ∷ []) (ends ++ (life + row.ticks) ∷ []) (life + row.ticks)
IsTimeline-push rows ends life row h good small =
    let e : 0 + life_of rows + row.ticks ≡ life + row.ticks = omega (arith, h.life_is) in
    record {
      ends_are = ap (λ t. t ++ (life + row.ticks) ∷ []) h.ends_are ∙ ap (λ n. ends_from 0 rows ++ n ∷ []) (sym e) ∙ sym (ends_from-push 0 rows row);
      life_is = ap (λ n. n + row.ticks) h.life_is ∙ sym (life_of-push rows row);
      bounded = small;
      in_range = All-append IsInRange rows (row ∷ []) h.in_range (alone row good);
    }

pub length-ends_from : (start : ℕ) (rows : List TraceRow) → length (ends_from start rows) ≡ length rows
unfolding ends_from
length-ends_from start [] = refl
length-ends_from start (r ∷ rows) = ap suc (length-ends_from (start + r.ticks) rows)

-- no row begins before the first
start-least : (start : ℕ) (rows : List TraceRow) (i : ℕ) → i ≤ length rows → start ≤ get_or (start ∷ ends_from start rows) i 0
unfolding ends_from
start-least start rows zero h = omega arith
start-least start [] (suc i) h = absurd (omega arith)
start-least start (r ∷ rows) (suc i) h = let more = start-least (start + r.ticks) rows i (omega arith) in omega (arith, more)

-- no row ends before the first begins
end-least : (start : ℕ) (rows : List TraceRow) (i d : ℕ) → i < length rows → start ≤ get_or (ends_from start rows) i d
unfolding ends_from
end-least start [] i d h = absurd (omega arith)
end-least start (r ∷ rows) zero d h = omega arith
end-least start (r ∷ rows) (suc i) d h = let more = end-least (start + r.ticks) rows i d (omega arith) in omega (arith, more)

-- the row after those that have ended has begun
from_point : (ends : List ℕ) (tick place : ℕ) → ((k d : ℕ) → 0 ≤ k → k < place → get_or ends k d ≤ tick) → get_or (0 ∷ ends) place 0 ≤ tick
from_point ends tick zero h = omega arith
from_point ends tick (suc place) h = h place 0 (omega arith) (omega arith)

-- the last row ends at the life
end-last : (start : ℕ) (rows : List TraceRow) → get_or (start ∷ ends_from start rows) (length rows) 0 ≡ start + life_of rows
unfolding ends_from life_of
end-last start [] = omega arith
end-last start (r ∷ rows) = let more = end-last (start + r.ticks) rows in omega (arith, more)

pub place-within : (rows : List TraceRow) (place tick : ℕ) → place ≤ length rows → get_or (0 ∷ ends_from 0 rows) place 0 ≤ tick → tick < life_of rows → place ≢ length rows
place-within rows place tick most from within e =
    let last = end-last 0 rows in
    let at : get_or (0 ∷ ends_from 0 rows) (length rows) 0 ≤ tick = subst (λ n. get_or (0 ∷ ends_from 0 rows) n 0 ≤ tick) e from in
    omega (arith, last, at)

before_end : (tick n : ℕ) → tick < n → nat_lt tick n ≡ true
before_end tick n h = grind (arith, nat_tests)

past_end : (tick n : ℕ) → n ≤ tick → nat_lt tick n ≡ false
past_end tick n h = grind (arith, nat_tests)

-- the row whose start and end lie around a tick
pub row_at-place : (start : ℕ) (rows : List TraceRow) (place tick : ℕ) (d : TraceRow) → place < length rows → start ≤ tick → get_or (start ∷ ends_from start rows) place 0 ≤ tick
    → tick < get_or (ends_from start rows) place 0 → row_at rows (tick - start) ≡ Some (get_or rows place d)
unfolding ends_from row_at
row_at-place start [] place tick d within begun from until = absurd (omega arith)
row_at-place start (r ∷ rows) zero tick d within begun from until =
    rw (before_end (tick - start) r.ticks (omega arith)) refl
row_at-place start (r ∷ rows) (suc place) tick d within begun from until =
    let least = start-least (start + r.ticks) rows place (omega arith) in
    let later : start + r.ticks ≤ tick = omega (arith, least, from) in
    let e : tick - start - r.ticks ≡ tick - (start + r.ticks) = omega arith in
    rw (past_end (tick - start) r.ticks (omega arith), e) (row_at-place (start + r.ticks) rows place tick d (omega arith) later from until)

-- no row ends before an earlier one
later_end : (start : ℕ) (rows : List TraceRow) (i j d : ℕ) → i ≤ j → j < length rows → get_or (ends_from start rows) i d ≤ get_or (ends_from start rows) j d
unfolding ends_from
later_end start [] i j d order within = absurd (omega arith)
later_end start (r ∷ rows) zero zero d order within = omega arith
later_end start (r ∷ rows) zero (suc j) d order within =
    let size = length-ends_from (start + r.ticks) rows in
    let least = end-least (start + r.ticks) rows j d (omega arith) in
    omega (arith, least)
later_end start (r ∷ rows) (suc i) zero d order within = absurd (omega arith)
later_end start (r ∷ rows) (suc i) (suc j) d order within = later_end (start + r.ticks) rows i j d (omega arith) (omega arith)

pub ends-rise : (rows : List TraceRow) (ends : List ℕ) (life : ℕ) → IsTimeline rows ends life → IsNonDecreasing ends
ends-rise rows ends life h i j d order within =
    let e = h.ends_are in
    let size : length ends ≡ length rows = ap length e ∙ length-ends_from 0 rows in
    rw e (later_end 0 rows i j d order (omega (arith, size)))

-- where as many rows have ended, there is the row that holds at the tick
pub row_in : (rows : List TraceRow) (ends : List ℕ) (life tick place : ℕ) → IsTimeline rows ends life → place ≤ length ends
    → IsPartitionPoint (λ end. end ≤ tick) (λ end. tick < end) ends place → tick < life_of rows
    → (place < length rows) × ((d : TraceRow) → row_at rows tick ≡ Some (get_or rows place d))
row_in rows ends life tick place h most point within =
    let e = h.ends_are in
    let size : length ends ≡ length rows = ap length e ∙ length-ends_from 0 rows in
    let begun = rw e at (from_point ends tick place point.0) in
    let other = place-within rows place tick (omega (arith, size)) begun within in
    let inside : place < length rows = omega (arith, size, other) in
    let short = rw e at (point.1 place 0 (omega arith) (omega (arith, size))) in
    let z : tick - 0 ≡ tick = omega arith in
    (inside, λ d. rw z at (row_at-place 0 rows place tick d inside (omega arith) begun short))

-- no row ends behind the last
end-most : (start : ℕ) (rows : List TraceRow) (i d : ℕ) → i < length rows → get_or (ends_from start rows) i d ≤ start + life_of rows
unfolding ends_from life_of
end-most start [] i d h = absurd (omega arith)
end-most start (r ∷ rows) zero d h = omega arith
end-most start (r ∷ rows) (suc i) d h = let more = end-most (start + r.ticks) rows i d (omega arith) in omega (arith, more)

-- up to its end the row is the same
pub record IsStretch (rows : List TraceRow) (tick place end : ℕ) : Type 0 where
  pub inside : place < length rows
  pub later : tick < end
  pub within : end ≤ life_of rows
  pub alike : (t : ℕ) → tick ≤ t → t < end → row_at rows t ≡ row_at rows tick

pub stretch_in : (rows : List TraceRow) (ends : List ℕ) (life tick place : ℕ) → IsTimeline rows ends life → place ≤ length ends
    → IsPartitionPoint (λ end. end ≤ tick) (λ end. tick < end) ends place → tick < life_of rows → (d : ℕ) → IsStretch rows tick place (get_or ends place d)
stretch_in rows ends life tick place h most point within d =
    let e = h.ends_are in
    let size : length ends ≡ length rows = ap length e ∙ length-ends_from 0 rows in
    let row = row_in rows ends life tick place h most point within in
    let inside = row.0 in
    let begun = rw e at (from_point ends tick place point.0) in
    let same : (x : ℕ) → get_or ends place x ≡ get_or (ends_from 0 rows) place x = λ x. ap (λ (l : List ℕ). get_or l place x) e in
    let short : tick < get_or ends place d = point.1 place d (omega arith) (omega (arith, size)) in
    let no_default : get_or ends place d ≡ get_or ends place 0 = get_or_default ends place d 0 (omega (arith, size)) in
    record {
      inside = inside;
      later = short;
      within = let last = end-most 0 rows place d inside in omega (arith, last, same d);
      alike = λ t from until.
          let z : t - 0 ≡ t = omega arith in
          let ends_later : t < get_or (ends_from 0 rows) place 0 = omega (arith, no_default, same 0) in
          (λ (x : TraceRow). (rw z at (row_at-place 0 rows place t x inside (omega arith) (omega (arith, begun)) ends_later)) ∙ sym (row.1 x)) (record { ticks = 0; harvest = 0; extra = 0; sample = pos 0 });
    }

pub length_of_ends : (rows : List TraceRow) (ends : List ℕ) (life : ℕ) → IsTimeline rows ends life → length ends ≡ length rows
length_of_ends rows ends life h = ap length h.ends_are ∙ length-ends_from 0 rows
