-- The entries for which records stand, and where each of them is found.
use Rattle.std.proofs.Common.{◌≡◌, ℕ, zero, suc, ◌+◌, ◌-◌, ◌*◌, ◌≤◌, ◌<◌, ◌≢◌, min, false, true, inl, inr, ◌⊎◌, List, [], ◌∷◌, ◌++◌, length, get_or, take, drop, Some, refl, sym, ◌∙◌, ap, subst, arith, length-append, length-drop}
use Rattle.std.proofs.Math.Nat.{suc-mul}
use Rattle.std.proofs.Math.Seq.{drop-append_seam}
use Rattle.std.specs.Prelude.{flat_map, slice_get}
use Rattle.std.specs.List.{All}
use Rattle.std.specs.List.Sorted.{IsNonDecreasing, IsPartitionPoint}
use Rattle.std.proofs.lemmas.List.{append-nil, take-append-le, drop-append-le, get_or_default}
use Rattle.std.proofs.lemmas.Grind.{flat_map-append}
use Rattle.std.proofs.lemmas.Bool.{cases_lt}
use Rattle.std.proofs.lemmas.Option.{slice_get_within}
use Rattle.std.proofs.lemmas.List.Elements.{All-append}
use Rattle.nv_memory.specs.declared.entry.Entry.{Entry}
use Rattle.nv_memory.specs.declared.entry.Op.{Op}
use Rattle.nv_memory.specs.declared.entry.Op.TheVariants as op
use Rattle.nv_memory.specs.Silent.{IsSilent}
use Rattle.nv_memory.specs.Bytes.{bytes_at}
use Rattle.board_core.specs.declared.record.What.{What}
use Rattle.board_core.specs.declared.record.What.TheVariants as what
use Rattle.board_core.specs.declared.record.Record.{Record}
use Rattle.board_core.specs.declared.record.Record.TheVariants.{Did, Slept}
use Rattle.board_core.specs.Records.{IsHeld, IsKept, ends_from, entries_by, is_silent, left_end, op_of, record_end, sleep_stored, sleeps, width}

-- bytes that stand at the end
pub bytes_at-appended : (left bytes : List ℕ) → bytes_at (length left) (length bytes) (left ++ bytes) ≡ bytes
bytes_at-appended left bytes = ap (take (length bytes)) (drop-append_seam left bytes) ∙ take-whole bytes
  where
    take-whole : (xs : List ℕ) → take (length xs) xs ≡ xs
    take-whole [] = refl
    take-whole (x ∷ xs) = ap (λ (l : List ℕ). x ∷ l) (take-whole xs)

-- and bytes before more of them
bytes_at-before : (from len : ℕ) (left more : List ℕ) → from + len ≤ length left → bytes_at from len (left ++ more) ≡ bytes_at from len left
bytes_at-before from len left more within =
    let begun : from ≤ length left = omega arith in
    let enough : len ≤ length (drop from left) = omega (arith, length-drop from left) in
    ap (take len) (drop-append-le from left more begun) ∙ take-append-le len (drop from left) more enough

op_of-more : (left more : List ℕ) (w : What) → left_end w ≤ length left → op_of (left ++ more) w ≡ op_of left w
op_of-more left more (what.Instr class pc) within = refl
op_of-more left more (what.Emit pc at from len) within = ap (λ (l : List ℕ). op.Emit pc at l) (bytes_at-before from len left more within)
op_of-more left more (what.Write at from len) within = ap (λ (l : List ℕ). op.Write at l) (bytes_at-before from len left more within)
op_of-more left more what.Wake within = refl
op_of-more left more what.Sleep within = refl

entries_by-more : (cap : ℕ) (left more : List ℕ) (r : Record) → record_end r ≤ length left → entries_by cap (left ++ more) r ≡ entries_by cap left r
entries_by-more cap left more (Did tick stored drawn ticks lost done) within =
    ap (λ (o : Op). record { tick = tick; stored = stored; drawn = drawn; ticks = ticks; op = o; lost = lost } ∷ []) (op_of-more left more done within)
entries_by-more cap left more (Slept tick stored harvest ticks) within = refl

-- more bytes change no entry
pub entries-more : (cap : ℕ) (left more : List ℕ) (rs : List Record) → All (IsHeld cap (length left)) rs → flat_map (entries_by cap (left ++ more)) rs ≡ flat_map (entries_by cap left) rs
entries-more cap left more [] held = refl
entries-more cap left more (r ∷ rs) held =
    let first = held 0 r (omega arith) in
    ap (λ (l : List Entry). l ++ flat_map (entries_by cap (left ++ more)) rs) (entries_by-more cap left more r first.in_left)
    ∙ ap (λ (l : List Entry). entries_by cap left r ++ l) (entries-more cap left more rs (λ k d h. held (suc k) d (omega arith)))

held-wider : (cap size size' : ℕ) (r : Record) → size ≤ size' → IsHeld cap size r → IsHeld cap size' r
held-wider cap size size' r le h = record { some = h.some; in_cap = h.in_cap; in_time = h.in_time; in_left = omega (arith, h.in_left); short = h.short }

all_held-wider : (cap size size' : ℕ) (rs : List Record) → size ≤ size' → All (IsHeld cap size) rs → All (IsHeld cap size') rs
all_held-wider cap size size' rs le held k d h = held-wider cap size size' (get_or rs k d) le (held k d h)

pub length-sleeps : (cap tick stored harvest n : ℕ) → length (sleeps cap tick stored harvest n) ≡ n
unfolding sleeps
length-sleeps cap tick stored harvest zero = refl
length-sleeps cap tick stored harvest (suc n) = ap suc (length-sleeps cap (tick + 1) (min cap (stored + harvest)) harvest n)

pub length-entries_by : (cap : ℕ) (left : List ℕ) (r : Record) → length (entries_by cap left r) ≡ width r
length-entries_by cap left (Did tick stored drawn ticks lost done) = refl
length-entries_by cap left (Slept tick stored harvest ticks) = length-sleeps cap tick stored harvest ticks

later_stored : (cap stored h x y : ℕ) → y ≡ x + h → min cap (min cap (stored + h) + x) ≡ min cap (stored + y)
later_stored cap stored h x y is = omega arith

-- one tick of sleep among those of a record
pub sleep_at : (cap tick stored harvest n k : ℕ) → stored ≤ cap → k < n
    → slice_get (sleeps cap tick stored harvest n) k ≡ Some (record { tick = tick + k; stored = min cap (stored + k * harvest); drawn = 0; ticks = 1; op = op.Sleep; lost = false })
unfolding sleeps
sleep_at cap tick stored harvest zero k in_cap within = absurd (omega arith)
sleep_at cap tick stored harvest (suc n) zero in_cap within =
    let tick_is : tick ≡ tick + 0 = omega arith in
    let stored_is : stored ≡ min cap (stored + 0 * harvest) = omega arith in
    λ i. Some (record { tick = tick_is i; stored = stored_is i; drawn = 0; ticks = 1; op = op.Sleep; lost = false })
sleep_at cap tick stored harvest (suc n) (suc k) in_cap within =
    let tick_is : (tick + 1) + k ≡ tick + suc k = omega arith in
    let more : suc k * harvest ≡ k * harvest + harvest = suc-mul k harvest in
    let stored_is = later_stored cap stored harvest (k * harvest) (suc k * harvest) more in
    sleep_at cap (tick + 1) (min cap (stored + harvest)) harvest n k (omega arith) (omega arith)
    ∙ λ i. Some (record { tick = tick_is i; stored = stored_is i; drawn = 0; ticks = 1; op = op.Sleep; lost = false })

slice_get-left : (xs ys : List Entry) (i : ℕ) → i < length xs → slice_get (xs ++ ys) i ≡ slice_get xs i
slice_get-left [] ys i h = absurd (omega arith)
slice_get-left (x ∷ xs) ys zero h = refl
slice_get-left (x ∷ xs) ys (suc i) h = slice_get-left xs ys i (omega arith)

slice_get-right : (xs ys : List Entry) (i : ℕ) → length xs ≤ i → slice_get (xs ++ ys) i ≡ slice_get ys (i - length xs)
slice_get-right [] ys i h = let e : i ≡ i - 0 = omega arith in ap (slice_get ys) e
slice_get-right (x ∷ xs) ys zero h = absurd (omega arith)
slice_get-right (x ∷ xs) ys (suc i) h = let e : i - length xs ≡ suc i - suc (length xs) = omega arith in slice_get-right xs ys i (omega arith) ∙ ap (slice_get ys) e

-- no record begins before the first
start-least : (start : ℕ) (rs : List Record) (i : ℕ) → i ≤ length rs → start ≤ get_or (start ∷ ends_from start rs) i 0
unfolding ends_from
start-least start rs zero h = omega arith
start-least start [] (suc i) h = absurd (omega arith)
start-least start (r ∷ rs) (suc i) h = let more = start-least (start + width r) rs i (omega arith) in omega (arith, more)

-- the entry at a place is one of the record that begins there or before and ends behind it
entry_in : (cap : ℕ) (left : List ℕ) (start : ℕ) (rs : List Record) (i place : ℕ) (d : Record) → i < length rs → get_or (start ∷ ends_from start rs) i 0 ≤ place → place < get_or (ends_from start rs) i 0
    → slice_get (flat_map (entries_by cap left) rs) (place - start) ≡ slice_get (entries_by cap left (get_or rs i d)) (place - get_or (start ∷ ends_from start rs) i 0)
unfolding ends_from
entry_in cap left start [] i place d within from until = absurd (omega arith)
entry_in cap left start (r ∷ rs) zero place d within from until =
    slice_get-left (entries_by cap left r) (flat_map (entries_by cap left) rs) (place - start) (omega (arith, length-entries_by cap left r))
entry_in cap left start (r ∷ rs) (suc i) place d within from until =
    let least = start-least (start + width r) rs i (omega arith) in
    let size = length-entries_by cap left r in
    let e : (place - start) - length (entries_by cap left r) ≡ place - (start + width r) = omega (arith, size) in
    slice_get-right (entries_by cap left r) (flat_map (entries_by cap left) rs) (place - start) (omega (arith, size, least, from))
    ∙ ap (slice_get (flat_map (entries_by cap left) rs)) e
    ∙ entry_in cap left (start + width r) rs i place d (omega arith) from until

-- a record begins where the one before it ends
first_of : (start : ℕ) (rs : List Record) (i : ℕ) (d : Record) → i < length rs → get_or (start ∷ ends_from start rs) i 0 + width (get_or rs i d) ≡ get_or (ends_from start rs) i 0
unfolding ends_from
first_of start [] i d within = absurd (omega arith)
first_of start (r ∷ rs) zero d within = refl
first_of start (r ∷ rs) (suc i) d within = first_of (start + width r) rs i d (omega arith)

length-ends_from : (start : ℕ) (rs : List Record) → length (ends_from start rs) ≡ length rs
unfolding ends_from
length-ends_from start [] = refl
length-ends_from start (r ∷ rs) = ap suc (length-ends_from (start + width r) rs)

end-least : (start : ℕ) (rs : List Record) (i d : ℕ) → i < length rs → start ≤ get_or (ends_from start rs) i d
unfolding ends_from
end-least start [] i d h = absurd (omega arith)
end-least start (r ∷ rs) zero d h = omega arith
end-least start (r ∷ rs) (suc i) d h = let more = end-least (start + width r) rs i d (omega arith) in omega (arith, more)

later_end : (start : ℕ) (rs : List Record) (i j d : ℕ) → i ≤ j → j < length rs → get_or (ends_from start rs) i d ≤ get_or (ends_from start rs) j d
unfolding ends_from
later_end start [] i j d order within = absurd (omega arith)
later_end start (r ∷ rs) zero zero d order within = omega arith
later_end start (r ∷ rs) zero (suc j) d order within =
    let least = end-least (start + width r) rs j d (omega arith) in
    omega (arith, least)
later_end start (r ∷ rs) (suc i) zero d order within = absurd (omega arith)
later_end start (r ∷ rs) (suc i) (suc j) d order within = later_end (start + width r) rs i j d (omega arith) (omega arith)

-- the last record ends behind the last entry
end-last : (cap : ℕ) (left : List ℕ) (start : ℕ) (rs : List Record) → get_or (start ∷ ends_from start rs) (length rs) 0 ≡ start + length (flat_map (entries_by cap left) rs)
unfolding ends_from
end-last cap left start [] = omega arith
end-last cap left start (r ∷ rs) =
    let more = end-last cap left (start + width r) rs in
    let size = length-entries_by cap left r in
    omega (arith, more, size, length-append (entries_by cap left r) (flat_map (entries_by cap left) rs))

ends_from-push : (cap : ℕ) (left : List ℕ) (start : ℕ) (rs : List Record) (r : Record)
    → ends_from start (rs ++ r ∷ []) ≡ ends_from start rs ++ (start + length (flat_map (entries_by cap left) rs) + width r) ∷ []
unfolding ends_from
ends_from-push cap left start [] r = let e : start + width r ≡ start + 0 + width r = omega arith in ap (λ n. n ∷ []) e
ends_from-push cap left start (x ∷ rs) r =
    let size = length-entries_by cap left x in
    let all = length-append (entries_by cap left x) (flat_map (entries_by cap left) rs) in
    let e : start + width x + length (flat_map (entries_by cap left) rs) + width r ≡ start + length (flat_map (entries_by cap left) (x ∷ rs)) + width r = omega (arith, size, all) in
    ap (λ t. (start + width x) ∷ t) (ends_from-push cap left (start + width x) rs r ∙ ap (λ n. ends_from (start + width x) rs ++ n ∷ []) e)

pub kept_none : (cap : ℕ) → IsKept cap [] [] [] 0
unfolding ends_from
kept_none cap = record { ends_are = refl; held = λ k d h. absurd (omega arith); few = omega arith; small = omega arith }

alone : (cap size : ℕ) (r : Record) → IsHeld cap size r → All (IsHeld cap size) (r ∷ [])
alone cap size r good zero d h = good
alone cap size r good (suc k) d h = absurd (omega arith)

-- one record more, with bytes of its own
pub kept_more : (cap : ℕ) (rs : List Record) (ends left more : List ℕ) (count : ℕ) (r : Record) → IsKept cap rs ends left count → count ≡ length (flat_map (entries_by cap left) rs)
    → IsHeld cap (length (left ++ more)) r → length more ≤ 64 → IsKept cap (rs ++ r ∷ []) (ends ++ (count + width r) ∷ []) (left ++ more) (count + width r)
kept_more cap rs ends left more count r h counted good few =
    let e : 0 + length (flat_map (entries_by cap left) rs) + width r ≡ count + width r = omega (arith, counted) in
    let wider : length left ≤ length (left ++ more) = omega (arith, length-append left more) in
    let one = length-append rs (r ∷ []) in
    record {
      ends_are = ap (λ (l : List ℕ). l ++ (count + width r) ∷ []) h.ends_are ∙ ap (λ n. ends_from 0 rs ++ n ∷ []) (sym e) ∙ sym (ends_from-push cap left 0 rs r);
      held = All-append (IsHeld cap (length (left ++ more))) rs (r ∷ []) (all_held-wider cap (length left) (length (left ++ more)) rs wider h.held) (alone cap (length (left ++ more)) r good);
      few = omega (arith, h.few, good.some, one);
      small = omega (arith, h.small, few, one, length-append left more);
    }

pub entries_push : (cap : ℕ) (rs : List Record) (left more : List ℕ) (r : Record) → All (IsHeld cap (length left)) rs
    → flat_map (entries_by cap (left ++ more)) (rs ++ r ∷ []) ≡ flat_map (entries_by cap left) rs ++ entries_by cap (left ++ more) r
entries_push cap rs left more r held =
    flat_map-append (entries_by cap (left ++ more)) rs (r ∷ [])
    ∙ ap (λ (l : List Entry). l ++ (entries_by cap (left ++ more) r ++ [])) (entries-more cap left more rs held)
    ∙ ap (λ (l : List Entry). flat_map (entries_by cap left) rs ++ l) (append-nil (entries_by cap (left ++ more) r))

pub ends_rise : (cap : ℕ) (rs : List Record) (ends left : List ℕ) (count : ℕ) → IsKept cap rs ends left count → IsNonDecreasing ends
ends_rise cap rs ends left count h i j d order within =
    let e = h.ends_are in
    let size : length ends ≡ length rs = ap length e ∙ length-ends_from 0 rs in
    rw e (later_end 0 rs i j d order (omega (arith, size)))

pub length_of_ends : (cap : ℕ) (rs : List Record) (ends left : List ℕ) (count : ℕ) → IsKept cap rs ends left count → length ends ≡ length rs
length_of_ends cap rs ends left count h = ap length h.ends_are ∙ length-ends_from 0 rs

from_point : (ends : List ℕ) (place i : ℕ) → ((k d : ℕ) → 0 ≤ k → k < i → get_or ends k d ≤ place) → get_or (0 ∷ ends) i 0 ≤ place
from_point ends place zero h = omega arith
from_point ends place (suc i) h = h i 0 (omega arith) (omega arith)

-- the record in which an entry is found
pub record IsFound (cap : ℕ) (left : List ℕ) (rs : List Record) (ends : List ℕ) (i place : ℕ) (d : Record) : Type 0 where
  pub inside : i < length rs
  pub begun : get_or (0 ∷ ends) i 0 ≤ place
  pub until : place < get_or ends i 0
  pub first : get_or (0 ∷ ends) i 0 + width (get_or rs i d) ≡ get_or ends i 0
  pub entry : slice_get (flat_map (entries_by cap left) rs) place ≡ slice_get (entries_by cap left (get_or rs i d)) (place - get_or (0 ∷ ends) i 0)

not_last : (cap : ℕ) (left : List ℕ) (rs : List Record) (i place : ℕ) → i ≤ length rs → get_or (0 ∷ ends_from 0 rs) i 0 ≤ place → place < length (flat_map (entries_by cap left) rs) → i ≢ length rs
not_last cap left rs i place most from within e =
    let last = end-last cap left 0 rs in
    let at : get_or (0 ∷ ends_from 0 rs) (length rs) 0 ≤ place = subst (λ n. get_or (0 ∷ ends_from 0 rs) n 0 ≤ place) e from in
    omega (arith, last, at)

pub found_at : (cap : ℕ) (left : List ℕ) (rs : List Record) (ends : List ℕ) (count i place : ℕ) (d : Record) → IsKept cap rs ends left count → i ≤ length ends
    → IsPartitionPoint (λ end. end ≤ place) (λ end. place < end) ends i → place < length (flat_map (entries_by cap left) rs) → IsFound cap left rs ends i place d
found_at cap left rs ends count i place d h most point within =
    let e = h.ends_are in
    let size : length ends ≡ length rs = ap length e ∙ length-ends_from 0 rs in
    let begun : get_or (0 ∷ ends) i 0 ≤ place = from_point ends place i point.0 in
    let begun' : get_or (0 ∷ ends_from 0 rs) i 0 ≤ place = subst (λ (l : List ℕ). get_or (0 ∷ l) i 0 ≤ place) e begun in
    let other = not_last cap left rs i place (omega (arith, size)) begun' within in
    let inside : i < length rs = omega (arith, size, other) in
    let until : place < get_or ends i 0 = point.1 i 0 (omega arith) (omega (arith, size)) in
    let until' : place < get_or (ends_from 0 rs) i 0 = subst (λ (l : List ℕ). place < get_or l i 0) e until in
    let z : place ≡ place - 0 = omega arith in
    record {
      inside = inside;
      begun = begun;
      until = until;
      first = subst (λ (l : List ℕ). get_or (0 ∷ l) i 0 + width (get_or rs i d) ≡ get_or l i 0) (sym e) (first_of 0 rs i d inside);
      entry = ap (slice_get (flat_map (entries_by cap left) rs)) z
          ∙ entry_in cap left 0 rs i place d inside begun' until'
          ∙ ap (λ (l : List ℕ). slice_get (entries_by cap left (get_or rs i d)) (place - get_or (0 ∷ l) i 0)) (sym e);
    }

-- what the look-up needs of the record that it finds, which ends there and is so wide
pub record IsShown (cap : ℕ) (left : List ℕ) (rs : List Record) (place : ℕ) (r : Record) (end wide : ℕ) : Type 0 where
  pub begins : wide ≤ end
  pub before : end - wide ≤ place
  pub nth : place - (end - wide) < width r
  pub held : IsHeld cap (length left) r
  pub entry : slice_get (flat_map (entries_by cap left) rs) place ≡ slice_get (entries_by cap left r) (place - (end - wide))

pub shown_at : (cap : ℕ) (left : List ℕ) (rs : List Record) (ends : List ℕ) (count i place : ℕ) (r : Record) (end wide : ℕ) → IsKept cap rs ends left count → i ≤ length ends
    → IsPartitionPoint (λ end. end ≤ place) (λ end. place < end) ends i → place < length (flat_map (entries_by cap left) rs)
    → r ≡ get_or rs i r → end ≡ get_or ends i end → wide ≡ width r → IsShown cap left rs place r end wide
shown_at cap left rs ends count i place r end wide h most point within r_is end_is wide_is =
    let found = found_at cap left rs ends count i place r h most point within in
    let size = length_of_ends cap rs ends left count h in
    let begin = get_or (0 ∷ ends) i 0 in
    let end_is' : end ≡ get_or ends i 0 = end_is ∙ get_or_default ends i end 0 (omega (arith, size, found.inside)) in
    let first : begin + width r ≡ get_or ends i 0 = subst (λ (x : Record). begin + width x ≡ get_or ends i 0) (sym r_is) found.first in
    let held : IsHeld cap (length left) r = subst (λ (x : Record). IsHeld cap (length left) x) (sym r_is) (h.held i r found.inside) in
    let start : end - wide ≡ begin = omega (arith, end_is', wide_is, first) in
    record {
      begins = omega (arith, end_is', wide_is, first);
      before = omega (arith, start, found.begun);
      nth = omega (arith, start, found.begun, found.until, first);
      held = held;
      entry = found.entry ∙ ap (λ (x : Record). slice_get (entries_by cap left x) (place - begin)) (sym r_is) ∙ ap (λ (n : ℕ). slice_get (entries_by cap left r) (place - n)) (sym start);
    }

-- the entries of a silent record are silent
silent-in : (cap : ℕ) (left : List ℕ) (r : Record) (k : ℕ) → is_silent r ≡ true → sleep_stored r ≤ cap → k < width r → IsSilent (entries_by cap left r) k
silent-in cap left (Did tick stored drawn ticks true (what.Instr kind pc)) k is in_cap within = absurd (cc)
silent-in cap left (Did tick stored drawn ticks false (what.Instr kind pc)) zero is in_cap within =
    record { entry = record { tick = tick; stored = stored; drawn = drawn; ticks = ticks; op = op.Instr kind pc; lost = false }; at = refl; done = refl; silent = inr (kind, pc, refl) }
silent-in cap left (Did tick stored drawn ticks false (what.Instr kind pc)) (suc k) is in_cap within = absurd (omega arith)
silent-in cap left (Did tick stored drawn ticks lost (what.Emit pc at from len)) k is in_cap within = absurd (cc)
silent-in cap left (Did tick stored drawn ticks lost (what.Write at from len)) k is in_cap within = absurd (cc)
silent-in cap left (Did tick stored drawn ticks lost what.Wake) k is in_cap within = absurd (cc)
silent-in cap left (Did tick stored drawn ticks lost what.Sleep) k is in_cap within = absurd (cc)
silent-in cap left (Slept tick stored harvest ticks) k is in_cap within = record {
  entry = record { tick = tick + k; stored = min cap (stored + k * harvest); drawn = 0; ticks = 1; op = op.Sleep; lost = false };
  at = sleep_at cap tick stored harvest ticks k in_cap within;
  done = refl;
  silent = inl refl;
}

-- the entries from a place up to the beginning of a record are silent
pub record IsSilentTo (cap : ℕ) (left : List ℕ) (rs : List Record) (ends : List ℕ) (place nth end : ℕ) : Type 0 where
  pub within : nth ≤ length rs
  pub begins : get_or (0 ∷ ends) nth 0 ≤ end
  pub later : place ≤ end
  pub behind : (k d : ℕ) → nth ≤ k → k < length ends → place < get_or ends k d
  pub upto : end ≤ length (flat_map (entries_by cap left) rs)
  pub each : (k : ℕ) → place ≤ k → k < end → IsSilent (flat_map (entries_by cap left) rs) k

-- none are looked at yet
pub silent_none : (cap : ℕ) (left : List ℕ) (rs : List Record) (ends : List ℕ) (count nth place : ℕ) → IsKept cap rs ends left count → nth ≤ length ends
    → IsPartitionPoint (λ end. end ≤ place) (λ end. place < end) ends nth → place < length (flat_map (entries_by cap left) rs) → IsSilentTo cap left rs ends place nth place
silent_none cap left rs ends count nth place h most point within = record {
  within = omega (arith, most, length_of_ends cap rs ends left count h);
  begins = from_point ends place nth point.0;
  later = omega arith;
  behind = point.1;
  upto = omega (arith, within);
  each = λ k from until. absurd (omega (arith, from, until));
}

-- one silent record more
module _ (cap : ℕ) (left : List ℕ) (rs : List Record) (ends : List ℕ) (count place nth end end' : ℕ) (r : Record) (h : IsKept cap rs ends left count) (so_far : IsSilentTo cap left rs ends place nth end)
    (inside : nth < length rs) (r_is : r ≡ get_or rs nth r) (silent : is_silent r ≡ true) (end_is : end' ≡ get_or ends nth end') where
  abbrev begin : ℕ
  begin = get_or (0 ∷ ends_from 0 rs) nth 0

  last : end' ≡ get_or ends nth 0
  last = end_is ∙ get_or_default ends nth end' 0 (omega (arith, length_of_ends cap rs ends left count h, inside))

  held : IsHeld cap (length left) r
  held = subst (λ (x : Record). IsHeld cap (length left) x) (sym r_is) (h.held nth r inside)

  first : begin + width r ≡ end'
  first =
      ap (λ (x : Record). begin + width x) r_is
      ∙ first_of 0 rs nth r inside
      ∙ ap (λ (l : List ℕ). get_or l nth 0) (sym h.ends_are)
      ∙ sym last

  begun : begin ≤ end
  begun = subst (λ (l : List ℕ). get_or (0 ∷ l) nth 0 ≤ end) h.ends_are so_far.begins

  in_record : (k : ℕ) → end ≤ k → k < end' → IsSilent (flat_map (entries_by cap left) rs) k
  in_record k from until =
      let one = silent-in cap left r (k - begin) silent held.in_cap (omega (arith, begun, from, until, first)) in
      let until' : k < get_or (ends_from 0 rs) nth 0 = subst (λ (l : List ℕ). k < get_or l nth 0) h.ends_are (omega (arith, until, last)) in
      let z : k ≡ k - 0 = omega arith in
      record {
        entry = one.entry;
        at = ap (slice_get (flat_map (entries_by cap left) rs)) z
            ∙ entry_in cap left 0 rs nth k r inside (omega (arith, begun, from)) until'
            ∙ ap (λ (x : Record). slice_get (entries_by cap left x) (k - begin)) (sym r_is)
            ∙ one.at;
        done = one.done;
        silent = one.silent;
      }

  by_half : (k : ℕ) → place ≤ k → k < end' → (k < end) ⊎ (end ≤ k) → IsSilent (flat_map (entries_by cap left) rs) k
  by_half k from until (inl early) = so_far.each k from early
  by_half k from until (inr late) = in_record k late until

  silent-each : (k : ℕ) → place ≤ k → k < end' → IsSilent (flat_map (entries_by cap left) rs) k
  silent-each k from until = by_half k from until (cases_lt k end)

  behind_place : place < end'
  behind_place = omega (arith, last, so_far.behind nth 0 (omega arith) (omega (arith, length_of_ends cap rs ends left count h, inside)))

  pub silent_more : IsSilentTo cap left rs ends place (nth + 1) end'
  silent_more =
      let one = silent-each (end' - 1) (omega (arith, behind_place)) (omega (arith, behind_place)) in
      let next : nth + 1 ≡ suc nth = omega arith in
      let begin_is : get_or (0 ∷ ends) (nth + 1) 0 ≡ get_or ends nth 0 = ap (λ n. get_or (0 ∷ ends) n 0) next in
      record {
        within = omega (arith, inside);
        begins = omega (arith, begin_is, last);
        later = omega (arith, behind_place);
        behind = λ k d from inside. so_far.behind k d (omega (arith, from)) inside;
        upto = omega (arith, behind_place, slice_get_within (flat_map (entries_by cap left) rs) (end' - 1) one.entry one.at);
        each = silent-each;
      }

-- what stands after one record more
pub record IsPushed (cap : ℕ) (rs rs' : List Record) (ends' left left' : List ℕ) (count : ℕ) (r : Record) : Type 0 where
  pub kept : IsKept cap rs' ends' left' (count + width r)
  pub counted : count + width r ≡ length (flat_map (entries_by cap left') rs')
  pub entries : flat_map (entries_by cap left') rs' ≡ flat_map (entries_by cap left) rs ++ entries_by cap left' r

pushed_all : (cap : ℕ) (rs : List Record) (ends left more : List ℕ) (count : ℕ) (r : Record) → IsKept cap rs ends left count → count ≡ length (flat_map (entries_by cap left) rs)
    → IsHeld cap (length (left ++ more)) r → length more ≤ 64 → IsPushed cap rs (rs ++ r ∷ []) (ends ++ (count + width r) ∷ []) left (left ++ more) count r
pushed_all cap rs ends left more count r h counted good few =
    let entries = entries_push cap rs left more r h.held in
    record {
      kept = kept_more cap rs ends left more count r h counted good few;
      counted = omega (arith, counted, ap length entries, length-append (flat_map (entries_by cap left) rs) (entries_by cap (left ++ more) r), length-entries_by cap (left ++ more) r);
      entries = entries;
    }

pub pushed : (cap : ℕ) (rs rs' : List Record) (ends ends' left left' more : List ℕ) (count : ℕ) (r : Record) → IsKept cap rs ends left count → count ≡ length (flat_map (entries_by cap left) rs)
    → rs' ≡ rs ++ r ∷ [] → ends' ≡ ends ++ (count + width r) ∷ [] → left' ≡ left ++ more → IsHeld cap (length left') r → length more ≤ 64 → IsPushed cap rs rs' ends' left left' count r
pushed cap rs rs' ends ends' left left' more count r h counted rs_are ends_are left_is good few =
    let good' : IsHeld cap (length (left ++ more)) r = subst (λ (l : List ℕ). IsHeld cap (length l) r) left_is good in
    let all = pushed_all cap rs ends left more count r h counted good' few in
    let with_left = subst (λ (l : List ℕ). IsPushed cap rs (rs ++ r ∷ []) (ends ++ (count + width r) ∷ []) left l count r) (sym left_is) all in
    let with_ends = subst (λ (l : List ℕ). IsPushed cap rs (rs ++ r ∷ []) l left left' count r) (sym ends_are) with_left in
    subst (λ (l : List Record). IsPushed cap rs l ends' left left' count r) (sym rs_are) with_ends

-- nothing is kept yet
pub kept_empty : (cap : ℕ) (rs : List Record) (ends left : List ℕ) → rs ≡ [] → ends ≡ [] → left ≡ [] → IsKept cap rs ends left 0
kept_empty cap rs ends left rs_are ends_are left_is =
    subst (λ (l : List Record). IsKept cap l ends left 0) (sym rs_are)
    (subst (λ (l : List ℕ). IsKept cap [] l left 0) (sym ends_are)
    (subst (λ (l : List ℕ). IsKept cap [] [] l 0) (sym left_is) (kept_none cap)))

pub counted_empty : (cap : ℕ) (rs : List Record) (left : List ℕ) → rs ≡ [] → 0 ≡ length (flat_map (entries_by cap left) rs)
counted_empty cap rs left rs_are = sym (ap (λ (l : List Record). length (flat_map (entries_by cap left) l)) rs_are)
