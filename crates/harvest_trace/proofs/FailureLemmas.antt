-- Failures at ticks that rise, and the first one in a stretch.
use Rattle.std.proofs.Common.{◌≡◌, ℕ, zero, suc, ◌+◌, ◌≤◌, ◌<◌, ◌&&◌, ◌⊎◌, nat_le, nat_lt, List, [], ◌∷◌, ◌++◌, length, get_or, Option, Some, None, true, false, refl, sym, ap, ◌∙◌, subst, arith, inl, inr, add-one, length-append}
use Rattle.std.proofs.Math.ListN.{get_or-append}
use Rattle.std.proofs.Math.Seq.{get_or-append_seam}
use Rattle.std.proofs.lemmas.Bool.Decides.{nat_tests}
use Rattle.std.specs.List.Sorted.{IsNonDecreasingBy, IsPartitionPoint}
use Rattle.harvest_trace.specs.FailsTable.{is_after, last_tick}
use Rattle.harvest_trace.specs.Failures.{IsRising, first_in}
use Rattle.harvest_trace.specs.declared.failures.Failure.{Failure}

pub IsRising-none : IsRising []
IsRising-none i j d order within = absurd (omega arith)

last_tick-at : (last : Option ℕ) (fs : List Failure) (i : ℕ) (d : Failure) → i + 1 ≡ length fs → last_tick last fs ≡ Some (get_or fs i d).tick
unfolding last_tick
last_tick-at last [] i d e = absurd (omega arith)
last_tick-at last (f ∷ []) zero d e = refl
last_tick-at last (f ∷ g ∷ fs) zero d e = absurd (omega arith)
last_tick-at last (f ∷ fs) (suc i) d e = last_tick-at (Some f.tick) fs i d (omega arith)

less : (a b : ℕ) → nat_lt a b ≡ true → a < b
less a b h = grind (arith, nat_tests)

-- a tick after the last one comes after all
below_next : (fs : List Failure) (tick i : ℕ) (d : Failure) → IsRising fs → is_after (last_tick None fs) tick ≡ true → i < length fs → (get_or fs i d).tick < tick
below_next [] tick i d rising after within = absurd (omega arith)
below_next (f ∷ fs) tick i d rising after within =
    let last = last_tick-at None (f ∷ fs) (length fs) d (add-one (length fs)) in
    let below : (get_or (f ∷ fs) (length fs) d).tick < tick = less _ _ (rw last at after) in
    elim (up_to i (length fs) (omega arith)) [ inl e ↦ rw e below | inr h ↦ (let more = rising i (length fs) d h (omega arith) in omega (arith, more, below)) ]
  where
    up_to : (i n : ℕ) → i ≤ n → (i ≡ n) ⊎ (i < n)
    up_to i n h = grind arith

pub IsRising-push : (fs : List Failure) (f : Failure) (last : Option ℕ) → IsRising fs → last ≡ last_tick None fs → is_after last f.tick ≡ true → IsRising (fs ++ f ∷ [])
IsRising-push fs f last rising e after i j d order within =
    let size : length (fs ++ f ∷ []) ≡ length fs + 1 = length-append fs (f ∷ []) in
    let early : i < length fs = omega (arith, size) in
    elim (up_to j (length fs) (omega (arith, size))) [
      | inl here ↦ rw (get_or-append fs (f ∷ []) d i early, here, get_or-append_seam fs f [] d) (below_next fs f.tick i d rising (rw e at after) early)
      | inr h ↦ rw (get_or-append fs (f ∷ []) d i early, get_or-append fs (f ∷ []) d j h) (rising i j d order h)
    ]
  where
    up_to : (i n : ℕ) → i ≤ n → (i ≡ n) ⊎ (i < n)
    up_to i n h = grind arith

pub rising-in_order : (fs : List Failure) → IsRising fs → IsNonDecreasingBy (λ f. f.tick) fs
rising-in_order fs rising i j d order within = elim (up_to i j order) [ inl e ↦ rw e (omega arith) | inr h ↦ (let more = rising i j d h within in omega (arith, more)) ]
  where
    up_to : (i n : ℕ) → i ≤ n → (i ≡ n) ⊎ (i < n)
    up_to i n h = grind arith

inside : (from upto tick : ℕ) → from ≤ tick → tick < upto → (nat_le from tick && nat_lt tick upto) ≡ true
inside from upto tick low high = grind (arith, nat_tests)

too_early : (from upto tick : ℕ) → tick < from → (nat_le from tick && nat_lt tick upto) ≡ false
too_early from upto tick h = grind (arith, nat_tests)

too_late : (from upto tick : ℕ) → upto ≤ tick → (nat_le from tick && nat_lt tick upto) ≡ false
too_late from upto tick h = grind (arith, nat_tests)

first_in-at : (from upto : ℕ) (fs : List Failure) (place : ℕ) (d : Failure) → place < length fs → ((k : ℕ) (d : Failure) → 0 ≤ k → k < place → (get_or fs k d).tick < from)
    → from ≤ (get_or fs place d).tick → (get_or fs place d).tick < upto → first_in from upto fs ≡ Some (get_or fs place d)
unfolding first_in
first_in-at from upto [] place d within before low high = absurd (omega arith)
first_in-at from upto (f ∷ fs) zero d within before low high = rw (inside from upto f.tick low high) refl
first_in-at from upto (f ∷ fs) (suc place) d within before low high =
    rw (too_early from upto f.tick (before 0 d (omega arith) (omega arith)))
    (first_in-at from upto fs place d (omega arith) (λ k d' l h. before (suc k) d' (omega arith) (omega arith)) low high)

first_in-none : (from upto : ℕ) (fs : List Failure) (place : ℕ) → ((k : ℕ) (d : Failure) → 0 ≤ k → k < place → k < length fs → (get_or fs k d).tick < from)
    → ((k : ℕ) (d : Failure) → place ≤ k → k < length fs → upto ≤ (get_or fs k d).tick) → first_in from upto fs ≡ None
unfolding first_in
first_in-none from upto [] place before after = refl
first_in-none from upto (f ∷ fs) zero before after =
    rw (too_late from upto f.tick (after 0 f (omega arith) (omega arith)))
    (first_in-none from upto fs zero (λ k d l h w. absurd (omega arith)) (λ k d l w. after (suc k) d (omega arith) (omega arith)))
first_in-none from upto (f ∷ fs) (suc place) before after =
    rw (too_early from upto f.tick (before 0 f (omega arith) (omega arith) (omega arith)))
    (first_in-none from upto fs place (λ k d l h w. before (suc k) d (omega arith) (omega arith) (omega arith)) (λ k d l w. after (suc k) d (omega arith) (omega arith)))

-- the first failure from a tick on, where it comes before the other
pub first_in-found : (from upto : ℕ) (fs : List Failure) (place : ℕ) (f : Failure) → IsPartitionPoint (λ g. g.tick < from) (λ g. from ≤ g.tick) fs place → place < length fs → f ≡ get_or fs place f
    → f.tick < upto → Some f ≡ first_in from upto fs
first_in-found from upto fs place f point within e high =
    let low = point.1 place f (omega arith) within in
    let below : (get_or fs place f).tick < upto = subst (λ (g : Failure). g.tick < upto) e high in
    ap Some e ∙ sym (first_in-at from upto fs place f within point.0 low below)

-- none, where the first failure from a tick on does not come before the other
pub first_in-late : (from upto : ℕ) (fs : List Failure) (place : ℕ) (f : Failure) → IsRising fs → IsPartitionPoint (λ g. g.tick < from) (λ g. from ≤ g.tick) fs place → place < length fs
    → ((d : Failure) → f ≡ get_or fs place d) → upto ≤ f.tick → None ≡ first_in from upto fs
first_in-late from upto fs place f rising point within e high =
    sym (first_in-none from upto fs place (λ k d l h w. point.0 k d l h)
    (λ k d l h. let here : upto ≤ (get_or fs place d).tick = subst (λ (g : Failure). upto ≤ g.tick) (e d) high in
    let order = rising-in_order fs rising place k d l h in omega (arith, here, order)))

-- none, where no failure comes from the tick on
pub first_in-past : (from upto : ℕ) (fs : List Failure) (place : ℕ) → IsPartitionPoint (λ g. g.tick < from) (λ g. from ≤ g.tick) fs place → length fs ≤ place → None ≡ first_in from upto fs
first_in-past from upto fs place point past =
    sym (first_in-none from upto fs place (λ k d l h w. point.0 k d l h) (λ k d l h. absurd (omega arith)))
