-- Windows: least common multiples of the front of a list.
use Rattle.std.proofs.Common.{ℕ, ◌+◌, ◌%◌, ◌<◌, ◌≤◌, inl, inr, List, [], ◌∷◌, ◌++◌, length, take, get_or, subst, arith, All}
use Rattle.std.specs.Int.{◌∣◌}
use Rattle.std.proofs.lemmas.Bool.{cases_lt}
use Rattle.std.proofs.lemmas.List.{take_more}
use Rattle.std.proofs.lemmas.List.Elements.{All-more, All-weaker, recursion_from_All, All-from_recursion}
use Rattle.std.specs.List.{AllByRecursion}
use Rattle.std.proofs.lemmas.Nat.{mod_below}
use Rattle.std.proofs.lemmas.Nat.Gcd.{dvd_of_mod-eq-zero, dvd_refl, le_of_dvd}
use native.Mathlib.Nat.{dvd-mod_iff, dvd_trans}
use Rattle.demand_core.specs.declared.Load.{Load}
use Rattle.demand_core.specs.Demand.{IsWindow}
use Rattle.demand_core.specs.Multiples.{IsCommon, IsLeastCommon, IsCommonOf}

-- a least common multiple divides each common multiple
pub least_divides : (p : ℕ) (loads : List Load) (h n : ℕ) → IsWindow p loads h → p ∣ n → All (λ x. x.spacing ∣ n) loads → h ∣ n
least_divides p loads h n is of_p of_all =
    dvd_of_mod-eq-zero h
    (elim (cases_lt 0 (n % h)) [
      | inl some ↦
          let below : n % h < h = mod_below n h is.positive in
          let least : h ≤ n % h = is.least (n % h) some ((dvd-mod_iff p is.of_p).1 of_p) rest in
          absurd (omega arith)
      | inr none ↦ omega arith
    ])
  where
    rest : All (λ x. x.spacing ∣ n % h) loads
    rest k d within = (dvd-mod_iff (get_or loads k d).spacing (is.of_spacings k d within)).1 (of_all k d within)

pub window_first : (p : ℕ) (loads : List Load) → 0 < p → IsWindow p (take 0 loads) p
window_first p loads pos =
    record {
      positive = pos;
      of_p = dvd_refl p;
      of_spacings = λ k d within. absurd (omega arith);
      least = λ n some of_p rest. le_of_dvd some of_p;
    }

both_parts : (P : Load → Type 0) (xs ys : List Load) → AllByRecursion P (xs ++ ys) → AllByRecursion P xs × AllByRecursion P ys
both_parts P [] ys all = (tt, all)
both_parts P (x ∷ xs) ys all = let rest = both_parts P xs ys all.1 in ((all.0, rest.0), rest.1)

all_front : (P : Load → Type 0) (loads : List Load) (i : ℕ) (d : Load) → i < length loads → All P (take (i + 1) loads) → All P (take i loads) × P (get_or loads i d)
all_front P loads i d within all =
    let whole : All P (take i loads ++ get_or loads i d ∷ []) = subst (λ (xs : List Load). All P xs) (take_more loads i d within) all in
    let parts = both_parts P (take i loads) (get_or loads i d ∷ []) (recursion_from_All P (take i loads ++ get_or loads i d ∷ []) whole) in
    (All-from_recursion P (take i loads) parts.0, parts.1.0)

pub window_more : (p : ℕ) (loads : List Load) (i h m : ℕ) (d : Load) → i < length loads → IsWindow p (take i loads) h → IsLeastCommon h (get_or loads i d).spacing m →
    IsWindow p (take (i + 1) loads) m
window_more p loads i h m d within is least =
    record {
      positive = least.0.0;
      of_p = dvd_trans p is.of_p least.0.1;
      of_spacings = All-more (λ x. x.spacing ∣ m) loads i d within
          (All-weaker (λ x. x.spacing ∣ h) (λ x. x.spacing ∣ m) (λ x div. dvd_trans x.spacing div least.0.1) (take i loads) is.of_spacings) least.0.2;
      least = λ n some of_p all.
          let parts = all_front (λ x. x.spacing ∣ n) loads i d within all in
          least.1 n (some, least_divides p (take i loads) h n is of_p parts.0, parts.1);
    }

pub too_long : (p : ℕ) (loads : List Load) (i h limit : ℕ) (d : Load) → i < length loads → IsWindow p (take i loads) h →
    ((m : ℕ) → IsCommon h (get_or loads i d).spacing m → limit < m) → (m : ℕ) → IsCommonOf p (take (i + 1) loads) m → limit < m
too_long p loads i h limit d within is none m common =
    let parts = all_front (λ x. x.spacing ∣ m) loads i d within common.2 in
    none m (common.0, least_divides p (take i loads) h m is common.1 parts.0, parts.1)
