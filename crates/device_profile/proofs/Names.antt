-- A name among others.
use Rattle.std.proofs.Common.{◌≡◌, ℕ, ◌+◌, ◌≤◌, ◌<◌, List, drop, get_or, length, map, Bor, true, false, Option, Some, None, is_none, option_map, refl, nat_eq}
use Rattle.std.specs.Cmp.Lexicographic.{pointwise}
use Rattle.std.proofs.lemmas.List.{drop_all, drop_more}
use Rattle.device_profile.specs.Profile.{is_among}

pub among-here : (name : List ℕ) (names : List (Bor (List ℕ))) (i : ℕ) (d : Bor (List ℕ)) → i < length names → pointwise nat_eq name (get_or names i d).now ≡ true
    → is_among name (map (λ s. s.now) (drop i names)) ≡ true
unfolding is_among
among-here name names i d h e = rw (drop_more names i d h, e) refl

pub among-later : (name : List ℕ) (names : List (Bor (List ℕ))) (i : ℕ) (d : Bor (List ℕ)) → i < length names → pointwise nat_eq name (get_or names i d).now ≡ false
    → is_among name (map (λ s. s.now) (drop i names)) ≡ is_among name (map (λ s. s.now) (drop (i + 1) names))
unfolding is_among
among-later name names i d h e = rw (drop_more names i d h, e) refl

pub among-none : (name : List ℕ) (names : List (Bor (List ℕ))) (i : ℕ) → length names ≤ i → is_among name (map (λ s. s.now) (drop i names)) ≡ false
unfolding is_among
among-none name names i h = rw (drop_all i names h) refl

pub none_mapped : {A B : Type 0} (f : A → B) (o : Option A) → is_none (option_map f o) ≡ is_none o
none_mapped f None = refl
none_mapped f (Some x) = refl
