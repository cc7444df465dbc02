-- One more file read.
use Rattle.std.proofs.Common.{◌≡◌, ℕ, ◌+◌, ◌≤◌, List, [], ◌∷◌, ◌++◌, length, take, map, Option, Some, None, refl, ap, sym, ◌∙◌, append_assoc, option_map}
use Rattle.std.proofs.lemmas.List.{take_all}
use Rattle.cn_base.specs.Reading.{Files, Asked, IsFront}
use Rattle.catnap_top.specs.Answer.{most_bytes}
use Rattle.catnap_top.specs.Reads.{AreRead}

pub map_snoc : {A B : Type 0} (f : A → B) (xs : List A) (x : A) → map f xs ++ f x ∷ [] ≡ map f (xs ++ x ∷ [])
map_snoc f [] x = refl
map_snoc f (y ∷ xs) x = ap (λ t. f y ∷ t) (map_snoc f xs x)

pub take_short : (most : ℕ) (xs : List ℕ) → length xs ≤ most → xs ≡ take most xs
take_short most xs le = sym (take_all most xs le)

pub read_more : (files : Option Files) (names fronts : List (List ℕ)) (name front : List ℕ)
    → AreRead files names fronts → IsFront files name most_bytes front → length front ≤ most_bytes + 1
    → AreRead files (names ++ name ∷ []) (fronts ++ front ∷ [])
read_more None names fronts name front so_far told le =
    record {
      bytes = so_far.bytes ++ front ∷ [];
      told = tt;
      cut =
          ap (λ t. t ++ front ∷ []) so_far.cut
          ∙ ap (λ t. map (λ file. take (most_bytes + 1) file) so_far.bytes ++ t ∷ []) (take_short (most_bytes + 1) front le)
          ∙ map_snoc (λ file. take (most_bytes + 1) file) so_far.bytes front;
    }
read_more (Some known) names fronts name front so_far told le =
    record {
      bytes = so_far.bytes ++ known name ∷ [];
      told = ap (λ t. t ++ known name ∷ []) so_far.told ∙ map_snoc known names name;
      cut =
          ap (λ t. t ++ front ∷ []) so_far.cut
          ∙ ap (λ t. map (λ file. take (most_bytes + 1) file) so_far.bytes ++ t ∷ []) told
          ∙ map_snoc (λ file. take (most_bytes + 1) file) so_far.bytes (known name);
    }

-- asked reads, and more behind them
pub asked_twice : (a : Option (List Asked)) (xs ys : List Asked)
    → option_map (λ t. t ++ ys) (option_map (λ t. t ++ xs) a) ≡ option_map (λ t. t ++ (xs ++ ys)) a
asked_twice None xs ys = refl
asked_twice (Some a) xs ys = ap Some (append_assoc a xs ys)
