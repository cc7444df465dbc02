-- Reading the byte that is named from a list.
use Rattle.std.proofs.Common.{◌≡◌, ℕ, List, map, Some, None, sym, ap, ◌∙◌}
use Rattle.std.specs.Prelude.{get_or, slice_get, option_map, unwrap_or}
use Rattle.std.proofs.lemmas.Option.{slice_get-map, unwrap_or-slice_get}

-- what is read at a place of the images, with a default, is the image of what is there
read_as : {A : Type 0} (f : A → ℕ) (xs : List A) (n d : ℕ) → get_or (map f xs) n d ≡ unwrap_or (option_map f (slice_get xs n)) d
read_as f xs n d = sym (unwrap_or-slice_get (map f xs) n d) ∙ ap (λ o. unwrap_or o d) (slice_get-map f xs n)

pub read_there : {A : Type 0} (f : A → ℕ) (xs : List A) (n d : ℕ) (x : A) → slice_get xs n ≡ Some x → f x ≡ get_or (map f xs) n d
read_there f xs n d x e = sym (read_as f xs n d ∙ ap (λ o. unwrap_or (option_map f o) d) e)

pub read_behind : {A : Type 0} (f : A → ℕ) (xs : List A) (n d : ℕ) → slice_get xs n ≡ None → d ≡ get_or (map f xs) n d
read_behind f xs n d e = sym (read_as f xs n d ∙ ap (λ o. unwrap_or (option_map f o) d) e)
