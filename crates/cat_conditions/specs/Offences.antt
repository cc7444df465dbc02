-- Which pieces offend, and the first of them.
use Rattle.std.specs.Prelude.{◌≡◌, ℕ, ◌+◌, ◌<◌, Bool, true, false, List, take, Option, Some, None, slice_get, sum_by, option_map, unwrap_or}

-- the piece at this place meets the test
abbrev pub At : {A : Type 0} → (A → Bool) → List A → ℕ → Type 0
At test xs k = unwrap_or (option_map test (slice_get xs k)) false ≡ true

-- with the item at this place the sum of the weights is above the limit
abbrev pub Exceeds : {A : Type 0} → (A → ℕ) → ℕ → List A → ℕ → Type 0
Exceeds weight limit xs k = limit < sum_by weight (take (k + 1) xs)

-- none of n places offends
abbrev pub NoneOf : ℕ → (ℕ → Type 0) → Type 0
NoneOf n offends = (k : ℕ) → k < n → ¬ offends k

-- the first of n places that offends
pub record IsFirst (n : ℕ) (offends : ℕ → Type 0) (place : ℕ) : Type 0 where
  pub within : place < n
  pub here : offends place
  pub none_before : NoneOf place offends

-- the first of n places that offends, or none where none does
abbrev pub Finds : ℕ → (ℕ → Type 0) → Option ℕ → Type 0
Finds n offends None = NoneOf n offends
Finds n offends (Some place) = IsFirst n offends place
