-- What failures say of a stretch of ticks.
use Rattle.std.specs.Prelude.{ℕ, ◌<◌, ◌&&◌, nat_le, nat_lt, if◌then◌else◌, get_or, length, List, [], ◌∷◌, Option, Some, None}
use Rattle.harvest_trace.specs.declared.failures.Failure.{Failure}

-- the first failure from a tick on and before another
unfoldable pub first_in : ℕ → ℕ → List Failure → Option Failure
first_in from upto [] = None
first_in from upto (f ∷ fs) = if nat_le from f.tick && nat_lt f.tick upto then Some f else first_in from upto fs

-- each failure comes after those before it
abbrev pub IsRising : List Failure → Type 0
IsRising fs = (i j : ℕ) (d : Failure) → i < j → j < length fs → (get_or fs i d).tick < (get_or fs j d).tick
