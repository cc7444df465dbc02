-- The sorts of names, kept in a map.
use Rattle.std.specs.Prelude.{◌≡◌, ℕ, Bool, true, false, bytes_eq, IsSome, is_some, not, if◌then◌else◌, List, length, Option, Some, None, Result, Ok, Err}
use Rattle.std.specs.BTreeMap.{BTreeMap, get_by}
use Rattle.std.specs.Borrow.{Bor}
use Rattle.std.specs.Cmp.Lexicographic.{slice_cmp}
use Rattle.std.specs.Ordering.{nat_cmp}
use Rattle.cat_conditions.specs.declared.sort.Sort.{Sort}
use Rattle.cat_conditions.specs.Pieces.{Piece}
use Rattle.cat_conditions.specs.Names.{Name, declarations, sort_of}
use Rattle.cat_conditions.specs.Conditions.{DeclaresTwice}
use Rattle.cat_conditions.specs.Offences.{NoneOf, IsFirst}
use Rattle.cat_types.specs.declared.names.Names.{Names}

abbrev pub sort_in : BTreeMap (Bor (List ℕ)) Sort → Name → Option Sort
sort_in sorts x = get_by (λ k. slice_cmp nat_cmp x k.now) sorts

abbrev pub sorts : Names → Name → Option Sort
sorts names x = sort_in names.sorts x

-- the names and sorts are those of the declarations
abbrev pub AreOf : List Piece → Names → Type 0
AreOf pieces names = (x : Name) → sorts names x ≡ sort_of (declarations pieces) x

abbrev pub IsNamed : Option (Bor (List ℕ) × Sort) → Option (Name × Sort) → Type 0
IsNamed None d = d ≡ None
IsNamed (Some found) d = d ≡ Some (found.0.now, found.1)

-- the sorts of all names, or the first name that is declared twice
abbrev pub Declares : List Piece → Result Names ℕ → Type 0
Declares pieces (Ok names) = AreOf pieces names × NoneOf (length pieces) (DeclaresTwice pieces)
Declares pieces (Err place) = IsFirst (length pieces) (DeclaresTwice pieces) place

-- what was declared is kept with one more, or this one was there before
abbrev pub Grows : Names → Names → Option (Name × Sort) → Bool → Type 0
Grows before now None twice = (twice ≡ false) × ((x : Name) → sorts now x ≡ sorts before x)
Grows before now (Some d) true = IsSome (sorts before d.0)
Grows before now (Some d) false = (sorts before d.0 ≡ None) × ((x : Name) → sorts now x ≡ (if bytes_eq d.0 x then Some d.1 else sorts before x))

abbrev pub is_unknown : Names → Name → Bool
is_unknown names x = not (is_some (sorts names x))
