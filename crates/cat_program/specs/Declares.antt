-- What a program declares beside its statements: where its variables stand, when its events come, and which of them are degraded.
use Rattle.std.specs.Prelude.{◌≡◌, ℕ, ◌+◌, ◌<◌, ◌≤◌, ◌==◌, Bool, true, false, List, [], ◌∷◌, length, count_by}
use Rattle.cat_program.specs.declared.headers.Variable.{Variable}
use Rattle.cat_program.specs.declared.headers.Event.{Event}
use Rattle.cat_program.specs.declared.headers.Timing.{Timing}
use Rattle.cat_program.specs.declared.headers.Timing.TheVariants.{Every, Spacing}

-- a plain variable has one word
abbrev pub HasWords : Bool → ℕ → Type 0
HasWords true len = (1 ≤ len) × (len ≤ 1024)
HasWords false len = len ≡ 1

-- the variables follow each other from a word on, and end where all words do
abbrev pub IsLaidOut : ℕ → List Variable → ℕ → Type 0
IsLaidOut at [] words = at ≡ words
IsLaidOut at (v ∷ vs) words = (v.base ≡ at) × HasWords v.array v.len × IsLaidOut (at + v.len) vs words

-- the least time between two arrivals of an event
abbrev pub spacing_of : Timing → ℕ
spacing_of (Every period offset) = period
spacing_of (Spacing least) = least

abbrev pub offset_of : Timing → ℕ
offset_of (Every period offset) = offset
offset_of (Spacing least) = 0

-- an event with the blocks of its versions
pub record EventIs (header : Event) (versions : List ℕ) : Type 0 where
  pub versions_are : header.versions ≡ length versions
  pub some : 1 ≤ length versions
  pub few : length versions ≤ 4
  pub spaced : spacing_of header.timing ≤ 1000000
  pub begins : offset_of header.timing ≤ 1000000
  pub due : 1 ≤ header.deadline
  pub in_time : header.deadline ≤ spacing_of header.timing

abbrev pub EachEventIs : List Event → List (List ℕ) → Type 0
EachEventIs [] [] = Unit {0}
EachEventIs (h ∷ hs) (vs ∷ rest) = EventIs h vs × EachEventIs hs rest
EachEventIs [] (vs ∷ rest) = ⊥
EachEventIs (h ∷ hs) [] = ⊥

-- each event, from number e on, is degraded less often than it has versions
abbrev pub EachDegrades : List ℕ → ℕ → List (List ℕ) → Type 0
EachDegrades mentions e [] = Unit {0}
EachDegrades mentions e (vs ∷ rest) = (count_by (λ m. m == e) mentions < length vs) × EachDegrades mentions (e + 1) rest
