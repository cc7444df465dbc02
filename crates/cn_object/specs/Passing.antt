-- What a pass over code knows of depths.
use Rattle.std.specs.Prelude.{◌≡◌, ◌≢◌, ℕ, ◌-◌, ◌<◌, ◌≤◌, ◌⊎◌, nat_lt, ◌==◌, if◌then◌else◌, true, List, [], ◌∷◌, length, Some, slice_get, slice_set, slice_index_or, replicate}
use Rattle.cat_machine.specs.declared.instr.Instr.{Instr}
use Rattle.cat_machine.specs.declared.instr.Instr.TheVariants as i
use Rattle.cat_machine.specs.CodeValue.{CodeValue}
use Rattle.cost_bounds.specs.Paths.{acts}
use Rattle.cn_object.specs.declared.depth.Way.{Way}
use Rattle.cn_object.specs.declared.depth.Brought.{Brought}
use Rattle.cn_object.specs.declared.depth.Brought.TheVariants.{Nothing, One, Several}
use Rattle.cn_object.specs.Regions.{IsEntry}
use Rattle.cn_object.specs.Depths.{taken, way, on_way, LeadsTo, Brings, IsDepth}

abbrev pub joined : Brought → ℕ → Brought
joined Nothing depth = One depth
joined (One other) depth = if other == depth then One other else Several
joined Several depth = Several

abbrev pub at_place : List Brought → ℕ → Brought
at_place xs pc = slice_index_or xs pc Nothing

abbrev pub brought_to : List Brought → Way → List Brought
brought_to xs w = slice_set xs w.to (joined (at_place xs w.to) w.depth)

abbrev pub forward_to : ℕ → Way → List Brought → List Brought
forward_to pc w xs = if nat_lt pc w.to then brought_to xs w else xs

-- what an instruction brings to later places joins what they have
abbrev pub with_ways : Instr → ℕ → ℕ → List Brought → List Brought
with_ways (i.Jump to) pc depth xs = forward_to pc (way to depth) xs
with_ways (i.JumpZero to) pc depth xs = forward_to pc (way to (depth - 1)) (brought_to xs (on_way (i.JumpZero to) pc depth))
with_ways (i.Turn to) pc depth xs = forward_to pc (way to (depth - 1)) (brought_to xs (on_way (i.Turn to) pc depth))
with_ways i.End pc depth xs = xs
with_ways x pc depth xs = brought_to xs (on_way x pc depth)

abbrev pub entered_at : List Brought → List ℕ → List Brought
entered_at xs [] = xs
entered_at xs (entry ∷ entries) = entered_at (brought_to xs (way entry 0)) entries

abbrev pub first_brought : List ℕ → ℕ → List Brought
first_brought entries count = entered_at (replicate count Nothing) entries

-- these are the depths with some property: none, one, or several
abbrev pub SumsTo : (ℕ → Type 0) → Brought → Type 0
SumsTo P Nothing = (depth : ℕ) → ¬ P depth
SumsTo P (One depth) = P depth × ((other : ℕ) → P other → other ≡ depth)
SumsTo P Several = (a : ℕ) × (b : ℕ) × P a × P b × (a ≢ b)

-- an entry's depth, or one that the first n places bring to a place
abbrev pub BroughtBy : CodeValue → ℕ → ℕ → ℕ → Type 0
BroughtBy code n to depth = (IsEntry code to × (depth ≡ 0)) ⊎ ((pc : ℕ) × (under : ℕ) × (pc < n) × (pc < to) × Brings code pc under × LeadsTo code pc under to depth)

-- after the first n places
pub record IsSummary (code : CodeValue) (n : ℕ) (xs : List Brought) : Type 0 where
  pub size : length xs ≡ length code.instrs
  pub each : (pc : ℕ) → pc < length xs → SumsTo (BroughtBy code n pc) (at_place xs pc)

-- the one depth of each place
pub record AreDepths (code : CodeValue) (xs : List Brought) : Type 0 where
  pub size : length xs ≡ length code.instrs
  pub each : (pc : ℕ) → pc < length xs → (depth : ℕ) × (slice_get xs pc ≡ Some (One depth)) × IsDepth code pc depth

-- an instruction suits the depth of its place, as far as this is known
pub record IsFitting (xs : List Brought) (versions pc depth : ℕ) (x : Instr) : Type 0 where
  pub room : depth ≤ 32
  pub finds : taken x ≤ depth
  pub acting : pc < versions → acts x ≡ true → depth ≡ taken x
  pub ends : x ≡ i.End → depth ≡ 0
  pub back : (to : ℕ) → x ≡ i.Jump to → to ≤ pc → slice_get xs to ≡ Some (One depth)
