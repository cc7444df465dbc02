-- The regions of code: each task and each version reaches from its entry to before the next.
use Rattle.std.specs.Prelude.{◌≡◌, ◌≢◌, ℕ, ◌+◌, ◌<◌, ◌≤◌, ◌⊎◌, ◌↔◌, List, [], ◌++◌, length, None, Some, slice_get, slice_index, slice_index_or, unwrap_or, Option, ◌==◌, if◌then◌else◌}
use Rattle.std.specs.List.{flat_map}
use Rattle.cat_machine.specs.declared.instr.Instr.{Instr}
use Rattle.cat_machine.specs.declared.instr.Instr.TheVariants as i
use Rattle.cat_machine.specs.CodeValue.{CodeValue}
use Rattle.cn_object.specs.declared.regions.Span.{Span}
use Rattle.cn_object.specs.Operands.{target_of}

-- the entries of all versions, and of all regions
abbrev pub version_entries : CodeValue → List ℕ
version_entries code = flat_map (λ (entries : List ℕ). entries) code.versions

abbrev pub all_entries : CodeValue → List ℕ
all_entries code = code.tasks ++ version_entries code

abbrev pub IsEntry : CodeValue → ℕ → Type 0
IsEntry code pc = (k : ℕ) × (slice_get (all_entries code) k ≡ Some pc)

-- entries begin at 0, ascend, and are below the count, which is 0 where there are none
pub record AreEntriesOf (entries : List ℕ) (count : ℕ) : Type 0 where
  pub first : (entry : ℕ) → slice_get entries 0 ≡ Some entry → entry ≡ 0
  pub ascend : (k a b : ℕ) → slice_get entries k ≡ Some a → slice_get entries (k + 1) ≡ Some b → a < b
  pub within : (k a : ℕ) → slice_get entries k ≡ Some a → a < count
  pub none : entries ≡ [] → count ≡ 0

-- each is below the next one, and the last below the count
abbrev pub AscendBelow : List ℕ → ℕ → Type 0
AscendBelow entries count = (k : ℕ) → k < length entries → slice_index entries k < slice_index_or entries (k + 1) count

abbrev pub AreEntries : CodeValue → Type 0
AreEntries code = AreEntriesOf (all_entries code) (length code.instrs)

-- each place to which an instruction may go exists
abbrev pub HasTargets : CodeValue → Type 0
HasTargets code = (pc to : ℕ) (x : Instr) → slice_get code.instrs pc ≡ Some x → target_of x ≡ Some to → to < length code.instrs

-- two places of one region: no entry lies between them
abbrev pub SameRegion : CodeValue → ℕ → ℕ → Type 0
SameRegion code a b = (entry : ℕ) → IsEntry code entry → (entry ≤ a ↔ entry ≤ b)

-- the place after the last one of a region
abbrev pub IsRegionEnd : CodeValue → ℕ → Type 0
IsRegionEnd code pc = IsEntry code pc ⊎ (pc ≡ length code.instrs)

-- the tasks' code comes first, and the versions' code after it
abbrev pub versions_begin : CodeValue → ℕ
versions_begin code = unwrap_or (slice_get (version_entries code) 0) (length code.instrs)

-- a jump stays in its region, and goes to no begin
pub record StaysIn (code : CodeValue) (pc to : ℕ) : Type 0 where
  pub region : SameRegion code pc to
  pub no_begin : (t : ℕ) → slice_get code.instrs to ≢ Some (i.Begin t)

-- what the regions ask of an instruction at a place: of all, and of some of them
pub record SuitsRegion (code : CodeValue) (pc : ℕ) (x : Instr) : Type 0 where
  -- the begin of a task stands at its entry and nowhere else
  pub begins : (t : ℕ) → (x ≡ i.Begin t) ↔ (slice_get code.tasks t ≡ Some pc)
  -- an end stands last and nowhere else
  pub ends : (x ≡ i.End) ↔ IsRegionEnd code (pc + 1)
  pub stays : (to : ℕ) → target_of x ≡ Some to → StaysIn code pc to
  -- only a jump goes backward
  pub forward : (to : ℕ) → target_of x ≡ Some to → to ≤ pc → x ≡ i.Jump to
  pub payload : x ≡ i.Payload → versions_begin code ≤ pc
  pub turn : (to : ℕ) → x ≡ i.Turn to → versions_begin code ≤ pc

abbrev pub RegionAt : CodeValue → ℕ → Type 0
RegionAt code pc = (x : Instr) → slice_get code.instrs pc ≡ Some x → SuitsRegion code pc x

-- ---- one region at a time

-- entry k begins a region, which is a task's or not
pub record IsSpan (entries : List ℕ) (tasks count k : ℕ) (span : Span) : Type 0 where
  pub entry : span.entry ≡ slice_index entries k
  pub end : span.end ≡ slice_index_or entries (k + 1) count
  pub of_task : k < tasks → span.task ≡ Some k
  pub of_version : tasks ≤ k → span.task ≡ None

-- the task of which an instruction is the begin, and the task that is entered at a place
abbrev pub begun : Instr → Option ℕ
begun (i.Begin t) = Some t
begun _ = None

abbrev pub entered_in : Span → ℕ → Option ℕ
entered_in span pc = if pc == span.entry then span.task else None

abbrev pub HasBegin : Span → ℕ → Instr → Type 0
HasBegin span pc x = begun x ≡ entered_in span pc

abbrev pub HasEnd : Span → ℕ → Instr → Type 0
HasEnd span pc x = (x ≡ i.End) ↔ (pc + 1 ≡ span.end)

abbrev pub StaysWithin : CodeValue → Span → Instr → Type 0
StaysWithin code span x = (to : ℕ) → target_of x ≡ Some to → (span.entry ≤ to) × (to < span.end) × ((t : ℕ) → slice_get code.instrs to ≢ Some (i.Begin t))

pub record IsAllowed (span : Span) (pc : ℕ) (x : Instr) : Type 0 where
  pub forward : (to : ℕ) → target_of x ≡ Some to → to ≤ pc → x ≡ i.Jump to
  pub payload : x ≡ i.Payload → span.task ≡ None
  pub turn : (to : ℕ) → x ≡ i.Turn to → span.task ≡ None

pub record SuitsSpan (code : CodeValue) (span : Span) (pc : ℕ) (x : Instr) : Type 0 where
  pub begin : HasBegin span pc x
  pub end : HasEnd span pc x
  pub stays : StaysWithin code span x
  pub allowed : IsAllowed span pc x

abbrev pub SuitsSpanAt : CodeValue → Span → ℕ → Type 0
SuitsSpanAt code span pc = (x : Instr) → slice_get code.instrs pc ≡ Some x → SuitsSpan code span pc x
