-- Code, as contracts see it.
use Rattle.std.specs.Prelude.{◌≡◌, ℕ, List, [], Some, map, slice_get, unwrap_or, Vec}
use Rattle.std.specs.Global.{Global}
use Rattle.cat_machine.specs.declared.instr.Instr.{Instr}

pub record CodeValue : Type 0 where
  pub instrs : List Instr
  pub tasks : List ℕ
  pub versions : List (List ℕ)

abbrev pub versions_at : CodeValue → ℕ → List ℕ
versions_at code event = unwrap_or (slice_get code.versions event) []

-- the entries of each event's versions
abbrev pub entries_of : List (Vec ℕ Global) → List (List ℕ)
entries_of = map (λ (v : Vec ℕ Global). v.items)

-- the code of a version begins here
abbrev pub EntryAt : CodeValue → ℕ → ℕ → ℕ → Type 0
EntryAt code event version entry = slice_get (versions_at code event) version ≡ Some entry
