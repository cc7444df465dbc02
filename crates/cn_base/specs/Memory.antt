-- Files in memory.
use Rattle.std.specs.Prelude.{ℕ, ◌-◌, min, List, [], ◌∷◌, Bool, ◌==◌, ◌||◌, Option, Some, None, is_none, bytes_eq, string_bytes, unwrap_or, map, if◌then◌else◌}
use Rattle.std.specs.List.{list_any}
use Rattle.cn_base.specs.declared.memory.File.{File}
use Rattle.cn_base.specs.declared.memory.AskedRead.{AskedRead}
use Rattle.cn_base.specs.Reading.{Files, Asked}

-- the bytes of the first file with this name
abbrev pub file_of : List File → List ℕ → Option (List ℕ)
file_of [] name = None
file_of (file ∷ files) name = if bytes_eq (string_bytes file.name) name then Some file.bytes.items else file_of files name

abbrev pub files_of : List File → Files
files_of files name = unwrap_or (file_of files name) []

abbrev pub asked_of : List AskedRead → List Asked
asked_of reads = map (λ read. record { name = string_bytes read.name; failed = read.failed }) reads

-- whether the read behind so many others is told to fail
abbrev pub is_told : List ℕ → ℕ → Bool
is_told fail count = list_any (λ at. at == count) fail

-- whether a read of this name fails: it is told to, or no file has the name
abbrev pub does_fail : List File → List ℕ → ℕ → List ℕ → Bool
does_fail files fail count name = is_told fail count || is_none (file_of files name)

-- how much of a piece a sink with room for `room` bytes takes, of which it holds `held`
abbrev pub taken : ℕ → ℕ → ℕ → ℕ → ℕ
taken room per_call held piece = min per_call (min piece (room - held))
