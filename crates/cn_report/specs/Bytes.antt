use Rattle.std.specs.Prelude.{ℕ, ◌-◌, ◌||◌, List, length, nat_lt, nat_le, if◌then◌else◌, slice_index}

-- the byte at a place after a write, where it was this one
abbrev pub byte_then : ℕ → ℕ → ℕ → List ℕ → ℕ
byte_then byte place at left = if nat_lt place at || nat_le (length left) (place - at) then byte else slice_index left (place - at)
