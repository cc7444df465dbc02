-- How a text spells a fill.
use Rattle.std.specs.Prelude.{ℕ, ◌&&◌, nat_le, if◌then◌else◌, length, List, Option, None}
use Rattle.std.specs.Result.{result_ok}
use Rattle.hex.specs.Hex.{decode_of}

-- the bytes that 2 to 128 hexadecimal digits spell
abbrev pub fill_of : List ℕ → Option (List ℕ)
fill_of text = if nat_le 2 (length text) && nat_le (length text) 128 then result_ok (decode_of text) else None
