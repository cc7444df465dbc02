-- The two formats of an image.
use Rattle.std.specs.Prelude.{ℕ, ◌==◌, if◌then◌else◌}

-- the last byte at which the slots may begin: in format 2 they may stand behind an image of format 1, whatever its layout
abbrev pub most_base : ℕ → ℕ
most_base format = if format == 1 then 64 else 16008640

-- the bytes of a record of the log
abbrev pub record_size : ℕ → ℕ
record_size format = if format == 1 then 16 else 24
