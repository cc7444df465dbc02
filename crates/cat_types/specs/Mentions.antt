-- The versions of a named event.
use Rattle.std.specs.Prelude.{ℕ, Bool, List, nat_le, count_by, flat_map, bytes_eq, if◌then◌else◌, Option, Some, None}
use Rattle.cat_conditions.specs.Pieces.{Piece}
use Rattle.cat_conditions.specs.Counts.{versions_of, mentioned}
use Rattle.cat_conditions.specs.Names.{Name}

abbrev pub event_versions : Name → Option (Name × ℕ) → Option ℕ
event_versions x None = None
event_versions x (Some d) = if bytes_eq x d.0 then Some d.1 else None

-- these orders mention the event as often as it has versions
unfoldable pub is_over : List Piece → List Piece → Name → Bool
is_over pieces so_far x = nat_le (versions_of pieces x) (count_by (λ y. bytes_eq x y) (flat_map mentioned so_far))
