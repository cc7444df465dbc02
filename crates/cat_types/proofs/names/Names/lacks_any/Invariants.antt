use Rattle.std.proofs.Common.{◌≡◌, drop}
use Rattle.std.specs.List.{list_any}
use Rattle.cat_types.specs.Sorts.{is_unknown}
use Rattle.cat_types.proofs.names.Names.lacks_any.Given as goal

abbrev pub invariant-loop-name : goal.invariant-loop-name
invariant-loop-name l = list_any (is_unknown l.self) (drop l.name-index l.list) ≡ list_any (is_unknown l.self) l.list
