use Rattle.std.proofs.Common.{◌≡◌, drop}
use Rattle.std.specs.List.{list_any}
use Rattle.cat_types.specs.Mentions.{is_over}
use Rattle.cat_types.specs.Shown.{all_shown}
use Rattle.cat_types.proofs.degrade.has_too_many.Given as goal

abbrev pub invariant-loop-name : goal.invariant-loop-name
invariant-loop-name l = list_any (is_over (all_shown l.pieces) (all_shown l.so_far)) (drop l.name-index l.list) ≡ list_any (is_over (all_shown l.pieces) (all_shown l.so_far)) l.list
