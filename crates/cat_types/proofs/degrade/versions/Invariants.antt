use Rattle.std.proofs.Common.{◌≡◌, drop}
use Rattle.cat_conditions.specs.Counts.{versions_of}
use Rattle.cat_types.specs.Shown.{all_shown}
use Rattle.cat_types.proofs.degrade.versions.Given as goal

abbrev pub invariant-loop-piece : goal.invariant-loop-piece
invariant-loop-piece l = versions_of (all_shown (drop l.piece-index l.pieces)) l.name ≡ versions_of (all_shown l.pieces) l.name
