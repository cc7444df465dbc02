use Rattle.std.proofs.Common.{◌≡◌, ◌+◌, ◌*◌, ◌≤◌, drop}
use Rattle.std.specs.Prelude.{bytes_eq, count_by, flat_map}
use Rattle.cat_conditions.specs.Counts.{mentioned}
use Rattle.cat_types.specs.Shown.{all_shown}
use Rattle.cat_types.proofs.degrade.mentions.Given as goal

abbrev pub invariant-loop-piece : goal.invariant-loop-piece
invariant-loop-piece l = record {
  same : l.sum + count_by (λ y. bytes_eq l.name y) (flat_map mentioned (all_shown (drop l.piece-index l.pieces))) ≡ count_by (λ y. bytes_eq l.name y) (flat_map mentioned (all_shown l.pieces));
  small : l.sum ≤ l.piece-index * 18446744073709551616;
}
