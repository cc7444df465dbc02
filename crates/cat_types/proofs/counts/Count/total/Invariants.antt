use Rattle.std.proofs.Common.{◌≡◌, ◌≤◌, take}
use Rattle.std.specs.Prelude.{sum_by}
use Rattle.cat_conditions.specs.Offences.{Exceeds, NoneOf}
use Rattle.cat_types.specs.Shown.{all_shown}
use Rattle.cat_types.specs.Rules.{weight_of}
use Rattle.cat_types.proofs.counts.Count.total.Given as goal

abbrev pub invariant-loop-place : goal.invariant-loop-place
invariant-loop-place l = record {
  none : NoneOf l.place (Exceeds (weight_of l.self) l.limit (all_shown l.pieces));
  total : l.sum ≡ sum_by (weight_of l.self) (take l.place (all_shown l.pieces));
  within : l.sum ≤ l.limit;
}
