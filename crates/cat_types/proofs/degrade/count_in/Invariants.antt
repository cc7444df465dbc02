use Rattle.std.proofs.Common.{◌≡◌, ◌+◌, ◌≤◌, drop}
use Rattle.std.specs.Prelude.{bytes_eq, count_by}
use Rattle.cat_types.proofs.degrade.count_in.Given as goal

abbrev pub invariant-loop-other : goal.invariant-loop-other
invariant-loop-other l = record {
  same : l.count + count_by (λ y. bytes_eq l.name y) (drop l.other-index l.list) ≡ count_by (λ y. bytes_eq l.name y) l.list;
  small : l.count ≤ l.other-index;
}
