use Rattle.std.proofs.Common.{◌≡◌, ◌+◌, ◌≤◌, map, drop}
use Rattle.cat_conditions.specs.Plain.{further_of, furthers_of}
use Rattle.cat_conditions.specs.Counts.{further_size}
use Rattle.cat_types.specs.Capped.{capped}
use Rattle.cat_types.proofs.sizes.+expr.Given as goal

-- the sum so far and what is left is all
abbrev pub invariant-further_size-loop-other : goal.invariant-further_size-loop-other
invariant-further_size-loop-other l = record {
  same : capped (l.sum + further_size (furthers_of (map further_of (drop l.other-index l.others)))) ≡ capped (further_size (furthers_of (map further_of l.others)));
  small : l.sum ≤ 1000001;
}
