use Rattle.std.proofs.Common.{◌≡◌, ◌≤◌, max, map, drop}
use Rattle.cat_conditions.specs.Plain.{further_of, furthers_of}
use Rattle.cat_conditions.specs.Counts.{further_need}
use Rattle.cat_types.specs.Capped.{capped}
use Rattle.cat_types.proofs.sizes.+need.Given as goal

-- the most so far and what is left is all
abbrev pub invariant-further_need-loop-other : goal.invariant-further_need-loop-other
invariant-further_need-loop-other l = record {
  same : capped (max l.most (further_need (furthers_of (map further_of (drop l.other-index l.others))))) ≡ capped (further_need (furthers_of (map further_of l.others)));
  small : l.most ≤ 1000001;
}
