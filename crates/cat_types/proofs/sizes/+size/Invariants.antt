use Rattle.std.proofs.Common.{◌≡◌, ◌+◌, ◌≤◌, drop}
use Rattle.cat_conditions.specs.Plain.{block_of}
use Rattle.cat_conditions.specs.Counts.{block_size}
use Rattle.cat_types.specs.Capped.{capped}
use Rattle.cat_types.proofs.sizes.+size.Given as goal

-- the sum so far and what is left is all
abbrev pub invariant-block_size-loop-statement : goal.invariant-block_size-loop-statement
invariant-block_size-loop-statement l = record {
  same : capped (l.sum + block_size (block_of (drop l.statement-index l.block))) ≡ capped (block_size (block_of l.block));
  small : l.sum ≤ 1000001;
}
