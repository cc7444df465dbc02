use Rattle.std.proofs.Common.{◌≡◌, ◌+◌, ◌≤◌, drop}
use Rattle.cat_conditions.specs.Plain.{block_of}
use Rattle.cat_conditions.specs.Counts.{block_run}
use Rattle.cat_types.specs.Capped.{capped}
use Rattle.cat_types.proofs.sizes.+run.Given as goal

-- the sum so far and what is left is all
abbrev pub invariant-block_run-loop-statement : goal.invariant-block_run-loop-statement
invariant-block_run-loop-statement l = record {
  same : capped (l.sum + block_run (block_of (drop l.statement-index l.block))) ≡ capped (block_run (block_of l.block));
  small : l.sum ≤ 1000001;
}
