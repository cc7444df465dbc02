use Rattle.std.proofs.Common.{rules, ℕ, ◌≤◌, ◌<◌, ◌≡◌, true, false, arith}
use Rattle.std.proofs.Math.Dec.{ltb}
use Rattle.std.proofs.lemmas.Bool.Decides.{nat_tests}
use Rattle.std.proofs.lemmas.List.Sorted.{IsPartitionPoint-from_clause, IsPartitionedBy-ltb}
use Rattle.harvest_trace.specs.declared.failures.Failure.{Failure}
use Rattle.harvest_trace.proofs.failures.before.Goals as goal

ltb-less : (a b : ℕ) → ltb a b ≡ true → a < b
ltb-less a b h = grind (arith, nat_tests)

ltb-least : (a b : ℕ) → ltb a b ≡ false → b ≤ a
ltb-least a b h = grind (arith, nat_tests)

pub returns-clause-point : goal.returns-clause-point
returns-clause-point c =
    let point = IsPartitionPoint-from_clause (λ (f : Failure). ltb f.tick c.args.tick) c.args.failures.now c.partition_point.result c.partition_point.ensures.partitioned (IsPartitionedBy-ltb (λ f. f.tick) c.args.failures.now c.args.tick c.requires) (λ a r f k. search rules) in
    (λ k d low high. ltb-less _ _ (point.0 k d low high), λ k d low high. ltb-least _ _ (point.1 k d low high))
