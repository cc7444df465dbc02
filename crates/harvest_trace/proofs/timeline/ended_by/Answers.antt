use Rattle.std.proofs.Common.{rules, ℕ, ◌<◌, ◌≡◌, false, arith}
use Rattle.std.proofs.Math.Dec.{leb}
use Rattle.std.proofs.lemmas.Bool.{leb-true}
use Rattle.std.proofs.lemmas.Bool.Decides.{leb_tells}
use Rattle.std.proofs.lemmas.List.Sorted.{IsPartitionPoint-from_clause, IsPartitionedBy-leb}
use Rattle.harvest_trace.proofs.timeline.ended_by.Goals as goal

leb-false : (a b : ℕ) → leb a b ≡ false → b < a
leb-false a b h = grind (arith, leb_tells)

pub returns-clause-point : goal.returns-clause-point
returns-clause-point c =
    let point = IsPartitionPoint-from_clause (λ y. leb y c.args.tick) c.args.ends.now c.partition_point.result c.partition_point.ensures.partitioned (IsPartitionedBy-leb (λ x. x) c.args.ends.now c.args.tick c.requires) (λ a r f k. search rules) in
    (λ k d low high. leb-true _ _ (point.0 k d low high), λ k d low high. leb-false _ _ (point.1 k d low high))
