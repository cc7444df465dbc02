use Rattle.std.proofs.Common.{rules, ℕ, ◌<◌, ◌≡◌, false, arith}
use Rattle.std.proofs.Math.Dec.{leb}
use Rattle.std.proofs.lemmas.Bool.{leb-true}
use Rattle.std.proofs.lemmas.Bool.Decides.{leb_tells}
use Rattle.std.proofs.lemmas.List.Sorted.{IsPartitionPoint-from_clause, IsPartitionedBy-leb}
use Rattle.board_core.proofs.timeline.ended_in.Goals as goal

leb-false : (a b : ℕ) → leb a b ≡ false → b < a
leb-false a b h = grind (arith, leb_tells)

pub returns-clause-point : goal.returns-clause-point
returns-clause-point c =
    let point = IsPartitionPoint-from_clause (λ y. leb y c.args.place) c.args.ends.now c.partition_point.result c.partition_point.ensures.partitioned (IsPartitionedBy-leb (λ x. x) c.args.ends.now c.args.place c.requires) (λ a r f k. search rules) in
    (λ k d low high. leb-true _ _ (point.0 k d low high), λ k d low high. leb-false _ _ (point.1 k d low high))
