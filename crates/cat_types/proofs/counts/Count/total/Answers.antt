use Rattle.std.proofs.Common.{arith}
use Rattle.std.proofs.lemmas.List.{length-map}
use Rattle.cat_conditions.specs.Offences.{Exceeds}
use Rattle.cat_types.specs.Shown.{all_shown}
use Rattle.cat_types.specs.Rules.{weight_of}
use Rattle.cat_types.proofs.Finding.{none_more, sum_at}
use Rattle.cat_types.proofs.counts.Count.total.Goals as goal

pub loop-place-preserved : goal.loop-place-preserved
loop-place-preserved c =
    let sum = sum_at (weight_of c.args.self) c.args.pieces.now c.loop-place.place c.index-pieces-place.result c.index-pieces-place.is c.loop-place-test.true in
    record {
      none = none_more (Exceeds (weight_of c.args.self) c.args.limit (all_shown c.args.pieces.now)) c.loop-place.place c.loop-place.invariant.none
          (λ more. absurd (omega (arith, more, sum, c.loop-place.invariant.total, c.weight-weight.ensures)));
      total = omega (arith, sum, c.loop-place.invariant.total, c.weight-weight.ensures);
      within = omega arith;
    }

pub returns-then-weight-limit : goal.returns-then-weight-limit
returns-then-weight-limit c =
    let sum = sum_at (weight_of c.args.self) c.args.pieces.now c.loop-place.place c.index-pieces-place.result c.index-pieces-place.is c.loop-place-test.true in
    record {
      within = simp length-map c.loop-place-test.true;
      here = omega (arith, sum, c.loop-place.invariant.total, c.weight-weight.ensures);
      none_before = c.loop-place.invariant.none;
    }
