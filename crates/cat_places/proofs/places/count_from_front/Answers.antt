use Rattle.std.proofs.Common.{◌-◌, ◌∙◌, ap, arith, get_or, slice_set}
use Rattle.std.proofs.lemmas.List.{get_or_default}
use Rattle.std.proofs.lemmas.List.Edits.{map_over_more}
use Rattle.cat_places.proofs.places.count_from_front.Goals as goal

pub loop-left-preserved : goal.loop-left-preserved
loop-left-preserved c =
    let ys = c.loop-left.lefts in
    let i = c.loop-left.left-index in
    ap (slice_set ys i) c.saturating_sub.ensures
    ∙ map_over_more (λ left. c.args.total - left) c.args.lefts.now ys i (get_or ys i 0) c.loop-left-test.true c.loop-left.invariant
    (get_or_default ys i 0 (get_or ys i 0) (omega arith))
