use Rattle.std.proofs.Common.{◌≡◌, ◌+◌, true, false, take, ap, sym, ◌∙◌}
use Rattle.std.specs.Prelude.{flat_map}
use Rattle.cat_conditions.specs.Counts.{degrades_too_often, versions_of, mentioned}
use Rattle.cat_conditions.specs.Conditions.{DegradesTooOften}
use Rattle.cat_types.specs.Shown.{shown, all_shown}
use Rattle.cat_types.proofs.Finding.{none_more, at_place, take_shown}
use Rattle.cat_types.proofs.degrade.first_too_often.Goals as goal

pub loop-place-preserved : goal.loop-place-preserved
loop-place-preserved c =
    let ps = all_shown c.args.pieces.now in
    let test = degrades_too_often (versions_of ps) (flat_map mentioned (take (c.loop-place.place + 1) ps)) in
    let same = at_place test c.args.pieces.now c.loop-place.place c.index-pieces-place.result c.index-pieces-place.is c.loop-place-test.true in
    let here : test (shown c.index-pieces-place.result) ≡ false =
    ap (λ zs. degrades_too_often (versions_of ps) (flat_map mentioned zs) (shown c.index-pieces-place.result)) (sym (take_shown c.args.pieces.now (c.loop-place.place + 1)))
    ∙ sym c.degrades_too_often.ensures ∙ c.if-degrades_too_often.false in
    none_more (DegradesTooOften ps) c.loop-place.place c.loop-place.invariant (λ often. cc (same, here, often))

pub returns-then-degrades_too_often : goal.returns-then-degrades_too_often
returns-then-degrades_too_often c =
    let ps = all_shown c.args.pieces.now in
    let test = degrades_too_often (versions_of ps) (flat_map mentioned (take (c.loop-place.place + 1) ps)) in
    let same = at_place test c.args.pieces.now c.loop-place.place c.index-pieces-place.result c.index-pieces-place.is c.loop-place-test.true in
    let here : test (shown c.index-pieces-place.result) ≡ true =
    ap (λ zs. degrades_too_often (versions_of ps) (flat_map mentioned zs) (shown c.index-pieces-place.result)) (sym (take_shown c.args.pieces.now (c.loop-place.place + 1)))
    ∙ sym c.degrades_too_often.ensures ∙ c.if-degrades_too_often.true in
    record { within = c.loop-place-test.true; here = same ∙ here; none_before = c.loop-place.invariant }
