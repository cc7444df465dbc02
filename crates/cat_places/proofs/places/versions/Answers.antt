use Rattle.std.proofs.Common.{refl}
use Rattle.cat_conditions.specs.Plain.{block_of}
use Rattle.cat_places.specs.Walk.{block_lefts}
use Rattle.cat_places.proofs.Going.{goes_first, goes_next, goes_left, goes_found, item_next}
use Rattle.cat_places.proofs.places.versions.Goals as goal

pub loop-version-init : goal.loop-version-init
loop-version-init c = goes_first _ _ _ _ _

pub loop-version-preserved : goal.loop-version-preserved
loop-version-preserved c =
    let there = item_next c.args.versions.now c.loop-version.version-index c.version-item.result c.version-item.is c.loop-version-test.true in
    goes_next _ _ _ _ _ _ _ _ _ (block_lefts (block_of c.as_slice.result.now) c.skip.new.self) _ c.loop-version.invariant c.in_ok-block.ensures.found
    (rw (there, c.in_ok-block.ensures.cursor, c.skip.ensures, c.as_slice.ensures) refl)
    (rw (there, c.in_ok-block.ensures.cursor, c.skip.ensures, c.as_slice.ensures) refl)

pub returns-clause-cursor : goal.returns-clause-cursor
returns-clause-cursor c = goes_left _ _ _ _ _ _ _ _ c.loop-version.invariant c.loop-version-test.false refl

pub returns-clause-found : goal.returns-clause-found
returns-clause-found c = goes_found _ _ _ _ _ _ _ _ c.loop-version.invariant c.loop-version-test.false refl
