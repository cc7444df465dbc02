use Rattle.std.proofs.Common.{true, ◌+◌, ◌++◌, drop, ap, sym, ◌∙◌}
use Rattle.cat_conditions.specs.Plain.{block_of}
use Rattle.cat_conditions.specs.Pieces.{block_pieces, versions_pieces}
use Rattle.cat_types.proofs.Adding.{continues_on, item_next}
use Rattle.cat_types.proofs.pieces.add_versions.Goals as goal

pub loop-version-preserved : goal.loop-version-preserved
loop-version-preserved c = continues_on c.loop-version.invariant c.in_ok-add_block.ensures
    (ap versions_pieces (item_next c.args.versions.now c.loop-version.version-index c.version-item.result c.version-item.is c.loop-version-test.true)
    ∙ ap (λ block. block_pieces true 32 (block_of block) ++ versions_pieces (drop (c.loop-version.version-index + 1) c.args.versions.now)) (sym c.as_slice.ensures))
