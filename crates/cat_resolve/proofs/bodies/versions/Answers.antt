use Rattle.std.proofs.Common.{◌<◌, ◌+◌, ◌^◌, ◌++◌, ap, sym, ◌∙◌, drop, length, subst, List}
use Rattle.cn_base.specs.declared.tree.Stmt.{Stmt}
use Rattle.cat_conditions.specs.Plain.{block_of}
use Rattle.cat_resolve.specs.Form.{commands}
use Rattle.cat_resolve.specs.Meanings.{meanings}
use Rattle.cat_resolve.specs.Blocks.{block_blocks}
use Rattle.cat_resolve.specs.Content.{versions_blocks}
use Rattle.cat_resolve.proofs.Lists.{item_next}
use Rattle.cat_resolve.proofs.Statements.{ended_length}
use Rattle.cat_resolve.proofs.Built.{next_has_room, next_number, next_version}
use Rattle.cat_resolve.proofs.bodies.versions.Goals as goal

pub block-requires : goal.block-requires
block-requires c =
    let names = meanings c.args.names.now in
    let m = length c.loop-version.blocks.items in
    let left = item_next c.args.source.now c.loop-version.version-index c.version-item.result c.version-item.is c.loop-version-test.true in
    let own = block_blocks names m (block_of c.version-item.result) in
    let rest = drop (c.loop-version.version-index + 1) c.args.source.now in
    subst (λ (v : List Stmt). length c.loop-version.blocks.items + length (block_blocks names m (block_of v)) < 2 ^ 32) (sym c.as_slice.ensures)
    (next_has_room c.args.blocks.now.items c.loop-version.blocks.items own (versions_blocks names (m + length own) rest) _
    (ap (λ z. commands c.loop-version.blocks.items ++ versions_blocks names m z) (sym left) ∙ c.loop-version.invariant.1) c.requires)

pub loop-version-preserved : goal.loop-version-preserved
loop-version-preserved c =
    let names = meanings c.args.names.now in
    let m = length c.loop-version.blocks.items in
    let left = item_next c.args.source.now c.loop-version.version-index c.version-item.result c.version-item.is c.loop-version-test.true in
    let own = block_blocks names m (block_of c.version-item.result) in
    let ended = rw c.as_slice.ensures at c.in_ok-block.ensures.ended in
    let longer = ended_length c.loop-version.blocks.items c.block.new.blocks.items own ended in (
      next_number names m _ c.version-item.result _ _ c.loop-version.found.items _ _ _ left c.in_ok-push.ensures.items (rw c.as_slice.ensures at c.in_ok-block.ensures.value) longer c.loop-version.invariant.0,
      next_version names m _ c.version-item.result _ _ _ _ _ left ended longer c.loop-version.invariant.1,
    )
