use Rattle.cat_resolve.proofs.program.checked.Goals as goal

pub resolve-requires-clause-small : goal.resolve-requires-clause-small
resolve-requires-clause-small c = c.checked_law.ensures.small c.args.tree.now c.requires

pub resolve-requires-clause-few_blocks : goal.resolve-requires-clause-few_blocks
resolve-requires-clause-few_blocks c = c.checked_law.ensures.few_blocks c.args.tree.now c.requires

pub of-requires : goal.of-requires
of-requires c = c.checked_law.ensures.checked c.args.tree.now _ c.requires c.in-Ok.ensures
