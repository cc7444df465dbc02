use Rattle.cn_base.specs.declared.tree.Stmt.{the_lemmas}
use Rattle.std.proofs.Common.{rules, arith, ◌+◌, [], ◌∷◌, ◌++◌, Some, ap, sym, drop, length, append-nil, refl}
use Rattle.cat_conditions.specs.Plain.{action_of, block_of, no_else, otherwise}
use Rattle.cat_resolve.specs.Meanings.{meanings}
use Rattle.cat_resolve.specs.Blocks as spec
use Rattle.cat_resolve.proofs.Lists.{item_next}
use Rattle.cat_resolve.proofs.Statements.{ended_length, fits_first, fits_second, branch_is, both_end, next_fits, next_found, next_ended}
use Rattle.cat_resolve.proofs.blocks.+stmt.Goals as goal

pub statement-block-requires : goal.statement-block-requires
statement-block-requires t c = (first_of (search (rules, the_lemmas), grind (arith, the_lemmas)), rw c.as_slice.ensures (fits_first _ _ _ _ (rw (c.in-If.is, c.plain_law.ensures.actions.branch) at c.requires)))

pub statement-block-requires-in-While : goal.statement-block-requires-in-While
statement-block-requires-in-While t c = (first_of (search (rules, the_lemmas), grind (arith, the_lemmas)), rw c.as_slice-in-While.ensures (rw (c.in-While.is, c.plain_law.ensures.actions.loop) at c.requires))

pub statement-block-requires-in-Repeat : goal.statement-block-requires-in-Repeat
statement-block-requires-in-Repeat t c = (first_of (search (rules, the_lemmas), grind (arith, the_lemmas)), rw c.as_slice-in-Repeat.ensures (rw (c.in-Repeat.is, c.plain_law.ensures.actions.turns) at c.requires))

pub statement-returns-in_ok-value-in-Set-clause-ended : goal.statement-returns-in_ok-value-in-Set-clause-ended
statement-returns-in_ok-value-in-Set-clause-ended t c = rw (c.in-Set.is, c.plain_law.ensures.actions.set) (sym (append-nil _))

pub statement-returns-in_ok-value-in-SetAt-clause-ended : goal.statement-returns-in_ok-value-in-SetAt-clause-ended
statement-returns-in_ok-value-in-SetAt-clause-ended t c = rw (c.in-SetAt.is, c.plain_law.ensures.actions.set_at) (sym (append-nil _))

pub statement-returns-in_ok-value-in-Out-clause-ended : goal.statement-returns-in_ok-value-in-Out-clause-ended
statement-returns-in_ok-value-in-Out-clause-ended t c = rw (c.in-Out.is, c.plain_law.ensures.actions.out) (sym (append-nil _))

pub statement-returns-in-Post-clause-ended : goal.statement-returns-in-Post-clause-ended
statement-returns-in-Post-clause-ended t c = rw (c.in-Post.is, c.plain_law.ensures.actions.post) (sym (append-nil _))

pub statement-returns-in_default-clause-value : goal.statement-returns-in_default-clause-value
statement-returns-in_default-clause-value t c =
    let names = meanings c.args.names.now in
    let n = length c.args.blocks.now.items in
    let within = spec.blocks_within names n (block_of c.in-If.first) in
    let own = spec.commands_of names n (block_of c.in-If.first) in
    let ended = rw c.as_slice.ensures at c.in_ok-yes-in-If.ensures.ended in
    let longer = ended_length c.args.blocks.now.items c.block.new.blocks.items (within ++ own ∷ []) ended in
    rw (c.in-If.is, c.plain_law.ensures.actions.branch, c.in_default.is)
    (branch_is names n _ _ within own no_else _ _ _ longer c.in_ok-test-in-If.ensures (rw c.as_slice.ensures at c.in_ok-yes-in-If.ensures.value) refl)

pub statement-returns-in_default-clause-ended : goal.statement-returns-in_default-clause-ended
statement-returns-in_default-clause-ended t c = rw (c.in-If.is, c.plain_law.ensures.actions.branch, c.in_default.is) (rw c.as_slice.ensures at c.in_ok-yes-in-If.ensures.ended)

pub statement-block-requires-in-If : goal.statement-block-requires-in-If
statement-block-requires-in-If t c =
    let names = meanings c.args.names.now in
    let n = length c.args.blocks.now.items in
    let within = spec.blocks_within names n (block_of c.in-If.first) in
    let own = spec.commands_of names n (block_of c.in-If.first) in
    let ended = rw c.as_slice.ensures at c.in_ok-yes-in-If.ensures.ended in
    let longer = ended_length c.args.blocks.now.items c.block.new.blocks.items (within ++ own ∷ []) ended in (
      first_of (search (rules, the_lemmas), grind (arith, the_lemmas)),
      rw c.as_slice-in-If.ensures
          (fits_second names n _ within own (otherwise (block_of c.in-Some.second)) longer (rw (c.in-If.is, c.plain_law.ensures.actions.branch, c.in-Some.is) at c.requires)),
    )

pub statement-returns-in_ok-no-in-If-clause-value : goal.statement-returns-in_ok-no-in-If-clause-value
statement-returns-in_ok-no-in-If-clause-value t c =
    let names = meanings c.args.names.now in
    let n = length c.args.blocks.now.items in
    let within = spec.blocks_within names n (block_of c.in-If.first) in
    let own = spec.commands_of names n (block_of c.in-If.first) in
    let ended = rw c.as_slice.ensures at c.in_ok-yes-in-If.ensures.ended in
    let longer = ended_length c.args.blocks.now.items c.block.new.blocks.items (within ++ own ∷ []) ended in
    rw (c.in-If.is, c.plain_law.ensures.actions.branch, c.in-Some.is)
    (branch_is names n _ _ within own (otherwise (block_of c.in-Some.second)) _ _ _ longer c.in_ok-test-in-If.ensures (rw c.as_slice.ensures at c.in_ok-yes-in-If.ensures.value)
    (ap Some (rw c.as_slice-in-If.ensures at c.in_ok-no-in-If.ensures.value)))

pub statement-returns-in_ok-no-in-If-clause-ended : goal.statement-returns-in_ok-no-in-If-clause-ended
statement-returns-in_ok-no-in-If-clause-ended t c =
    let names = meanings c.args.names.now in
    let n = length c.args.blocks.now.items in
    let within = spec.blocks_within names n (block_of c.in-If.first) in
    let own = spec.commands_of names n (block_of c.in-If.first) in
    let ended = rw c.as_slice.ensures at c.in_ok-yes-in-If.ensures.ended in
    let longer = ended_length c.args.blocks.now.items c.block.new.blocks.items (within ++ own ∷ []) ended in
    rw (c.in-If.is, c.plain_law.ensures.actions.branch, c.in-Some.is)
    (both_end names n _ _ _ _ within own (otherwise (block_of c.in-Some.second)) longer ended (rw c.as_slice-in-If.ensures at c.in_ok-no-in-If.ensures.ended))

pub statements-statement-requires : goal.statements-statement-requires
statements-statement-requires t c = (
  first_of (search (rules, the_lemmas), grind (arith, the_lemmas)),
  next_fits (meanings c.args.names.now) _ _ c.args.blocks.now.items c.loop-one.blocks.items (action_of c.one-item.result) _ (block_of (drop (c.loop-one.one-index + 1) c.args.source.now)) _ refl refl
      (ap block_of (item_next c.args.source.now c.loop-one.one-index c.one-item.result c.one-item.is c.loop-one-test.true)) c.loop-one.invariant.1 c.requires,
)

pub statements-loop-one-preserved : goal.statements-loop-one-preserved
statements-loop-one-preserved t c =
    let n = meanings c.args.names.now in
    let rest = block_of (drop (c.loop-one.one-index + 1) c.args.source.now) in
    let left = ap block_of (item_next c.args.source.now c.loop-one.one-index c.one-item.result c.one-item.is c.loop-one-test.true) in
    let longer = ended_length _ _ _ c.in_ok-statement.ensures.ended in (
      next_found n _ _ (action_of c.one-item.result) _ rest _ _ _ _ left c.in_ok-push.ensures.items c.in_ok-statement.ensures.value longer c.loop-one.invariant.0,
      next_ended n _ _ (action_of c.one-item.result) _ rest _ _ _ left c.in_ok-statement.ensures.ended longer c.loop-one.invariant.1,
    )
