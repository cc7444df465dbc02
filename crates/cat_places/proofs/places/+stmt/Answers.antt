use Rattle.std.proofs.Common.{◌∷◌, length, refl, append_assoc}
use Rattle.std.proofs.Common.{sym}
use Rattle.std.proofs.lemmas.List.{append-nil}
use Rattle.cat_conditions.specs.Plain.{action_of}
use Rattle.cat_places.specs.Walk.{inner_lefts}
use Rattle.cat_places.proofs.Going.{goes_first, goes_next, goes_left, goes_found, item_next}
use Rattle.cat_places.proofs.places.+stmt.Goals as goal

pub inside-returns-in-Set-clause-cursor : goal.inside-returns-in-Set-clause-cursor
inside-returns-in-Set-clause-cursor t c = rw (c.in-Set.is, c.plain_law.ensures.actions.set) c.assigned.ensures.cursor

pub inside-returns-in-Set-clause-found : goal.inside-returns-in-Set-clause-found
inside-returns-in-Set-clause-found t c = rw (c.in-Set.is, c.plain_law.ensures.actions.set) c.assigned.ensures.found

pub inside-returns-in_ok-whole-in-SetAt-clause-cursor : goal.inside-returns-in_ok-whole-in-SetAt-clause-cursor
inside-returns-in_ok-whole-in-SetAt-clause-cursor t c =
    rw (c.in-SetAt.is, c.plain_law.ensures.actions.set_at) (rw (c.in_ok-whole-in-SetAt.ensures.cursor, c.skip.ensures) at c.assigned-in-SetAt.ensures.cursor)

pub inside-returns-in_ok-whole-in-SetAt-clause-found : goal.inside-returns-in_ok-whole-in-SetAt-clause-found
inside-returns-in_ok-whole-in-SetAt-clause-found t c =
    rw (c.in-SetAt.is, c.plain_law.ensures.actions.set_at) (rw (c.in_ok-whole-in-SetAt.ensures.found, c.in_ok-whole-in-SetAt.ensures.cursor, c.skip.ensures, append_assoc) at c.assigned-in-SetAt.ensures.found)

pub inside-returns-in-Out-clause-cursor : goal.inside-returns-in-Out-clause-cursor
inside-returns-in-Out-clause-cursor t c = rw (c.in-Out.is, c.plain_law.ensures.actions.out) c.assigned-in-Out.ensures.cursor

pub inside-returns-in-Out-clause-found : goal.inside-returns-in-Out-clause-found
inside-returns-in-Out-clause-found t c = rw (c.in-Out.is, c.plain_law.ensures.actions.out) c.assigned-in-Out.ensures.found

pub inside-returns-in-Post-clause-cursor : goal.inside-returns-in-Post-clause-cursor
inside-returns-in-Post-clause-cursor t c = rw (c.in-Post.is, c.plain_law.ensures.actions.post) c.skip-in-Post.ensures

pub inside-returns-in_ok-whole-in-While-clause-cursor : goal.inside-returns-in_ok-whole-in-While-clause-cursor
inside-returns-in_ok-whole-in-While-clause-cursor t c =
    rw (c.in-While.is, c.plain_law.ensures.actions.loop, ← c.as_slice-in-While.ensures) (rw (c.in_ok-whole-in-While.ensures.cursor, c.skip-in-While.ensures) at c.block-in-While.ensures.cursor)

pub inside-returns-in_ok-whole-in-While-clause-found : goal.inside-returns-in_ok-whole-in-While-clause-found
inside-returns-in_ok-whole-in-While-clause-found t c =
    rw (c.in-While.is, c.plain_law.ensures.actions.loop, ← c.as_slice-in-While.ensures) (rw (c.in_ok-whole-in-While.ensures.found, c.in_ok-whole-in-While.ensures.cursor, c.skip-in-While.ensures, append_assoc) at c.block-in-While.ensures.found)

pub statements-loop-statement-init : goal.statements-loop-statement-init
statements-loop-statement-init t c = goes_first _ _ _ _ _

pub statements-loop-statement-preserved : goal.statements-loop-statement-preserved
statements-loop-statement-preserved t c =
    let there = item_next c.args.block.now c.loop-statement.statement-index c.statement-item.result c.statement-item.is c.loop-statement-test.true in
    goes_next _ _ _ _ _ _ _ _ _ (length c.loop-statement.cursor ∷ inner_lefts (action_of c.statement-item.result) c.loop-statement.cursor) _ c.loop-statement.invariant
    (rw (c.in_ok-inside.ensures.found, c.in_ok-add.ensures, c.left.ensures, append_assoc) refl)
    (rw (there, c.in_ok-inside.ensures.cursor) refl)
    (rw (there, c.in_ok-inside.ensures.cursor) refl)

pub statements-returns-clause-cursor : goal.statements-returns-clause-cursor
statements-returns-clause-cursor t c = goes_left _ _ _ _ _ _ _ _ c.loop-statement.invariant c.loop-statement-test.false refl

pub statements-returns-clause-found : goal.statements-returns-clause-found
statements-returns-clause-found t c = goes_found _ _ _ _ _ _ _ _ c.loop-statement.invariant c.loop-statement-test.false refl

pub inside-returns-in-Post-clause-found : goal.inside-returns-in-Post-clause-found
inside-returns-in-Post-clause-found t c = rw (c.in-Post.is, c.plain_law.ensures.actions.post) (sym (append-nil c.args.found.now.items))

pub inside-returns-in-Repeat-clause-cursor : goal.inside-returns-in-Repeat-clause-cursor
inside-returns-in-Repeat-clause-cursor t c =
    rw (c.in-Repeat.is, c.plain_law.ensures.actions.turns, ← c.as_slice-in-Repeat.ensures) (rw c.skip-in-Repeat.ensures at c.block-in-Repeat.ensures.cursor)

pub inside-returns-in-Repeat-clause-found : goal.inside-returns-in-Repeat-clause-found
inside-returns-in-Repeat-clause-found t c =
    rw (c.in-Repeat.is, c.plain_law.ensures.actions.turns, ← c.as_slice-in-Repeat.ensures) (rw c.skip-in-Repeat.ensures at c.block-in-Repeat.ensures.found)

pub inside-returns-in-Some-clause-cursor : goal.inside-returns-in-Some-clause-cursor
inside-returns-in-Some-clause-cursor t c =
    rw (c.in-If.is, c.plain_law.ensures.actions.branch, ← c.as_slice.ensures, c.in-Some.is, ← c.as_slice-in-Some.ensures)
    (rw (c.skip-in-Some.ensures, c.in_ok-block-in-If.ensures.cursor, c.in_ok-whole-in-If.ensures.cursor, c.skip-in-If.ensures) at c.block-in-Some.ensures.cursor)

pub inside-returns-in-Some-clause-found : goal.inside-returns-in-Some-clause-found
inside-returns-in-Some-clause-found t c =
    rw (c.in-If.is, c.plain_law.ensures.actions.branch, ← c.as_slice.ensures, c.in-Some.is, ← c.as_slice-in-Some.ensures)
    (rw (c.skip-in-Some.ensures, c.in_ok-block-in-If.ensures.found, c.in_ok-block-in-If.ensures.cursor, c.in_ok-whole-in-If.ensures.found, c.in_ok-whole-in-If.ensures.cursor, c.skip-in-If.ensures, append_assoc, append_assoc) at c.block-in-Some.ensures.found)

pub inside-returns-in-None-clause-cursor : goal.inside-returns-in-None-clause-cursor
inside-returns-in-None-clause-cursor t c =
    rw (c.in-If.is, c.plain_law.ensures.actions.branch, ← c.as_slice.ensures, c.in-None.is) (rw (c.in_ok-whole-in-If.ensures.cursor, c.skip-in-If.ensures) at c.in_ok-block-in-If.ensures.cursor)

pub inside-returns-in-None-clause-found : goal.inside-returns-in-None-clause-found
inside-returns-in-None-clause-found t c =
    rw (c.in-If.is, c.plain_law.ensures.actions.branch, ← c.as_slice.ensures, c.in-None.is, append-nil)
    (rw (c.in_ok-whole-in-If.ensures.found, c.in_ok-whole-in-If.ensures.cursor, c.skip-in-If.ensures, append_assoc) at c.in_ok-block-in-If.ensures.found)
