use Rattle.std.proofs.Common.{◌≡◌, ◌<◌, ◌≤◌, ◌∙◌, ℕ, Option, length, sym, ap, subst, arith}
use Rattle.cat_program.specs.Body.{Body, tree_of}
use Rattle.cat_program.specs.Places.{body_size, rest_in, task_marks}
use Rattle.cat_program.specs.Checked.{body_at}
use Rattle.cat_eval.specs.Places.{AreFound}
use Rattle.cat_eval.proofs.TaskPlaces.{body_short, here, further}
use Rattle.cat_eval.proofs.places.rest_of.Goals as goal

pub block_size-size-requires-clause-short : goal.block_size-size-requires-clause-short
block_size-size-requires-clause-short c =
    let p = c.args.program.now in
    let lt : c.loop-t.t < length p.tasks = omega (arith, c.loop-t-test.true, c.tasks-t-end.ensures.count) in
    rw c.body-body.ensures.body (body_short p c.loop-t.t lt c.bodies-checked.ensures.checked)

pub overflow_add-size : goal.overflow_add-size
overflow_add-size c =
    let p = c.args.program.now in
    let lt : c.loop-t.t < length p.tasks = omega (arith, c.loop-t-test.true, c.tasks-t-end.ensures.count) in
    let short : body_size (tree_of p.blocks c.body-body.result) ≤ 60000 = rw c.body-body.ensures.body (body_short p c.loop-t.t lt c.bodies-checked.ensures.checked) in
    omega (arith, short, c.block_size-size.ensures)

pub rest_in-requires-clause-short : goal.rest_in-requires-clause-short
rest_in-requires-clause-short c =
    let p = c.args.program.now in
    let lt : c.loop-t.t < length p.tasks = omega (arith, c.loop-t-test.true, c.tasks-t-end.ensures.count) in
    let short : body_size (tree_of p.blocks c.body-body.result) ≤ 60000 = rw c.body-body.ensures.body (body_short p c.loop-t.t lt c.bodies-checked.ensures.checked) in
    omega (arith, short, c.block_size-size.ensures)

pub returns-then-left-size : goal.returns-then-left-size
returns-then-left-size c =
    let p = c.args.program.now in
    let lt : c.loop-t.t < length p.tasks = omega (arith, c.loop-t-test.true, c.tasks-t-end.ensures.count) in
    let size : c.block_size-size.result ≡ body_size (body_at p c.loop-t.t) = c.block_size-size.ensures ∙ ap (λ (b : ℕ). body_size (tree_of p.blocks b)) c.body-body.ensures.body in
    let at = here p c.args.pc c.loop-t.left c.loop-t.t lt c.loop-t.invariant (omega (arith, c.if-left-size.true, size)) in
    let found = subst (λ (b : ℕ). AreFound p (rest_in (task_marks (tree_of p.blocks b)) c.loop-t.left) c.rest_in.result) c.body-body.ensures.body c.rest_in.ensures in
    subst (λ (k : Option Body). AreFound p k c.rest_in.result) (sym at) found

pub loop-t-preserved : goal.loop-t-preserved
loop-t-preserved c =
    let p = c.args.program.now in
    let lt : c.loop-t.t < length p.tasks = omega (arith, c.loop-t-test.true, c.tasks-t-end.ensures.count) in
    let size : c.block_size-size.result ≡ body_size (body_at p c.loop-t.t) = c.block_size-size.ensures ∙ ap (λ (b : ℕ). body_size (tree_of p.blocks b)) c.body-body.ensures.body in
    rw size (further p c.args.pc c.loop-t.left c.loop-t.t lt c.loop-t.invariant (omega (arith, c.if-left-size.false, size)))
