use Rattle.std.proofs.Common.{◌-◌, Bool, List, subst, arith}
use Rattle.cat_program.specs.Body.{Empty, tree_of}
use Rattle.cat_program.specs.Places.{marks_of}
use Rattle.cat_eval.specs.declared.state.Frame.{Frame}
use Rattle.cat_eval.specs.Cursor.{cursor_body}
use Rattle.cat_eval.specs.Places.{Stands}
use Rattle.cat_eval.proofs.TaskPlaces.{task_end, task_found, task_none}
use Rattle.cat_eval.proofs.places.rest_in.Goals as goal

pub returns-then-size-at : goal.returns-then-size-at
returns-then-size-at c =
    rw c.none-rest.ensures (task_end c.args.program.now (tree_of c.args.program.now.blocks c.args.body) c.args.at (omega (arith, c.requires.within, c.requires.size)) (omega (arith, c.if-size-at.true, c.requires.size)))

pub returns-then-find : goal.returns-then-find
returns-then-find c =
    let p = c.args.program.now in
    let k = tree_of p.blocks c.args.body in
    let from = subst (λ (fs : List Frame). Stands p (marks_of k (cursor_body p fs)) (c.args.at - 1) c.find.result c.find.new.rest) c.none-rest.ensures c.find.ensures in
    let here = subst (λ (b : Bool). Stands p (marks_of k Empty) (c.args.at - 1) b c.find.new.rest) c.if-find.true from in
    task_found p k c.args.at c.find.new.rest (omega (arith, c.if-at-eq0.false)) (omega (arith, c.if-size-at.false, c.requires.size)) here

pub returns-else-find : goal.returns-else-find
returns-else-find c =
    let p = c.args.program.now in
    let k = tree_of p.blocks c.args.body in
    let from = subst (λ (fs : List Frame). Stands p (marks_of k (cursor_body p fs)) (c.args.at - 1) c.find.result c.find.new.rest) c.none-rest.ensures c.find.ensures in
    let here = subst (λ (b : Bool). Stands p (marks_of k Empty) (c.args.at - 1) b c.find.new.rest) c.if-find.false from in
    task_none p k c.args.at c.find.new.rest (omega (arith, c.if-at-eq0.false)) (omega (arith, c.if-size-at.false, c.requires.size)) here
