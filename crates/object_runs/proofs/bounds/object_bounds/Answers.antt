use Rattle.std.proofs.Common.{◌≡◌, length, ap, subst}
use Rattle.std.specs.Prelude.{Result, Ok, Err, IfOk}
use Rattle.cost_bounds.specs.Pass.{AreMade, tasks_in}
use Rattle.object_runs.specs.Bounds.{lines_for, AreBoundsOf}
use Rattle.object_runs.proofs.Objects.{bounds_of}
use Rattle.object_runs.proofs.bounds.object_bounds.Goals as goal

ok_more : {T E : Type 0} (r : Result T E) (P Q : T → Type 0) → ((x : T) → P x → Q x) → IfOk r P → IfOk r Q
ok_more (Ok x) P Q f h = f x h
ok_more (Err e) P Q f h = h

lines_are : (c : goal.After-code_bounds) → c.lines.result ≡ lines_for c.args.object.now
lines_are c =
    let words = c.len.ensures in
    let tasks = ap length c.tasks.ensures in
    let events = c.events.ensures in
    let value = c.lines.ensures.value in cc

pub returns-clause-greatest : goal.returns-clause-greatest
returns-clause-greatest c =
    ok_more c.code_bounds.result _ (AreBoundsOf c.args.object.now c.args.device.now) (λ b made. bounds_of c.handler_sums_law.ensures c.args.object.now c.args.device.now c.lines.result b c.requires c.lines.type_inv (lines_are c) made) c.code_bounds.ensures

pub returns-clause-made : goal.returns-clause-made
returns-clause-made c =
    ok_more c.code_bounds.result _ _ (λ b made. subst (λ n. AreMade c.args.object.now.code c.args.device.now n (tasks_in c.args.object.now.code) b) (lines_are c) made) c.code_bounds.ensures
