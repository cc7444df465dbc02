use Rattle.std.proofs.Common.{◌++◌, ◌∷◌, [], ap, ◌∙◌, slice_index_or, length, sym}
use Rattle.std.specs.Prelude.{slice_get}
use Rattle.std.proofs.lemmas.Option.{slice_get-get_or}
use Rattle.cat_compile.proofs.Regions.{below_at, tasks_go}
use Rattle.cat_compile.proofs.whole.emit_tasks.Goals as goal

pub emit_task-requires-clause-block : goal.emit_task-requires-clause-block
emit_task-requires-clause-block c =
    let item = ap (λ l. slice_get l c.loop-t.t) (sym c.bodies-tasks.ensures.bodies) ∙ slice_get-get_or c.bodies-tasks.result.now c.loop-t.t 0 c.loop-t-test.true in
    below_at (length c.args.program.now.blocks) c.args.program.now.tasks c.loop-t.t _ c.bodies-tasks.ensures.checked.tasks_in item

pub loop-t-preserved : goal.loop-t-preserved
loop-t-preserved c =
    let item = ap (λ l. slice_get l c.loop-t.t) (sym c.bodies-tasks.ensures.bodies) ∙ slice_get-get_or c.bodies-tasks.result.now c.loop-t.t 0 c.loop-t-test.true in
    tasks_go c.args.program.now c.loop-t.code.items c.loop-t.entries.items c.loop-t.t (slice_index_or c.bodies-tasks.result.now c.loop-t.t 0)
    item c.loop-t.invariant c.code_is_laid_out.ensures.sizes c.emit_task.new.code.items c.push.new.self.items c.in_ok-emit_task.ensures
    (c.in_ok-push.ensures.items ∙ ap (λ n. c.loop-t.entries.items ++ n ∷ []) (c.len.ensures ∙ c.loop-t.code.ok.0))
