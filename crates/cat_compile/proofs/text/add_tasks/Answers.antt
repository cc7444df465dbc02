use Rattle.std.proofs.Common.{◌≡◌, ℕ, ◌<◌, ◌++◌, length, ap, arith, ◌∙◌, sym, subst, refl}
use Rattle.std.proofs.lemmas.List.{append-nil}
use Rattle.std.proofs.lemmas.Result.{err_from_is_err_and}
use Rattle.cn_base.specs.Pages.{IsHeld}
use Rattle.cn_base.specs.PageSums.{held_whole}
use Rattle.cn_base.specs.PageWords.{held_in, sink_in}
use Rattle.cn_base.specs.Texts.{in_turn}
use Rattle.cn_base.specs.TextSums.{cut_held_in_turn, held_in_turn}
use Rattle.cat_compile.specs.Listing.{task_header}
use Rattle.cat_compile.proofs.Listed.{tasks_counted, task_is}
use Rattle.cat_compile.proofs.text.add_tasks.Goals as goal

pub loop-t-init : goal.loop-t-init
loop-t-init g c = record {
  same_sink = refl;
  text = held_whole _ _ _ (sym (append-nil (held_in c.args.page.now)));
  faults = refl;
}

pub bounds-entries-t : goal.bounds-entries-t
bounds-entries-t g c =
    omega (arith, c.loop-t-test.true, c.tasks-t-end.ensures.count, tasks_counted c.args.program.now c.args.code.now c.requires, ap length c.tasks-entries.ensures)

pub returns-in_err-add_task-clause-text : goal.returns-in_err-add_task-clause-text
returns-in_err-add_task-clause-text g c =
    let p = err_from_is_err_and c.from_residual.result c.from_residual.ensures.1 in
    let program = c.args.program.now in
    let code = c.args.code.now in
    let lt : c.loop-t.t < length code.tasks = omega (arith, c.loop-t-test.true, c.tasks-t-end.ensures.count, tasks_counted program code c.requires) in
    rw p.1
    (cut_held_in_turn (task_header program code c.args.pc) c.loop-t.t (length code.tasks) _ _ _ _ _ _ lt c.loop-t.invariant.text
    (task_is program code c.args.pc c.loop-t.t c.tasks-entries.result.now c.task_name.result.now c.tasks-entries.ensures c.task_name.ensures)
    c.in_err-add_task.ensures.text)

pub loop-t-preserved : goal.loop-t-preserved
loop-t-preserved g c =
    let program = c.args.program.now in
    let code = c.args.code.now in
    let one = c.in_ok-add_task in
    record {
      same_sink = one.ensures.same_sink ∙ c.loop-t.invariant.same_sink;
      text = held_in_turn (task_header program code c.args.pc) c.loop-t.t _ _ _ _ _ _ _ c.loop-t.invariant.text
          (task_is program code c.args.pc c.loop-t.t c.tasks-entries.result.now c.task_name.result.now c.tasks-entries.ensures c.task_name.ensures)
          one.ensures.text;
      faults = one.ensures.cause.kept ∙ c.loop-t.invariant.faults;
    }

pub returns-clause-text : goal.returns-clause-text
returns-clause-text g c =
    let program = c.args.program.now in
    let code = c.args.code.now in
    let all : c.loop-t.t ≡ length code.tasks = omega (arith, c.loop-t-test.false, c.loop-t.auto.t-end, c.tasks-t-end.ensures.count, tasks_counted program code c.requires) in
    subst (λ (n : ℕ). IsHeld (g.K.Sink.written (sink_in c.args.page.now)) (g.K.Sink.written (sink_in c.loop-t.page)) (held_in c.args.page.now ++ in_turn (task_header program code c.args.pc) n) (held_in c.loop-t.page))
    all c.loop-t.invariant.text
