use Rattle.std.proofs.Common.{◌≡◌, ◌≤◌, ◌-◌, ◌++◌, take, drop, length}
use Rattle.cn_base.specs.Pages.{IsHeld}
use Rattle.cn_base.specs.PageWords.{held_in, sink_in, sink_name}
use Rattle.cat_program.specs.Checked.{body_at}
use Rattle.cat_eval.specs.Cursor.{state_of, Fits}
use Rattle.catnap_top.specs.Run.{answers, out_lines}
use Rattle.catnap_top.proofs.run.add_steps.Given as goal

abbrev pub invariant-loop-taken : goal.invariant-loop-taken
invariant-loop-taken g l =
    (l.taken ≤ l.steps)
    × Fits l.program l.state
    × (drop l.taken (answers (body_at l.program) l.steps (state_of l.program l.fn.state))
    ≡ answers (body_at l.program) (l.steps - l.taken) (state_of l.program l.state))
    × IsHeld (g.K.Sink.written (sink_in l.fn.page)) (g.K.Sink.written (sink_in l.page))
    (held_in l.fn.page ++ out_lines (take l.taken (answers (body_at l.program) l.steps (state_of l.program l.fn.state)))) (held_in l.page)
    × (g.K.Sink.faults (sink_in l.page) ≡ g.K.Sink.faults (sink_in l.fn.page))
    × (l.taken ≤ length (answers (body_at l.program) l.steps (state_of l.program l.fn.state)))
    × (sink_name l.page ≡ sink_name l.fn.page)

abbrev pub decreases-loop-taken : goal.decreases-loop-taken
decreases-loop-taken g l = l.steps - l.taken
