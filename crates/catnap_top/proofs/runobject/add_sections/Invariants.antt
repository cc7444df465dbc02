use Rattle.std.proofs.Common.{◌≡◌, ◌≤◌, ◌-◌, ◌++◌, take, drop, length}
use Rattle.cn_base.specs.Pages.{IsHeld}
use Rattle.cn_base.specs.PageWords.{held_in, sink_in, sink_name}
use Rattle.object_runs.specs.Resting.{IsAtRest}
use Rattle.catnap_top.specs.Run.{out_lines}
use Rattle.catnap_top.specs.RunObject.{section_answers}
use Rattle.catnap_top.proofs.runobject.add_sections.Given as goal

abbrev pub invariant-loop-taken : goal.invariant-loop-taken
invariant-loop-taken g l =
    (l.taken ≤ l.steps)
    × IsAtRest l.object l.working
    × (drop l.taken (section_answers l.object.code l.steps l.fn.working) ≡ section_answers l.object.code (l.steps - l.taken) l.working)
    × IsHeld (g.K.Sink.written (sink_in l.fn.page)) (g.K.Sink.written (sink_in l.page))
    (held_in l.fn.page ++ out_lines (take l.taken (section_answers l.object.code l.steps l.fn.working))) (held_in l.page)
    × (g.K.Sink.faults (sink_in l.page) ≡ g.K.Sink.faults (sink_in l.fn.page))
    × (l.taken ≤ length (section_answers l.object.code l.steps l.fn.working))
    × (sink_name l.page ≡ sink_name l.fn.page)

abbrev pub decreases-loop-taken : goal.decreases-loop-taken
decreases-loop-taken g l = l.steps - l.taken
