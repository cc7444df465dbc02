use Rattle.std.proofs.Common.{length, ap, arith}
use Rattle.cn_object.proofs.Ranges.{length-numbers, length-instrs, length-versions, entries_counted}
use Rattle.cn_object.proofs.reading.parts.Goals as goal

pub of-requires-clause-short : goal.of-requires-clause-short
of-requires-clause-short c = omega (arith, ap length c.in_ok-instrs.ensures, length-instrs c.instr_count-instr_count.result c.after_versions-after_events.result.now, c.instr_count-instr_count.ensures, c.requires.count)

pub of-requires-clause-few_tasks : goal.of-requires-clause-few_tasks
of-requires-clause-few_tasks c = omega (arith, ap length c.in_ok-tasks.ensures, length-numbers 8 c.task_count-task_count.result c.after-first_entry.result.now, c.task_count-task_count.ensures, c.requires.tasks)

pub of-requires-clause-few_events : goal.of-requires-clause-few_events
of-requires-clause-few_events c = omega (arith, ap length c.in_ok-versions.ensures, entries_counted c.in_ok-versions.versions.items, length-versions c.event_count-event_count.result c.after-after_tasks.result.now, c.event_count-event_count.ensures, c.requires.events)
