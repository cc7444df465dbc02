use Rattle.cat_machine.specs.CodeValue.{entries_of}
use Rattle.cat_compile.proofs.Regions.{EventsLoop}
use Rattle.cat_compile.proofs.whole.emit_events.Given as goal

abbrev pub invariant-loop-event : goal.invariant-loop-event
invariant-loop-event l = EventsLoop l.program l.fn.code.items l.code.items (entries_of l.all.items) l.event-index
