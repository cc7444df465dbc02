use Rattle.std.proofs.Common.{sym}
use Rattle.cat_machine.specs.Machine.{Begun, Further}
use Rattle.pipeline.proofs.After.{in_task}
use Rattle.pipeline.proofs.running.tried.Goals as goal

pub goes_on-requires : goal.goes_on-requires
goes_on-requires c = in_task c.args.program.now c.args.code.now c.args.working.now c.requires

pub goes_on-requires-2 : goal.goes_on-requires-2
goes_on-requires-2 c = (c.goes_on.ensures c.if-not-goes_on.false).there

pub drop_section-requires : goal.drop_section-requires
drop_section-requires c = (
  c.args.working.now,
  Further (Further Begun (c.goes_on.ensures c.if-not-goes_on.false).step) (c.goes_on-2.ensures c.if-not-goes_on-2.false).step,
  record { place = sym c.pc-from.ensures; free = c.requires.idle.corresponds.free; empty = c.requires.idle.corresponds.empty },
)

pub returns : goal.returns
returns c = λ _. c.drop_section.ensures c.args.working.now
    (Further (Further Begun (c.goes_on.ensures c.if-not-goes_on.false).step) (c.goes_on-2.ensures c.if-not-goes_on-2.false).step)
    (record { place = sym c.pc-from.ensures; free = c.requires.idle.corresponds.free; empty = c.requires.idle.corresponds.empty })
