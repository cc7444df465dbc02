use Rattle.std.proofs.Common.{arith}
use Rattle.cost_bounds.proofs.Passing.{passed_starts, passed_later, passed_goes, passed_ends}
use Rattle.cost_bounds.proofs.pass.pass.Goals as goal

pub loop-done-init : goal.loop-done-init
loop-done-init c =
    passed_starts c.args.device.now c.args.code.now c.args.tasks c.requires c.in_ok-most.most.items (omega (arith, c.in_ok-most.ensures.len, c.in_ok-most.most.ok.0, c.len-len.ensures))

pub place_from-job-requires-clause-later : goal.place_from-job-requires-clause-later
place_from-job-requires-clause-later c =
    passed_later c.args.device.now c.args.code.now c.args.tasks c.requires c.loop-done.most.items c.deref.result.now c.loop-done.done c.len-len.result c.deref.ensures.value c.len-len.ensures c.loop-done-test.true c.loop-done.invariant

pub loop-done-preserved : goal.loop-done-preserved
loop-done-preserved c =
    passed_goes c.args.device.now c.args.code.now c.args.tasks c.requires c.loop-done.most.items c.loop-done.done c.len-len.result c.place_from-job.result c.len-len.ensures c.loop-done-test.true c.place_from-job.ensures c.loop-done.invariant

pub returns-clause-known : goal.returns-clause-known
returns-clause-known c =
    passed_ends c.args.device.now c.args.code.now c.args.tasks c.requires c.loop-done.most.items c.loop-done.done c.len-len.result c.len-len.ensures c.loop-done-test.false c.loop-done.invariant
