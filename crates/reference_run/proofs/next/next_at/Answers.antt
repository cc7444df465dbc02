use Rattle.std.proofs.Common.{◌≡◌, ◌∙◌, ◌+◌, ◌<◌, ◌≤◌, ℕ, Some, sym, ap, slice_index, arith, length}
use Rattle.event_arrivals.specs.Arrivals.{arrival_at}
use Rattle.reference_run.specs.Reference.{deadlines_of}
use Rattle.reference_run.specs.Held.{IsNoSooner}
use Rattle.reference_run.proofs.Nexts.{next_is}
use Rattle.reference_run.proofs.next.next_at.Goals as goal

pub returns : goal.returns
returns c =
    let lists = c.args.arrivals.now in
    let there : arrival_at lists c.args.event (slice_index c.args.done.now c.args.event) ≡ Some c.in-Some.arrival = sym c.arrival.ensures ∙ c.in-Some.is in
    next_is lists (deadlines_of c.args.program.now) (slice_index c.args.done.now) c.args.now c.args.event (c.from.result + c.from-2.result) c.in-Some.arrival c.are_sound.ensures.sound there c.if-now-arrival.false
    (omega (arith, c.from.ensures, c.from-2.ensures, c.deadline.ensures))
    (λ other below. c.others.invariant other (omega (arith, below, c.requires.each, c.events-other-end.ensures.count, c.others-test.false)))
