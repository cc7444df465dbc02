use Rattle.std.proofs.Common.{◌≡◌, ◌≤◌, ◌<◌, ◌-◌, ℕ, Some}
use Rattle.event_arrivals.specs.Arrivals.{arrival_at}
use Rattle.event_arrivals.specs.declared.arrival.Arrival.{Arrival}
use Rattle.event_queue.proofs.queue.Queue.event_after.Given as goal

abbrev pub invariant-halves : goal.invariant-halves
invariant-halves l = record {
  from : l.done ≤ l.low;
  some : l.low ≤ l.high;
  come : (k : ℕ) (arrival : Arrival) → l.done ≤ k → k < l.low → arrival_at l.self.arrivals l.event k ≡ Some arrival → arrival.tick ≤ l.now;
  later : (arrival : Arrival) → arrival_at l.self.arrivals l.event l.high ≡ Some arrival → l.now < arrival.tick;
}

abbrev pub decreases-halves : goal.decreases-halves
decreases-halves l = l.high - l.low
