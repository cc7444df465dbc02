use Rattle.std.proofs.Common.{◌≡◌, None, sym, ap, arith}
use Rattle.harvest_trace.specs.declared.failures.Failure.{Failure}
use Rattle.harvest_trace.specs.Failures.{first_in}
use Rattle.harvest_trace.proofs.FailureLemmas.{first_in-found, first_in-late, first_in-past}
use Rattle.harvest_trace.proofs.failures.Fails.first_in.Goals as goal
use Rattle.harvest_trace.proofs.failures.Fails.first_in.Goals.{in_default-via-in-Some+else-failure-upto, in_default-via-in_default}

pub returns-in-Some-clause-value : goal.returns-in-Some-clause-value
returns-in-Some-clause-value c =
    let found = c.in-Some.ensures.lookup in
    rw (← c.self.view_is, ← c.as_slice-failures.ensures.value, c.copy.ensures)
    (first_in-found c.args.from c.args.upto c.as_slice-failures.result.now c.before-2.result c.in-Some.failure.now c.before-2.ensures.point found.3.0 found.1 c.if-failure-upto.true)

pub returns-in_default-clause-value : goal.returns-in_default-clause-value
returns-in_default-clause-value c =
    let fs = c.as_slice-failures.result.now in
    elim c.in_default.branch [
      | in_default-via-in-Some+else-failure-upto w ↦ (
          let found = w.in-Some.ensures.lookup in
          rw (← c.self.view_is, ← c.as_slice-failures.ensures.value)
          (first_in-late c.args.from c.args.upto fs c.before-2.result w.in-Some.failure.now (rw c.as_slice-failures.ensures.value c.self.invariant) c.before-2.ensures.point found.3.0 found.3.1 w.if-failure-upto.false)
          )
      | in_default-via-in_default w ↦ (
          let found = w.in_default.ensures.lookup in
          rw (← c.self.view_is, ← c.as_slice-failures.ensures.value)
          (first_in-past c.args.from c.args.upto fs c.before-2.result c.before-2.ensures.point found.3)
          )
    ]

pub returns-in-Some-clause-first : goal.returns-in-Some-clause-first
returns-in-Some-clause-first c =
    let found = c.in-Some.ensures.lookup in
    let f = c.in-Some.failure.now in
    let fs = c.as_slice-failures.result.now in
    let none : first_in c.args.from f.tick fs ≡ None = sym (first_in-late c.args.from f.tick fs c.before-2.result f (rw c.as_slice-failures.ensures.value c.self.invariant) c.before-2.ensures.point found.3.0 found.3.1 (omega arith)) in
    let tick_is : c.copy.result.tick ≡ f.tick = ap (λ (g : Failure). g.tick) c.copy.ensures in
    rw (← c.self.view_is, ← c.as_slice-failures.ensures.value, tick_is) none
