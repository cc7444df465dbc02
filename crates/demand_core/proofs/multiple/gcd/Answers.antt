use Rattle.std.proofs.Common.{arith}
use Rattle.demand_core.proofs.Divisors.{divides_end, divides_step}
use Rattle.demand_core.proofs.multiple.gcd.Goals as goal

pub loop-y-preserved : goal.loop-y-preserved
loop-y-preserved c g is = c.loop-y.invariant g (divides_step _ _ g is)

pub returns : goal.returns
returns c =
    let is = c.loop-y.invariant c.loop-y.x (divides_end c.loop-y.x c.loop-y.y (omega arith)) in
    record { of_a = is.of_a; of_b = is.of_b; greatest = is.greatest }
