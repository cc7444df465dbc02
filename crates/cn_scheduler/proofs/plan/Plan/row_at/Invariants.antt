use Rattle.std.proofs.Common.{◌≡◌, ◌<◌, length, slice_get, None, MatchOption, take}
use Rattle.cn_scheduler.specs.InForce.{in_force}
use Rattle.cn_scheduler.proofs.plan.Plan.row_at.Given as goal

abbrev pub invariant-loop-i : goal.invariant-loop-i
invariant-loop-i l =
    let seen = take l.i l.self.rows in
    MatchOption l.found (in_force seen l.tick ≡ None) (λ i. (i < length l.self.rows) × (slice_get l.self.rows i ≡ in_force seen l.tick))
