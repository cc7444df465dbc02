use Rattle.std.proofs.Common.{◌≡◌, ◌<◌, length, slice_get, None, MatchOption, take}
use Rattle.forecast_table.specs.Epochs.{in_force}
use Rattle.forecast_table.proofs.epochs.found_in.Given as goal

abbrev pub invariant-loop-i : goal.invariant-loop-i
invariant-loop-i l =
    let seen = take l.i l.rows in
    MatchOption l.found (in_force seen l.tick ≡ None) (λ i. (i < length l.rows) × (slice_get l.rows i ≡ in_force seen l.tick))
