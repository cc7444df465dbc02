use Rattle.std.proofs.Common.{◌≡◌, ◌^◌, ◌<◌, drop, length, ◌≤◌}
use Rattle.cn_tables.specs.Number.{decimal}
use Rattle.cn_tables.proofs.spelled.decimal.Given as goal

abbrev pub invariant-loop-digit : goal.invariant-loop-digit
invariant-loop-digit l = (decimal 0 l.digits ≡ decimal l.value (drop l.digit-index l.digits)) × (l.value < 10 ^ l.digit-index) × (length l.digits ≤ 10)
