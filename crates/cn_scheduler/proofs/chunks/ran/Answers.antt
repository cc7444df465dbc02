use Rattle.std.proofs.Common.{◌≤◌, ℕ, Bool, true, false, arith}
use Rattle.std.specs.Prelude.{◌==◌, if◌then◌else◌}
use Rattle.cn_scheduler.proofs.chunks.ran.Goals as goal

low_in : (short : Bool) (start : ℕ) → start ≤ 4000000 → start ≤ (if short then 4294967295 else 4000000)
low_in true start low = omega arith
low_in false start low = low

pub returns-clause-fits : goal.returns-clause-fits
returns-clause-fits c l = (omega arith, low_in (l.format == 1) c.args.start c.requires.low, omega arith)
