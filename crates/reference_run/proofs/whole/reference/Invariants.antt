use Rattle.std.proofs.Common.{◌≡◌}
use Rattle.reference_run.specs.Reference.{setting_of}
use Rattle.reference_run.specs.Held.{IsAt}
use Rattle.reference_run.proofs.whole.reference.Given as goal

abbrev pub invariant-items : goal.invariant-items
invariant-items l = IsAt (setting_of l.program l.versions l.arrivals) l.items l.i l.run
