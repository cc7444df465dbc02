use Rattle.std.proofs.Common.{◌≡◌, []}
use Rattle.feasibility.specs.Chosen.{versions_of}
use Rattle.cn_plan.proofs.whole.whole_versions.Given as goal

abbrev pub invariant-loop-event : goal.invariant-loop-event
invariant-loop-event l = l.versions.items ≡ versions_of [] l._event
