use Rattle.std.proofs.Common.{ℕ, ◌<◌, ◌≤◌}
use Rattle.cn_object.specs.Regions.{SuitsSpanAt}
use Rattle.cn_object.proofs.regions.span_fault.Given as goal

abbrev pub invariant-loop-pc : goal.invariant-loop-pc
invariant-loop-pc l = (q : ℕ) → l.span.entry ≤ q → q < l.pc → SuitsSpanAt l.code l.span q
