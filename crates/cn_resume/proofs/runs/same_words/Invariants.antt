use Rattle.std.proofs.Common.{◌≡◌, ◌<◌, ℕ, get_or}
use Rattle.std.specs.Prelude.{pos}
use Rattle.checkpoint_slots.specs.Slot.{variables_of}
use Rattle.cn_resume.proofs.runs.same_words.Given as goal

abbrev pub invariant-loop-w : goal.invariant-loop-w
invariant-loop-w l = (k : ℕ) → k < l.w → get_or l.state.words k (pos 0) ≡ get_or (variables_of l.slot) k (pos 0)
