use Rattle.std.proofs.Common.{◌≡◌, drop}
use Rattle.cn_object.specs.Passing.{entered_at, first_brought}
use Rattle.cn_object.proofs.depths.at_entries.Given as goal

abbrev pub invariant-loop-entry : goal.invariant-loop-entry
invariant-loop-entry l = entered_at l.brought.items (drop l.entry-index l.entries) ≡ first_brought l.entries l.count
