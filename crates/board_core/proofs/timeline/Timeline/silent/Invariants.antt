use Rattle.std.proofs.Common.{◌-◌, length}
use Rattle.board_core.proofs.RecordLemmas.{IsSilentTo}
use Rattle.board_core.proofs.timeline.Timeline.silent.Given as goal

abbrev pub invariant-records : goal.invariant-records
invariant-records l = IsSilentTo l.self.cap l.self.left.items l.self.records.items l.self.ends.items l.place l.nth l.end

abbrev pub decreases-records : goal.decreases-records
decreases-records l = length l.self.records.items - l.nth
