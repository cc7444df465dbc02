use Rattle.std.proofs.Common.{◌≡◌, ◌≤◌, take, count_by}
use Rattle.recovery.specs.Committed.{is_ran}
use Rattle.cn_resume.proofs.records.count.Given as goal

abbrev pub invariant-loop-entry : goal.invariant-loop-entry
invariant-loop-entry l =
    record {
      many : l.many ≡ count_by (is_ran l.event) (take l.entry-index l.entries);
      few : l.many ≤ l.entry-index;
    }
