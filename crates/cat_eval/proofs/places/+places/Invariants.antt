use Rattle.std.proofs.Common.{◌≡◌, ◌+◌, ◌*◌}
use Rattle.std.specs.Prelude.{max}
use Rattle.cat_eval.proofs.Finding.{Finding}
use Rattle.cat_eval.proofs.places.+places.Given as goal

abbrev pub decreases-find : goal.decreases-find
decreases-find l = 3 * l.b + 2

abbrev pub decreases-find_at : goal.decreases-find_at
decreases-find_at l = 3 * l.b + 1

abbrev pub decreases-find_either : goal.decreases-find_either
decreases-find_either l = 3 * max l.yes l.no + 3

abbrev pub invariant-find-loop-stmt : goal.invariant-find-loop-stmt
invariant-find-loop-stmt l =
    record {
      finding : Finding l.program l.b l.at l.fn.rest l.left l.place l.stmt-index;
      same : l.rest ≡ l.fn.rest;
    }
