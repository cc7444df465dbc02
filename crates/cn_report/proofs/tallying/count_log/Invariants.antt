use Rattle.std.proofs.Common.{◌≡◌, ◌≤◌, take}
use Rattle.std.specs.Prelude.{count_by}
use Rattle.std.specs.List.{range_with_len}
use Rattle.cn_report.specs.Counts.{is_out, is_ran, is_met}
use Rattle.recovery.specs.Past.{past_of, entry_in, done_at}
use Rattle.cn_report.specs.Passed.{HasPassed, IsBefore}
use Rattle.cn_report.proofs.tallying.count_log.Given as goal

abbrev pub invariant-loop-place : goal.invariant-loop-place
invariant-loop-place g l =
    let past = past_of l.layout (g.B.Board.start (g.B.Board.origin l.board)) (g.B.Board.state l.board) in
    let places = take l.place (range_with_len 0 l.len) in
    record {
      passed : HasPassed past l.cursor;
      before : IsBefore past l.place l.cursor;
      ran : l.ran ≡ count_by (λ place. is_ran (entry_in past place)) places;
      met : l.met ≡ count_by (λ place. is_met l.program.headers l.arrivals (done_at past place) (entry_in past place)) places;
      outs : l.outs ≡ count_by (λ place. is_out (entry_in past place)) places;
      few_ran : l.ran ≤ l.place;
      few_met : l.met ≤ l.place;
      few_outs : l.outs ≤ l.place;
    }
