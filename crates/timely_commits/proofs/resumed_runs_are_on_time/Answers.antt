use Rattle.timely_commits.proofs.Fresh.{resumed_runs}
use Rattle.timely_commits.proofs.resumed_runs_are_on_time.Goals as goal

pub returns : goal.returns
returns c =
    resumed_runs (record {
      lower = record {
        calm = c.calm_law.ensures;
        ends = c.entries_end_law.ensures;
        hold = c.lawful_timelines_hold.ensures;
        points = c.points_hold.ensures;
        counts = c.arrivals_are_counted.ensures;
        go_on = c.own_runs_go_on.ensures;
        arrivals = c.own_runs_handle_arrivals.ensures;
      };
      starts = c.starts_belong.ensures;
    })
