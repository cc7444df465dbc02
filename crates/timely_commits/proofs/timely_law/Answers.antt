use Rattle.timely_commits.proofs.Told.{timely}
use Rattle.timely_commits.proofs.timely_law.Goals as goal

pub returns : goal.returns
returns c =
    timely (record {
      calm = c.calm_law.ensures;
      ends = c.entries_end_law.ensures;
      hold = c.lawful_timelines_hold.ensures;
      points = c.points_hold.ensures;
      counts = c.arrivals_are_counted.ensures;
      go_on = c.own_runs_go_on.ensures;
      arrivals = c.own_runs_handle_arrivals.ensures;
    })
