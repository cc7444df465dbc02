use Rattle.calm_stretch.proofs.Epoch.{epoch_is_met}
use Rattle.calm_stretch.proofs.deadlines_law.Goals as goal

pub returns : goal.returns
returns c =
    epoch_is_met (record {
      energy = c.closing_law.ensures.energy;
      time = c.closing_law.ensures.time;
      least = c.points_law.ensures.least;
      falls = c.blocking_law.ensures.falls;
      chunk = c.blocking_law.ensures.chunk;
      job = c.blocking_law.ensures.job;
      counts = c.arrivals_are_counted.ensures;
    })
