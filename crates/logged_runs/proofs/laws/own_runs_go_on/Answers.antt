use Rattle.logged_runs.proofs.Goes.{arrival_earlier, index_is, own_arrival, own_first, own_step, step_earlier}
use Rattle.logged_runs.proofs.Served.{served_once}
use Rattle.logged_runs.proofs.laws.own_runs_go_on.Goals as goal

pub returns : goal.returns
returns c = λ s. record {
  first = own_first s;
  step = λ m after own is. (own_step s m after own is, step_earlier s m after own is);
  arrival = λ m start event k arrival spaced own late next. (
    index_is s m own start event k arrival spaced late next,
    own_arrival s m own start event k arrival spaced late next,
    arrival_earlier s m own start event k arrival spaced late next,
  );
  served = served_once s;
}
