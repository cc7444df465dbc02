use Rattle.cat_places.proofs.WalkedItems.{one_list}
use Rattle.cat_places.proofs.Counted.{one_each}
use Rattle.cat_places.proofs.Ordered.{in_order}
use Rattle.cat_places.proofs.places.one_starts.Goals as goal

pub returns-clause-same : goal.returns-clause-same
returns-clause-same c = one_list c.plain_law.ensures.terms c.plain_law.ensures.actions

pub returns-clause-one_each : goal.returns-clause-one_each
returns-clause-one_each c = one_each c.plain_law.ensures.terms c.plain_law.ensures.actions

pub returns-clause-in_order : goal.returns-clause-in_order
returns-clause-in_order c = in_order
