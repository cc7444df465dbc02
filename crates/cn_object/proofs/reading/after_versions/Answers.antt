use Rattle.cn_object.proofs.Lists.{after_goes}
use Rattle.cn_object.proofs.reading.after_versions.Goals as goal

pub items-preserved : goal.items-preserved
items-preserved c = after_goes c.args.n c.items.counter c.items.rest.now c.after_event-rest.result.now _ c.items-test.true c.after_event-rest.ensures c.items.invariant
