use Rattle.std.proofs.Common.{refl, drop}
use Rattle.cn_object.specs.Reading.{parts_in, read_parts}
use Rattle.cn_object.proofs.Lists.{reads_on}
use Rattle.cn_object.proofs.reading.all_parts.Goals as goal

pub items-preserved : goal.items-preserved
items-preserved c =
    reads_on read_parts parts_in (drop 8) (λ m bs. refl) c.args.n c.items.counter c.items.read.items c.push.new.self.items _ c.items.rest.now c.after-rest.result.now c.parts_in.result
    c.items-test.true c.in_ok-push.ensures.items c.parts_in.ensures c.after-rest.ensures c.items.invariant
