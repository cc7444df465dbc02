use Rattle.std.proofs.Common.{refl, drop}
use Rattle.cn_object.specs.Reading.{number_of, read_numbers}
use Rattle.cn_object.proofs.Lists.{reads_on}
use Rattle.cn_object.proofs.reading.numbers.Goals as goal

pub items-preserved : goal.items-preserved
items-preserved c =
    reads_on (read_numbers c.args.step) number_of (drop c.args.step) (λ m bs. refl) c.args.n c.items.counter c.items.read.items c.push.new.self.items _ c.items.rest.now c.after-rest.result.now c.number.result
    c.items-test.true c.in_ok-push.ensures.items c.number.ensures c.after-rest.ensures c.items.invariant
