use Rattle.std.proofs.Common.{refl, drop}
use Rattle.cn_object.specs.Spelling.{cut}
use Rattle.cn_object.specs.Reading.{instr_in, parts_in, read_instrs}
use Rattle.cn_object.proofs.Lists.{reads_on}
use Rattle.cn_object.proofs.reading.instrs.Goals as goal

pub items-preserved : goal.items-preserved
items-preserved c =
    reads_on read_instrs (λ bs. instr_in (cut (parts_in bs))) (drop 8) (λ m bs. refl) c.args.n c.items.counter c.items.read.items c.push.new.self.items _ c.items.rest.now c.after-rest.result.now c.instr.result
    c.items-test.true c.in_ok-push.ensures.items c.instr.ensures c.after-rest.ensures c.items.invariant
