use Rattle.std.proofs.Common.{refl}
use Rattle.cat_machine.specs.CodeValue.{entries_of}
use Rattle.cn_object.specs.Reading.{read_event, after_event, read_versions}
use Rattle.cn_object.proofs.Lists.{reads_on, entries_pushed}
use Rattle.cn_object.proofs.reading.versions.Goals as goal

pub items-preserved : goal.items-preserved
items-preserved c =
    reads_on read_versions read_event after_event (λ m bs. refl) c.args.n c.items.counter (entries_of c.items.read.items) (entries_of c.push.new.self.items) _ c.items.rest.now c.after_event-rest.result.now c.in_ok-entries.entries.items
    c.items-test.true (entries_pushed c.items.read.items c.in_ok-entries.entries c.push.new.self.items c.in_ok-push.ensures.items) c.in_ok-entries.ensures c.after_event-rest.ensures c.items.invariant
