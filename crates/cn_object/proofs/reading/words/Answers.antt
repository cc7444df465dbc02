use Rattle.std.proofs.Common.{refl, drop, ◌∙◌}
use Rattle.std.specs.Int.{w32, cast_signed}
use Rattle.cn_object.specs.Reading.{number_of, read_words}
use Rattle.std.proofs.lemmas.Int.{to_z-of_z}
use Rattle.cn_object.proofs.Lists.{reads_on}
use Rattle.cn_object.proofs.reading.words.Goals as goal

pub items-preserved : goal.items-preserved
items-preserved c =
    reads_on read_words (λ bs. cast_signed w32 (number_of bs)) (drop 4) (λ m bs. refl) c.args.n c.items.counter c.items.read.items c.push.new.self.items _ c.items.rest.now c.after-rest.result.now _
    c.items-test.true c.in_ok-push.ensures.items (to_z-of_z w32 c.word.result (record { sfits = c.word.type_inv }) ∙ c.word.ensures) c.after-rest.ensures c.items.invariant
