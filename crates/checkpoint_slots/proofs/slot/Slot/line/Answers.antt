use Rattle.std.proofs.Common.{◌≡◌, ◌*◌, ◌+◌, ◌≤◌, length, take, refl, sym, ◌∙◌, ap, arith}
use Rattle.std.proofs.lemmas.List.{take_all}
use Rattle.checkpoint_slots.specs.Numbers.{spelled}
use Rattle.checkpoint_slots.specs.Slot.{number_of}
use Rattle.checkpoint_slots.proofs.SpelledLemmas.{spelled_none, spelled_put}
use Rattle.checkpoint_slots.proofs.slot.Slot.line.Goals as goal

pub loop-k-init : goal.loop-k-init
loop-k-init c = sym (spelled_none (number_of c.args.self.now) (16 * c.args.i))

pub loop-k-preserved : goal.loop-k-preserved
loop-k-preserved c =
    let k = c.loop-k.k in
    let within : 4 * k + 4 ≤ length c.loop-k.bytes = omega (arith, c.loop-k-test.array_long, c.loop-k-test.true) in
    spelled_put (number_of c.args.self.now) (16 * c.args.i) k (4 * k) c.number.result c.loop-k.bytes c.put_number.new.bytes refl within c.loop-k.invariant c.number.ensures c.put_number.ensures

pub returns-clause-bytes : goal.returns-clause-bytes
returns-clause-bytes c =
    let k_is : c.loop-k.k ≡ 16 = omega (arith, c.loop-k-test.false, c.loop-k.auto.k-end) in
    let bytes = c.loop-k.bytes in
    let whole : take 64 bytes ≡ bytes = take_all 64 bytes (omega (arith, c.loop-k-test.array_long)) in
    c.of.ensures ∙ sym whole ∙ ap (λ n. take (4 * n) bytes) (sym k_is) ∙ c.loop-k.invariant ∙ ap (λ n. spelled (number_of c.args.self.now) (16 * c.args.i) n) k_is
