use Rattle.std.proofs.Common.{◌≡◌, ◌<◌, length, pos, arith, w32, to_z, ◌∙◌}
use Rattle.std.proofs.lemmas.List.{ext_get_or, length-map}
use Rattle.checkpoint_slots.specs.Slot.{variables_of}
use Rattle.cn_scheduler.proofs.engine.take_words.Goals as goal

pub returns : goal.returns
returns c =
    let long : length c.loop-w.working.words ≡ length (variables_of c.args.slot.now) = omega (arith, length-map c.args.slot.now.words (to_z w32), c.loop-w.invariant.long, c.requires.slot, c.requires.working) in
    let same = ext_get_or (pos 0) c.loop-w.working.words (variables_of c.args.slot.now) long (λ j below. let before : j < c.loop-w.w = omega (arith, c.loop-w.invariant.long, c.requires.working) in c.loop-w.invariant.below j before) in
    c.loop-w.invariant.others ∙ λ i. record c.args.working.now { words = same i }
