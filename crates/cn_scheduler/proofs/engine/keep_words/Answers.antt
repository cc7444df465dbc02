use Rattle.std.proofs.Common.{◌≡◌, ◌<◌, length, pos, arith, w32, to_z}
use Rattle.std.proofs.lemmas.List.{ext_get_or, length-map}
use Rattle.checkpoint_slots.specs.Slot.{variables_of}
use Rattle.cn_scheduler.proofs.engine.keep_words.Goals as goal

pub returns-clause-words : goal.returns-clause-words
returns-clause-words c =
    let long : length (variables_of c.loop-w.slot) ≡ length c.args.working.now.words = omega (arith, length-map c.loop-w.slot.words (to_z w32), c.loop-w.invariant.long, c.requires.slot, c.requires.working) in
    ext_get_or (pos 0) (variables_of c.loop-w.slot) c.args.working.now.words long (λ j below. let before : j < c.loop-w.w = omega (arith, c.requires.working) in c.loop-w.invariant.below j before)
