use Rattle.std.proofs.Common.{◌≡◌, ◌∙◌, length, refl, sym, arith}
use Rattle.std.specs.Prelude.{pos}
use Rattle.std.specs.Int.{cast_signed, w32}
use Rattle.std.proofs.lemmas.List.{ext_get_or, length-map}
use Rattle.checkpoint_slots.specs.Slot.{variables_of}
use Rattle.cn_resume.proofs.runs.same_words.Goals as goal

pub returns : goal.returns
returns c =
    let words = c.args.state.now.words in
    let long : length words ≡ length (variables_of c.args.slot.now) = sym c.requires.state ∙ c.requires.slot ∙ sym (length-map c.args.slot.now.words (cast_signed w32)) in
    (λ yes. ext_get_or (pos 0) words (variables_of c.args.slot.now) long (λ k lt. c.loop-w.invariant k (omega (arith, lt, c.requires.state, c.loop-w-test.false))), λ same. refl)
