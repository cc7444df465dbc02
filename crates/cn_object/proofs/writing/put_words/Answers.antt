use Rattle.std.proofs.Common.{◌<◌, length, get_or, arith}
use Rattle.std.specs.Prelude.{FitsSigned, pos}
use Rattle.std.specs.Int.{w32}
use Rattle.std.proofs.lemmas.List.{get_or_default}
use Rattle.cn_object.specs.Spelling.{word_bytes}
use Rattle.cn_object.proofs.Lists.{flat_goes}
use Rattle.cn_object.proofs.Ranges.{all_upto}
use Rattle.cn_object.proofs.writing.put_words.Goals as goal

pub loop-word-preserved : goal.loop-word-preserved
loop-word-preserved c =
    let words = c.args.words.now in
    let i = c.loop-word.word-index in
    let h : i < length words = omega (arith, c.loop-word-test.true) in
    let word = get_or words i (pos 0) in
    let is = get_or_default words i word (pos 0) h in (
      flat_goes word_bytes words i word _ c.loop-word.out.items c.put_word.new.out.items h is c.loop-word.invariant.0 c.in_ok-put_word.ensures.text,
      all_upto (FitsSigned w32) words i word h is c.put_word.ensures.room c.loop-word.invariant.1,
    )
