use Rattle.std.proofs.Common.{length, ap, sym, ◌∙◌, arith}
use Rattle.std.specs.List.{flat_map}
use lib.Pointwise.{bytes_decides}
use Rattle.cn_object.specs.Spelling.{parts_bytes}
use Rattle.cn_object.proofs.Files.{slices_spell}
use Rattle.cn_object.proofs.reading.is_again.Goals as goal

pub spelled_with-requires-clause-words : goal.spelled_with-requires-clause-words
spelled_with-requires-clause-words c = omega (arith, ap length c.as_slice-words.ensures, c.requires.words)

pub spelled_with-requires-clause-started : goal.spelled_with-requires-clause-started
spelled_with-requires-clause-started c = omega (arith, ap length c.as_slice-started.ensures, c.requires.started)

pub returns : goal.returns
returns c =
    let file = c.as_slice.ensures.value ∙ c.in_ok-file.ensures ∙ slices_spell c.args.object.now c.as_slice-words.result.now c.as_slice-started.result.now (flat_map parts_bytes c.args.all.now) c.as_slice-words.ensures c.as_slice-started.ensures in (
      λ t. sym file ∙ (bytes_decides c.as_slice.result.now c.args.bytes.now).0 (sym c.eq.ensures ∙ t),
      λ e. c.eq.ensures ∙ (bytes_decides c.as_slice.result.now c.args.bytes.now).1 (file ∙ e),
    )
