use Rattle.std.proofs.Common.{◌∙◌, ap}
use Rattle.cn_object.specs.Lengths.{cut_off, length_to}
use Rattle.cn_object.proofs.Counting.{length_is}
use Rattle.cn_object.proofs.lengths.length_from.Goals as goal

pub returns : goal.returns
returns c =
    λ high n w.
    c.cut_off.ensures ∙ ap cut_off c.length_of-length.ensures ∙ length_is c.args.code.now c.args.lengths.now c.args.pc c.instr-instr.result c.turns_at-turns.result c.length_at-next.result c.length_to-there.result (record {
      sound = c.requires.sound;
      later = c.requires.later;
      is = c.instr-instr.ensures;
      place = (high, c.requires.within);
      pushed = c.turns_at-turns.ensures.pushed;
      next_is = c.length_at-next.ensures;
      there_is = c.length_to-there.ensures ∙ ap (length_to c.args.lengths.now) c.target_of.ensures;
    }) n w
