use Rattle.std.proofs.Common.{◌≡◌, ℕ, ◌<◌, length, get_or, pos}
use Rattle.checkpoint_slots.specs.Slot.{variables_of}
use Rattle.cn_scheduler.proofs.engine.keep_words.Given as goal

abbrev pub invariant-loop-w : goal.invariant-loop-w
invariant-loop-w l =
    record {
      others : l.slot ≡ record l.fn.slot { words = l.slot.words };
      long : length l.slot.words ≡ length l.fn.slot.words;
      below : (j : ℕ) → j < l.w → get_or (variables_of l.slot) j (pos 0) ≡ get_or l.working.words j (pos 0);
    }
