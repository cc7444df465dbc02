use Rattle.std.proofs.Common.{◌≡◌, ◌++◌, ◌<◌, ℕ, ℤ, drop}
use Rattle.std.specs.Prelude.{FitsSigned, slice_index_or}
use Rattle.std.specs.List.{flat_map}
use Rattle.std.specs.Int.{w32}
use Rattle.cn_object.specs.Spelling.{word_bytes}
use Rattle.cn_object.proofs.writing.put_words.Given as goal

abbrev pub invariant-loop-word : goal.invariant-loop-word
invariant-loop-word l =
    (l.out.items ++ flat_map word_bytes (drop l.word-index l.words) ≡ l.fn.out.items ++ flat_map word_bytes l.words)
    × ((k : ℕ) (d : ℤ) → k < l.word-index → FitsSigned w32 (slice_index_or l.words k d))
