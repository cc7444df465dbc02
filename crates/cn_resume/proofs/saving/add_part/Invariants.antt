use Rattle.std.proofs.Common.{◌≡◌, ◌+◌, ◌<◌, ℕ, length, get_or}
use Rattle.cn_resume.proofs.saving.add_part.Given as goal

abbrev pub invariant-loop-k : goal.invariant-loop-k
invariant-loop-k g l = record {
  taken : (i : ℕ) → i < l.k → get_or l.part i 0 ≡ get_or (g.B.Board.state l.board).image (l.from + i) 0;
  size : length l.part ≡ 512;
}
