use Rattle.std.proofs.Common.{◌≡◌, ◌+◌, ◌≤◌, ◌<◌, ℕ, length, get_or}
use Rattle.cn_report.specs.Bytes.{byte_then}
use Rattle.cn_report.proofs.window.Window.follow.Given as goal

abbrev pub invariant-loop-k : goal.invariant-loop-k
invariant-loop-k l = record {
  taken : (i : ℕ) → i < l.k → get_or l.self.bytes i 0 ≡ byte_then (get_or l.fn.self.bytes i 0) (l.place + i) l.at l.left;
  others : (i : ℕ) → l.k ≤ i → get_or l.self.bytes i 0 ≡ get_or l.fn.self.bytes i 0;
  size : length l.self.bytes ≡ length l.fn.self.bytes;
}
