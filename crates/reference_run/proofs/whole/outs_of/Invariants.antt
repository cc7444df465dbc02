use Rattle.std.proofs.Common.{◌≡◌, ◌+◌, take, length}
use Rattle.reference_run.proofs.whole.outs_of.Given as goal

abbrev pub invariant-entries : goal.invariant-entries
invariant-entries l = record {
  same : l.outs.entries ≡ take l.entry-index l.entries;
  room : l.outs.spare + l.entry-index ≡ length l.entries;
}
