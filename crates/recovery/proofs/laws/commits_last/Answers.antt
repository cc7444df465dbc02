use Rattle.recovery.proofs.Kept.{kept, stays, spelled, commits}
use Rattle.recovery.proofs.Once.{once}
use Rattle.recovery.proofs.laws.commits_last.Goals as goal

pub returns : goal.returns
returns c = record {
  once = once c.entries_are_spelled_once.ensures;
  append = kept c.writes_are_local.ensures c.parts_are_apart.ensures;
  same = stays;
  spelled = spelled;
  save = commits;
}
