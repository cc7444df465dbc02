use Rattle.timely_commits.proofs.InTime as lemma
use Rattle.timely_commits.proofs.commits_in_time.Goals as goal

pub returns : goal.returns
returns c = lemma.commits_in_time
