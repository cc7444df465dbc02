use Rattle.image_meaning.proofs.Behind.{appended, append_behind, committed_behind, own_bytes, size_behind, spells_behind}
use Rattle.image_meaning.proofs.laws.operations_are_safe.Goals as goal

pub returns : goal.returns
returns c = λ l program.
    let spelled = c.entries_are_spelled_once.ensures in
    let appends = c.appends_are_safe.ensures in
    let last = c.commits_last.ensures in
    record {
      committed = committed_behind spelled appends last l program;
      spells = spells_behind spelled appends last l program;
      size = size_behind spelled appends last l program;
      behind = append_behind spelled appends last l program;
      appended = appended spelled appends last l program;
      own_bytes = own_bytes;
    }
