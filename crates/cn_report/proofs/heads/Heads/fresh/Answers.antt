use Rattle.cn_report.proofs.Beginning.{gate_shows, first_shows, second_shows}
use Rattle.cn_report.proofs.heads.Heads.fresh.Goals as goal

pub returns : goal.returns
returns c program l image fresh =
    let size = c.slots_are_read_again.ensures.size in
    record {
      gate = gate_shows size program l image fresh c.blank.result c.blank.ensures;
      first = first_shows size program l image fresh c.blank-2.result c.blank-2.ensures;
      second = second_shows size program l image fresh c.blank-3.result c.blank-3.ensures;
    }
