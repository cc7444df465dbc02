use Rattle.image_meaning.proofs.Committing.{done_gate, gate_size, gate_spells, lines_keep, lines_spell, torn_gate}
use Rattle.image_meaning.proofs.laws.commits_are_kept.Goals as goal

pub returns : goal.returns
returns c = λ l program.
    let writes = c.writes_are_local.ensures in
    let parts = c.parts_are_apart.ensures in
    let safe = c.commits_are_safe.ensures in
    let last = c.commits_last.ensures in
    record {
      lines = lines_keep writes parts safe last l program;
      lines_spell = lines_spell writes parts safe last l program;
      torn_gate = torn_gate writes parts safe last l program;
      done_gate = done_gate writes parts safe last l program;
      gate_size = gate_size writes parts safe last l program;
      gate_spells = gate_spells writes parts safe last l program;
    }
