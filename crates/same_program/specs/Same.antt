-- Programs that say the same, wherever their expressions lie in memory.
use Rattle.std.specs.Prelude.{◌≡◌}
use Rattle.cat_program.specs.Checked.{Checked}
use Rattle.cat_resolve.specs.Form.{commands}

pub record IsSame (p q : Checked) : Type 0 where
  pub variables : p.variables ≡ q.variables
  pub words : p.words ≡ q.words
  pub names : p.names ≡ q.names
  pub headers : p.headers ≡ q.headers
  pub started : p.started ≡ q.started
  pub tasks : p.tasks ≡ q.tasks
  pub events : p.events ≡ q.events
  pub mentions : p.mentions ≡ q.mentions
  pub blocks : commands p.blocks ≡ commands q.blocks
