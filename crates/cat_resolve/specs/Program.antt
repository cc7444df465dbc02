-- The program of a source.
use Rattle.std.specs.Prelude.{◌≡◌, length, replicate}
use Rattle.cn_base.specs.declared.tree.Tree.{Tree}
use Rattle.cat_program.specs.Checked.{Checked}
use Rattle.cat_resolve.specs.Names.{names_of}
use Rattle.cat_resolve.specs.Form.{commands}
use Rattle.cat_resolve.specs.Header.{words_in, variables_in, tasks_in, events_in}
use Rattle.cat_resolve.specs.Content.{blocks_from, bodies_from, versions_from, mentions_in, started_from}

-- each part of the program is that of the source
pub record IsProgramOf (tree : Tree) (p : Checked) : Type 0 where
  pub variables : p.variables ≡ variables_in 0 tree.items
  pub words : p.words ≡ words_in tree.items
  pub names : p.names ≡ tasks_in tree.items
  pub headers : p.headers ≡ events_in tree.items
  pub started : p.started ≡ started_from (names_of tree.items) tree.items (replicate (length p.names) 0)
  pub tasks : p.tasks ≡ bodies_from (names_of tree.items) 0 tree.items
  pub events : p.events ≡ versions_from (names_of tree.items) 0 tree.items
  pub mentions : p.mentions ≡ mentions_in (names_of tree.items) tree.items
  pub blocks : commands p.blocks ≡ blocks_from (names_of tree.items) 0 tree.items
