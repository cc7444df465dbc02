-- What is declared so far, and one item more.
use Rattle.std.specs.Prelude.{◌≡◌, ℕ, List, ◌++◌, length}
use Rattle.cn_base.specs.declared.tree.Item.{Item}
use Rattle.cat_resolve.specs.declared.declarations.Declarations.{Declarations}
use Rattle.cat_resolve.specs.Meanings.{meanings}
use Rattle.cat_resolve.specs.Names.{first_of, declared_by}
use Rattle.cat_resolve.specs.Header.{item_words, item_variables, item_tasks, item_events}

pub record Declares (before now : Declarations) (i : Item) : Type 0 where
  pub words : now.words.items ≡ before.words.items ++ item_words i
  pub variables : now.variables.items ≡ before.variables.items ++ item_variables (length before.words.items) i
  pub tasks : now.tasks.items ≡ before.tasks.items ++ item_tasks i
  pub events : now.events.items ≡ before.events.items ++ item_events i
  pub names : (y : List ℕ) → meanings now.names y ≡ first_of (meanings before.names y) (declared_by (length before.words.items) (length before.tasks.items) (length before.events.items) i y)
