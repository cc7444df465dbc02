-- What is declared so far, with the items that are left.
use Rattle.std.proofs.Common.{◌≡◌, ℕ, ◌+◌, ◌≤◌, List, ◌++◌, length}
use Rattle.cn_base.specs.declared.tree.Item.{Item}
use Rattle.cat_resolve.specs.declared.declarations.Declarations.{Declarations}
use Rattle.cat_resolve.specs.Meanings.{meanings}
use Rattle.cat_resolve.specs.Names.{first_of, names_from, names_of}
use Rattle.cat_resolve.specs.Header.{words_in, variables_in, tasks_in, events_in, word_count, task_count, event_count, AllHaveFewVersions}

pub record Declared (d : Declarations) (left all : List Item) : Type 0 where
  pub words : d.words.items ++ words_in left ≡ words_in all
  pub variables : d.variables.items ++ variables_in (length d.words.items) left ≡ variables_in 0 all
  pub tasks : d.tasks.items ++ tasks_in left ≡ tasks_in all
  pub events : d.events.items ++ events_in left ≡ events_in all
  pub names : (y : List ℕ) → first_of (meanings d.names y) (names_from (length d.words.items) (length d.tasks.items) (length d.events.items) left y) ≡ names_of all y
  pub few_words : length d.words.items + word_count left ≤ 1024
  pub few_tasks : length d.tasks.items + task_count left ≤ 16
  pub few_events : length d.events.items + event_count left ≤ 16
  pub few_versions : AllHaveFewVersions left
