-- The bodies so far, and those of one item more.
use Rattle.std.specs.Prelude.{◌≡◌, ◌++◌, length}
use Rattle.cn_base.specs.declared.tree.Item.{Item}
use Rattle.cat_resolve.specs.declared.bodies.Bodies.{Bodies}
use Rattle.cat_resolve.specs.Names.{Meanings}
use Rattle.cat_resolve.specs.Ending.{Ends}
use Rattle.cat_resolve.specs.Content.{item_blocks, item_bodies, item_versions, item_mentions, item_started}

pub record Builds (names : Meanings) (before now : Bodies) (i : Item) : Type 0 where
  pub blocks : Ends before.blocks.items now.blocks.items (λ n. item_blocks names n i)
  pub tasks : now.tasks.items ≡ before.tasks.items ++ item_bodies names (length before.blocks.items) i
  pub events : now.events.items ≡ before.events.items ++ item_versions names (length before.blocks.items) i
  pub mentions : now.mentions.items ≡ before.mentions.items ++ item_mentions names i
  pub started : now.started.items ≡ item_started names i before.started.items
