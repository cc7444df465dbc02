-- The blocks of a source's tasks and events, its degrade order, and how often each task is posted at first.
use Rattle.std.specs.Prelude.{ℕ, ◌+◌, List, [], ◌∷◌, ◌++◌, length, map, Option, Some}
use Rattle.cn_base.specs.declared.tree.Stmt.{Stmt}
use Rattle.cn_base.specs.declared.tree.Item.{Item}
use Rattle.cn_base.specs.declared.tree.Item.TheVariants as item
use Rattle.cat_program.specs.Meaning.{raised}
use Rattle.cat_conditions.specs.Plain.{block_of}
use Rattle.cat_resolve.specs.declared.names.Meaning.{Meaning}
use Rattle.cat_resolve.specs.declared.names.Meaning.TheVariants as meaning
use Rattle.cat_resolve.specs.Names.{Meanings}
use Rattle.cat_resolve.specs.Form.{Command}
use Rattle.cat_resolve.specs.Blocks.{block_blocks, block_number}

-- the versions of an event, where the next block to end has number n
abbrev pub versions_blocks : Meanings → ℕ → List (List Stmt) → List (List Command)
versions_blocks names n [] = []
versions_blocks names n (v ∷ vs) = block_blocks names n (block_of v) ++ versions_blocks names (n + length (block_blocks names n (block_of v))) vs

abbrev pub versions_numbers : Meanings → ℕ → List (List Stmt) → List ℕ
versions_numbers names n [] = []
versions_numbers names n (v ∷ vs) = block_number names n (block_of v) ∷ versions_numbers names (n + length (block_blocks names n (block_of v))) vs

abbrev pub item_blocks : Meanings → ℕ → Item → List (List Command)
item_blocks names n (item.Task x body) = block_blocks names n (block_of body)
item_blocks names n (item.Event x t deadline versions) = versions_blocks names n versions
item_blocks names n _ = []

-- all blocks
abbrev pub blocks_from : Meanings → ℕ → List Item → List (List Command)
blocks_from names n [] = []
blocks_from names n (i ∷ items) = item_blocks names n i ++ blocks_from names (n + length (item_blocks names n i)) items

abbrev pub item_bodies : Meanings → ℕ → Item → List ℕ
item_bodies names n (item.Task x body) = block_number names n (block_of body) ∷ []
item_bodies names n _ = []

-- the block of each task
abbrev pub bodies_from : Meanings → ℕ → List Item → List ℕ
bodies_from names n [] = []
bodies_from names n (i ∷ items) = item_bodies names n i ++ bodies_from names (n + length (item_blocks names n i)) items

abbrev pub item_versions : Meanings → ℕ → Item → List (List ℕ)
item_versions names n (item.Event x t deadline versions) = versions_numbers names n versions ∷ []
item_versions names n _ = []

-- the blocks of each event's versions
abbrev pub versions_from : Meanings → ℕ → List Item → List (List ℕ)
versions_from names n [] = []
versions_from names n (i ∷ items) = item_versions names n i ++ versions_from names (n + length (item_blocks names n i)) items

abbrev pub event_number : Option Meaning → ℕ
event_number (Some (meaning.Event e)) = e
event_number _ = 0

abbrev pub item_mentions : Meanings → Item → List ℕ
item_mentions names (item.Degrade events) = map (λ x. event_number (names x)) events
item_mentions names _ = []

-- the joined degrade order
abbrev pub mentions_in : Meanings → List Item → List ℕ
mentions_in names [] = []
mentions_in names (i ∷ items) = item_mentions names i ++ mentions_in names items

-- one post more of the task that is named
abbrev pub posted : Option Meaning → List ℕ → List ℕ
posted (Some (meaning.Task t)) posts = raised posts t
posted _ posts = posts

abbrev pub item_started : Meanings → Item → List ℕ → List ℕ
item_started names (item.Start x) posts = posted (names x) posts
item_started names _ posts = posts

-- the posts after all `start` items
abbrev pub started_from : Meanings → List Item → List ℕ → List ℕ
started_from names [] posts = posts
started_from names (i ∷ items) posts = started_from names items (item_started names i posts)
