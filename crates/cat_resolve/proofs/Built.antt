-- The bodies so far, with the items that are left.
use Rattle.std.proofs.Common.{◌≡◌, ℕ, ◌+◌, ◌<◌, ◌^◌, List, [], ◌∷◌, ◌++◌, length, ap, sym, ◌∙◌, arith, append_assoc, length-append}
use Rattle.std.specs.Prelude.{map}
use Rattle.std.proofs.lemmas.List.{length-map}
use Rattle.cn_base.specs.declared.tree.Stmt.{Stmt as SourceStmt}
use Rattle.cn_base.specs.declared.tree.Item.{Item}
use Rattle.cat_program.specs.declared.syntax.Stmt.{Stmt}
use Rattle.cat_conditions.specs.Plain.{block_of}
use Rattle.cat_resolve.specs.declared.bodies.Bodies.{Bodies}
use Rattle.cat_resolve.specs.Names.{Meanings}
use Rattle.cat_resolve.specs.Form.{Command, command, commands}
use Rattle.cat_resolve.specs.Blocks.{block_blocks, block_number}
use Rattle.cat_resolve.specs.Content.{versions_blocks, versions_numbers, item_blocks, item_bodies, item_versions, item_mentions, blocks_from, bodies_from, versions_from, mentions_in, started_from}
use Rattle.cat_resolve.specs.Building.{Builds}
use Rattle.cat_resolve.proofs.Statements.{ended_length}

-- ---- versions

-- what ends next has numbers that fit, if all have
pub next_has_room : (before now : List (List Stmt)) (one more all : List (List Command)) → commands now ++ (one ++ more) ≡ commands before ++ all
    → length before + length all < 2 ^ 32 → length now + length one < 2 ^ 32
next_has_room before now one more all whole h =
    let p : length (commands now ++ (one ++ more)) ≡ length (commands now) + length (one ++ more) = length-append (commands now) (one ++ more) in
    let q : length (one ++ more) ≡ length one + length more = length-append one more in
    let r : length (commands before ++ all) ≡ length (commands before) + length all = length-append (commands before) all in
    let s : length (commands now) ≡ length now = length-map now (map command) in
    let t : length (commands before) ≡ length before = length-map before (map command) in
    let same : length (commands now ++ (one ++ more)) ≡ length (commands before ++ all) = ap length whole in
    omega (arith, p, q, r, s, t, same, h)

pub next_number : (names : Meanings) (m m' : ℕ) (v : List SourceStmt) (left rest : List (List SourceStmt)) (found now : List ℕ) (k : ℕ) (all : List ℕ) → left ≡ v ∷ rest
    → now ≡ found ++ k ∷ [] → k ≡ block_number names m (block_of v) → m' ≡ m + length (block_blocks names m (block_of v))
    → found ++ versions_numbers names m left ≡ all → now ++ versions_numbers names m' rest ≡ all
next_number names m m' v left rest found now k all l e p f inv =
    ap (λ z. z ++ versions_numbers names m' rest) e
    ∙ append_assoc found (k ∷ []) (versions_numbers names m' rest)
    ∙ ap (λ z. found ++ (z ∷ versions_numbers names m' rest)) p
    ∙ ap (λ z. found ++ (block_number names m (block_of v) ∷ versions_numbers names z rest)) f
    ∙ ap (λ z. found ++ versions_numbers names m z) (sym l)
    ∙ inv

pub next_version : (names : Meanings) (m m' : ℕ) (v : List SourceStmt) (left rest : List (List SourceStmt)) (before now all : List (List Command)) → left ≡ v ∷ rest
    → now ≡ before ++ block_blocks names m (block_of v) → m' ≡ m + length (block_blocks names m (block_of v))
    → before ++ versions_blocks names m left ≡ all → now ++ versions_blocks names m' rest ≡ all
next_version names m m' v left rest before now all l e f inv =
    ap (λ z. z ++ versions_blocks names m' rest) e
    ∙ append_assoc before (block_blocks names m (block_of v)) (versions_blocks names m' rest)
    ∙ ap (λ z. before ++ (block_blocks names m (block_of v) ++ versions_blocks names z rest)) f
    ∙ ap (λ z. before ++ versions_blocks names m z) (sym l)
    ∙ inv

-- ---- items

pub record Built (names : Meanings) (posts : List ℕ) (b : Bodies) (left all : List Item) : Type 0 where
  pub blocks : commands b.blocks.items ++ blocks_from names (length b.blocks.items) left ≡ blocks_from names 0 all
  pub tasks : b.tasks.items ++ bodies_from names (length b.blocks.items) left ≡ bodies_from names 0 all
  pub events : b.events.items ++ versions_from names (length b.blocks.items) left ≡ versions_from names 0 all
  pub mentions : b.mentions.items ++ mentions_in names left ≡ mentions_in names all
  pub started : started_from names left b.started.items ≡ started_from names all posts

pub built_next : (names : Meanings) (posts : List ℕ) (b c : Bodies) (i : Item) (left rest all : List Item) → left ≡ i ∷ rest → Builds names b c i
    → Built names posts b left all → Built names posts c rest all
built_next names posts b c i left rest all l step built =
    let n = length b.blocks.items in
    let k = length c.blocks.items in
    let longer = ended_length b.blocks.items c.blocks.items (item_blocks names n i) step.blocks in
    record {
      blocks =
          ap (λ z. z ++ blocks_from names k rest) step.blocks
          ∙ append_assoc (commands b.blocks.items) (item_blocks names n i) (blocks_from names k rest)
          ∙ ap (λ z. commands b.blocks.items ++ (item_blocks names n i ++ blocks_from names z rest)) longer
          ∙ ap (λ z. commands b.blocks.items ++ blocks_from names n z) (sym l)
          ∙ built.blocks;
      tasks =
          ap (λ z. z ++ bodies_from names k rest) step.tasks
          ∙ append_assoc b.tasks.items (item_bodies names n i) (bodies_from names k rest)
          ∙ ap (λ z. b.tasks.items ++ (item_bodies names n i ++ bodies_from names z rest)) longer
          ∙ ap (λ z. b.tasks.items ++ bodies_from names n z) (sym l)
          ∙ built.tasks;
      events =
          ap (λ z. z ++ versions_from names k rest) step.events
          ∙ append_assoc b.events.items (item_versions names n i) (versions_from names k rest)
          ∙ ap (λ z. b.events.items ++ (item_versions names n i ++ versions_from names z rest)) longer
          ∙ ap (λ z. b.events.items ++ versions_from names n z) (sym l)
          ∙ built.events;
      mentions =
          ap (λ z. z ++ mentions_in names rest) step.mentions
          ∙ append_assoc b.mentions.items (item_mentions names i) (mentions_in names rest)
          ∙ ap (λ z. b.mentions.items ++ mentions_in names z) (sym l)
          ∙ built.mentions;
      started =
          ap (started_from names rest) step.started
          ∙ ap (λ z. started_from names z b.started.items) (sym l)
          ∙ built.started;
    }
