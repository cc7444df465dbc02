-- The numbers of blocks: those that tasks and events name are numbers of blocks, and a statement names lower ones than its own.
use Rattle.std.proofs.Common.{◌≡◌, ℕ, suc, ◌+◌, ◌<◌, ◌≤◌, List, [], ◌∷◌, ◌++◌, length, Option, Some, None, ap, sym, subst, arith, length-append}
use Rattle.std.specs.Prelude.{map}
use Rattle.std.proofs.lemmas.List.{length-map}
use Rattle.cn_base.specs.declared.tree.Stmt.{Stmt as SourceStmt}
use Rattle.cn_base.specs.declared.tree.Item.{Item}
use Rattle.cn_base.specs.declared.tree.Item.TheVariants as item
use Rattle.cn_base.specs.declared.tree.Tree.{Tree}
use Rattle.cat_program.specs.declared.syntax.Stmt.{Stmt}
use Rattle.cat_program.specs.declared.syntax.Stmt.TheVariants.{Set, SetAt, Out, Post, If, While, Repeat}
use Rattle.cat_program.specs.Checked.{Checked, NamesLower, AllLower, EachLower, EachBelow, EachListBelow}
use Rattle.cat_conditions.specs.Plain.{Term, Action, Actions, no_action, action, Else, no_else, otherwise, block_of}
use Rattle.cat_conditions.specs.Plain as plain
use Rattle.cat_resolve.specs.declared.names.Meaning.{Meaning}
use Rattle.cat_resolve.specs.declared.names.Meaning.TheVariants as meaning
use Rattle.cat_resolve.specs.Names.{Meanings, names_of}
use Rattle.cat_resolve.specs.Form.{Formula, Command, branch, loop, turns, command, commands}
use Rattle.cat_resolve.specs.Resolved.{formula_of}
use Rattle.cat_resolve.specs.Blocks.{set_form, set_at_form, post_form, command_of, blocks_in, commands_of, blocks_within, else_blocks, block_blocks, block_number}
use Rattle.cat_resolve.specs.Content.{versions_blocks, versions_numbers, item_blocks, item_bodies, item_versions, blocks_from, bodies_from, versions_from}
use Rattle.cat_resolve.specs.Program.{IsProgramOf}

-- ---- plain statements that name lower blocks

abbrev CommandLower : ℕ → Command → Type 0
CommandLower b (branch test on None) = on < b
CommandLower b (branch test on (Some off)) = (on < b) × (off < b)
CommandLower b (loop test body) = body < b
CommandLower b (turns count body) = body < b
CommandLower b _ = Unit {0}

abbrev CommandsLower : ℕ → List Command → Type 0
CommandsLower b [] = Unit {0}
CommandsLower b (c ∷ cs) = CommandLower b c × CommandsLower b cs

abbrev BlocksLower : ℕ → List (List Command) → Type 0
BlocksLower b [] = Unit {0}
BlocksLower b (block ∷ blocks) = CommandsLower b block × BlocksLower (b + 1) blocks

statement_lower : (b : ℕ) (s : Stmt) → CommandLower b (command s) → NamesLower b s
statement_lower b (Set w value) h = tt
statement_lower b (SetAt base len index value) h = tt
statement_lower b (Out channel value) h = tt
statement_lower b (Post task) h = tt
statement_lower b (If test on None) h = h
statement_lower b (If test on (Some off)) h = h
statement_lower b (While test body) h = h
statement_lower b (Repeat count body) h = h

statements_lower : (b : ℕ) (ss : List Stmt) → CommandsLower b (map command ss) → AllLower b ss
statements_lower b [] h = tt
statements_lower b (s ∷ ss) h = (statement_lower b s h.0, statements_lower b ss h.1)

each_lower : (b : ℕ) (blocks : List (List Stmt)) → BlocksLower b (commands blocks) → EachLower b blocks
each_lower b [] h = tt
each_lower b (block ∷ blocks) h = (statements_lower b block h.0, each_lower (b + 1) blocks h.1)

-- ---- the blocks that a statement of a source names end within it

set_lower : (m : ℕ) (found : Option Meaning) (value : Formula) → CommandLower m (set_form found value)
set_lower m None value = tt
set_lower m (Some (meaning.Word w)) value = tt
set_lower m (Some (meaning.Array base len)) value = tt
set_lower m (Some (meaning.Task t)) value = tt
set_lower m (Some (meaning.Event e)) value = tt

set_at_lower : (m : ℕ) (found : Option Meaning) (index value : Formula) → CommandLower m (set_at_form found index value)
set_at_lower m None index value = tt
set_at_lower m (Some (meaning.Word w)) index value = tt
set_at_lower m (Some (meaning.Array base len)) index value = tt
set_at_lower m (Some (meaning.Task t)) index value = tt
set_at_lower m (Some (meaning.Event e)) index value = tt

post_lower : (m : ℕ) (found : Option Meaning) → CommandLower m (post_form found)
post_lower m None = tt
post_lower m (Some (meaning.Word w)) = tt
post_lower m (Some (meaning.Array base len)) = tt
post_lower m (Some (meaning.Task t)) = tt
post_lower m (Some (meaning.Event e)) = tt

-- a block ends behind those within it
own_more : (within : List (List Command)) (own : List Command) → length (within ++ own ∷ []) ≡ length within + 1
own_more within own = length-append within (own ∷ [])

others_more : (within others : List (List Command)) (own : List Command) → length (within ++ (own ∷ others)) ≡ length within + suc (length others)
others_more within others own = length-append within (own ∷ others)

command_lower : (names : Meanings) (n m : ℕ) (a : Action) → n + length (blocks_in names n a) ≤ m → CommandLower m (command_of names n a)
command_lower names n m (plain.set x value) h = set_lower m (names x) (formula_of names value)
command_lower names n m (plain.set_at x index value) h = set_at_lower m (names x) (formula_of names index) (formula_of names value)
command_lower names n m (plain.out channel value) h = tt
command_lower names n m (plain.post x) h = post_lower m (names x)
command_lower names n m (plain.choose test first no_else) h =
    let p = others_more (blocks_within names n first) [] (commands_of names n first) in
    omega (arith, p, h)
command_lower names n m (plain.choose test first (otherwise second)) h =
    let within = blocks_within names n first in
    let k = n + length within + 1 in
    let inner = blocks_within names k second in
    let p = others_more within (inner ++ commands_of names k second ∷ []) (commands_of names n first) in
    let q : length (inner ++ commands_of names k second ∷ []) ≡ length inner + 1 = own_more inner (commands_of names k second) in
    (omega (arith, p, q, h), omega (arith, p, q, h))
command_lower names n m (plain.loop test body) h =
    let p = own_more (blocks_within names n body) (commands_of names n body) in
    omega (arith, p, h)
command_lower names n m (plain.turns count body) h =
    let p = own_more (blocks_within names n body) (commands_of names n body) in
    omega (arith, p, h)

commands_lower : (names : Meanings) (n m : ℕ) (b : Actions) → n + length (blocks_within names n b) ≤ m → CommandsLower m (commands_of names n b)
commands_lower names n m no_action h = tt
commands_lower names n m (action a rest) h =
    let one = blocks_in names n a in
    let more = blocks_within names (n + length one) rest in
    let p : length (one ++ more) ≡ length one + length more = length-append one more in
    (command_lower names n m a (omega (arith, p, h)), commands_lower names (n + length one) m rest (omega (arith, p, h)))

-- ---- all blocks of a source

at_number : (b c : ℕ) (blocks : List (List Command)) → b ≡ c → BlocksLower b blocks → BlocksLower c blocks
at_number b c blocks e h = subst (λ k. BlocksLower k blocks) e h

both_lower : (b : ℕ) (xs ys : List (List Command)) → BlocksLower b xs → BlocksLower (b + length xs) ys → BlocksLower b (xs ++ ys)
both_lower b [] ys h k = at_number (b + 0) b ys (omega arith) k
both_lower b (x ∷ xs) ys h k =
    let here : b + length (x ∷ xs) ≡ b + 1 + length xs = omega arith in
    (h.0, both_lower (b + 1) xs ys h.1 (at_number (b + length (x ∷ xs)) (b + 1 + length xs) ys here k))

own_lower : (names : Meanings) (n : ℕ) (b : Actions) → BlocksLower n (blocks_within names n b) → BlocksLower n (block_blocks names n b)
own_lower names n b h =
    let m = n + length (blocks_within names n b) in
    both_lower n (blocks_within names n b) (commands_of names n b ∷ []) h (commands_lower names n m b (omega arith), tt)

mutual
  in_lower : (names : Meanings) (n : ℕ) (a : Action) → BlocksLower n (blocks_in names n a)
  in_lower names n (plain.set x value) = tt
  in_lower names n (plain.set_at x index value) = tt
  in_lower names n (plain.out channel value) = tt
  in_lower names n (plain.post x) = tt
  in_lower names n (plain.choose test first second) =
      let within = blocks_within names n first in
      let m = n + length within in
      both_lower n within (commands_of names n first ∷ else_blocks names (m + 1) second) (within_lower names n first)
      (commands_lower names n m first (omega arith), else_lower names (m + 1) second)
  in_lower names n (plain.loop test body) = own_lower names n body (within_lower names n body)
  in_lower names n (plain.turns count body) = own_lower names n body (within_lower names n body)

  within_lower : (names : Meanings) (n : ℕ) (b : Actions) → BlocksLower n (blocks_within names n b)
  within_lower names n no_action = tt
  within_lower names n (action a rest) =
      let m = n + length (blocks_in names n a) in
      both_lower n (blocks_in names n a) (blocks_within names m rest) (in_lower names n a) (within_lower names m rest)

  else_lower : (names : Meanings) (n : ℕ) (e : Else) → BlocksLower n (else_blocks names n e)
  else_lower names n no_else = tt
  else_lower names n (otherwise b) = own_lower names n b (within_lower names n b)

block_lower : (names : Meanings) (n : ℕ) (b : Actions) → BlocksLower n (block_blocks names n b)
block_lower names n b = own_lower names n b (within_lower names n b)

versions_lower : (names : Meanings) (n : ℕ) (vs : List (List SourceStmt)) → BlocksLower n (versions_blocks names n vs)
versions_lower names n [] = tt
versions_lower names n (v ∷ vs) =
    let one = block_blocks names n (block_of v) in
    both_lower n one (versions_blocks names (n + length one) vs) (block_lower names n (block_of v)) (versions_lower names (n + length one) vs)

item_lower : (names : Meanings) (n : ℕ) (i : Item) → BlocksLower n (item_blocks names n i)
item_lower names n (item.Int x minus k) = tt
item_lower names n (item.Bool x b) = tt
item_lower names n (item.Array x k) = tt
item_lower names n (item.Task x body) = block_lower names n (block_of body)
item_lower names n (item.Event x t d vs) = versions_lower names n vs
item_lower names n (item.Degrade xs) = tt
item_lower names n (item.Start x) = tt

all_lower : (names : Meanings) (n : ℕ) (items : List Item) → BlocksLower n (blocks_from names n items)
all_lower names n [] = tt
all_lower names n (i ∷ items) =
    let one = item_blocks names n i in
    both_lower n one (blocks_from names (n + length one) items) (item_lower names n i) (all_lower names (n + length one) items)

pub blocks_lower : (tree : Tree) (p : Checked) → IsProgramOf tree p → EachLower 0 p.blocks
blocks_lower tree p of = each_lower 0 p.blocks (subst (BlocksLower 0) (sym of.blocks) (all_lower (names_of tree.items) 0 tree.items))

-- ---- the blocks of tasks and of versions

number_below : (names : Meanings) (n : ℕ) (b : Actions) → suc (block_number names n b) ≡ n + length (block_blocks names n b)
number_below names n b =
    let p = own_more (blocks_within names n b) (commands_of names n b) in
    omega (arith, p)

item_bodies_below : (names : Meanings) (n m : ℕ) (i : Item) (more : List ℕ) → n + length (item_blocks names n i) ≤ m → EachBelow m more → EachBelow m (item_bodies names n i ++ more)
item_bodies_below names n m (item.Int x minus k) more h rest = rest
item_bodies_below names n m (item.Bool x b) more h rest = rest
item_bodies_below names n m (item.Array x k) more h rest = rest
item_bodies_below names n m (item.Task x body) more h rest =
    let p = number_below names n (block_of body) in
    (omega (arith, p, h), rest)
item_bodies_below names n m (item.Event x t d vs) more h rest = rest
item_bodies_below names n m (item.Degrade xs) more h rest = rest
item_bodies_below names n m (item.Start x) more h rest = rest

bodies_below : (names : Meanings) (n m : ℕ) (items : List Item) → n + length (blocks_from names n items) ≤ m → EachBelow m (bodies_from names n items)
bodies_below names n m [] h = tt
bodies_below names n m (i ∷ items) h =
    let one = item_blocks names n i in
    let more = blocks_from names (n + length one) items in
    let p : length (one ++ more) ≡ length one + length more = length-append one more in
    item_bodies_below names n m i (bodies_from names (n + length one) items) (omega (arith, p, h)) (bodies_below names (n + length one) m items (omega (arith, p, h)))

versions_below : (names : Meanings) (n m : ℕ) (vs : List (List SourceStmt)) → n + length (versions_blocks names n vs) ≤ m → EachBelow m (versions_numbers names n vs)
versions_below names n m [] h = tt
versions_below names n m (v ∷ vs) h =
    let one = block_blocks names n (block_of v) in
    let more = versions_blocks names (n + length one) vs in
    let p : length (one ++ more) ≡ length one + length more = length-append one more in
    let q = number_below names n (block_of v) in
    (omega (arith, p, q, h), versions_below names (n + length one) m vs (omega (arith, p, h)))

item_versions_below : (names : Meanings) (n m : ℕ) (i : Item) (more : List (List ℕ)) → n + length (item_blocks names n i) ≤ m → EachListBelow m more → EachListBelow m (item_versions names n i ++ more)
item_versions_below names n m (item.Int x minus k) more h rest = rest
item_versions_below names n m (item.Bool x b) more h rest = rest
item_versions_below names n m (item.Array x k) more h rest = rest
item_versions_below names n m (item.Task x body) more h rest = rest
item_versions_below names n m (item.Event x t d vs) more h rest = (versions_below names n m vs h, rest)
item_versions_below names n m (item.Degrade xs) more h rest = rest
item_versions_below names n m (item.Start x) more h rest = rest

lists_below : (names : Meanings) (n m : ℕ) (items : List Item) → n + length (blocks_from names n items) ≤ m → EachListBelow m (versions_from names n items)
lists_below names n m [] h = tt
lists_below names n m (i ∷ items) h =
    let one = item_blocks names n i in
    let more = blocks_from names (n + length one) items in
    let p : length (one ++ more) ≡ length one + length more = length-append one more in
    item_versions_below names n m i (versions_from names (n + length one) items) (omega (arith, p, h)) (lists_below names (n + length one) m items (omega (arith, p, h)))

blocks_length : (tree : Tree) (p : Checked) → IsProgramOf tree p → 0 + length (blocks_from (names_of tree.items) 0 tree.items) ≤ length p.blocks
blocks_length tree p of =
    let a : length (commands p.blocks) ≡ length p.blocks = length-map p.blocks (map command) in
    let b : length (commands p.blocks) ≡ length (blocks_from (names_of tree.items) 0 tree.items) = ap length of.blocks in
    omega (arith, a, b)

pub tasks_below : (tree : Tree) (p : Checked) → IsProgramOf tree p → EachBelow (length p.blocks) p.tasks
tasks_below tree p of =
    subst (EachBelow (length p.blocks)) (sym of.tasks) (bodies_below (names_of tree.items) 0 (length p.blocks) tree.items (blocks_length tree p of))

pub events_below : (tree : Tree) (p : Checked) → IsProgramOf tree p → EachListBelow (length p.blocks) p.events
events_below tree p of =
    subst (EachListBelow (length p.blocks)) (sym of.events) (lists_below (names_of tree.items) 0 (length p.blocks) tree.items (blocks_length tree p of))
