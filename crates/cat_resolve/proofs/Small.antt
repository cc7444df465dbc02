-- A source that meets the conditions is small, and has few blocks.
use Rattle.std.proofs.Common.{◌≡◌, ℕ, suc, ◌+◌, ◌<◌, ◌≤◌, ◌^◌, Bool, false, List, [], ◌∷◌, ◌++◌, length, refl, subst, arith, length-append, take, inl, inr}
use Rattle.std.specs.Prelude.{sum_by}
use Rattle.std.proofs.lemmas.List.Sums.{sum_by-append, sum_by-cons}
use Rattle.std.proofs.Math.Seq.{take-length}
use Rattle.std.proofs.lemmas.Bool.{ltb-false}
use Rattle.cn_base.specs.declared.tree.Item.{Item}
use Rattle.cn_base.specs.declared.tree.Item.TheVariants as item
use Rattle.cn_base.specs.declared.tree.Stmt.{Stmt}
use Rattle.cn_base.specs.declared.tree.Tree.{Tree}
use Rattle.cat_conditions.specs.Plain.{Term, Action, set, set_at, out, post, choose, loop, turns, Actions, no_action, action, Else, no_else, otherwise, block_of}
use Rattle.cat_conditions.specs.Pieces.{Piece, an_item, a_statement, an_expression, item_pieces, items_pieces, pieces}
use Rattle.cat_conditions.specs.Offences.{Exceeds, NoneOf}
use Rattle.cat_conditions.specs.Local.{has_many_versions}
use Rattle.cat_conditions.specs.Counts.{words, one_event, one_task, task_size, event_size, action_size, block_size, else_size, versions_size}
use Rattle.cat_conditions.specs.Conditions.{MakesCodeLong, MeetsConditions}
use Rattle.cat_resolve.specs.Names.{Meanings, names_of, words_of, tasks_of, events_of}
use Rattle.cat_resolve.specs.Header.{word_count, task_count, event_count, HasFewVersions, AllHaveFewVersions, IsSmall}
use Rattle.cat_resolve.specs.Form.{Command}
use Rattle.cat_resolve.specs.Blocks.{blocks_in, blocks_within, else_blocks, commands_of, block_blocks}
use Rattle.cat_resolve.specs.Content.{versions_blocks, item_blocks, blocks_from}
use Rattle.cat_resolve.proofs.ByItem.{IsInner, AllInner, item_inner, EachFails, each_fails}

-- a weight that items alone have
pub record OfItems (w : Piece → ℕ) : Type 0 where
  pub statement : (event : Bool) (room : ℕ) (a : Action) → w (a_statement event room a) ≡ 0
  pub expression : (event : Bool) (t : Term) → w (an_expression event t) ≡ 0

of_inner : (w : Piece → ℕ) → OfItems w → (p : Piece) → IsInner p → w p ≡ 0
of_inner w o (an_item i) h = absurd h
of_inner w o (a_statement event room a) h = o.statement event room a
of_inner w o (an_expression event t) h = o.expression event t

inner_none : (w : Piece → ℕ) → OfItems w → (ps : List Piece) → AllInner ps → sum_by w ps ≡ 0
inner_none w o [] h = refl
inner_none w o (p ∷ ps) h =
    let own : w p ≡ 0 = of_inner w o p h.0 in
    let rest : sum_by w ps ≡ 0 = inner_none w o ps h.1 in
    let c : sum_by w (p ∷ ps) ≡ w p + sum_by w ps = sum_by-cons w p ps in
    omega (arith, own, rest, c)

item_none : (w : Piece → ℕ) → OfItems w → (i : Item) → sum_by w (item_pieces i) ≡ 0
item_none w o i = inner_none w o (item_pieces i) (item_inner i)

-- so one item more weighs what it weighs itself
pub one_item : (w : Piece → ℕ) → OfItems w → (i : Item) (items : List Item) → sum_by w (items_pieces (i ∷ items)) ≡ w (an_item i) + sum_by w (items_pieces items)
one_item w o i items =
    let a : sum_by w (items_pieces (i ∷ items)) ≡ w (an_item i) + sum_by w (item_pieces i ++ items_pieces items) = sum_by-cons w (an_item i) (item_pieces i ++ items_pieces items) in
    let b : sum_by w (item_pieces i ++ items_pieces items) ≡ sum_by w (item_pieces i) + sum_by w (items_pieces items) = sum_by-append w (item_pieces i) (items_pieces items) in
    let c : sum_by w (item_pieces i) ≡ 0 = item_none w o i in
    omega (arith, a, b, c)

of_words : OfItems words
of_words = record { statement = λ event room a. refl; expression = λ event t. refl }

of_tasks : OfItems one_task
of_tasks = record { statement = λ event room a. refl; expression = λ event t. refl }

of_events : OfItems one_event
of_events = record { statement = λ event room a. refl; expression = λ event t. refl }

pub of_task_size : OfItems task_size
of_task_size = record { statement = λ event room a. refl; expression = λ event t. refl }

pub of_event_size : OfItems event_size
of_event_size = record { statement = λ event room a. refl; expression = λ event t. refl }

same_words : (i : Item) → words_of i ≡ words (an_item i)
same_words (item.Int x m n) = refl
same_words (item.Bool x b) = refl
same_words (item.Array x n) = refl
same_words (item.Task x body) = refl
same_words (item.Event x t d vs) = refl
same_words (item.Degrade xs) = refl
same_words (item.Start x) = refl

same_tasks : (i : Item) → tasks_of i ≡ one_task (an_item i)
same_tasks (item.Int x m n) = refl
same_tasks (item.Bool x b) = refl
same_tasks (item.Array x n) = refl
same_tasks (item.Task x body) = refl
same_tasks (item.Event x t d vs) = refl
same_tasks (item.Degrade xs) = refl
same_tasks (item.Start x) = refl

same_events : (i : Item) → events_of i ≡ one_event (an_item i)
same_events (item.Int x m n) = refl
same_events (item.Bool x b) = refl
same_events (item.Array x n) = refl
same_events (item.Task x body) = refl
same_events (item.Event x t d vs) = refl
same_events (item.Degrade xs) = refl
same_events (item.Start x) = refl

words_counted : (items : List Item) → word_count items ≡ sum_by words (items_pieces items)
words_counted [] = refl
words_counted (i ∷ items) =
    let a : words_of i ≡ words (an_item i) = same_words i in
    let b : word_count items ≡ sum_by words (items_pieces items) = words_counted items in
    let c : sum_by words (items_pieces (i ∷ items)) ≡ words (an_item i) + sum_by words (items_pieces items) = one_item words of_words i items in
    omega (arith, a, b, c)

tasks_counted : (items : List Item) → task_count items ≡ sum_by one_task (items_pieces items)
tasks_counted [] = refl
tasks_counted (i ∷ items) =
    let a : tasks_of i ≡ one_task (an_item i) = same_tasks i in
    let b : task_count items ≡ sum_by one_task (items_pieces items) = tasks_counted items in
    let c : sum_by one_task (items_pieces (i ∷ items)) ≡ one_task (an_item i) + sum_by one_task (items_pieces items) = one_item one_task of_tasks i items in
    omega (arith, a, b, c)

events_counted : (items : List Item) → event_count items ≡ sum_by one_event (items_pieces items)
events_counted [] = refl
events_counted (i ∷ items) =
    let a : events_of i ≡ one_event (an_item i) = same_events i in
    let b : event_count items ≡ sum_by one_event (items_pieces items) = events_counted items in
    let c : sum_by one_event (items_pieces (i ∷ items)) ≡ one_event (an_item i) + sum_by one_event (items_pieces items) = one_item one_event of_events i items in
    omega (arith, a, b, c)

-- ---- no more blocks than instructions

one_more : (within : List (List Command)) (own : List Command) (n : ℕ) → length within ≤ n → length (within ++ own ∷ []) ≤ n + 1
one_more within own n h =
    let a : length (within ++ own ∷ []) ≡ length within + 1 = length-append within (own ∷ []) in
    omega (arith, a, h)

mutual
  blocks_in_few : (names : Meanings) (n : ℕ) (a : Action) → length (blocks_in names n a) ≤ action_size a
  blocks_in_few names n (set x t) = omega arith
  blocks_in_few names n (set_at x t u) = omega arith
  blocks_in_few names n (out channel t) = omega arith
  blocks_in_few names n (post x) = omega arith
  blocks_in_few names n (choose t first second) =
      let within = blocks_within names n first in
      let others = else_blocks names (n + length within + 1) second in
      let a : length (within ++ (commands_of names n first ∷ others)) ≡ length within + suc (length others) = length-append within (commands_of names n first ∷ others) in
      let b : length within ≤ block_size first = blocks_within_few names n first in
      let c : length others ≤ else_size second = else_blocks_few names (n + length within + 1) second in
      omega (arith, a, b, c)
  blocks_in_few names n (loop t body) =
      let a : length (block_blocks names n body) ≤ block_size body + 1 = one_more (blocks_within names n body) (commands_of names n body) (block_size body) (blocks_within_few names n body) in
      omega (arith, a)
  blocks_in_few names n (turns count body) =
      let a : length (block_blocks names n body) ≤ block_size body + 1 = one_more (blocks_within names n body) (commands_of names n body) (block_size body) (blocks_within_few names n body) in
      omega (arith, a)

  blocks_within_few : (names : Meanings) (n : ℕ) (b : Actions) → length (blocks_within names n b) ≤ block_size b
  blocks_within_few names n no_action = omega arith
  blocks_within_few names n (action a rest) =
      let one = blocks_in names n a in
      let more = blocks_within names (n + length one) rest in
      let l : length (one ++ more) ≡ length one + length more = length-append one more in
      let b : length one ≤ action_size a = blocks_in_few names n a in
      let c : length more ≤ block_size rest = blocks_within_few names (n + length one) rest in
      omega (arith, l, b, c)

  else_blocks_few : (names : Meanings) (n : ℕ) (e : Else) → length (else_blocks names n e) ≤ else_size e
  else_blocks_few names n no_else = omega arith
  else_blocks_few names n (otherwise b) =
      let a : length (block_blocks names n b) ≤ block_size b + 1 = one_more (blocks_within names n b) (commands_of names n b) (block_size b) (blocks_within_few names n b) in
      omega (arith, a)

block_few : (names : Meanings) (n : ℕ) (b : Actions) → length (block_blocks names n b) ≤ block_size b + 1
block_few names n b = one_more (blocks_within names n b) (commands_of names n b) (block_size b) (blocks_within_few names n b)

versions_few : (names : Meanings) (n : ℕ) (vs : List (List Stmt)) → length (versions_blocks names n vs) ≤ versions_size vs
versions_few names n [] = omega arith
versions_few names n (v ∷ vs) =
    let one = block_blocks names n (block_of v) in
    let more = versions_blocks names (n + length one) vs in
    let l : length (one ++ more) ≡ length one + length more = length-append one more in
    let a : length one ≤ block_size (block_of v) + 1 = block_few names n (block_of v) in
    let b : length more ≤ versions_size vs = versions_few names (n + length one) vs in
    omega (arith, l, a, b)

item_few : (names : Meanings) (n : ℕ) (i : Item) → length (item_blocks names n i) ≤ task_size (an_item i) + event_size (an_item i)
item_few names n (item.Int x m k) = omega arith
item_few names n (item.Bool x b) = omega arith
item_few names n (item.Array x k) = omega arith
item_few names n (item.Task x body) =
    let a : length (block_blocks names n (block_of body)) ≤ block_size (block_of body) + 1 = block_few names n (block_of body) in
    omega (arith, a)
item_few names n (item.Event x t d vs) =
    let a : length (versions_blocks names n vs) ≤ versions_size vs = versions_few names n vs in
    omega (arith, a)
item_few names n (item.Degrade xs) = omega arith
item_few names n (item.Start x) = omega arith

blocks_few : (names : Meanings) (n : ℕ) (items : List Item) → length (blocks_from names n items) ≤ sum_by task_size (items_pieces items) + sum_by event_size (items_pieces items)
blocks_few names n [] = omega arith
blocks_few names n (i ∷ items) =
    let one = item_blocks names n i in
    let more = blocks_from names (n + length one) items in
    let l : length (one ++ more) ≡ length one + length more = length-append one more in
    let a : length one ≤ task_size (an_item i) + event_size (an_item i) = item_few names n i in
    let b : length more ≤ sum_by task_size (items_pieces items) + sum_by event_size (items_pieces items) = blocks_few names (n + length one) items in
    let c : sum_by task_size (items_pieces (i ∷ items)) ≡ task_size (an_item i) + sum_by task_size (items_pieces items) = one_item task_size of_task_size i items in
    let d : sum_by event_size (items_pieces (i ∷ items)) ≡ event_size (an_item i) + sum_by event_size (items_pieces items) = one_item event_size of_event_size i items in
    omega (arith, l, a, b, c, d)

-- ---- what the conditions say of whole sums

-- the last of some pieces, with all before it
all_taken : (p : Piece) (ps : List Piece) → take (length ps + 1) (p ∷ ps) ≡ p ∷ ps
all_taken p ps =
    let e : length (p ∷ ps) ≡ length ps + 1 = omega arith in
    subst (λ k. take k (p ∷ ps) ≡ p ∷ ps) e (take-length (p ∷ ps))

last : (p : Piece) (ps : List Piece) → length ps < length (p ∷ ps)
last p ps = omega arith

within : (w : Piece → ℕ) (limit : ℕ) (ps : List Piece) → NoneOf (length ps) (Exceeds w limit ps) → sum_by w ps ≤ limit
within w limit [] h = omega arith
within w limit (p ∷ ps) h =
    let no = subst (λ l. ¬ (limit < sum_by w l)) (all_taken p ps) (h (length ps) (last p ps)) in
    omega (arith, no)

pub short : (ps : List Piece) → NoneOf (length ps) (MakesCodeLong ps) → sum_by task_size ps + sum_by event_size ps ≤ 60000
short [] h = omega arith
short (p ∷ ps) h =
    let all = p ∷ ps in
    let tasks : sum_by task_size all ≤ 60000 = within task_size 60000 all (λ k in_list long. h k in_list (inl long)) in
    let no = subst (λ l. ¬ ((sum_by task_size all ≤ 60000) × (60000 < sum_by task_size all + sum_by event_size l))) (all_taken p ps) (λ long. h (length ps) (last p ps) (inr long)) in
    let no_more : ¬ (60000 < sum_by task_size all + sum_by event_size all) = λ long. no (tasks, long) in
    omega (arith, no_more)

pub few_blocks : (tree : Tree) → MeetsConditions tree → length (blocks_from (names_of tree.items) 0 tree.items) < 2 ^ 32
few_blocks tree checked =
    let a = blocks_few (names_of tree.items) 0 tree.items in
    let b = short (pieces tree) checked.1.1.1.1.1.1.1.1.1.1.1.1.1.1.1.0 in
    omega (arith, a, b)

-- ---- versions

few_in : (i : Item) → has_many_versions (an_item i) ≡ false → HasFewVersions i
few_in (item.Event x t d vs) h = ltb-false 4 (length vs) h
few_in (item.Int x m n) h = tt
few_in (item.Bool x b) h = tt
few_in (item.Array x n) h = tt
few_in (item.Task x body) h = tt
few_in (item.Degrade xs) h = tt
few_in (item.Start x) h = tt

few_in_all : (items : List Item) → EachFails has_many_versions items → AllHaveFewVersions items
few_in_all [] h = tt
few_in_all (i ∷ items) h = (few_in i h.0, few_in_all items h.1)

pub is_small : (tree : Tree) → MeetsConditions tree → IsSmall tree.items
is_small tree checked =
    let ps = pieces tree in
    let a : word_count tree.items ≡ sum_by words ps = words_counted tree.items in
    let b : sum_by words ps ≤ 1024 = within words 1024 ps checked.1.0 in
    let c : event_count tree.items ≡ sum_by one_event ps = events_counted tree.items in
    let d : sum_by one_event ps ≤ 16 = within one_event 16 ps checked.1.1.0 in
    let e : task_count tree.items ≡ sum_by one_task ps = tasks_counted tree.items in
    let f : sum_by one_task ps ≤ 16 = within one_task 16 ps checked.1.1.1.0 in
    record {
      few_words = omega (arith, a, b);
      few_tasks = omega (arith, e, f);
      few_events = omega (arith, c, d);
      few_versions = few_in_all tree.items (each_fails has_many_versions tree.items checked.1.1.1.1.0);
    }
