-- The counts of a program's parts, and where its variables stand.
use Rattle.std.proofs.Common.{◌≡◌, ℕ, ◌+◌, ◌≤◌, List, [], ◌∷◌, ◌++◌, length, Option, Some, None, refl, ap, sym, ◌∙◌, arith, length-append}
use Rattle.std.specs.Prelude.{replicate}
use Rattle.std.proofs.lemmas.List.{length-replicate, length-set}
use Rattle.cn_base.specs.declared.tree.Item.{Item}
use Rattle.cn_base.specs.declared.tree.Item.TheVariants as item
use Rattle.cn_base.specs.declared.tree.Tree.{Tree}
use Rattle.cat_program.specs.Checked.{Checked}
use Rattle.cat_conditions.specs.Conditions.{MeetsConditions}
use Rattle.cat_resolve.specs.declared.names.Meaning.{Meaning}
use Rattle.cat_resolve.specs.declared.names.Meaning.TheVariants as meaning
use Rattle.cat_resolve.specs.Names.{Meanings, names_of, words_of, tasks_of, events_of}
use Rattle.cat_resolve.specs.Header.{item_words, words_in, item_tasks, tasks_in, word_count, task_count, event_count}
use Rattle.cat_resolve.specs.Content.{item_blocks, item_bodies, bodies_from, item_versions, versions_from, posted, item_started, started_from}
use Rattle.cat_resolve.specs.Program.{IsProgramOf}
use Rattle.cat_resolve.proofs.Small.{is_small}

item_words_length : (i : Item) → length (item_words i) ≡ words_of i
item_words_length (item.Int x m n) = refl
item_words_length (item.Bool x b) = refl
item_words_length (item.Array x n) = length-replicate n _
item_words_length (item.Task x body) = refl
item_words_length (item.Event x t d vs) = refl
item_words_length (item.Degrade xs) = refl
item_words_length (item.Start x) = refl

pub words_length : (items : List Item) → length (words_in items) ≡ word_count items
words_length [] = refl
words_length (i ∷ items) =
    let a : length (item_words i ++ words_in items) ≡ length (item_words i) + length (words_in items) = length-append (item_words i) (words_in items) in
    let b : length (item_words i) ≡ words_of i = item_words_length i in
    let c : length (words_in items) ≡ word_count items = words_length items in
    omega (arith, a, b, c)

item_tasks_length : (i : Item) → length (item_tasks i) ≡ tasks_of i
item_tasks_length (item.Int x m n) = refl
item_tasks_length (item.Bool x b) = refl
item_tasks_length (item.Array x n) = refl
item_tasks_length (item.Task x body) = refl
item_tasks_length (item.Event x t d vs) = refl
item_tasks_length (item.Degrade xs) = refl
item_tasks_length (item.Start x) = refl

tasks_length : (items : List Item) → length (tasks_in items) ≡ task_count items
tasks_length [] = refl
tasks_length (i ∷ items) =
    let a : length (item_tasks i ++ tasks_in items) ≡ length (item_tasks i) + length (tasks_in items) = length-append (item_tasks i) (tasks_in items) in
    let b : length (item_tasks i) ≡ tasks_of i = item_tasks_length i in
    let c : length (tasks_in items) ≡ task_count items = tasks_length items in
    omega (arith, a, b, c)

item_bodies_length : (names : Meanings) (n : ℕ) (i : Item) → length (item_bodies names n i) ≡ tasks_of i
item_bodies_length names k (item.Int x m n) = refl
item_bodies_length names k (item.Bool x b) = refl
item_bodies_length names k (item.Array x n) = refl
item_bodies_length names k (item.Task x body) = refl
item_bodies_length names k (item.Event x t d vs) = refl
item_bodies_length names k (item.Degrade xs) = refl
item_bodies_length names k (item.Start x) = refl

pub bodies_length : (names : Meanings) (n : ℕ) (items : List Item) → length (bodies_from names n items) ≡ task_count items
bodies_length names n [] = refl
bodies_length names n (i ∷ items) =
    let more = bodies_from names (n + length (item_blocks names n i)) items in
    let a : length (item_bodies names n i ++ more) ≡ length (item_bodies names n i) + length more = length-append (item_bodies names n i) more in
    let b : length (item_bodies names n i) ≡ tasks_of i = item_bodies_length names n i in
    let c : length more ≡ task_count items = bodies_length names (n + length (item_blocks names n i)) items in
    omega (arith, a, b, c)

item_versions_length : (names : Meanings) (n : ℕ) (i : Item) → length (item_versions names n i) ≡ events_of i
item_versions_length names k (item.Int x m n) = refl
item_versions_length names k (item.Bool x b) = refl
item_versions_length names k (item.Array x n) = refl
item_versions_length names k (item.Task x body) = refl
item_versions_length names k (item.Event x t d vs) = refl
item_versions_length names k (item.Degrade xs) = refl
item_versions_length names k (item.Start x) = refl

pub versions_length : (names : Meanings) (n : ℕ) (items : List Item) → length (versions_from names n items) ≡ event_count items
versions_length names n [] = refl
versions_length names n (i ∷ items) =
    let more = versions_from names (n + length (item_blocks names n i)) items in
    let a : length (item_versions names n i ++ more) ≡ length (item_versions names n i) + length more = length-append (item_versions names n i) more in
    let b : length (item_versions names n i) ≡ events_of i = item_versions_length names n i in
    let c : length more ≡ event_count items = versions_length names (n + length (item_blocks names n i)) items in
    omega (arith, a, b, c)

-- the counts that a checked program has
pub record HasCounts (p : Checked) : Type 0 where
  pub few_words : length p.words ≤ 1024
  pub named : length p.names ≡ length p.tasks
  pub few_tasks : length p.tasks ≤ 16
  pub few_events : length p.events ≤ 16

pub has_counts : (tree : Tree) (p : Checked) → MeetsConditions tree → IsProgramOf tree p → HasCounts p
has_counts tree p checked of =
    let small = is_small tree checked in
    let w : length p.words ≡ word_count tree.items = ap length of.words ∙ words_length tree.items in
    let n : length p.names ≡ task_count tree.items = ap length of.names ∙ tasks_length tree.items in
    let t : length p.tasks ≡ task_count tree.items = ap length of.tasks ∙ bodies_length (names_of tree.items) 0 tree.items in
    let e : length p.events ≡ event_count tree.items = ap length of.events ∙ versions_length (names_of tree.items) 0 tree.items in
    record {
      few_words = omega (arith, w, small.few_words);
      named = n ∙ sym t;
      few_tasks = omega (arith, t, small.few_tasks);
      few_events = omega (arith, e, small.few_events);
    }

posted_length : (m : Option Meaning) (posts : List ℕ) → length (posted m posts) ≡ length posts
posted_length None posts = refl
posted_length (Some (meaning.Word w)) posts = refl
posted_length (Some (meaning.Array base len)) posts = refl
posted_length (Some (meaning.Event e)) posts = refl
posted_length (Some (meaning.Task t)) posts = length-set posts t _

item_started_length : (names : Meanings) (i : Item) (posts : List ℕ) → length (item_started names i posts) ≡ length posts
item_started_length names (item.Int x m n) posts = refl
item_started_length names (item.Bool x b) posts = refl
item_started_length names (item.Array x n) posts = refl
item_started_length names (item.Task x body) posts = refl
item_started_length names (item.Event x t d vs) posts = refl
item_started_length names (item.Degrade xs) posts = refl
item_started_length names (item.Start x) posts = posted_length (names x) posts

started_length : (names : Meanings) (items : List Item) (posts : List ℕ) → length (started_from names items posts) ≡ length posts
started_length names [] posts = refl
started_length names (i ∷ items) posts = started_length names items (item_started names i posts) ∙ item_started_length names i posts

-- each task has a count of first posts
pub started_of_each : (tree : Tree) (p : Checked) → IsProgramOf tree p → length p.started ≡ length p.tasks
started_of_each tree p of =
    let n : length p.names ≡ task_count tree.items = ap length of.names ∙ tasks_length tree.items in
    let t : length p.tasks ≡ task_count tree.items = ap length of.tasks ∙ bodies_length (names_of tree.items) 0 tree.items in
    ap length of.started ∙ started_length (names_of tree.items) tree.items (replicate (length p.names) 0) ∙ length-replicate (length p.names) 0 ∙ n ∙ sym t
