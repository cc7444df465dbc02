-- The bodies of the program of a source that meets the conditions work.
use Rattle.std.proofs.Common.{◌≡◌, ℕ, ◌+◌, ◌≤◌, Bool, true, false, List, [], ◌∷◌, ◌++◌, length, refl, ap, sym, ◌∙◌, subst, arith}
use Rattle.std.specs.Prelude.{map, ◌||◌, nat_lt, sum_by}
use Rattle.std.specs.List.{list_any}
use Rattle.std.proofs.lemmas.Bool.{ltb-false}
use Rattle.std.proofs.lemmas.List.{map-append, length-map}
use Rattle.cn_base.specs.declared.tree.Item.{Item}
use Rattle.cn_base.specs.declared.tree.Item.TheVariants as item
use Rattle.cn_base.specs.declared.tree.Stmt.{Stmt as SourceStmt}
use Rattle.cn_base.specs.declared.tree.Tree.{Tree}
use Rattle.cn_base.specs.Nests.{most, block_nest, item_nest, items_nest}
use Rattle.cat_program.specs.declared.syntax.Stmt.{Stmt}
use Rattle.cat_program.specs.Body.{Body, tree_of}
use Rattle.cat_program.specs.Places.{body_size, tasks_size, versions_size, events_size}
use Rattle.cat_program.specs.Checked.{Checked, bodies_of, versions_of, depth_of, most_steps, EachShallow, EachEventShallow, EachTaskWorks, EachVersionWorks, EachEventWorks}
use Rattle.cat_conditions.specs.Plain.{block_of}
use Rattle.cat_conditions.specs.Pieces.{an_item, block_pieces, versions_pieces, item_pieces, items_pieces, pieces}
use Rattle.cat_conditions.specs.Local.{is_out_of_range, is_event_loop, is_task_turns, is_task_payload}
use Rattle.cat_conditions.specs.Names.{Sorts, declarations, sort_of}
use Rattle.cat_conditions.specs.Types.{has_wrong_type}
use Rattle.cat_conditions.specs.Counts.{block_size, block_run, version_run, needs_too_many, runs_too_long, task_size, event_size}
use Rattle.cat_conditions.specs.Counts as counts
use Rattle.cat_conditions.specs.Conditions.{MeetsConditions}
use Rattle.cat_resolve.specs.Names.{Meanings, names_of}
use Rattle.cat_resolve.specs.Form.{commands}
use Rattle.cat_resolve.specs.Header.{word_count, task_count}
use Rattle.cat_resolve.specs.Blocks.{block_blocks, block_number}
use Rattle.cat_resolve.specs.Content.{versions_blocks, versions_numbers, item_blocks, blocks_from, item_bodies, bodies_from, item_versions, versions_from}
use Rattle.cat_resolve.specs.Program.{IsProgramOf}
use Rattle.cat_resolve.proofs.Small.{one_item, of_task_size, of_event_size, short}
use Rattle.cat_resolve.proofs.Counted.{words_length, bodies_length}
use Rattle.cat_resolve.proofs.Fine.{IsFine, AllFine, parts_fine, all_pass, all_fine}
use Rattle.cat_resolve.proofs.BlocksAt.{StandAt, all_stand, first_at, second_at}
use Rattle.cat_resolve.proofs.Standing.{Stands}
use Rattle.cat_resolve.proofs.TreesStand.{first_fits, rest_fits, tree_stands}
use Rattle.cat_resolve.proofs.StandingCounts.{block_depth, size_stands, steps_stand, depth_stands, BlocksAreAsDeep}
use Rattle.cat_resolve.proofs.BodiesWork.{Knows, task_works, event_works}
use Rattle.cat_resolve.proofs.KnownNames.{names_known}

pub record BodiesWork (p : Checked) : Type 0 where
  pub tasks_shallow : EachShallow (bodies_of p)
  pub events_shallow : EachEventShallow (versions_of p)
  pub tasks_work : EachTaskWorks (length p.words) (length p.tasks) (bodies_of p)
  pub events_work : EachEventWorks (length p.words) (length p.tasks) (versions_of p)
  pub short : tasks_size (bodies_of p) + events_size (versions_of p) ≤ 60000

-- ---- of some items

record TasksStand (words tasks : ℕ) (bodies : List Body) (size : ℕ) : Type 0 where
  pub shallow : EachShallow bodies
  pub work : EachTaskWorks words tasks bodies
  pub sized : tasks_size bodies ≡ size

record VersionsStand (words tasks : ℕ) (bodies : List Body) (size : ℕ) : Type 0 where
  pub shallow : EachShallow bodies
  pub work : EachVersionWorks words tasks bodies
  pub sized : versions_size bodies ≡ size

record EventsStand (words tasks : ℕ) (events : List (List Body)) (size : ℕ) : Type 0 where
  pub shallow : EachEventShallow events
  pub work : EachEventWorks words tasks events
  pub sized : events_size events ≡ size

neither : (a b : Bool) → (a || b) ≡ false → (a ≡ false) × (b ≡ false)
neither false b h = (refl, h)
neither true b h = absurd (cc)

run_short : (v : List SourceStmt) → nat_lt 1000000 (version_run v) ≡ false → version_run v ≤ 1000000
run_short v h = ltb-false 1000000 (version_run v) h

abbrev trees : List (List Stmt) → List ℕ → List Body
trees blocks = map (tree_of blocks)

abbrev all_trees : List (List Stmt) → List (List ℕ) → List (List Body)
all_trees blocks = map (trees blocks)

module _ (sorts : Sorts) (names : Meanings) (words tasks : ℕ) (known : Knows sorts names words tasks) (blocks : List (List Stmt)) (as_deep : BlocksAreAsDeep) where
  item_tasks_stand : (n : ℕ) (i : Item) (bodies : List Body) (size : ℕ) → n + length (item_blocks names n i) ≤ length blocks → StandAt (commands blocks) n (item_blocks names n i)
      → AllFine sorts (item_pieces i) → item_nest i ≤ 32 → TasksStand words tasks bodies size
      → TasksStand words tasks (trees blocks (item_bodies names n i) ++ bodies) (task_size (an_item i) + size)
  item_tasks_stand n (item.Task x body) bodies size le at h deep later =
      let tree = tree_of blocks (block_number names n (block_of body)) in
      let here : Stands names (block_of body) tree = tree_stands names blocks (block_of body) n le at in
      let depth : depth_of tree ≤ block_depth (block_of body) = depth_stands names here in
      let nested : block_depth (block_of body) ≡ block_nest body = as_deep body in
      let sized : body_size tree ≡ block_size (block_of body) = size_stands names here in
      let later_sized : tasks_size bodies ≡ size = later.sized in
      let shallow : depth_of tree ≤ 32 = omega (arith, depth, nested, deep) in
      record {
        shallow = (shallow, later.shallow);
        work = (task_works sorts names words tasks known here h, later.work);
        sized = omega (arith, sized, later_sized);
      }
  item_tasks_stand n (item.Int x m k) bodies size le at h deep later = record { shallow = later.shallow; work = later.work; sized = omega (arith, later.sized) }
  item_tasks_stand n (item.Bool x b) bodies size le at h deep later = record { shallow = later.shallow; work = later.work; sized = omega (arith, later.sized) }
  item_tasks_stand n (item.Array x k) bodies size le at h deep later = record { shallow = later.shallow; work = later.work; sized = omega (arith, later.sized) }
  item_tasks_stand n (item.Event x t d vs) bodies size le at h deep later = record { shallow = later.shallow; work = later.work; sized = omega (arith, later.sized) }
  item_tasks_stand n (item.Degrade xs) bodies size le at h deep later = record { shallow = later.shallow; work = later.work; sized = omega (arith, later.sized) }
  item_tasks_stand n (item.Start x) bodies size le at h deep later = record { shallow = later.shallow; work = later.work; sized = omega (arith, later.sized) }

  tasks_stand : (n : ℕ) (items : List Item) → n + length (blocks_from names n items) ≤ length blocks → StandAt (commands blocks) n (blocks_from names n items)
      → AllFine sorts (items_pieces items) → items_nest items ≤ 32
      → TasksStand words tasks (trees blocks (bodies_from names n items)) (sum_by task_size (items_pieces items))
  tasks_stand n [] le at h deep = record { shallow = tt; work = tt; sized = refl }
  tasks_stand n (i ∷ items) le at h deep =
      let one = item_blocks names n i in
      let next = n + length one in
      let more = blocks_from names next items in
      let parts = parts_fine sorts (item_pieces i) (items_pieces items) h.1 in
      let bodies = trees blocks (bodies_from names next items) in
      let size = sum_by task_size (items_pieces items) in
      let later : TasksStand words tasks bodies size =
      tasks_stand next items (rest_fits n (length blocks) one more le) (second_at (commands blocks) n one more at) parts.1 (omega (arith, deep)) in
      let here : TasksStand words tasks (trees blocks (item_bodies names n i) ++ bodies) (task_size (an_item i) + size) =
      item_tasks_stand n i bodies size (first_fits n (length blocks) one more le) (first_at (commands blocks) n one more at) parts.0 (omega (arith, deep)) later in
      subst (TasksStand words tasks (trees blocks (bodies_from names n (i ∷ items)))) (sym (one_item task_size of_task_size i items))
      (subst (λ l. TasksStand words tasks l (task_size (an_item i) + size)) (sym (map-append (tree_of blocks) (item_bodies names n i) (bodies_from names next items))) here)

  versions_stand : (n : ℕ) (vs : List (List SourceStmt)) → n + length (versions_blocks names n vs) ≤ length blocks → StandAt (commands blocks) n (versions_blocks names n vs)
      → AllFine sorts (versions_pieces vs) → list_any (λ v. nat_lt 1000000 (version_run v)) vs ≡ false → most (map block_nest vs) ≤ 32
      → VersionsStand words tasks (trees blocks (versions_numbers names n vs)) (counts.versions_size vs)
  versions_stand n [] le at h runs deep = record { shallow = tt; work = tt; sized = refl }
  versions_stand n (v ∷ vs) le at h runs deep =
      let one = block_blocks names n (block_of v) in
      let next = n + length one in
      let more = versions_blocks names next vs in
      let parts = parts_fine sorts (block_pieces true 32 (block_of v)) (versions_pieces vs) h in
      let each = neither (nat_lt 1000000 (version_run v)) (list_any (λ u. nat_lt 1000000 (version_run u)) vs) runs in
      let later : VersionsStand words tasks (trees blocks (versions_numbers names next vs)) (counts.versions_size vs) =
      versions_stand next vs (rest_fits n (length blocks) one more le) (second_at (commands blocks) n one more at) parts.1 each.1 (omega (arith, deep)) in
      let tree = tree_of blocks (block_number names n (block_of v)) in
      let here : Stands names (block_of v) tree =
      tree_stands names blocks (block_of v) n (first_fits n (length blocks) one more le) (first_at (commands blocks) n one more at) in
      let depth : depth_of tree ≤ block_depth (block_of v) = depth_stands names here in
      let nested : block_depth (block_of v) ≡ block_nest v = as_deep v in
      let shallow : depth_of tree ≤ 32 = omega (arith, depth, nested, deep) in
      let steps : most_steps tree ≤ block_run (block_of v) = steps_stand names here in
      let run : block_run (block_of v) + 1 ≤ 1000000 = run_short v each.0 in
      let sized : body_size tree ≡ block_size (block_of v) = size_stands names here in
      let later_sized : versions_size (trees blocks (versions_numbers names next vs)) ≡ counts.versions_size vs = later.sized in
      record {
        shallow = (shallow, later.shallow);
        work = (record { works = event_works sorts names words tasks known here 0 32 (omega arith) parts.0; short = omega (arith, steps, run) }, later.work);
        sized = omega (arith, sized, later_sized);
      }

  item_events_stand : (n : ℕ) (i : Item) (events : List (List Body)) (size : ℕ) → n + length (item_blocks names n i) ≤ length blocks → StandAt (commands blocks) n (item_blocks names n i)
      → IsFine sorts (an_item i) → AllFine sorts (item_pieces i) → item_nest i ≤ 32 → EventsStand words tasks events size
      → EventsStand words tasks (all_trees blocks (item_versions names n i) ++ events) (event_size (an_item i) + size)
  item_events_stand n (item.Event x t d vs) events size le at f h deep later =
      let here : VersionsStand words tasks (trees blocks (versions_numbers names n vs)) (counts.versions_size vs) = versions_stand n vs le at h f.short deep in
      let sized : versions_size (trees blocks (versions_numbers names n vs)) ≡ counts.versions_size vs = here.sized in
      let later_sized : events_size events ≡ size = later.sized in
      record { shallow = (here.shallow, later.shallow); work = (here.work, later.work); sized = omega (arith, sized, later_sized) }
  item_events_stand n (item.Task x body) events size le at f h deep later = record { shallow = later.shallow; work = later.work; sized = omega (arith, later.sized) }
  item_events_stand n (item.Int x m k) events size le at f h deep later = record { shallow = later.shallow; work = later.work; sized = omega (arith, later.sized) }
  item_events_stand n (item.Bool x b) events size le at f h deep later = record { shallow = later.shallow; work = later.work; sized = omega (arith, later.sized) }
  item_events_stand n (item.Array x k) events size le at f h deep later = record { shallow = later.shallow; work = later.work; sized = omega (arith, later.sized) }
  item_events_stand n (item.Degrade xs) events size le at f h deep later = record { shallow = later.shallow; work = later.work; sized = omega (arith, later.sized) }
  item_events_stand n (item.Start x) events size le at f h deep later = record { shallow = later.shallow; work = later.work; sized = omega (arith, later.sized) }

  events_stand : (n : ℕ) (items : List Item) → n + length (blocks_from names n items) ≤ length blocks → StandAt (commands blocks) n (blocks_from names n items)
      → AllFine sorts (items_pieces items) → items_nest items ≤ 32
      → EventsStand words tasks (all_trees blocks (versions_from names n items)) (sum_by event_size (items_pieces items))
  events_stand n [] le at h deep = record { shallow = tt; work = tt; sized = refl }
  events_stand n (i ∷ items) le at h deep =
      let one = item_blocks names n i in
      let next = n + length one in
      let more = blocks_from names next items in
      let parts = parts_fine sorts (item_pieces i) (items_pieces items) h.1 in
      let events = all_trees blocks (versions_from names next items) in
      let size = sum_by event_size (items_pieces items) in
      let later : EventsStand words tasks events size =
      events_stand next items (rest_fits n (length blocks) one more le) (second_at (commands blocks) n one more at) parts.1 (omega (arith, deep)) in
      let here : EventsStand words tasks (all_trees blocks (item_versions names n i) ++ events) (event_size (an_item i) + size) =
      item_events_stand n i events size (first_fits n (length blocks) one more le) (first_at (commands blocks) n one more at) h.0 parts.0 (omega (arith, deep)) later in
      subst (EventsStand words tasks (all_trees blocks (versions_from names n (i ∷ items)))) (sym (one_item event_size of_event_size i items))
      (subst (λ l. EventsStand words tasks l (event_size (an_item i) + size)) (sym (map-append (trees blocks) (item_versions names n i) (versions_from names next items))) here)

-- ---- of a whole source

fine_pieces : (tree : Tree) → MeetsConditions tree → AllFine (sort_of (declarations (pieces tree))) (pieces tree)
fine_pieces tree checked =
    let ps = pieces tree in
    let sorts = sort_of (declarations ps) in
    all_fine sorts ps (all_pass is_out_of_range ps checked.0) (all_pass (has_wrong_type sorts) ps checked.1.1.1.1.1.1.1.0)
    (all_pass is_event_loop ps checked.1.1.1.1.1.1.1.1.0) (all_pass is_task_turns ps checked.1.1.1.1.1.1.1.1.1.0)
    (all_pass is_task_payload ps checked.1.1.1.1.1.1.1.1.1.1.0) (all_pass needs_too_many ps checked.1.1.1.1.1.1.1.1.1.1.1.1.1.0)
    (all_pass runs_too_long ps checked.1.1.1.1.1.1.1.1.1.1.1.1.1.1.0)

pub bodies_work : BlocksAreAsDeep → (tree : Tree) (p : Checked) → MeetsConditions tree → IsProgramOf tree p → BodiesWork p
bodies_work as_deep tree p checked of =
    let ps = pieces tree in
    let sorts = sort_of (declarations ps) in
    let names = names_of tree.items in
    let blocks = p.blocks in
    let fine : AllFine sorts ps = fine_pieces tree checked in
    let words : length p.words ≡ word_count tree.items = ap length of.words ∙ words_length tree.items in
    let tasks : length p.tasks ≡ task_count tree.items = ap length of.tasks ∙ bodies_length names 0 tree.items in
    let known : Knows sorts names (length p.words) (length p.tasks) =
    subst (λ w. Knows sorts names w (length p.tasks)) (sym words) (subst (Knows sorts names (word_count tree.items)) (sym tasks) (names_known tree checked)) in
    let whole : StandAt (commands blocks) 0 (blocks_from names 0 tree.items) = subst (StandAt (commands blocks) 0) of.blocks (all_stand (commands blocks)) in
    let count : length (blocks_from names 0 tree.items) ≡ length blocks = sym (ap length of.blocks) ∙ length-map blocks _ in
    let fits : 0 + length (blocks_from names 0 tree.items) ≤ length blocks = omega (arith, count) in
    let t : TasksStand (length p.words) (length p.tasks) (bodies_of p) (sum_by task_size ps) =
    subst (λ ns. TasksStand (length p.words) (length p.tasks) (trees blocks ns) (sum_by task_size ps)) (sym of.tasks)
    (tasks_stand sorts names (length p.words) (length p.tasks) known blocks as_deep 0 tree.items fits whole fine tree.shallow) in
    let e : EventsStand (length p.words) (length p.tasks) (versions_of p) (sum_by event_size ps) =
    subst (λ ns. EventsStand (length p.words) (length p.tasks) (all_trees blocks ns) (sum_by event_size ps)) (sym of.events)
    (events_stand sorts names (length p.words) (length p.tasks) known blocks as_deep 0 tree.items fits whole fine tree.shallow) in
    let few : sum_by task_size ps + sum_by event_size ps ≤ 60000 = short ps checked.1.1.1.1.1.1.1.1.1.1.1.1.1.1.1.0 in
    let one : tasks_size (bodies_of p) ≡ sum_by task_size ps = t.sized in
    let other : events_size (versions_of p) ≡ sum_by event_size ps = e.sized in
    record { tasks_shallow = t.shallow; events_shallow = e.shallow; tasks_work = t.work; events_work = e.work; short = omega (arith, few, one, other) }
