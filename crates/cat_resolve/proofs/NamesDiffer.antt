-- No two variables, tasks or events of a source that meets the conditions have one name.
use Rattle.std.proofs.Common.{◌≡◌, ℕ, ◌+◌, false, List, [], ◌∷◌, ◌++◌, None, sym, subst, append_assoc}
use Rattle.std.specs.Prelude.{map, bytes_eq}
use Rattle.std.specs.List.{AllByRecursion, IsDistinct, cons_option}
use Rattle.cn_base.specs.declared.tree.Item.{Item}
use Rattle.cn_base.specs.declared.tree.Item.TheVariants as item
use Rattle.cn_base.specs.declared.tree.Tree.{Tree}
use Rattle.cat_program.specs.declared.headers.Variable.{Variable}
use Rattle.cat_program.specs.declared.headers.Event.{Event}
use Rattle.cat_program.specs.Checked.{Checked, all_names}
use Rattle.cat_conditions.specs.declared.sort.Sort.TheVariants as sort
use Rattle.cat_conditions.specs.Pieces.{items_pieces}
use Rattle.cat_conditions.specs.Names.{Name, Declared, item_declaration, declaration, declarations, sort_of}
use Rattle.cat_conditions.specs.Conditions.{MeetsConditions}
use Rattle.cat_resolve.specs.Header.{variables_in, tasks_in, events_in}
use Rattle.cat_resolve.specs.Program.{IsProgramOf}
use Rattle.cat_resolve.proofs.ByItem.{filter_item}
use Rattle.cat_resolve.proofs.Sorts.{declaration_alone, other_name}
use Rattle.cat_resolve.proofs.Differing.{Apart, apart, not_first}

-- ---- lists of names

-- none of these is this name
abbrev IsNone : Name → List Name → Type 0
IsNone x xs = AllByRecursion (λ y. bytes_eq x y ≡ false) xs

none_in_both : (x : Name) (xs ys : List Name) → IsNone x xs → IsNone x ys → IsNone x (xs ++ ys)
none_in_both x [] ys h k = k
none_in_both x (y ∷ xs) ys h k = (h.0, none_in_both x xs ys h.1 k)

none_with : (x y : Name) (xs ys : List Name) → bytes_eq x y ≡ false → IsNone x (xs ++ ys) → IsNone x (xs ++ y ∷ ys)
none_with x y [] ys e h = (e, h)
none_with x y (z ∷ xs) ys e h = (h.0, none_with x y xs ys e h.1)

first_differs : (y x : Name) (xs ys : List Name) → IsNone y ((x ∷ xs) ++ ys) → bytes_eq x y ≡ false
first_differs y x xs ys h = other_name y x h.0

-- one more name among others
distinct_with : (y : Name) (xs ys : List Name) → IsNone y (xs ++ ys) → IsDistinct bytes_eq (xs ++ ys) → IsDistinct bytes_eq (xs ++ y ∷ ys)
unfolding IsDistinct
distinct_with y [] ys h d = (h, d)
distinct_with y (x ∷ xs) ys h d = (none_with x y xs ys (first_differs y x xs ys h) d.0, distinct_with y xs ys h.1 d.1)

-- ---- the names of items

abbrev variable_names : ℕ → List Item → List Name
variable_names at items = map (λ (v : Variable). v.name) (variables_in at items)

abbrev event_names : List Item → List Name
event_names items = map (λ (e : Event). e.name) (events_in items)

abbrev names : ℕ → List Item → List Name
names at items = variable_names at items ++ tasks_in items ++ event_names items

-- none of the names of these items is this one
record Undeclared (x : Name) (at : ℕ) (items : List Item) : Type 0 where
  pub variables : IsNone x (variable_names at items)
  pub tasks : IsNone x (tasks_in items)
  pub events : IsNone x (event_names items)

item_undeclared : (x : Name) (at : ℕ) (i : Item) (items : List Item) → ((k : ℕ) → sort_of (declarations (items_pieces items)) x ≡ None → Undeclared x k items)
    → sort_of (cons_option (item_declaration i) (declarations (items_pieces items))) x ≡ None → Undeclared x at (i ∷ items)
item_undeclared x at (item.Int y minus n) items rest none =
    let other = not_first (bytes_eq x y) sort.Int (sort_of (declarations (items_pieces items)) x) none in
    let later = rest (at + 1) other.1 in
    record { variables = (other.0, later.variables); tasks = later.tasks; events = later.events }
item_undeclared x at (item.Bool y b) items rest none =
    let other = not_first (bytes_eq x y) sort.Bool (sort_of (declarations (items_pieces items)) x) none in
    let later = rest (at + 1) other.1 in
    record { variables = (other.0, later.variables); tasks = later.tasks; events = later.events }
item_undeclared x at (item.Array y n) items rest none =
    let other = not_first (bytes_eq x y) sort.Array (sort_of (declarations (items_pieces items)) x) none in
    let later = rest (at + n) other.1 in
    record { variables = (other.0, later.variables); tasks = later.tasks; events = later.events }
item_undeclared x at (item.Task y body) items rest none =
    let other = not_first (bytes_eq x y) sort.Task (sort_of (declarations (items_pieces items)) x) none in
    let later = rest (at + 0) other.1 in
    record { variables = later.variables; tasks = (other.0, later.tasks); events = later.events }
item_undeclared x at (item.Event y t d versions) items rest none =
    let other = not_first (bytes_eq x y) sort.Event (sort_of (declarations (items_pieces items)) x) none in
    let later = rest (at + 0) other.1 in
    record { variables = later.variables; tasks = later.tasks; events = (other.0, later.events) }
item_undeclared x at (item.Degrade xs) items rest none =
    let later = rest (at + 0) none in
    record { variables = later.variables; tasks = later.tasks; events = later.events }
item_undeclared x at (item.Start y) items rest none =
    let later = rest (at + 0) none in
    record { variables = later.variables; tasks = later.tasks; events = later.events }

undeclared : (x : Name) (items : List Item) (at : ℕ) → sort_of (declarations (items_pieces items)) x ≡ None → Undeclared x at items
undeclared x [] at none = record { variables = tt; tasks = tt; events = tt }
undeclared x (i ∷ items) at none =
    item_undeclared x at i items (undeclared x items) (subst (λ (ds : Declared). sort_of ds x ≡ None) (filter_item declaration declaration_alone i items) none)

is_new : (x : Name) (at : ℕ) (items : List Item) → sort_of (declarations (items_pieces items)) x ≡ None → IsNone x (names at items)
is_new x at items none =
    let each = undeclared x items at none in
    none_in_both x (variable_names at items ++ tasks_in items) (event_names items)
    (none_in_both x (variable_names at items) (tasks_in items) each.variables each.tasks) each.events

differ : (items : List Item) (at : ℕ) → Apart items → IsDistinct bytes_eq (names at items)
unfolding IsDistinct
differ [] at h = tt
differ (item.Int y minus n ∷ items) at h = distinct_with y [] (names (at + 1) items) (is_new y (at + 1) items h.0) (differ items (at + 1) h.1)
differ (item.Bool y b ∷ items) at h = distinct_with y [] (names (at + 1) items) (is_new y (at + 1) items h.0) (differ items (at + 1) h.1)
differ (item.Array y n ∷ items) at h = distinct_with y [] (names (at + n) items) (is_new y (at + n) items h.0) (differ items (at + n) h.1)
differ (item.Task y body ∷ items) at h =
    let before = variable_names (at + 0) items in
    let tasks = tasks_in items in
    let events = event_names items in
    subst (IsDistinct bytes_eq) (sym (append_assoc before (y ∷ tasks) events))
    (distinct_with y before (tasks ++ events)
    (subst (IsNone y) (append_assoc before tasks events) (is_new y (at + 0) items h.0))
    (subst (IsDistinct bytes_eq) (append_assoc before tasks events) (differ items (at + 0) h.1)))
differ (item.Event y t d versions ∷ items) at h =
    distinct_with y (variable_names (at + 0) items ++ tasks_in items) (event_names items) (is_new y (at + 0) items h.0) (differ items (at + 0) h.1)
differ (item.Degrade xs ∷ items) at h = differ items (at + 0) h.1
differ (item.Start y ∷ items) at h = differ items (at + 0) h.1

pub names_differ : (tree : Tree) (p : Checked) → MeetsConditions tree → IsProgramOf tree p → IsDistinct bytes_eq (all_names p)
names_differ tree p checked of =
    subst (λ (vs : List Variable). IsDistinct bytes_eq (map (λ (v : Variable). v.name) vs ++ p.names ++ map (λ (e : Event). e.name) p.headers)) (sym of.variables)
    (subst (λ (ns : List Name). IsDistinct bytes_eq (variable_names 0 tree.items ++ ns ++ map (λ (e : Event). e.name) p.headers)) (sym of.names)
    (subst (λ (hs : List Event). IsDistinct bytes_eq (variable_names 0 tree.items ++ tasks_in tree.items ++ map (λ (e : Event). e.name) hs)) (sym of.headers)
    (differ tree.items 0 (apart tree.items checked.1.1.1.1.1.0))))
