-- What names are declared as, and which pieces use them.
use Rattle.std.specs.Prelude.{ℕ, Bool, false, not, is_some, bytes_eq, List, [], ◌∷◌, Option, Some, None, filter_map}
use Rattle.std.specs.List.{list_any}
use Rattle.std.specs.Map.{lookup}
use Rattle.cn_base.specs.declared.tree.Item.{Item}
use Rattle.cn_base.specs.declared.tree.Item.TheVariants as item
use Rattle.cat_conditions.specs.declared.sort.Sort.{Sort}
use Rattle.cat_conditions.specs.declared.sort.Sort.TheVariants as sort
use Rattle.cat_conditions.specs.Plain.{Term, variable, element, Action, set, set_at, post}
use Rattle.cat_conditions.specs.Pieces.{Piece, an_item, a_statement, an_expression}

abbrev pub Name : Type 0
Name = List ℕ

abbrev pub item_declaration : Item → Option (Name × Sort)
item_declaration (item.Int x minus n) = Some (x, sort.Int)
item_declaration (item.Bool x b) = Some (x, sort.Bool)
item_declaration (item.Array x len) = Some (x, sort.Array)
item_declaration (item.Task x body) = Some (x, sort.Task)
item_declaration (item.Event x timing deadline versions) = Some (x, sort.Event)
item_declaration _ = None

-- the name that a piece declares, and as what
abbrev pub declaration : Piece → Option (Name × Sort)
declaration (an_item i) = item_declaration i
declaration _ = None

abbrev pub Declared : Type 0
Declared = List (Name × Sort)

abbrev pub declarations : List Piece → Declared
declarations = filter_map declaration

-- as what each name is declared
abbrev pub Sorts : Type 0
Sorts = Name → Option Sort

abbrev pub sort_of : Declared → Name → Option Sort
sort_of declared x = lookup (λ y. bytes_eq x y) declared

-- whether a name that the piece declares is declared before already
abbrev pub is_declared_before : Declared → Option (Name × Sort) → Bool
is_declared_before declared None = false
is_declared_before declared (Some d) = is_some (sort_of declared d.0)

abbrev pub item_names : Item → List Name
item_names (item.Degrade names) = names
item_names (item.Start x) = x ∷ []
item_names _ = []

abbrev pub action_names : Action → List Name
action_names (set x value) = x ∷ []
action_names (set_at x index value) = x ∷ []
action_names (post x) = x ∷ []
action_names _ = []

abbrev pub term_names : Term → List Name
term_names (variable x) = x ∷ []
term_names (element x index) = x ∷ []
term_names _ = []

-- the names that stand in a piece and in no inner one, where they are used
abbrev pub used_names : Piece → List Name
used_names (an_item i) = item_names i
used_names (a_statement event room a) = action_names a
used_names (an_expression event t) = term_names t

abbrev pub has_unknown_name : Sorts → Piece → Bool
has_unknown_name sorts p = list_any (λ x. not (is_some (sorts x))) (used_names p)
