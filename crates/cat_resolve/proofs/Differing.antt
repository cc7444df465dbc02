-- Where names differ, no item declares a name of an item before it. So an event has the versions that its name says.
use Rattle.std.proofs.Common.{◌≡◌, ℕ, suc, Bool, true, false, cond, is_some, List, [], ◌∷◌, ◌++◌, length, take, Option, Some, None, refl, ap, sym, ◌∙◌, subst, arith, ⊎_elim}
use Rattle.std.specs.Prelude.{bytes_eq, filter_map, slice_get, option_map, unwrap_or}
use Rattle.std.specs.List.{cons_option}
use Rattle.std.specs.Map.{lookup}
use Rattle.std.specs.Cmp.Lexicographic.{bytes_decides}
use Rattle.std.proofs.lemmas.Bool.{cases_Bool, cond-true, cond-false, false_from_ne_true}
use Rattle.cn_base.specs.declared.tree.Stmt.{Stmt}
use Rattle.cn_base.specs.declared.tree.Item.{Item}
use Rattle.cn_base.specs.declared.tree.Item.TheVariants as item
use Rattle.cat_conditions.specs.declared.sort.Sort.{Sort}
use Rattle.cat_conditions.specs.declared.sort.Sort.TheVariants as sort
use Rattle.cat_conditions.specs.Pieces.{Piece, an_item, a_statement, an_expression, item_pieces, items_pieces}
use Rattle.cat_conditions.specs.Offences.{At, NoneOf}
use Rattle.cat_conditions.specs.Names.{Name, Declared, item_declaration, declaration, declarations, sort_of, is_declared_before}
use Rattle.cat_conditions.specs.Counts.{versions_count}
use Rattle.cat_conditions.specs.Conditions.{DeclaresTwice}
use Rattle.cat_resolve.proofs.ByItem.{OfItemsAlone, filter_behind, filter_item}
use Rattle.cat_resolve.proofs.Sorts.{declaration_alone}

-- ---- a condition on the pieces holds of those behind the first

weaker : (f g : Piece → Bool) → ((p : Piece) → f p ≡ true → g p ≡ true) → (o : Option Piece) → unwrap_or (option_map f o) false ≡ true → unwrap_or (option_map g o) false ≡ true
weaker f g h None e = e
weaker f g h (Some p) e = h p e

some_still : (o : Option (Name × Sort)) (ds : Declared) (x : Name) → is_some (sort_of ds x) ≡ true → is_some (sort_of (cons_option o ds) x) ≡ true
some_still None ds x h = h
some_still (Some d) ds x h =
    ⊎_elim (λ same. ap is_some (cond-true (bytes_eq x d.0) (Some d.1) (sort_of ds x) same)) (λ other. ap is_some (cond-false (bytes_eq x d.0) (Some d.1) (sort_of ds x) other) ∙ h)
    (cases_Bool (bytes_eq x d.0))

declared_still : (o : Option (Name × Sort)) (ds : Declared) (own : Option (Name × Sort)) → is_declared_before ds own ≡ true → is_declared_before (cons_option o ds) own ≡ true
declared_still o ds None h = h
declared_still o ds (Some d) h = some_still o ds d.0 h

later : (p : Piece) (ps : List Piece) → NoneOf (length (p ∷ ps)) (DeclaresTwice (p ∷ ps)) → NoneOf (length ps) (DeclaresTwice ps)
later p ps h k in_list twice =
    h (suc k) (omega (arith, in_list))
    (weaker (λ q. is_declared_before (declarations (take k ps)) (declaration q)) (λ q. is_declared_before (declarations (take (suc k) (p ∷ ps))) (declaration q))
    (λ q. declared_still (declaration p) (declarations (take k ps)) (declaration q)) (slice_get ps k) twice)

later_all : (ps qs : List Piece) → NoneOf (length (ps ++ qs)) (DeclaresTwice (ps ++ qs)) → NoneOf (length qs) (DeclaresTwice qs)
later_all [] qs h = h
later_all (p ∷ ps) qs h = later_all ps qs (later p (ps ++ qs) h)

-- ---- no item declares a name of an item before it

-- where a name is declared before all of these, none of them declares it
own_name : (x : Name) (before : Declared) (own : Option (Name × Sort)) (others : Declared) → is_some (sort_of before x) ≡ true → ¬ (is_declared_before before own ≡ true)
    → sort_of others x ≡ None → sort_of (cons_option own others) x ≡ None
own_name x before None others some once rest = rest
own_name x before (Some d) others some once rest =
    let other : bytes_eq x d.0 ≡ false = false_from_ne_true (bytes_eq x d.0) (λ same. once (subst (λ y. is_some (sort_of before y) ≡ true) ((bytes_decides x d.0).0 same) some)) in
    cond-false (bytes_eq x d.0) (Some d.1) (sort_of others x) other ∙ rest

none_again : (x : Name) (ps : List Piece) (before : ℕ → Declared) → ((k : ℕ) → is_some (sort_of (before k) x) ≡ true)
    → NoneOf (length ps) (λ k. At (λ p. is_declared_before (before k) (declaration p)) ps k) → sort_of (declarations ps) x ≡ None
none_again x [] before some once = refl
none_again x (p ∷ ps) before some once =
    own_name x (before 0) (declaration p) (declarations ps) (some 0) (once 0 (omega arith))
    (none_again x ps (λ k. before (suc k)) (λ k. some (suc k)) (λ k in_list. once (suc k) (omega (arith, in_list))))

abbrev pub NotAmong : Option (Name × Sort) → Declared → Type 0
NotAmong None ds = Unit {0}
NotAmong (Some d) ds = sort_of ds d.0 ≡ None

abbrev pub Apart : List Item → Type 0
Apart [] = Unit {0}
Apart (i ∷ items) = NotAmong (item_declaration i) (declarations (items_pieces items)) × Apart items

is_first : (d : Name × Sort) (ds : Declared) → is_some (sort_of (d ∷ ds) d.0) ≡ true
is_first d ds = ap is_some (cond-true (bytes_eq d.0 d.0) (Some d.1) (sort_of ds d.0) ((bytes_decides d.0 d.0).1 refl))

own_apart : (own : Option (Name × Sort)) (ps : List Piece) → NoneOf (length ps) (λ k. At (λ p. is_declared_before (cons_option own (declarations (take k ps))) (declaration p)) ps k)
    → NotAmong own (declarations ps)
own_apart None ps once = tt
own_apart (Some d) ps once = none_again d.0 ps (λ k. d ∷ declarations (take k ps)) (λ k. is_first d (declarations (take k ps))) once

pub apart : (items : List Item) → NoneOf (length (items_pieces items)) (DeclaresTwice (items_pieces items)) → Apart items
apart [] once = tt
apart (i ∷ items) once =
    let behind = item_pieces i ++ items_pieces items in
    let own = own_apart (item_declaration i) behind (λ k in_list. once (suc k) (omega (arith, in_list))) in (
      subst (NotAmong (item_declaration i)) (filter_behind declaration declaration_alone i items) own,
      apart items (later_all (item_pieces i) (items_pieces items) (later (an_item i) behind once)),
    )

-- ---- the versions of an event by its name

pub versions_alone : OfItemsAlone versions_count
versions_alone (an_item i) h = absurd h
versions_alone (a_statement event room a) h = refl
versions_alone (an_expression event t) h = refl

-- the versions of the event of this name among these items
abbrev pub versions_among : List Item → Name → Option ℕ
versions_among items x = lookup (λ y. bytes_eq x y) (filter_map versions_count (items_pieces items))

pub not_first : (b : Bool) (s : Sort) (o : Option Sort) → cond b (Some s) o ≡ None → (b ≡ false) × (o ≡ None)
not_first true s o h = absurd cc
not_first false s o h = (refl, h)

item_undeclared : (x : Name) (i : Item) (ds : Declared) (vs : List (Name × ℕ)) → (sort_of ds x ≡ None → lookup (λ y. bytes_eq x y) vs ≡ None)
    → sort_of (cons_option (item_declaration i) ds) x ≡ None → lookup (λ y. bytes_eq x y) (cons_option (versions_count (an_item i)) vs) ≡ None
item_undeclared x (item.Int y minus n) ds vs rest none = rest (not_first (bytes_eq x y) sort.Int (sort_of ds x) none).1
item_undeclared x (item.Bool y b) ds vs rest none = rest (not_first (bytes_eq x y) sort.Bool (sort_of ds x) none).1
item_undeclared x (item.Array y n) ds vs rest none = rest (not_first (bytes_eq x y) sort.Array (sort_of ds x) none).1
item_undeclared x (item.Task y body) ds vs rest none = rest (not_first (bytes_eq x y) sort.Task (sort_of ds x) none).1
item_undeclared x (item.Event y t d versions) ds vs rest none =
    let other = not_first (bytes_eq x y) sort.Event (sort_of ds x) none in
    cond-false (bytes_eq x y) (Some (length versions)) (lookup (λ z. bytes_eq x z) vs) other.0 ∙ rest other.1
item_undeclared x (item.Degrade xs) ds vs rest none = rest none
item_undeclared x (item.Start y) ds vs rest none = rest none

-- what is declared nowhere has no versions
undeclared : (x : Name) (items : List Item) → sort_of (declarations (items_pieces items)) x ≡ None → versions_among items x ≡ None
undeclared x [] none = refl
undeclared x (i ∷ items) none =
    let before : sort_of (cons_option (item_declaration i) (declarations (items_pieces items))) x ≡ None =
    subst (λ (ds : Declared). sort_of ds x ≡ None) (filter_item declaration declaration_alone i items) none in
    ap (lookup (λ y. bytes_eq x y)) (filter_item versions_count versions_alone i items)
    ∙ item_undeclared x i (declarations (items_pieces items)) (filter_map versions_count (items_pieces items)) (undeclared x items) before

item_passed : (x : Name) (n : ℕ) (i : Item) (ds : Declared) (vs : List (Name × ℕ)) → NotAmong (item_declaration i) ds → (sort_of ds x ≡ None → lookup (λ y. bytes_eq x y) vs ≡ None)
    → lookup (λ y. bytes_eq x y) vs ≡ Some n → lookup (λ y. bytes_eq x y) (cons_option (versions_count (an_item i)) vs) ≡ Some n
item_passed x n (item.Int y minus k) ds vs apart none found = found
item_passed x n (item.Bool y b) ds vs apart none found = found
item_passed x n (item.Array y k) ds vs apart none found = found
item_passed x n (item.Task y body) ds vs apart none found = found
item_passed x n (item.Event y t d versions) ds vs apart none found =
    let impossible : bytes_eq x y ≡ true → ⊥ = λ same.
    let gone : lookup (λ z. bytes_eq x z) vs ≡ None = none (subst (λ z. sort_of ds z ≡ None) (sym ((bytes_decides x y).0 same)) apart) in
    cc in
    cond-false (bytes_eq x y) (Some (length versions)) (lookup (λ z. bytes_eq x z) vs) (false_from_ne_true (bytes_eq x y) impossible) ∙ found
item_passed x n (item.Degrade xs) ds vs apart none found = found
item_passed x n (item.Start y) ds vs apart none found = found

-- an item before the event of a name is another
pub passed : (x : Name) (n : ℕ) (i : Item) (items : List Item) → Apart (i ∷ items) → versions_among items x ≡ Some n → versions_among (i ∷ items) x ≡ Some n
passed x n i items apart found =
    ap (lookup (λ y. bytes_eq x y)) (filter_item versions_count versions_alone i items)
    ∙ item_passed x n i (declarations (items_pieces items)) (filter_map versions_count (items_pieces items)) apart.0 (undeclared x items) found

-- the event itself
pub at_event : (x : Name) (t : _) (d : ℕ) (versions : List (List Stmt)) (items : List Item) → versions_among (item.Event x t d versions ∷ items) x ≡ Some (length versions)
at_event x t d versions items =
    ap (lookup (λ y. bytes_eq x y)) (filter_item versions_count versions_alone (item.Event x t d versions) items)
    ∙ cond-true (bytes_eq x x) (Some (length versions)) (versions_among items x) ((bytes_decides x x).1 refl)
