-- What a name is declared as says what it stands for.
use Rattle.std.proofs.Common.{◌≡◌, ℕ, ◌+◌, ◌<◌, ◌≤◌, true, false, cond, List, [], ◌∷◌, Option, Some, None, refl, sym, subst, arith, ⊎_elim}
use Rattle.std.specs.Prelude.{not, nat_le, bytes_eq}
use Rattle.std.specs.List.{cons_option}
use Rattle.std.specs.Cmp.Lexicographic.{bytes_decides}
use Rattle.std.proofs.lemmas.Bool.{cases_Bool, cond-true, cond-false, both_ways, false_from_ne_true, not-false, and_parts, leb-true}
use Rattle.cn_base.specs.declared.tree.Item.{Item}
use Rattle.cn_base.specs.declared.tree.Item.TheVariants as item
use Rattle.cn_base.specs.declared.tree.Tree.{Tree}
use Rattle.cat_conditions.specs.declared.sort.Sort.{Sort}
use Rattle.cat_conditions.specs.declared.sort.Sort.TheVariants as sort
use Rattle.cat_conditions.specs.Pieces.{an_item, a_statement, an_expression, items_pieces, pieces}
use Rattle.cat_conditions.specs.Local.{is_within, is_out_of_range}
use Rattle.cat_conditions.specs.Names.{Name, Declared, item_declaration, declaration, declarations, sort_of}
use Rattle.cat_conditions.specs.Conditions.{MeetsConditions}
use Rattle.cat_resolve.specs.declared.names.Meaning.{Meaning}
use Rattle.cat_resolve.specs.declared.names.Meaning.TheVariants as meaning
use Rattle.cat_resolve.specs.Names.{first_of, of_name, words_of, tasks_of, events_of, declared_by, names_from, names_of}
use Rattle.cat_resolve.specs.Header.{word_count, task_count, event_count}
use Rattle.cat_resolve.proofs.ByItem.{OfItemsAlone, filter_item, EachFails, each_fails}

-- ---- tests of names and numbers

pub same_name : (x y : Name) → bytes_eq x y ≡ true → bytes_eq y x ≡ true
same_name x y h = (bytes_decides y x).1 (sym ((bytes_decides x y).0 h))

pub other_name : (x y : Name) → bytes_eq x y ≡ false → bytes_eq y x ≡ false
other_name x y h = false_from_ne_true (bytes_eq y x) (λ e. both_ways (bytes_eq x y) h (same_name y x e))

pub in_range : (low high n : ℕ) → not (is_within low high n) ≡ false → (low ≤ n) × (n ≤ high)
in_range low high n h =
    let both = and_parts (nat_le low n) (nat_le n high) (not-false (is_within low high n) h) in
    (leb-true low n both.0, leb-true n high both.1)

-- ---- what a name of each sort stands for, where there are so many words, tasks and events

abbrev pub IsWord : ℕ → Option Meaning → Type 0
IsWord words m = (w : ℕ) × (m ≡ Some (meaning.Word w)) × (w < words)

abbrev pub IsArray : ℕ → Option Meaning → Type 0
IsArray words m = (base : ℕ) × (len : ℕ) × (m ≡ Some (meaning.Array base len)) × (0 < len) × (base + len ≤ words)

abbrev pub IsTask : ℕ → Option Meaning → Type 0
IsTask tasks m = (t : ℕ) × (m ≡ Some (meaning.Task t)) × (t < tasks)

abbrev pub IsEvent : ℕ → Option Meaning → Type 0
IsEvent events m = (e : ℕ) × (m ≡ Some (meaning.Event e)) × (e < events)

abbrev pub StandsFor : ℕ → ℕ → ℕ → Option Sort → Option Meaning → Type 0
StandsFor words tasks events None m = m ≡ None
StandsFor words tasks events (Some sort.Int) m = IsWord words m
StandsFor words tasks events (Some sort.Bool) m = IsWord words m
StandsFor words tasks events (Some sort.Array) m = IsArray words m
StandsFor words tasks events (Some sort.Task) m = IsTask tasks m
StandsFor words tasks events (Some sort.Event) m = IsEvent events m

-- one declaration before others
named : (words tasks events : ℕ) (x y : Name) (s : Sort) (m : Meaning) (others : Option Sort) (other : Option Meaning)
    → StandsFor words tasks events (Some s) (Some m) → StandsFor words tasks events others other
    → StandsFor words tasks events (cond (bytes_eq x y) (Some s) others) (first_of (of_name y m x) other)
named words tasks events x y s m others other own rest =
    ⊎_elim
    (λ same.
    let a : cond (bytes_eq x y) (Some s) others ≡ Some s = cond-true (bytes_eq x y) (Some s) others same in
    let b : of_name y m x ≡ Some m = cond-true (bytes_eq y x) (Some m) None (same_name x y same) in
    subst (λ (o : Option Sort). StandsFor words tasks events o (first_of (of_name y m x) other)) (sym a)
    (subst (λ (o : Option Meaning). StandsFor words tasks events (Some s) (first_of o other)) (sym b) own))
    (λ differs.
    let a : cond (bytes_eq x y) (Some s) others ≡ others = cond-false (bytes_eq x y) (Some s) others differs in
    let b : of_name y m x ≡ None = cond-false (bytes_eq y x) (Some m) None (other_name x y differs) in
    subst (λ (o : Option Sort). StandsFor words tasks events o (first_of (of_name y m x) other)) (sym a)
    (subst (λ (o : Option Meaning). StandsFor words tasks events others (first_of o other)) (sym b) rest))
    (cases_Bool (bytes_eq x y))

item_stands : (words tasks events w t e : ℕ) (x : Name) (i : Item) (ds : Declared) (other : Option Meaning) → is_out_of_range (an_item i) ≡ false
    → w + words_of i ≤ words → t + tasks_of i ≤ tasks → e + events_of i ≤ events → StandsFor words tasks events (sort_of ds x) other
    → StandsFor words tasks events (sort_of (cons_option (item_declaration i) ds) x) (first_of (declared_by w t e i x) other)
item_stands words tasks events w t e x (item.Int y minus n) ds other range a b c rest =
    named words tasks events x y sort.Int (meaning.Word w) (sort_of ds x) other (w, refl, omega arith) rest
item_stands words tasks events w t e x (item.Bool y truth) ds other range a b c rest =
    named words tasks events x y sort.Bool (meaning.Word w) (sort_of ds x) other (w, refl, omega arith) rest
item_stands words tasks events w t e x (item.Array y n) ds other range a b c rest =
    let some : (1 ≤ n) × (n ≤ 1024) = in_range 1 1024 n range in
    named words tasks events x y sort.Array (meaning.Array w n) (sort_of ds x) other (w, n, refl, omega (arith, some.0), a) rest
item_stands words tasks events w t e x (item.Task y body) ds other range a b c rest =
    named words tasks events x y sort.Task (meaning.Task t) (sort_of ds x) other (t, refl, omega arith) rest
item_stands words tasks events w t e x (item.Event y timing deadline versions) ds other range a b c rest =
    named words tasks events x y sort.Event (meaning.Event e) (sort_of ds x) other (e, refl, omega arith) rest
item_stands words tasks events w t e x (item.Degrade xs) ds other range a b c rest = rest
item_stands words tasks events w t e x (item.Start y) ds other range a b c rest = rest

pub declaration_alone : OfItemsAlone declaration
declaration_alone (an_item i) h = absurd h
declaration_alone (a_statement event room a) h = refl
declaration_alone (an_expression event t) h = refl

pub stands : (words tasks events w t e : ℕ) (x : Name) (items : List Item) → EachFails is_out_of_range items
    → w + word_count items ≤ words → t + task_count items ≤ tasks → e + event_count items ≤ events
    → StandsFor words tasks events (sort_of (declarations (items_pieces items)) x) (names_from w t e items x)
stands words tasks events w t e x [] range a b c = refl
stands words tasks events w t e x (i ∷ items) range a b c =
    let rest = stands words tasks events (w + words_of i) (t + tasks_of i) (e + events_of i) x items range.1 (omega (arith, a)) (omega (arith, b)) (omega (arith, c)) in
    subst (λ (ds : Declared). StandsFor words tasks events (sort_of ds x) (names_from w t e (i ∷ items) x)) (sym (filter_item declaration declaration_alone i items))
    (item_stands words tasks events w t e x i (declarations (items_pieces items)) (names_from (w + words_of i) (t + tasks_of i) (e + events_of i) items x) range.0
    (omega (arith, a)) (omega (arith, b)) (omega (arith, c)) rest)

-- each name of a source that meets the conditions
pub names_stand : (tree : Tree) → MeetsConditions tree → (x : Name)
    → StandsFor (word_count tree.items) (task_count tree.items) (event_count tree.items) (sort_of (declarations (pieces tree)) x) (names_of tree.items x)
names_stand tree checked x =
    let items = tree.items in
    let range = each_fails is_out_of_range items checked.0 in
    stands (word_count items) (task_count items) (event_count items) 0 0 0 x items range (omega arith) (omega arith) (omega arith)
