-- Each event is degraded less often than it has versions.
use Rattle.std.proofs.Common.{◌≡◌, ℕ, ◌+◌, ◌<◌, ◌≤◌, ◌==◌, Bool, true, false, cond, List, [], ◌∷◌, ◌++◌, length, Option, Some, None, ap, sym, subst, arith}
use Rattle.std.specs.Prelude.{bytes_eq, count_by, flat_map, unwrap_or}
use Rattle.std.proofs.lemmas.Bool.{and_parts, false≢true, true_from_ne_false}
use Rattle.cn_base.specs.declared.tree.Stmt.{Stmt}
use Rattle.cn_base.specs.declared.tree.Item.{Item}
use Rattle.cn_base.specs.declared.tree.Item.TheVariants as item
use Rattle.cn_base.specs.declared.tree.Tree.{Tree}
use Rattle.cn_base.specs.Versions.{has_version, all_have_versions}
use Rattle.cat_program.specs.Checked.{Checked}
use Rattle.cat_program.specs.Declares.{EachDegrades}
use Rattle.cat_conditions.specs.Pieces.{Piece, pieces}
use Rattle.cat_conditions.specs.Names.{Name}
use Rattle.cat_conditions.specs.Counts.{versions_of, mentioned}
use Rattle.cat_conditions.specs.Conditions.{MeetsConditions}
use Rattle.cat_resolve.specs.declared.names.Meaning.{Meaning}
use Rattle.cat_resolve.specs.declared.names.Meaning.TheVariants as meaning
use Rattle.cat_resolve.specs.Names.{Meanings, first_of, words_of, tasks_of, events_of, declared_by, names_from, names_of}
use Rattle.cat_resolve.specs.Header.{event_count}
use Rattle.cat_resolve.specs.Content.{item_blocks, item_versions, versions_numbers, versions_from, mentions_in}
use Rattle.cat_resolve.specs.Program.{IsProgramOf}
use Rattle.cat_resolve.proofs.LaidOut.{numbers_length}
use Rattle.cat_resolve.proofs.Differing.{Apart, apart, versions_among, passed, at_event}
use Rattle.cat_resolve.proofs.Mentions.{MeansAlone, all_counted, rarely, mention_events}

-- ---- events by their numbers

-- a name that an item gives another meaning does not have this one from it
not_own : (b : Bool) (own found : Meaning) (other : Option Meaning) → (Some own ≡ Some found → ⊥) → first_of (cond b (Some own) None) other ≡ Some found → other ≡ Some found
not_own true own found other differ h = absurd (differ h)
not_own false own found other differ h = h

-- events are numbered on behind those that are declared
item_later : (w t e k : ℕ) (y : Name) (i : Item) (other : Option Meaning) → e + events_of i ≤ k → first_of (declared_by w t e i y) other ≡ Some (meaning.Event k) → other ≡ Some (meaning.Event k)
item_later w t e k y (item.Int x minus n) other above h = not_own (bytes_eq x y) (meaning.Word w) (meaning.Event k) other (λ same. cc) h
item_later w t e k y (item.Bool x b) other above h = not_own (bytes_eq x y) (meaning.Word w) (meaning.Event k) other (λ same. cc) h
item_later w t e k y (item.Array x n) other above h = not_own (bytes_eq x y) (meaning.Array w n) (meaning.Event k) other (λ same. cc) h
item_later w t e k y (item.Task x body) other above h = not_own (bytes_eq x y) (meaning.Task t) (meaning.Event k) other (λ same. cc) h
item_later w t e k y (item.Event x timing d vs) other above h =
    not_own (bytes_eq x y) (meaning.Event e) (meaning.Event k) other (λ same. let number : e ≡ k = cc in omega (arith, number, above)) h
item_later w t e k y (item.Degrade xs) other above h = h
item_later w t e k y (item.Start x) other above h = h

event_from : (e k : ℕ) (b : Bool) (other : Option Meaning) → (other ≡ Some (meaning.Event k) → e + 1 ≤ k) → first_of (cond b (Some (meaning.Event e)) None) other ≡ Some (meaning.Event k) → e ≤ k
event_from e k true other more h = let number : e ≡ k = cc in omega (arith, number)
event_from e k false other more h = let above = more h in omega (arith, above)

item_from : (w t e k : ℕ) (y : Name) (i : Item) (other : Option Meaning) → (other ≡ Some (meaning.Event k) → e + events_of i ≤ k)
    → first_of (declared_by w t e i y) other ≡ Some (meaning.Event k) → e ≤ k
item_from w t e k y (item.Int x minus n) other more h =
    let above = more (not_own (bytes_eq x y) (meaning.Word w) (meaning.Event k) other (λ same. cc) h) in
    omega (arith, above)
item_from w t e k y (item.Bool x b) other more h =
    let above = more (not_own (bytes_eq x y) (meaning.Word w) (meaning.Event k) other (λ same. cc) h) in
    omega (arith, above)
item_from w t e k y (item.Array x n) other more h =
    let above = more (not_own (bytes_eq x y) (meaning.Array w n) (meaning.Event k) other (λ same. cc) h) in
    omega (arith, above)
item_from w t e k y (item.Task x body) other more h =
    let above = more (not_own (bytes_eq x y) (meaning.Task t) (meaning.Event k) other (λ same. cc) h) in
    omega (arith, above)
item_from w t e k y (item.Event x timing d vs) other more h = event_from e k (bytes_eq x y) other more h
item_from w t e k y (item.Degrade xs) other more h = let above = more h in omega (arith, above)
item_from w t e k y (item.Start x) other more h = let above = more h in omega (arith, above)

events_from : (w t e k : ℕ) (y : Name) (items : List Item) → names_from w t e items y ≡ Some (meaning.Event k) → e ≤ k
events_from w t e k y [] h = absurd cc
events_from w t e k y (i ∷ items) h =
    item_from w t e k y i (names_from (w + words_of i) (t + tasks_of i) (e + events_of i) items y)
    (events_from (w + words_of i) (t + tasks_of i) (e + events_of i) k y items) h

-- ---- each event with its number

-- the events from number e on are those that these items declare
abbrev AreLater : Meanings → ℕ → ℕ → ℕ → List Item → Type 0
AreLater names w t e items = (y : Name) (k : ℕ) → e ≤ k → names y ≡ Some (meaning.Event k) → names_from w t e items y ≡ Some (meaning.Event k)

still_later : (names : Meanings) (w t e : ℕ) (i : Item) (items : List Item) → AreLater names w t e (i ∷ items)
    → AreLater names (w + words_of i) (t + tasks_of i) (e + events_of i) items
still_later names w t e i items later y k above is =
    item_later w t e k y i (names_from (w + words_of i) (t + tasks_of i) (e + events_of i) items y) above (later y k (omega (arith, above)) is)

-- so this number is of the event that comes next alone
next_alone : (names : Meanings) (w t e : ℕ) (x : Name) (timing : _) (d : ℕ) (vs : List (List Stmt)) (items : List Item)
    → AreLater names w t e (item.Event x timing d vs ∷ items) → MeansAlone names x e
next_alone names w t e x timing d vs items later y is = true_from_ne_false (bytes_eq x y) (λ other.
    let here : first_of (cond (bytes_eq x y) (Some (meaning.Event e)) None) (names_from (w + 0) (t + 0) (e + 1) items y) ≡ Some (meaning.Event e) = later y e (omega arith) is in
    let behind : names_from (w + 0) (t + 0) (e + 1) items y ≡ Some (meaning.Event e) =
    subst (λ b. first_of (cond b (Some (meaning.Event e)) None) (names_from (w + 0) (t + 0) (e + 1) items y) ≡ Some (meaning.Event e)) other here in
    let above : e + 1 ≤ e = events_from (w + 0) (t + 0) (e + 1) e y items behind in
    omega (arith, above))

-- what holds of the whole source: each name is mentioned less often than its event has versions
record IsRare (names : Meanings) (mentions : List ℕ) (ps : List Piece) : Type 0 where
  by_number : (x : Name) (e : ℕ) → MeansAlone names x e → count_by (λ k. k == e) mentions ≤ count_by (λ y. bytes_eq x y) (flat_map mentioned ps)
  by_name : (x : Name) → 0 < versions_of ps x → count_by (λ y. bytes_eq x y) (flat_map mentioned ps) < versions_of ps x

-- and the versions of the events that are left are found by their names
abbrev AreFound : List Piece → List Item → Type 0
AreFound ps items = (x : Name) (n : ℕ) → versions_among items x ≡ Some n → versions_of ps x ≡ n

some_versions : (x : Name) (timing : _) (d : ℕ) (vs : List (List Stmt)) → has_version (item.Event x timing d vs) ≡ true → 0 < length vs
some_versions x timing d [] h = absurd (false≢true h)
some_versions x timing d (v ∷ vs) h = omega arith

next_rare : (names : Meanings) (mentions : List ℕ) (ps : List Piece) (w t e n : ℕ) (x : Name) (timing : _) (d : ℕ) (vs : List (List Stmt)) (items : List Item) → IsRare names mentions ps
    → AreLater names w t e (item.Event x timing d vs ∷ items) → AreFound ps (item.Event x timing d vs ∷ items) → has_version (item.Event x timing d vs) ≡ true
    → count_by (λ k. k == e) mentions < length (versions_numbers names n vs)
next_rare names mentions ps w t e n x timing d vs items rare later found some =
    let versions : versions_of ps x ≡ length vs = found x (length vs) (at_event x timing d vs items) in
    let least : 0 < length vs = some_versions x timing d vs some in
    let a = rare.by_number x e (next_alone names w t e x timing d vs items later) in
    let b = rare.by_name x (omega (arith, versions, least)) in
    let same : length (versions_numbers names n vs) ≡ length vs = numbers_length names n vs in
    omega (arith, versions, a, b, same)

item_degrades : (names : Meanings) (mentions : List ℕ) (ps : List Piece) (w t e n : ℕ) (i : Item) (items : List Item) (more : List (List ℕ)) → IsRare names mentions ps
    → AreLater names w t e (i ∷ items) → AreFound ps (i ∷ items) → has_version i ≡ true → EachDegrades mentions (e + events_of i) more → EachDegrades mentions e (item_versions names n i ++ more)
item_degrades names mentions ps w t e n (item.Event x timing d vs) items more rare later found some rest =
    (next_rare names mentions ps w t e n x timing d vs items rare later found some, rest)
item_degrades names mentions ps w t e n (item.Int x minus k) items more rare later found some rest = subst (λ k. EachDegrades mentions k more) (omega arith) rest
item_degrades names mentions ps w t e n (item.Bool x b) items more rare later found some rest = subst (λ k. EachDegrades mentions k more) (omega arith) rest
item_degrades names mentions ps w t e n (item.Array x k) items more rare later found some rest = subst (λ k. EachDegrades mentions k more) (omega arith) rest
item_degrades names mentions ps w t e n (item.Task x body) items more rare later found some rest = subst (λ k. EachDegrades mentions k more) (omega arith) rest
item_degrades names mentions ps w t e n (item.Degrade xs) items more rare later found some rest = subst (λ k. EachDegrades mentions k more) (omega arith) rest
item_degrades names mentions ps w t e n (item.Start x) items more rare later found some rest = subst (λ k. EachDegrades mentions k more) (omega arith) rest

all_degrade : (names : Meanings) (mentions : List ℕ) (ps : List Piece) (w t e n : ℕ) (items : List Item) → IsRare names mentions ps → AreLater names w t e items → AreFound ps items
    → Apart items → all_have_versions items ≡ true → EachDegrades mentions e (versions_from names n items)
all_degrade names mentions ps w t e n [] rare later found differ some = tt
all_degrade names mentions ps w t e n (i ∷ items) rare later found differ some =
    let both = and_parts (has_version i) (all_have_versions items) some in
    let m = n + length (item_blocks names n i) in
    let rest = all_degrade names mentions ps (w + words_of i) (t + tasks_of i) (e + events_of i) m items rare (still_later names w t e i items later)
    (λ x k is. found x k (passed x k i items differ is)) differ.1 both.1 in
    item_degrades names mentions ps w t e n i items (versions_from names m items) rare later found both.0 rest

pub degrades : (tree : Tree) (p : Checked) → MeetsConditions tree → IsProgramOf tree p → EachDegrades p.mentions 0 p.events
degrades tree p checked of =
    let items = tree.items in
    let names = names_of items in
    let ps = pieces tree in
    let mentions = mentions_in names items in
    let are = mention_events tree checked in
    let rare : IsRare names mentions ps = record {
      by_number = λ x e alone. all_counted names (event_count items) e x alone items are;
      by_name = rarely ps checked.1.1.1.1.1.1.1.1.1.1.1.1.0;
    } in
    let differ : Apart items = apart items checked.1.1.1.1.1.0 in
    let all = all_degrade names mentions ps 0 0 0 0 items rare (λ y k above is. is) (λ x n is. ap (λ (o : Option ℕ). unwrap_or o 0) is) differ tree.versioned in
    subst (λ (ms : List ℕ). EachDegrades ms 0 p.events) (sym of.mentions)
    (subst (λ (es : List (List ℕ)). EachDegrades mentions 0 es) (sym of.events) all)
