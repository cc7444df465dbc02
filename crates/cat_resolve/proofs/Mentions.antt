-- A degrade order mentions events, and each less often than it has versions.
use Rattle.std.proofs.Common.{◌≡◌, ℕ, suc, ◌+◌, ◌<◌, ◌≤◌, ◌==◌, Bool, true, false, cond, List, [], ◌∷◌, ◌++◌, length, take, Option, Some, None, refl, ap, sym, ◌∙◌, subst, arith, ⊎_elim, map, append-nil, append_assoc}
use Rattle.std.specs.Prelude.{not, bytes_eq, nat_le, count_by, sum_by, flat_map}
use Rattle.std.specs.List.{list_any}
use Rattle.std.specs.Cmp.Lexicographic.{bytes_decides}
use Rattle.std.proofs.lemmas.Bool.{cases_lt, cond-true, cond-false, false≢true, false_from_ne_true, not-false, not-true, or_parts, both_ways, eqb-true, le-leb}
use Rattle.std.proofs.lemmas.List.Sums.{sum_by-cons, sum_by-append}
use Rattle.cn_base.specs.declared.tree.Item.{Item}
use Rattle.cn_base.specs.declared.tree.Item.TheVariants as item
use Rattle.cn_base.specs.declared.tree.Tree.{Tree}
use Rattle.cat_program.specs.Checked.{EachBelow}
use Rattle.cat_conditions.specs.declared.sort.Sort.{Sort}
use Rattle.cat_conditions.specs.declared.sort.Sort.TheVariants as sort
use Rattle.cat_conditions.specs.Pieces.{Piece, an_item, a_statement, an_expression, items_pieces}
use Rattle.cat_conditions.specs.Offences.{At, NoneOf}
use Rattle.cat_conditions.specs.Names.{Name, Sorts, declarations, sort_of}
use Rattle.cat_conditions.specs.Types.{is_event, has_wrong_type}
use Rattle.cat_conditions.specs.Counts.{versions_of, mentioned}
use Rattle.cat_conditions.specs.Conditions.{DegradesTooOften, MeetsConditions}
use Rattle.cat_resolve.specs.declared.names.Meaning.{Meaning}
use Rattle.cat_resolve.specs.declared.names.Meaning.TheVariants as meaning
use Rattle.cat_resolve.specs.Names.{Meanings, names_of}
use Rattle.cat_resolve.specs.Header.{word_count, task_count, event_count}
use Rattle.cat_resolve.specs.Content.{event_number, item_mentions, mentions_in}
use Rattle.cat_resolve.proofs.ByItem.{ListOfItemsAlone, flat_item, EachFails, each_fails}
use Rattle.cat_resolve.proofs.Sorts.{StandsFor, IsEvent, names_stand}

-- ---- what is mentioned is an event

abbrev pub EachIsEvent : Meanings → ℕ → List Name → Type 0
EachIsEvent names events [] = Unit {0}
EachIsEvent names events (x ∷ xs) = IsEvent events (names x) × EachIsEvent names events xs

abbrev pub MentionsEvents : Meanings → ℕ → Item → Type 0
MentionsEvents names events (item.Degrade xs) = EachIsEvent names events xs
MentionsEvents names events _ = Unit {0}

abbrev pub AllMentionEvents : Meanings → ℕ → List Item → Type 0
AllMentionEvents names events [] = Unit {0}
AllMentionEvents names events (i ∷ items) = MentionsEvents names events i × AllMentionEvents names events items

one_event : (words tasks events : ℕ) (s : Option Sort) (m : Option Meaning) → is_event s ≡ true → StandsFor words tasks events s m → IsEvent events m
one_event words tasks events None m e h = absurd (false≢true e)
one_event words tasks events (Some sort.Int) m e h = absurd (false≢true e)
one_event words tasks events (Some sort.Bool) m e h = absurd (false≢true e)
one_event words tasks events (Some sort.Array) m e h = absurd (false≢true e)
one_event words tasks events (Some sort.Task) m e h = absurd (false≢true e)
one_event words tasks events (Some sort.Event) m e h = h

-- each name stands for what its sort says
abbrev Agree : ℕ → ℕ → ℕ → Sorts → Meanings → Type 0
Agree words tasks events sorts names = (x : Name) → StandsFor words tasks events (sorts x) (names x)

each_event : (words tasks events : ℕ) (sorts : Sorts) (names : Meanings) → Agree words tasks events sorts names
    → (xs : List Name) → list_any (λ x. not (is_event (sorts x))) xs ≡ false → EachIsEvent names events xs
each_event words tasks events sorts names agree [] h = tt
each_event words tasks events sorts names agree (x ∷ xs) h =
    let parts = or_parts (not (is_event (sorts x))) (list_any (λ y. not (is_event (sorts y))) xs) h in
    (one_event words tasks events (sorts x) (names x) (not-false (is_event (sorts x)) parts.0) (agree x), each_event words tasks events sorts names agree xs parts.1)

item_mentions_events : (words tasks events : ℕ) (sorts : Sorts) (names : Meanings) → Agree words tasks events sorts names
    → (i : Item) → has_wrong_type sorts (an_item i) ≡ false → MentionsEvents names events i
item_mentions_events words tasks events sorts names agree (item.Degrade xs) right =
    each_event words tasks events sorts names agree xs (not-true (list_any (λ x. not (is_event (sorts x))) xs) (not-false (not (list_any (λ x. not (is_event (sorts x))) xs)) right))
item_mentions_events words tasks events sorts names agree (item.Int x minus n) right = tt
item_mentions_events words tasks events sorts names agree (item.Bool x b) right = tt
item_mentions_events words tasks events sorts names agree (item.Array x n) right = tt
item_mentions_events words tasks events sorts names agree (item.Task x body) right = tt
item_mentions_events words tasks events sorts names agree (item.Event x t d vs) right = tt
item_mentions_events words tasks events sorts names agree (item.Start x) right = tt

all_mention_events : (words tasks events : ℕ) (sorts : Sorts) (names : Meanings) → Agree words tasks events sorts names
    → (items : List Item) → EachFails (has_wrong_type sorts) items → AllMentionEvents names events items
all_mention_events words tasks events sorts names agree [] right = tt
all_mention_events words tasks events sorts names agree (i ∷ items) right =
    (item_mentions_events words tasks events sorts names agree i right.0, all_mention_events words tasks events sorts names agree items right.1)

pub mention_events : (tree : Tree) → MeetsConditions tree → AllMentionEvents (names_of tree.items) (event_count tree.items) tree.items
mention_events tree checked =
    let items = tree.items in
    let sorts = sort_of (declarations (items_pieces items)) in
    let right = each_fails (has_wrong_type sorts) items checked.1.1.1.1.1.1.1.0 in
    all_mention_events (word_count items) (task_count items) (event_count items) sorts (names_of items) (names_stand tree checked) items right

numbers_below : (names : Meanings) (events : ℕ) (xs : List Name) (more : List ℕ) → EachIsEvent names events xs → EachBelow events more
    → EachBelow events (map (λ x. event_number (names x)) xs ++ more)
numbers_below names events [] more are rest = rest
numbers_below names events (x ∷ xs) more are rest =
    let e = are.0.0 in
    let is : event_number (names x) ≡ e = ap event_number are.0.1 in
    (subst (λ k. k < events) (sym is) are.0.2, numbers_below names events xs more are.1 rest)

item_below : (names : Meanings) (events : ℕ) (i : Item) (more : List ℕ) → MentionsEvents names events i → EachBelow events more → EachBelow events (item_mentions names i ++ more)
item_below names events (item.Degrade xs) more are rest = numbers_below names events xs more are rest
item_below names events (item.Int x minus n) more are rest = rest
item_below names events (item.Bool x b) more are rest = rest
item_below names events (item.Array x n) more are rest = rest
item_below names events (item.Task x body) more are rest = rest
item_below names events (item.Event x t d vs) more are rest = rest
item_below names events (item.Start x) more are rest = rest

pub mentions_below : (names : Meanings) (events : ℕ) (items : List Item) → AllMentionEvents names events items → EachBelow events (mentions_in names items)
mentions_below names events [] are = tt
mentions_below names events (i ∷ items) are = item_below names events i (mentions_in names items) are.0 (mentions_below names events items are.1)

-- ---- mentions by number are mentions by name

-- this name alone means event e
abbrev pub MeansAlone : Meanings → Name → ℕ → Type 0
MeansAlone names x e = (y : Name) → names y ≡ Some (meaning.Event e) → bytes_eq x y ≡ true

one_count : (a b : Bool) → (a ≡ true → b ≡ true) → cond a 1 0 ≤ cond b 1 0
one_count false b h = omega arith
one_count true b h = let e = cond-true {A = ℕ} b 1 0 (h refl) in omega (arith, e)

list_counted : (names : Meanings) (events e : ℕ) (x : Name) → MeansAlone names x e → (xs : List Name) → EachIsEvent names events xs
    → count_by (λ k. k == e) (map (λ y. event_number (names y)) xs) ≤ count_by (λ y. bytes_eq x y) xs
list_counted names events e x alone [] are = omega arith
list_counted names events e x alone (y ∷ ys) are =
    let by_number : ℕ → ℕ = λ k. cond (k == e) 1 0 in
    let by_name : Name → ℕ = λ z. cond (bytes_eq x z) 1 0 in
    let numbers = map (λ z. event_number (names z)) ys in
    let is : event_number (names y) ≡ are.0.0 = ap event_number are.0.1 in
    let own : by_number (event_number (names y)) ≤ by_name y =
    one_count (event_number (names y) == e) (bytes_eq x y)
    (λ same. alone y (are.0.1 ∙ ap (λ k. Some (meaning.Event k)) (sym is ∙ eqb-true (event_number (names y)) e same))) in
    let rest : sum_by by_number numbers ≤ sum_by by_name ys = list_counted names events e x alone ys are.1 in
    let p : sum_by by_number (event_number (names y) ∷ numbers) ≡ by_number (event_number (names y)) + sum_by by_number numbers = sum_by-cons by_number (event_number (names y)) numbers in
    let q : sum_by by_name (y ∷ ys) ≡ by_name y + sum_by by_name ys = sum_by-cons by_name y ys in
    omega (arith, own, rest, p, q)

item_counted : (names : Meanings) (events e : ℕ) (x : Name) → MeansAlone names x e → (i : Item) → MentionsEvents names events i
    → count_by (λ k. k == e) (item_mentions names i) ≤ count_by (λ y. bytes_eq x y) (mentioned (an_item i))
item_counted names events e x alone (item.Degrade xs) are = list_counted names events e x alone xs are
item_counted names events e x alone (item.Int y minus n) are = omega arith
item_counted names events e x alone (item.Bool y b) are = omega arith
item_counted names events e x alone (item.Array y n) are = omega arith
item_counted names events e x alone (item.Task y body) are = omega arith
item_counted names events e x alone (item.Event y t d vs) are = omega arith
item_counted names events e x alone (item.Start y) are = omega arith

mentioned_alone : ListOfItemsAlone mentioned
mentioned_alone (an_item i) h = absurd h
mentioned_alone (a_statement event room a) h = refl
mentioned_alone (an_expression event t) h = refl

pub all_counted : (names : Meanings) (events e : ℕ) (x : Name) → MeansAlone names x e → (items : List Item) → AllMentionEvents names events items
    → count_by (λ k. k == e) (mentions_in names items) ≤ count_by (λ y. bytes_eq x y) (flat_map mentioned (items_pieces items))
all_counted names events e x alone [] are = omega arith
all_counted names events e x alone (i ∷ items) are =
    let by_number : ℕ → ℕ = λ k. cond (k == e) 1 0 in
    let by_name : Name → ℕ = λ z. cond (bytes_eq x z) 1 0 in
    let own : sum_by by_number (item_mentions names i) ≤ sum_by by_name (mentioned (an_item i)) = item_counted names events e x alone i are.0 in
    let rest : sum_by by_number (mentions_in names items) ≤ sum_by by_name (flat_map mentioned (items_pieces items)) = all_counted names events e x alone items are.1 in
    let p : sum_by by_number (item_mentions names i ++ mentions_in names items) ≡ sum_by by_number (item_mentions names i) + sum_by by_number (mentions_in names items) =
    sum_by-append by_number (item_mentions names i) (mentions_in names items) in
    let q : sum_by by_name (flat_map mentioned (items_pieces (i ∷ items))) ≡ sum_by by_name (mentioned (an_item i) ++ flat_map mentioned (items_pieces items)) =
    ap (sum_by by_name) (flat_item mentioned mentioned_alone i items) in
    let r : sum_by by_name (mentioned (an_item i) ++ flat_map mentioned (items_pieces items)) ≡ sum_by by_name (mentioned (an_item i)) + sum_by by_name (flat_map mentioned (items_pieces items)) =
    sum_by-append by_name (mentioned (an_item i)) (flat_map mentioned (items_pieces items)) in
    omega (arith, own, rest, p, q, r)

-- ---- less often than there are versions

-- a name of a list, none of which is mentioned too often, is not in it where it is
not_in : (test : Name → Bool) (x : Name) (xs : List Name) → list_any test xs ≡ false → test x ≡ true → count_by (λ y. bytes_eq x y) xs ≡ 0
not_in test x [] none over = refl
not_in test x (y ∷ ys) none over =
    let by_name : Name → ℕ = λ z. cond (bytes_eq x z) 1 0 in
    let parts = or_parts (test y) (list_any test ys) none in
    let other : bytes_eq x y ≡ false = false_from_ne_true (bytes_eq x y) (λ same. both_ways (test y) parts.0 (subst (λ z. test z ≡ true) ((bytes_decides x y).0 same) over)) in
    let own : by_name y ≡ 0 = cond-false (bytes_eq x y) 1 0 other in
    let rest : sum_by by_name ys ≡ 0 = not_in test x ys parts.1 over in
    let p : sum_by by_name (y ∷ ys) ≡ by_name y + sum_by by_name ys = sum_by-cons by_name y ys in
    omega (arith, own, rest, p)

-- the mentions of a name in the pieces, behind those before them
piece_rarely : (versions : Name → ℕ) (x : Name) (before own : List Name) → list_any (λ y. nat_le (versions y) (count_by (λ z. bytes_eq y z) (before ++ own))) own ≡ false
    → count_by (λ z. bytes_eq x z) before < versions x → count_by (λ z. bytes_eq x z) (before ++ own) < versions x
piece_rarely versions x before own fine rarely =
    let by_name : Name → ℕ = λ z. cond (bytes_eq x z) 1 0 in
    ⊎_elim (λ few. few)
    (λ many.
    let over : nat_le (versions x) (count_by (λ z. bytes_eq x z) (before ++ own)) ≡ true = le-leb (versions x) (sum_by by_name (before ++ own)) many in
    let none : sum_by by_name own ≡ 0 = not_in (λ y. nat_le (versions y) (count_by (λ z. bytes_eq y z) (before ++ own))) x own fine over in
    let p : sum_by by_name (before ++ own) ≡ sum_by by_name before + sum_by by_name own = sum_by-append by_name before own in
    omega (arith, none, p, rarely))
    (cases_lt (sum_by by_name (before ++ own)) (versions x))

pieces_rarely : (versions : Name → ℕ) (x : Name) (before : List Name) (ps : List Piece)
    → NoneOf (length ps) (λ k. At (λ p. list_any (λ y. nat_le (versions y) (count_by (λ z. bytes_eq y z) (before ++ flat_map mentioned (take (k + 1) ps)))) (mentioned p)) ps k)
    → count_by (λ z. bytes_eq x z) before < versions x → count_by (λ z. bytes_eq x z) (before ++ flat_map mentioned ps) < versions x
pieces_rarely versions x before [] fine rarely = subst (λ (l : List Name). count_by (λ z. bytes_eq x z) l < versions x) (sym (append-nil before)) rarely
pieces_rarely versions x before (p ∷ ps) fine rarely =
    let own = mentioned p in
    let too_often : List Name → Bool = λ so_far. list_any (λ y. nat_le (versions y) (count_by (λ z. bytes_eq y z) so_far)) own in
    let first : ¬ (too_often (before ++ (own ++ [])) ≡ true) = fine 0 (omega arith) in
    let here : too_often (before ++ own) ≡ false = false_from_ne_true (too_often (before ++ own)) (subst (λ (l : List Name). ¬ (too_often (before ++ l) ≡ true)) (append-nil own) first) in
    let more : count_by (λ z. bytes_eq x z) (before ++ own) < versions x = piece_rarely versions x before own here rarely in
    let rest = pieces_rarely versions x (before ++ own) ps
    (λ k in_list.
    let so_far = flat_map mentioned (take (k + 1) ps) in
    let next : suc k + 1 ≡ suc (k + 1) = omega arith in
    let at_one = subst (λ j. ¬ At (λ q. list_any (λ y. nat_le (versions y) (count_by (λ z. bytes_eq y z) (before ++ flat_map mentioned (take j (p ∷ ps))))) (mentioned q)) (p ∷ ps) (suc k)) next
    (fine (suc k) (omega (arith, in_list))) in
    subst (λ (l : List Name). ¬ At (λ q. list_any (λ y. nat_le (versions y) (count_by (λ z. bytes_eq y z) l)) (mentioned q)) ps k) (sym (append_assoc before own so_far)) at_one)
    more in
    subst (λ (l : List Name). count_by (λ z. bytes_eq x z) l < versions x) (append_assoc before own (flat_map mentioned ps)) rest

pub rarely : (ps : List Piece) → NoneOf (length ps) (DegradesTooOften ps) → (x : Name) → 0 < versions_of ps x
    → count_by (λ z. bytes_eq x z) (flat_map mentioned ps) < versions_of ps x
rarely ps fine x some = pieces_rarely (versions_of ps) x [] ps fine some
