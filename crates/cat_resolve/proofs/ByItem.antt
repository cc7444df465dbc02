-- The pieces of a source by its items: what only items are or have is found at the items alone.
use Rattle.std.proofs.Common.{◌≡◌, ℕ, suc, Bool, true, false, List, [], ◌∷◌, ◌++◌, length, Option, None, refl, ap, ◌∙◌, arith}
use Rattle.std.specs.Prelude.{filter_map, flat_map}
use Rattle.std.specs.List.{cons_option}
use Rattle.std.proofs.lemmas.Bool.{false_from_ne_true}
use Rattle.std.proofs.lemmas.List.Elements.{filter_map-append}
use Rattle.std.proofs.lemmas.List.Concat.{flat_map-append}
use Rattle.cn_base.specs.declared.tree.Item.{Item}
use Rattle.cn_base.specs.declared.tree.Item.TheVariants as item
use Rattle.cn_base.specs.declared.tree.Stmt.{Stmt}
use Rattle.cat_conditions.specs.Plain.{Term, number, truth, payload, variable, element, signed, chain, compare, Furthers, no_further, further, Action, set, set_at, out, post, choose, loop, turns, Actions, no_action, action, Else, no_else, otherwise, block_of}
use Rattle.cat_conditions.specs.Pieces.{Piece, an_item, a_statement, an_expression, inner_terms, further_terms, term_pieces, inner_pieces, block_pieces, else_pieces, versions_pieces, item_pieces, items_pieces}
use Rattle.cat_conditions.specs.Offences.{At, NoneOf}

-- ---- what stands in an item is no item

abbrev pub IsInner : Piece → Type 0
IsInner (an_item i) = ⊥
IsInner (a_statement event room a) = Unit {0}
IsInner (an_expression event t) = Unit {0}

abbrev pub AllInner : List Piece → Type 0
AllInner [] = Unit {0}
AllInner (p ∷ ps) = IsInner p × AllInner ps

all_in : (ps qs : List Piece) → AllInner ps → AllInner qs → AllInner (ps ++ qs)
all_in [] qs h k = k
all_in (p ∷ ps) qs h k = (h.0, all_in ps qs h.1 k)

mutual
  terms_inner : (event : Bool) (t : Term) → AllInner (inner_terms event t)
  terms_inner event (number n) = tt
  terms_inner event (truth b) = tt
  terms_inner event payload = tt
  terms_inner event (variable x) = tt
  terms_inner event (element x index) = (tt, terms_inner event index)
  terms_inner event (signed s t) = (tt, terms_inner event t)
  terms_inner event (chain t others) = (tt, all_in (inner_terms event t) (further_terms event others) (terms_inner event t) (furthers_inner event others))
  terms_inner event (compare t c u) = (tt, all_in (inner_terms event t) (an_expression event u ∷ inner_terms event u) (terms_inner event t) (tt, terms_inner event u))

  furthers_inner : (event : Bool) (ts : Furthers) → AllInner (further_terms event ts)
  furthers_inner event no_further = tt
  furthers_inner event (further op t others) = (tt, all_in (inner_terms event t) (further_terms event others) (terms_inner event t) (furthers_inner event others))

term_inner : (event : Bool) (t : Term) → AllInner (term_pieces event t)
term_inner event t = (tt, terms_inner event t)

mutual
  action_inner : (event : Bool) (room : ℕ) (a : Action) → AllInner (inner_pieces event room a)
  action_inner event room (set x t) = term_inner event t
  action_inner event room (set_at x t u) = all_in (term_pieces event t) (term_pieces event u) (term_inner event t) (term_inner event u)
  action_inner event room (out channel t) = term_inner event t
  action_inner event room (post x) = tt
  action_inner event room (choose t first second) =
      all_in (term_pieces event t) (block_pieces event room first ++ else_pieces event room second) (term_inner event t)
      (all_in (block_pieces event room first) (else_pieces event room second) (block_inner event room first) (else_inner event room second))
  action_inner event room (loop t body) = all_in (term_pieces event t) (block_pieces event room body) (term_inner event t) (block_inner event room body)
  action_inner event room (turns count body) = block_inner event _ body

  block_inner : (event : Bool) (room : ℕ) (b : Actions) → AllInner (block_pieces event room b)
  block_inner event room no_action = tt
  block_inner event room (action a rest) = (tt, all_in (inner_pieces event room a) (block_pieces event room rest) (action_inner event room a) (block_inner event room rest))

  else_inner : (event : Bool) (room : ℕ) (e : Else) → AllInner (else_pieces event room e)
  else_inner event room no_else = tt
  else_inner event room (otherwise b) = block_inner event room b

versions_inner : (vs : List (List Stmt)) → AllInner (versions_pieces vs)
versions_inner [] = tt
versions_inner (v ∷ vs) = all_in (block_pieces true 32 (block_of v)) (versions_pieces vs) (block_inner true 32 (block_of v)) (versions_inner vs)

pub item_inner : (i : Item) → AllInner (item_pieces i)
item_inner (item.Task x body) = block_inner false 32 (block_of body)
item_inner (item.Event x t d vs) = versions_inner vs
item_inner (item.Int x m n) = tt
item_inner (item.Bool x b) = tt
item_inner (item.Array x n) = tt
item_inner (item.Degrade xs) = tt
item_inner (item.Start x) = tt

-- ---- so what items alone have is found at them

abbrev pub OfItemsAlone : {A : Type 0} → (Piece → Option A) → Type 0
OfItemsAlone f = (p : Piece) → IsInner p → f p ≡ None

filter_none : {A : Type 0} (f : Piece → Option A) → OfItemsAlone f → (ps : List Piece) → AllInner ps → filter_map f ps ≡ []
filter_none f o [] h = refl
filter_none f o (p ∷ ps) h = rw (o p h.0) (filter_none f o ps h.1)

-- what stands in an item adds nothing
pub filter_behind : {A : Type 0} (f : Piece → Option A) → OfItemsAlone f → (i : Item) (items : List Item)
    → filter_map f (item_pieces i ++ items_pieces items) ≡ filter_map f (items_pieces items)
filter_behind f o i items =
    filter_map-append f (item_pieces i) (items_pieces items) ∙ ap (λ l. l ++ filter_map f (items_pieces items)) (filter_none f o (item_pieces i) (item_inner i))

-- what one item has stands before what the others have
pub filter_item : {A : Type 0} (f : Piece → Option A) → OfItemsAlone f → (i : Item) (items : List Item)
    → filter_map f (items_pieces (i ∷ items)) ≡ cons_option (f (an_item i)) (filter_map f (items_pieces items))
filter_item f o i items = ap (cons_option (f (an_item i))) (filter_behind f o i items)

abbrev pub ListOfItemsAlone : {A : Type 0} → (Piece → List A) → Type 0
ListOfItemsAlone f = (p : Piece) → IsInner p → f p ≡ []

flat_none : {A : Type 0} (f : Piece → List A) → ListOfItemsAlone f → (ps : List Piece) → AllInner ps → flat_map f ps ≡ []
flat_none f o [] h = refl
flat_none f o (p ∷ ps) h = rw (o p h.0) (flat_none f o ps h.1)

pub flat_item : {A : Type 0} (f : Piece → List A) → ListOfItemsAlone f → (i : Item) (items : List Item)
    → flat_map f (items_pieces (i ∷ items)) ≡ f (an_item i) ++ flat_map f (items_pieces items)
flat_item f o i items =
    let a : flat_map f (item_pieces i ++ items_pieces items) ≡ flat_map f (item_pieces i) ++ flat_map f (items_pieces items) = flat_map-append f (item_pieces i) (items_pieces items) in
    let b : flat_map f (item_pieces i) ≡ [] = flat_none f o (item_pieces i) (item_inner i) in
    let c : flat_map f (item_pieces i ++ items_pieces items) ≡ flat_map f (items_pieces items) = a ∙ ap (λ l. l ++ flat_map f (items_pieces items)) b in
    ap (λ l. f (an_item i) ++ l) c

-- ---- a condition on each piece is one on each item

abbrev pub EachFails : (Piece → Bool) → List Item → Type 0
EachFails test [] = Unit {0}
EachFails test (i ∷ items) = (test (an_item i) ≡ false) × EachFails test items

after : (test : Piece → Bool) (p : Piece) (ps : List Piece) → NoneOf (length (p ∷ ps)) (At test (p ∷ ps)) → NoneOf (length ps) (At test ps)
after test p ps h k in_list = h (suc k) (omega (arith, in_list))

after_all : (test : Piece → Bool) (ps qs : List Piece) → NoneOf (length (ps ++ qs)) (At test (ps ++ qs)) → NoneOf (length qs) (At test qs)
after_all test [] qs h = h
after_all test (p ∷ ps) qs h = after_all test ps qs (after test p (ps ++ qs) h)

pub each_fails : (test : Piece → Bool) (items : List Item) → NoneOf (length (items_pieces items)) (At test (items_pieces items)) → EachFails test items
each_fails test [] h = tt
each_fails test (i ∷ items) h =
    let rest = item_pieces i ++ items_pieces items in
    let later = after test (an_item i) rest h in
    (false_from_ne_true (test (an_item i)) (h 0 (omega arith)), each_fails test items (after_all test (item_pieces i) (items_pieces items) later))
