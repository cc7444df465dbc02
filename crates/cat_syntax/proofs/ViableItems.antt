-- What is read of a program before it is refused goes on to a program.
use Rattle.std.proofs.Common.{◌≡◌, ℕ, Bool, true, false, cond, List, [], ◌∷◌, ◌++◌, Err, refl, sym, subst}
use Rattle.cat_tokens.specs.declared.token.Keyword.TheVariants as k
use Rattle.cat_tokens.specs.declared.token.Symbol.TheVariants as s
use Rattle.cat_tokens.specs.Lexemes.{keyword, name, number, symbol}
use Rattle.cn_base.specs.declared.tree.Stmt.{Stmt}
use Rattle.cn_base.specs.declared.tree.Timing.{Timing}
use Rattle.cn_base.specs.declared.tree.Timing.TheVariants as timing
use Rattle.cn_base.specs.declared.tree.Item.{Item}
use Rattle.cn_base.specs.declared.tree.Item.TheVariants as item
use Rattle.cat_syntax.specs.Grammar as g
use Rattle.cat_syntax.specs.Grammar.{IsBlock, IsTiming, AreVersions, AreNames, IsItem, IsProgram}
use Rattle.cat_syntax.specs.Reader.{Lexemes, ◌>>=◌, ◌>>◌, pure, after, sees, sees_keyword, expect, expect_keyword, read_name, read_number, many, one_where}
use Rattle.cat_syntax.specs.Statements.{block}
use Rattle.cat_syntax.specs.Items.{magnitude, minus, initial, plain, array, declared, int, truth, bool, task, every, spacing, timed, another_version, versions, event, another_name, name_list, degrade, start, one_item, is_left, program}
use Rattle.cat_syntax.proofs.Readers.{sees_is, sees_keyword_is}
use Rattle.cat_syntax.proofs.SoundItems.{truth_word, bool_is}
use Rattle.cat_syntax.proofs.Heads.{after_int, after_length, after_bool, after_task, after_every, after_spacing, event_versions, event_deadline, after_event, after_degrade, after_start}
use Rattle.cat_syntax.proofs.Viable.{Completes, Viable, Next, Behind, viable_then, regrouped, wider, viable_pure, viable_map, refuses, behind, viable_expect, viable_keyword, viable_name, viable_number, viable_close, some_name, Step, OneMore, From, viable_many, viable_all, viable_where}
use Rattle.cat_syntax.proofs.ViableStatements.{block_viable}

-- ---- variables

magnitude_viable : (Q : Lexemes → Item → Lexemes → Type 0) (x : List ℕ) (b : Bool) → ((n : ℕ) (end : Lexemes) → Q (number n ∷ symbol s.Semicolon ∷ end) (item.Int x b n) end) → Viable Q (magnitude x b)
unfolding magnitude
magnitude_viable Q x b fits = viable_number Q (λ n. expect s.Semicolon >> pure (item.Int x b n))
    (λ n. viable_expect (Behind (number n) Q) s.Semicolon (pure (item.Int x b n)) (viable_pure (Behind (symbol s.Semicolon) (Behind (number n) Q)) (item.Int x b n) (fits n)))

module _ (x : List ℕ) where
  abbrev IsDeclared : Lexemes → Item → Lexemes → Type 0
  IsDeclared = Behind (name x) (Behind (keyword k.Int) IsItem)

  initial_viable : Viable (Behind (symbol s.Assign) IsDeclared) (initial x)
  unfolding initial minus
  initial_viable ts = by (sees s.Minus ts) refl
    where
      by : (b : Bool) → sees s.Minus ts ≡ b → Completes (Behind (symbol s.Assign) IsDeclared) ts (cond b (minus x ts) (magnitude x false ts))
      by false e = magnitude_viable (Behind (symbol s.Assign) IsDeclared) x false (λ n end. g.int) ts
      by true e = behind (Behind (symbol s.Assign) IsDeclared) (symbol s.Minus) ts (after ts) (magnitude x true (after ts)) (sees_is s.Minus ts e)
          (magnitude_viable (Behind (symbol s.Minus) (Behind (symbol s.Assign) IsDeclared)) x true (λ n end. g.minus) (after ts))

  array_viable : Viable (Behind (symbol s.LeftBracket) IsDeclared) (after_length x)
  array_viable = viable_number (Behind (symbol s.LeftBracket) IsDeclared) (λ n. expect s.RightBracket >> expect s.Semicolon >> pure (item.Array x n)) (λ n.
      let whole = Behind (number n) (Behind (symbol s.LeftBracket) IsDeclared) in
      regrouped whole (expect s.RightBracket) (λ _. expect s.Semicolon) (λ _. pure (item.Array x n))
      (viable_expect whole s.RightBracket (expect s.Semicolon >> pure (item.Array x n))
      (viable_expect (Behind (symbol s.RightBracket) whole) s.Semicolon (pure (item.Array x n))
      (viable_pure (Behind (symbol s.Semicolon) (Behind (symbol s.RightBracket) whole)) (item.Array x n) (λ end. g.array)))))

  declared_viable : Viable IsDeclared (declared x)
  unfolding declared plain array after
  declared_viable (symbol s.Assign ∷ us) = behind IsDeclared (symbol s.Assign) (symbol s.Assign ∷ us) us (initial x us) refl (initial_viable us)
  declared_viable (symbol s.LeftBracket ∷ us) = behind IsDeclared (symbol s.LeftBracket) (symbol s.LeftBracket ∷ us) us _ refl (array_viable us)
  declared_viable ts = refuses IsDeclared ts (item.Int x false 0) (λ end. (symbol s.Assign ∷ number 0 ∷ symbol s.Semicolon ∷ end, g.int))

int_viable : Viable (Behind (keyword k.Int) IsItem) after_int
int_viable = viable_name (Behind (keyword k.Int) IsItem) declared declared_viable

IsTruth : Lexemes → Bool → Lexemes → Type 0
IsTruth ts b end = ts ≡ truth_word b ∷ end

truth_viable : Viable IsTruth truth
unfolding truth after IsTruth
truth_viable (keyword k.True ∷ us) = (keyword k.True ∷ [], refl, λ other. refl)
truth_viable (keyword k.False ∷ us) = (keyword k.False ∷ [], refl, λ other. refl)
truth_viable ts = refuses IsTruth ts true (λ end. (keyword k.True ∷ end, refl))

bool_viable : Viable (Behind (keyword k.Bool) IsItem) after_bool
unfolding IsTruth
bool_viable = viable_name (Behind (keyword k.Bool) IsItem) (λ x. expect s.Assign >> truth >>= λ b. expect s.Semicolon >> pure (item.Bool x b)) (λ x.
    let whole = Behind (name x) (Behind (keyword k.Bool) IsItem) in
    regrouped whole (expect s.Assign) (λ _. truth) (λ b. expect s.Semicolon >> pure (item.Bool x b))
    (viable_expect whole s.Assign (truth >>= λ b. expect s.Semicolon >> pure (item.Bool x b))
    (viable_close IsTruth (Behind (symbol s.Assign) whole) s.Semicolon (λ b. item.Bool x b) truth
    (λ b ts end e. subst (λ us. IsItem (keyword k.Bool ∷ name x ∷ symbol s.Assign ∷ us) (item.Bool x b) end) (sym e) (bool_is x b end)) truth_viable)))

-- ---- tasks and events

task_viable : (room : ℕ) → Viable (Behind (keyword k.Task) IsItem) (after_task room)
task_viable room = viable_name (Behind (keyword k.Task) IsItem) (λ x. block room >>= λ xs. pure (item.Task x xs)) (λ x.
    viable_map (Behind (name x) (Behind (keyword k.Task) IsItem)) (λ xs. item.Task x xs) (block room)
    (λ us. wider IsBlock (λ vs xs end. IsItem (keyword k.Task ∷ name x ∷ vs) (item.Task x xs) end) (λ xs vs end d. g.task d) us (block room us) (block_viable room us)))

every_viable : Viable (Behind (keyword k.Every) IsTiming) after_every
every_viable = viable_number (Behind (keyword k.Every) IsTiming) (λ n. expect_keyword k.Offset >> read_number >>= λ m. pure (timing.Every n m)) (λ n.
    let whole = Behind (number n) (Behind (keyword k.Every) IsTiming) in
    regrouped whole (expect_keyword k.Offset) (λ _. read_number) (λ m. pure (timing.Every n m))
    (viable_keyword whole k.Offset (read_number >>= λ m. pure (timing.Every n m))
    (viable_number (Behind (keyword k.Offset) whole) (λ m. pure (timing.Every n m))
    (λ m. viable_pure (Behind (number m) (Behind (keyword k.Offset) whole)) (timing.Every n m) (λ end. g.every)))))

spacing_viable : Viable (Behind (keyword k.Spacing) IsTiming) after_spacing
spacing_viable = viable_number (Behind (keyword k.Spacing) IsTiming) (λ n. pure (timing.Spacing n))
    (λ n. viable_pure (Behind (number n) (Behind (keyword k.Spacing) IsTiming)) (timing.Spacing n) (λ end. g.spacing))

timed_viable : Viable IsTiming timed
unfolding timed every spacing after
timed_viable (keyword k.Every ∷ us) = behind IsTiming (keyword k.Every) (keyword k.Every ∷ us) us _ refl (every_viable us)
timed_viable (keyword k.Spacing ∷ us) = behind IsTiming (keyword k.Spacing) (keyword k.Spacing ∷ us) us _ refl (spacing_viable us)
timed_viable ts = refuses IsTiming ts (timing.Spacing 0) (λ end. (keyword k.Spacing ∷ number 0 ∷ end, g.spacing))

-- a block and further ones
AllVersions : Lexemes → List (List Stmt) → Lexemes → Type 0
AllVersions ts all end = (xs : List Stmt) × (yss : List (List Stmt)) × (mid : Lexemes) × (xs ∷ yss ≡ all) × IsBlock ts xs mid × AreVersions mid yss end

further_versions : (room : ℕ) → Viable (OneMore AreVersions (λ ts. g.no_version)) (one_where (sees_keyword k.Else) (another_version room))
unfolding another_version
further_versions room = viable_where AreVersions (λ ts. g.no_version) (sees_keyword k.Else) (another_version room)
    (λ ts e. behind (Step AreVersions (λ ts. g.no_version)) (keyword k.Else) ts (after ts) (block room (after ts)) (sees_keyword_is k.Else ts e)
    (wider IsBlock (Behind (keyword k.Else) (Step AreVersions (λ ts. g.no_version))) (λ xs us mid d yss end ds. g.versions d ds) (after ts) (block room (after ts)) (block_viable room (after ts))))

versions_viable : (room : ℕ) → Viable AllVersions (versions room)
unfolding versions AllVersions
versions_viable room = viable_then IsBlock AllVersions (block room) (λ xs. many (one_where (sees_keyword k.Else) (another_version room)) (xs ∷ [])) (block_viable room)
    (λ xs us. wider (From AreVersions (λ ts. g.no_version) (xs ∷ [])) (Next IsBlock AllVersions xs) (λ all mid end rest ts d. (xs, rest.0, mid, sym rest.1, d, rest.2)) us
    (many (one_where (sees_keyword k.Else) (another_version room)) (xs ∷ []) us)
    (viable_many AreVersions (λ ts. g.no_version) (one_where (sees_keyword k.Else) (another_version room)) (further_versions room) (xs ∷ []) us))

event_is : {ts mid end : Lexemes} {x : List ℕ} {t : Timing} {n : ℕ} {all : List (List Stmt)} → IsTiming ts t (keyword k.Deadline ∷ number n ∷ mid) → AllVersions mid all end → IsItem (keyword k.Event ∷ name x ∷ ts) (item.Event x t n all) end
unfolding AllVersions
event_is {ts = ts} {end = end} {x = x} {t = t} {n = n} d v = subst (λ all. IsItem (keyword k.Event ∷ name x ∷ ts) (item.Event x t n all) end) v.3 (g.event d v.4 v.5)

event_viable : (room : ℕ) → Viable (Behind (keyword k.Event) IsItem) (after_event room)
event_viable room = viable_name (Behind (keyword k.Event) IsItem) (λ x. timed >>= event_deadline room x) (λ x.
    let whole = Behind (name x) (Behind (keyword k.Event) IsItem) in
    viable_then IsTiming whole timed (event_deadline room x) timed_viable (λ t.
    let rest = Next IsTiming whole t in
    regrouped rest (expect_keyword k.Deadline) (λ _. read_number) (event_versions room x t)
    (viable_keyword rest k.Deadline (read_number >>= event_versions room x t)
    (viable_number (Behind (keyword k.Deadline) rest) (event_versions room x t) (λ n.
    viable_map (Behind (number n) (Behind (keyword k.Deadline) rest)) (λ yss. item.Event x t n yss) (versions room)
    (λ us. wider AllVersions (λ vs yss end. rest (keyword k.Deadline ∷ number n ∷ vs) (item.Event x t n yss) end) (λ yss vs end v ts d. event_is d v) us (versions room us) (versions_viable room us)))))))

-- ---- orders and starts

AllNames : Lexemes → List (List ℕ) → Lexemes → Type 0
AllNames ts all end = (x : List ℕ) × (xs : List (List ℕ)) × (mid : Lexemes) × (x ∷ xs ≡ all) × (name x ∷ mid ≡ ts) × AreNames mid xs end

further_names : Viable (OneMore AreNames (λ ts. g.no_name)) (one_where (sees s.Comma) another_name)
unfolding another_name read_name
further_names = viable_where AreNames (λ ts. g.no_name) (sees s.Comma) another_name
    (λ ts e. behind (Step AreNames (λ ts. g.no_name)) (symbol s.Comma) ts (after ts) (read_name (after ts)) (sees_is s.Comma ts e)
    (a_name (after ts)))
  where
    a_name : (us : Lexemes) → Completes (Behind (symbol s.Comma) (Step AreNames (λ ts. g.no_name))) us (read_name us)
    a_name (name x ∷ us) = (name x ∷ [], refl, λ other xs end ds. g.names ds)
    a_name us = refuses (Behind (symbol s.Comma) (Step AreNames (λ ts. g.no_name))) us some_name (λ end. (name some_name ∷ end, λ xs rest ds. g.names ds))

names_viable : Viable AllNames name_list
unfolding name_list AllNames
names_viable = viable_name AllNames (λ x. many (one_where (sees s.Comma) another_name) (x ∷ []))
    (λ x us. wider (From AreNames (λ ts. g.no_name) (x ∷ [])) (Behind (name x) AllNames) (λ all mid end rest. (x, rest.0, mid, sym rest.1, refl, rest.2)) us
    (many (one_where (sees s.Comma) another_name) (x ∷ []) us)
    (viable_many AreNames (λ ts. g.no_name) (one_where (sees s.Comma) another_name) further_names (x ∷ []) us))

degrade_is : {ts end : Lexemes} {all : List (List ℕ)} → AllNames ts all (symbol s.Semicolon ∷ end) → IsItem (keyword k.Degrade ∷ ts) (item.Degrade all) end
unfolding AllNames
degrade_is {end = end} {all = all} v =
    subst (λ us. IsItem (keyword k.Degrade ∷ us) (item.Degrade all) end) v.4 (subst (λ xs. IsItem (keyword k.Degrade ∷ name v.0 ∷ v.2) (item.Degrade xs) end) v.3 (g.degrade v.5))

degrade_viable : Viable (Behind (keyword k.Degrade) IsItem) after_degrade
degrade_viable = viable_close AllNames (Behind (keyword k.Degrade) IsItem) s.Semicolon (λ xs. item.Degrade xs) name_list (λ xs ts end v. degrade_is v) names_viable

start_viable : Viable (Behind (keyword k.Start) IsItem) after_start
start_viable = viable_name (Behind (keyword k.Start) IsItem) (λ x. expect s.Semicolon >> pure (item.Start x))
    (λ x. viable_expect (Behind (name x) (Behind (keyword k.Start) IsItem)) s.Semicolon (pure (item.Start x))
    (viable_pure (Behind (symbol s.Semicolon) (Behind (name x) (Behind (keyword k.Start) IsItem))) (item.Start x) (λ end. g.start)))

-- ---- programs

item_viable : (room : ℕ) → Viable IsItem (one_item room)
unfolding one_item int bool task event degrade start after
item_viable room (keyword k.Int ∷ us) = behind IsItem (keyword k.Int) (keyword k.Int ∷ us) us _ refl (int_viable us)
item_viable room (keyword k.Bool ∷ us) = behind IsItem (keyword k.Bool) (keyword k.Bool ∷ us) us _ refl (bool_viable us)
item_viable room (keyword k.Task ∷ us) = behind IsItem (keyword k.Task) (keyword k.Task ∷ us) us _ refl (task_viable room us)
item_viable room (keyword k.Event ∷ us) = behind IsItem (keyword k.Event) (keyword k.Event ∷ us) us _ refl (event_viable room us)
item_viable room (keyword k.Degrade ∷ us) = behind IsItem (keyword k.Degrade) (keyword k.Degrade ∷ us) us _ refl (degrade_viable us)
item_viable room (keyword k.Start ∷ us) = behind IsItem (keyword k.Start) (keyword k.Start ∷ us) us _ refl (start_viable us)
item_viable room ts = refuses IsItem ts (item.Start some_name) (λ end. (keyword k.Start ∷ name some_name ∷ symbol s.Semicolon ∷ end, g.start))

-- items, after which nothing is left
AreItems : Lexemes → List Item → Lexemes → Type 0
AreItems ts xs end = end ≡ [] → IsProgram ts xs

no_items : (ts : Lexemes) → AreItems ts [] ts
unfolding AreItems
no_items ts e = subst (λ us. IsProgram us []) (sym e) g.no_item

program_viable : (room : ℕ) → Viable AreItems (program room)
unfolding program AreItems
program_viable room = viable_all AreItems no_items (one_where is_left (one_item room))
    (viable_where AreItems no_items is_left (one_item room)
    (λ ts e. wider IsItem (Step AreItems no_items) (λ x us mid d xs end ds last. g.items d (ds last)) ts (one_item room ts) (item_viable room ts)))

pub front_goes_on : (room : ℕ) (ts rest : Lexemes) → program room ts ≡ Err rest → (front : Lexemes) × (ts ≡ front ++ rest) × (more : Lexemes) × (xs : List Item) × IsProgram (front ++ more) xs
unfolding AreItems
front_goes_on room ts rest e = by (subst (λ o. Completes AreItems ts o) e (program_viable room ts))
  where
    by : Completes AreItems ts (Err rest) → (front : Lexemes) × (ts ≡ front ++ rest) × (more : Lexemes) × (xs : List Item) × IsProgram (front ++ more) xs
    by (front, same, xs, law) = let w = law [] in (front, same, w.0, xs, w.1 refl)
