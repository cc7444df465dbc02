-- The readers of items look no further than the token at which they stop.
use Rattle.std.proofs.Common.{◌≡◌, ℕ, zero, suc, ◌≤◌, Bool, true, false, cond, List, [], ◌∷◌, refl}
use Rattle.cat_tokens.specs.declared.token.Keyword.TheVariants as k
use Rattle.cat_tokens.specs.declared.token.Symbol.TheVariants as s
use Rattle.cat_tokens.specs.Lexemes.{keyword, symbol}
use Rattle.cn_base.specs.declared.tree.Timing.TheVariants as timing
use Rattle.cn_base.specs.declared.tree.Item.{Item}
use Rattle.cn_base.specs.declared.tree.Item.TheVariants as item
use Rattle.cat_syntax.specs.Depth.{IsShallow}
use Rattle.cat_syntax.specs.Reader.{Lexemes, Reader, ◌>>=◌, ◌>>◌, pure, next_symbol, next_keyword, after, sees, sees_keyword, expect, expect_keyword, read_name, read_number, many, one_where}
use Rattle.cat_syntax.specs.Statements.{block}
use Rattle.cat_syntax.specs.Items.{magnitude, minus, initial, plain, array, declared_by, declared, int, truth_by, truth, bool, task, every, spacing, timed_by, timed, another_version, versions, event, another_name, name_list, degrade, start, item_by, one_item, is_left, program}
use Rattle.cat_syntax.proofs.Readers.{sees_is, sees_keyword_is, where_some}
use Rattle.cat_syntax.proofs.ItemSteps.{version_read_shorter, name_read_shorter, item_read_shorter}
use Rattle.cat_syntax.proofs.Heads.{after_int, after_length, after_bool, after_task, after_every, after_spacing, event_versions, event_deadline, after_event, after_degrade, after_start}
use Rattle.cat_syntax.proofs.Local.{SameHead, Agrees, Local, local_pure, local_then, moves_then, moves_map, chosen, behind}
use Rattle.cat_syntax.proofs.LocalLists.{local_many, local_where}
use Rattle.cat_syntax.proofs.LocalTokens.{symbol_heads, keyword_heads, sees_heads, sees_keyword_heads, moves_expect, local_expect, local_close, local_keyword, local_name, local_number}
use Rattle.cat_syntax.proofs.LocalStatements.{local_block}

-- ---- without blocks

module _ (room : ℕ) where
  local_magnitude : (x : List ℕ) (b : Bool) → Local room (magnitude x b) (magnitude x b)
  unfolding magnitude
  local_magnitude x b = local_close room s.Semicolon refl (λ n. item.Int x b n) read_number read_number (local_number room)

  abbrev initial_by : List ℕ → Bool → Reader Item
  initial_by x b = λ ts. cond b (minus x ts) (magnitude x false ts)

  initial_at : (x : List ℕ) (ts : Lexemes) (b : Bool) → sees s.Minus ts ≡ b → IsShallow ts room → Agrees (initial_by x b) room ts (initial_by x b ts)
  unfolding minus after
  initial_at x ts false e h = local_magnitude x false ts h
  initial_at x [] true e h = absurd (let no = sees_is s.Minus [] e in cc)
  initial_at x (t ∷ us) true e h =
      let is : t ≡ symbol s.Minus = let both = sees_is s.Minus (t ∷ us) e in cc in
      behind room t us (magnitude x true) (magnitude x true us) (local_magnitude x true us (rw is at h))

  local_initial : (x : List ℕ) → Local room (initial x) (initial x)
  unfolding initial
  local_initial x ts h = chosen room (sees s.Minus) (sees_heads s.Minus) (initial_by x) ts (initial_by x (sees s.Minus ts) ts) (initial_at x ts (sees s.Minus ts) refl h)

array_at : (room : ℕ) (x : List ℕ) (us : Lexemes) → IsShallow (symbol s.LeftBracket ∷ us) room → Agrees (array x) room (symbol s.LeftBracket ∷ us) (array x (symbol s.LeftBracket ∷ us))
unfolding array after
array_at zero x us h = absurd h
array_at (suc room) x us h =
    behind (suc room) (symbol s.LeftBracket) us (after_length x) (after_length x us)
    (moves_then room room (suc room) read_number (λ n. expect s.RightBracket >> expect s.Semicolon >> pure (item.Array x n)) read_number (λ n. expect s.RightBracket >> expect s.Semicolon >> pure (item.Array x n)) (local_number room)
    (λ n. moves_map room (suc room) (λ _. item.Array x n) (expect s.RightBracket >> expect s.Semicolon) (expect s.RightBracket >> expect s.Semicolon)
    (moves_then room (suc room) (suc room) (expect s.RightBracket) (λ _. expect s.Semicolon) (expect s.RightBracket) (λ _. expect s.Semicolon)
    (moves_expect room (suc room) s.RightBracket (λ vs h. h)) (λ _. local_expect (suc room) s.Semicolon refl))) us h)

module _ (room : ℕ) where
  declared_at : (x : List ℕ) (ts : Lexemes) → IsShallow ts room → Agrees (declared_by x (next_symbol ts)) room ts (declared_by x (next_symbol ts) ts)
  unfolding plain after
  declared_at x (symbol s.Assign ∷ us) h = behind room (symbol s.Assign) us (initial x) (initial x us) (local_initial room x us h)
  declared_at x (symbol s.LeftBracket ∷ us) h = array_at room x us h
  declared_at x _ h = ([], refl, λ other same. refl)

  local_declared : (x : List ℕ) → Local room (declared x) (declared x)
  unfolding declared
  local_declared x ts h = chosen room next_symbol symbol_heads (declared_by x) ts (declared_by x (next_symbol ts) ts) (declared_at x ts h)

  local_int : Local room after_int after_int
  local_int = local_then room read_name declared read_name declared (local_name room) local_declared

  truth_at : (ts : Lexemes) → IsShallow ts room → Agrees (truth_by (next_keyword ts)) room ts (truth_by (next_keyword ts) ts)
  unfolding after
  truth_at (keyword k.True ∷ us) h = behind room (keyword k.True) us (pure true) (pure true us) (local_pure room true us h)
  truth_at (keyword k.False ∷ us) h = behind room (keyword k.False) us (pure false) (pure false us) (local_pure room false us h)
  truth_at _ h = ([], refl, λ other same. refl)

  local_truth : Local room truth truth
  unfolding truth
  local_truth ts h = chosen room next_keyword keyword_heads truth_by ts (truth_by (next_keyword ts) ts) (truth_at ts h)

  local_bool : Local room after_bool after_bool
  local_bool = local_then room read_name rest read_name rest (local_name room)
      (λ x. local_close room s.Semicolon refl (λ b. item.Bool x b) (expect s.Assign >> truth) (expect s.Assign >> truth)
      (local_then room (expect s.Assign) (λ _. truth) (expect s.Assign) (λ _. truth) (local_expect room s.Assign refl) (λ _. local_truth)))
    where
      rest : List ℕ → Reader Item
      rest x = expect s.Assign >> truth >>= λ b. expect s.Semicolon >> pure (item.Bool x b)

  local_every : Local room after_every after_every
  local_every = local_then room read_number (λ n. expect_keyword k.Offset >> read_number >>= λ m. pure (timing.Every n m)) read_number (λ n. expect_keyword k.Offset >> read_number >>= λ m. pure (timing.Every n m)) (local_number room)
      (λ n. moves_map room room (λ m. timing.Every n m) (expect_keyword k.Offset >> read_number) (expect_keyword k.Offset >> read_number)
      (local_then room (expect_keyword k.Offset) (λ _. read_number) (expect_keyword k.Offset) (λ _. read_number) (local_keyword room k.Offset) (λ _. local_number room)))

  local_spacing : Local room after_spacing after_spacing
  local_spacing = moves_map room room (λ n. timing.Spacing n) read_number read_number (local_number room)

  timed_at : (ts : Lexemes) → IsShallow ts room → Agrees (timed_by (next_keyword ts)) room ts (timed_by (next_keyword ts) ts)
  unfolding every spacing after
  timed_at (keyword k.Every ∷ us) h = behind room (keyword k.Every) us after_every (after_every us) (local_every us h)
  timed_at (keyword k.Spacing ∷ us) h = behind room (keyword k.Spacing) us after_spacing (after_spacing us) (local_spacing us h)
  timed_at _ h = ([], refl, λ other same. refl)

  local_timed : Local room timed timed
  unfolding timed
  local_timed ts h = chosen room next_keyword keyword_heads timed_by ts (timed_by (next_keyword ts) ts) (timed_at ts h)

  another_name_at : (ts : Lexemes) → sees s.Comma ts ≡ true → IsShallow ts room → Agrees another_name room ts (another_name ts)
  unfolding another_name after
  another_name_at [] e h = absurd (let no = sees_is s.Comma [] e in cc)
  another_name_at (t ∷ us) e h =
      let is : t ≡ symbol s.Comma = let both = sees_is s.Comma (t ∷ us) e in cc in
      behind room t us read_name (read_name us) (local_name room us (rw is at h))

  local_names : Local room name_list name_list
  unfolding name_list
  local_names = local_then room read_name (λ x. many (one_where (sees s.Comma) another_name) (x ∷ [])) read_name (λ x. many (one_where (sees s.Comma) another_name) (x ∷ [])) (local_name room)
      (λ x. local_many room (one_where (sees s.Comma) another_name) (one_where (sees s.Comma) another_name)
      (local_where room (sees s.Comma) (sees_heads s.Comma) another_name another_name another_name_at)
      (λ ts mid y e. name_read_shorter ts y mid e) (x ∷ []))

  local_degrade : Local room after_degrade after_degrade
  local_degrade = local_close room s.Semicolon refl (λ xs. item.Degrade xs) name_list name_list local_names

  local_start : Local room after_start after_start
  local_start = local_close room s.Semicolon refl (λ x. item.Start x) read_name read_name (local_name room)

-- ---- with blocks

module _ (room room' : ℕ) (le : room ≤ room') where
  local_task : Local room (after_task room) (after_task room')
  local_task = local_then room read_name (λ x. block room' >>= λ xs. pure (item.Task x xs)) read_name (λ x. block room >>= λ xs. pure (item.Task x xs)) (local_name room)
      (λ x. moves_map room room (λ xs. item.Task x xs) (block room') (block room) (local_block room room' le))

  another_version_at : (ts : Lexemes) → sees_keyword k.Else ts ≡ true → IsShallow ts room → Agrees (another_version room') room ts (another_version room ts)
  unfolding another_version after
  another_version_at [] e h = absurd (let no = sees_keyword_is k.Else [] e in cc)
  another_version_at (t ∷ us) e h =
      let is : t ≡ keyword k.Else = let both = sees_keyword_is k.Else (t ∷ us) e in cc in
      behind room t us (block room') (block room us) (local_block room room' le us (rw is at h))

  local_versions : Local room (versions room) (versions room')
  unfolding versions
  local_versions = local_then room (block room') (λ xs. many (one_where (sees_keyword k.Else) (another_version room')) (xs ∷ [])) (block room) (λ xs. many (one_where (sees_keyword k.Else) (another_version room)) (xs ∷ [])) (local_block room room' le)
      (λ xs. local_many room (one_where (sees_keyword k.Else) (another_version room)) (one_where (sees_keyword k.Else) (another_version room'))
      (local_where room (sees_keyword k.Else) (sees_keyword_heads k.Else) (another_version room') (another_version room) another_version_at)
      (λ ts mid ys e. version_read_shorter room ts ys mid e) (xs ∷ []))

  local_event : Local room (after_event room) (after_event room')
  local_event = local_then room read_name (λ x. timed >>= event_deadline room' x) read_name (λ x. timed >>= event_deadline room x) (local_name room)
      (λ x. local_then room timed (event_deadline room' x) timed (event_deadline room x) (local_timed room)
      (λ t. local_then room (expect_keyword k.Deadline >> read_number) (event_versions room' x t) (expect_keyword k.Deadline >> read_number) (event_versions room x t)
      (local_then room (expect_keyword k.Deadline) (λ _. read_number) (expect_keyword k.Deadline) (λ _. read_number) (local_keyword room k.Deadline) (λ _. local_number room))
      (λ n. moves_map room room (λ yss. item.Event x t n yss) (versions room') (versions room) local_versions)))

  item_at : (ts : Lexemes) → IsShallow ts room → Agrees (item_by room' (next_keyword ts)) room ts (item_by room (next_keyword ts) ts)
  unfolding int bool task event degrade start after
  item_at (keyword k.Int ∷ us) h = behind room (keyword k.Int) us after_int (after_int us) (local_int room us h)
  item_at (keyword k.Bool ∷ us) h = behind room (keyword k.Bool) us after_bool (after_bool us) (local_bool room us h)
  item_at (keyword k.Task ∷ us) h = behind room (keyword k.Task) us (after_task room') (after_task room us) (local_task us h)
  item_at (keyword k.Event ∷ us) h = behind room (keyword k.Event) us (after_event room') (after_event room us) (local_event us h)
  item_at (keyword k.Degrade ∷ us) h = behind room (keyword k.Degrade) us after_degrade (after_degrade us) (local_degrade room us h)
  item_at (keyword k.Start ∷ us) h = behind room (keyword k.Start) us after_start (after_start us) (local_start room us h)
  item_at _ h = ([], refl, λ other same. refl)

  local_item : Local room (one_item room) (one_item room')
  unfolding one_item
  local_item ts h = chosen room next_keyword keyword_heads (item_by room') ts (item_by room (next_keyword ts) ts) (item_at ts h)

  left_heads : (a b : Lexemes) → SameHead a b → is_left a ≡ is_left b
  left_heads [] [] e = refl
  left_heads [] (t ∷ b) e = absurd cc
  left_heads (t ∷ a) [] e = absurd cc
  left_heads (t ∷ a) (u ∷ b) e = refl

  pub local_program : Local room (program room) (program room')
  unfolding program
  local_program = local_many room (one_where is_left (one_item room)) (one_where is_left (one_item room'))
      (local_where room is_left left_heads (one_item room') (one_item room) (λ ts e h. local_item ts h))
      (λ ts mid x e. item_read_shorter room ts x mid (where_some is_left (one_item room) ts mid x e).1) []
