-- The parts of a handler, one after the other.
use Rattle.std.proofs.Common.{◌≡◌, ℕ, zero, suc, ◌+◌, ◌*◌, ◌-◌, ◌<◌, ◌≤◌, Bool, true, false, List, [], ◌∷◌, ◌++◌, length, drop, Some, None, refl, sym, ap, ◌∙◌, subst, arith, append_assoc, append-nil, length-append}
use Rattle.std.specs.Prelude.{ℤ, map, slice_get, slice_index, unwrap_or, not, if◌then◌else◌}
use Rattle.std.proofs.lemmas.List.{drop_all, map-append}
use Rattle.cat_program.specs.declared.syntax.Expr.{Expr}
use Rattle.cat_program.specs.declared.syntax.Stmt.{Stmt}
use Rattle.cat_program.specs.declared.syntax.Stmt.TheVariants.{Set, SetAt, Out, Post, If, While, Repeat}
use Rattle.cat_program.specs.declared.outs.LogEntry.TheVariants as entry
use Rattle.cat_program.specs.Value.{value_of, is_nought}
use Rattle.cat_program.specs.Body.{Body, Simple, SetWord, SetElement, Emit, Raise, Empty, Plain, When, Choice, Loop, Turns, with_stmt, with_stmts, tree_of, block_at}
use Rattle.cat_program.specs.Meaning.{Store, Output, effect, output, Handled, and_then, unchanged, times, either, handled}
use Rattle.cat_program.specs.OutsValue.{OutsValue, entry_of}
use Rattle.cat_program.specs.Checked.{Checked, IsChecked, EventWorks, HasVersion, version_at, most_outs}
use Rattle.cat_program.specs.PartLaws.{EachPart, BlocksAreTrees, OutputsAreFew}
use Rattle.cat_eval.specs.StateValue.{StateValue}
use Rattle.cat_eval.specs.Cursor.{Fits}
use Rattle.cat_eval.specs.Steps.{store_of, with_store, acted, Gives, Handles, Ready}
use Rattle.cat_eval.proofs.Stepping.{effect_words, effect_posts}

-- ---- a statement and what follows it

after_nothing : (h : Handled) → and_then h unchanged ≡ h
after_nothing h = ap (λ o. let r : Handled = record { store = h.store; outs = o } in r) (append-nil h.outs)

module _ (f : ℕ → Body) (b n : ℕ) (rest : Body) where
  abbrev One : Stmt → Body
  One s = with_stmt f 0 0 s Empty

  pub stmt_handled : (s : Stmt) (x : ℤ) (store : Store) → handled (with_stmt f b n s rest) x store ≡ and_then (handled (One s) x store) (handled rest x)
  stmt_handled (Set word value) x store = ap (λ h. and_then h (handled rest x)) (sym (after_nothing (record { store = effect (SetWord word value) x store; outs = [] })))
  stmt_handled (SetAt base len index value) x store = ap (λ h. and_then h (handled rest x)) (sym (after_nothing (record { store = effect (SetElement base len index value) x store; outs = [] })))
  stmt_handled (Out channel value) x store = ap (λ h. and_then h (handled rest x)) (sym (after_nothing (record { store = store; outs = output (Emit channel value) x store })))
  stmt_handled (Post task) x store = ap (λ h. and_then h (handled rest x)) (sym (after_nothing (record { store = effect (Raise task) x store; outs = [] })))
  stmt_handled (If test on None) x store = ap (λ h. and_then h (handled rest x)) (sym (after_nothing (either (value_of test store.words x) (handled (f on) x store) (unchanged store))))
  stmt_handled (If test on (Some off)) x store = ap (λ h. and_then h (handled rest x)) (sym (after_nothing (either (value_of test store.words x) (handled (f on) x store) (handled (f off) x store))))
  stmt_handled (While test body) x store = refl
  stmt_handled (Repeat count body) x store = ap (λ h. and_then h (handled rest x)) (sym (after_nothing (times count (handled (f body) x) store)))

  pub stmt_outs : (s : Stmt) → most_outs (with_stmt f b n s rest) ≡ most_outs (One s) + most_outs rest
  stmt_outs (Set word value) = omega arith
  stmt_outs (SetAt base len index value) = omega arith
  stmt_outs (Out channel value) = omega arith
  stmt_outs (Post task) = omega arith
  stmt_outs (If test on None) = omega arith
  stmt_outs (If test on (Some off)) = omega arith
  stmt_outs (While test body) = omega arith
  stmt_outs (Repeat count body) = omega arith

  pub stmt_works : (w t d : ℕ) (s : Stmt) → EventWorks w t d (with_stmt f b n s rest) → EventWorks w t d (One s) × EventWorks w t d rest
  stmt_works w t d (Set word value) h = ((h.0, tt), h.1)
  stmt_works w t d (SetAt base len index value) h = ((h.0, tt), h.1)
  stmt_works w t d (Out channel value) h = ((h.0, tt), h.1)
  stmt_works w t d (Post task) h = ((h.0, tt), h.1)
  stmt_works w t d (If test on None) h = ((h.0, h.1, tt), h.2)
  stmt_works w t d (If test on (Some off)) h = ((h.0, h.1, h.2, tt), h.3)
  stmt_works w t d (While test body) h = absurd h
  stmt_works w t d (Repeat count body) h = ((h.0, h.1, h.2, tt), h.3)

-- ---- the shape stays

either_words : (t : Bool) (a b : Handled) (n : ℕ) → length a.store.words ≡ n → length b.store.words ≡ n → length (if t then b else a).store.words ≡ n
either_words true a b n x y = y
either_words false a b n x y = x

times_words : (n : ℕ) (g : Store → Handled) → ((s : Store) → length (g s).store.words ≡ length s.words) → (s : Store) → length (times n g s).store.words ≡ length s.words
times_words zero g h s = refl
times_words (suc n) g h s = times_words n g h (g s).store ∙ h s

pub handled_words : (body : Body) (x : ℤ) (s : Store) → length (handled body x s).store.words ≡ length s.words
handled_words Empty x s = refl
handled_words (Plain b p simple rest) x s = handled_words rest x (effect simple x s) ∙ effect_words simple x s
handled_words (When b p e on rest) x s =
    let v = value_of e s.words x in
    handled_words rest x (either v (handled on x s) (unchanged s)).store ∙ either_words (is_nought v) (handled on x s) (unchanged s) (length s.words) (handled_words on x s) refl
handled_words (Choice b p e on off rest) x s =
    let v = value_of e s.words x in
    handled_words rest x (either v (handled on x s) (handled off x s)).store ∙ either_words (is_nought v) (handled on x s) (handled off x s) (length s.words) (handled_words on x s) (handled_words off x s)
handled_words (Loop b p e body rest) x s = handled_words rest x s
handled_words (Turns b p n body rest) x s = handled_words rest x (times n (handled body x) s).store ∙ times_words n (handled body x) (handled_words body x) s

either_posts : (t : Bool) (a b : Handled) (n : ℕ) → length a.store.posts ≡ n → length b.store.posts ≡ n → length (if t then b else a).store.posts ≡ n
either_posts true a b n x y = y
either_posts false a b n x y = x

times_posts : (n : ℕ) (g : Store → Handled) → ((s : Store) → length (g s).store.posts ≡ length s.posts) → (s : Store) → length (times n g s).store.posts ≡ length s.posts
times_posts zero g h s = refl
times_posts (suc n) g h s = times_posts n g h (g s).store ∙ h s

pub handled_posts : (body : Body) (x : ℤ) (s : Store) → length (handled body x s).store.posts ≡ length s.posts
handled_posts Empty x s = refl
handled_posts (Plain b p simple rest) x s = handled_posts rest x (effect simple x s) ∙ effect_posts simple x s
handled_posts (When b p e on rest) x s =
    let v = value_of e s.words x in
    handled_posts rest x (either v (handled on x s) (unchanged s)).store ∙ either_posts (is_nought v) (handled on x s) (unchanged s) (length s.posts) (handled_posts on x s) refl
handled_posts (Choice b p e on off rest) x s =
    let v = value_of e s.words x in
    handled_posts rest x (either v (handled on x s) (handled off x s)).store ∙ either_posts (is_nought v) (handled on x s) (handled off x s) (length s.posts) (handled_posts on x s) (handled_posts off x s)
handled_posts (Loop b p e body rest) x s = handled_posts rest x s
handled_posts (Turns b p n body rest) x s = handled_posts rest x (times n (handled body x) s).store ∙ times_posts n (handled body x) (handled_posts body x) s

-- ---- parts one after the other

-- what is done so far, and then the rest, is the whole
pub record Going (whole : Handled) (rest : Store → Handled) (s0 s : StateValue) (o0 o : OutsValue) : Type 0 where
  pub outs : List Output
  pub whole_is : whole ≡ and_then (record { store = store_of s; outs = outs }) rest
  pub state : s ≡ with_store s0 (store_of s)
  pub entries : o.entries ≡ o0.entries ++ map entry_of outs
  pub spare : o.spare + length outs ≡ o0.spare

pub going_starts : (rest : Store → Handled) (s0 : StateValue) (o0 : OutsValue) → Going (rest (store_of s0)) rest s0 s0 o0 o0
going_starts rest s0 o0 = record { outs = []; whole_is = refl; state = refl; entries = sym (append-nil o0.entries); spare = omega arith }

joined : (whole h : Handled) (s : Store) (outs : List Output) (rest later : Store → Handled) → whole ≡ and_then (record { store = s; outs = outs }) rest → rest s ≡ and_then h later → whole ≡ and_then (record { store = h.store; outs = outs ++ h.outs }) later
joined whole h s outs rest later e d =
    e ∙ ap (λ (r : Handled). let x : Handled = record { store = r.store; outs = outs ++ r.outs } in x) d
    ∙ ap (λ o. let x : Handled = record { store = (later h.store).store; outs = o } in x) (sym (append_assoc outs h.outs (later h.store).outs))

pub going_goes : (whole h : Handled) (rest later : Store → Handled) (s0 s s' : StateValue) (o0 o o' : OutsValue) → Going whole rest s0 s o0 o → Gives h s o s' o' → rest (store_of s) ≡ and_then h later → Going whole later s0 s' o0 o'
going_goes whole h rest later s0 s s' o0 o o' g v e =
    let store : store_of s' ≡ h.store = ap store_of v.state in
    record {
      outs = g.outs ++ h.outs;
      whole_is = joined whole h (store_of s) g.outs rest later g.whole_is e ∙ ap (λ x. and_then (record { store = x; outs = g.outs ++ h.outs }) later) (sym store);
      state = v.state ∙ ap (λ (x : StateValue). with_store x h.store) g.state ∙ ap (with_store s0) (sym store);
      entries = v.entries ∙ ap (λ x. x ++ map entry_of h.outs) g.entries ∙ append_assoc o0.entries (map entry_of g.outs) (map entry_of h.outs) ∙ ap (λ x. o0.entries ++ x) (sym (map-append entry_of g.outs h.outs));
      spare = omega (arith, g.spare, v.spare, length-append g.outs h.outs);
    }

pub going_ends : (whole : Handled) (rest : Store → Handled) (s0 s : StateValue) (o0 o : OutsValue) → Going whole rest s0 s o0 o → rest (store_of s) ≡ unchanged (store_of s) → Gives whole s0 o0 s o
going_ends whole rest s0 s o0 o g e =
    let all : whole ≡ record { store = store_of s; outs = g.outs } =
    g.whole_is ∙ ap (λ (r : Handled). let x : Handled = record { store = r.store; outs = g.outs ++ r.outs } in x) e ∙ ap (λ l. let x : Handled = record { store = store_of s; outs = l } in x) (append-nil g.outs) in
    subst (λ h. Gives h s0 o0 s o) (sym all) (record { state = g.state; entries = g.entries; spare = g.spare })

-- ---- statements

-- a simple statement that puts nothing out
pub quiet_gives : (simple : Simple) (x : ℤ) (s s' : StateValue) (o : OutsValue) → output simple x (store_of s) ≡ [] → s' ≡ acted simple x s → Handles (Plain 0 0 simple Empty) x s o s' o
quiet_gives simple x s s' o none e =
    let here : handled (Plain 0 0 simple Empty) x (store_of s) ≡ record { store = effect simple x (store_of s); outs = [] } =
    ap (λ l. let h : Handled = record { store = effect simple x (store_of s); outs = l } in h) (append-nil (output simple x (store_of s)) ∙ none) in
    subst (λ h. Gives h s o s' o) (sym here) (record { state = e; entries = sym (append-nil o.entries); spare = omega arith })

pub emit_gives : (channel : ℕ) (value : Expr) (x : ℤ) (s : StateValue) (o o' : OutsValue) → 0 < o.spare → o' ≡ record { entries = o.entries ++ entry.Out channel (value_of value s.words x) ∷ []; spare = o.spare - 1 } → Handles (Plain 0 0 (Emit channel value) Empty) x s o s o'
emit_gives channel value x s o o' some e = record {
  state = refl;
  entries = ap (λ (v : OutsValue). v.entries) e;
  spare = omega (arith, ap (λ (v : OutsValue). v.spare) e);
}

-- a block that a test chooses, or nothing
pub chosen_gives : (h : Handled) (s s' : StateValue) (o o' : OutsValue) → Gives h s o s' o' → Gives (and_then h unchanged) s o s' o'
chosen_gives h s s' o o' g = subst (λ x. Gives x s o s' o') (sym (after_nothing h)) g

pub nothing_gives : (s : StateValue) (o : OutsValue) → Gives (unchanged (store_of s)) s o s o
nothing_gives s o = record { state = refl; entries = sym (append-nil o.entries); spare = omega arith }

not_false : (t : Bool) → true ≡ not t → t ≡ false
not_false true e = cc
not_false false e = refl

not_true : (t : Bool) → false ≡ not t → t ≡ true
not_true true e = refl
not_true false e = cc

module _ (v : ℤ) (a b : Handled) (s s' : StateValue) (o o' : OutsValue) where
  pub on_gives : true ≡ not (is_nought v) → Gives a s o s' o' → Gives (and_then (either v a b) unchanged) s o s' o'
  on_gives e g = chosen_gives (either v a b) s s' o o' (subst (λ t. Gives (if t then b else a) s o s' o') (sym (not_false (is_nought v) e)) g)

  pub off_gives : false ≡ not (is_nought v) → Gives b s o s' o' → Gives (and_then (either v a b) unchanged) s o s' o'
  off_gives e g = chosen_gives (either v a b) s s' o o' (subst (λ t. Gives (if t then b else a) s o s' o') (sym (not_true (is_nought v) e)) g)

-- ---- what is ready

pub ready_shape : (p : Checked) (s s' : StateValue) (h : Handled) (o o' : OutsValue) → Gives h s o s' o' → length h.store.words ≡ length s.words → length h.store.posts ≡ length s.posts → (length s'.words ≡ length s.words) × (length s'.posts ≡ length s.posts)
ready_shape p s s' h o o' g w t = (ap (λ (x : StateValue). length x.words) g.state ∙ w, ap (λ (x : StateValue). length x.posts) g.state ∙ t)

-- the statements of a block, as far as they are done
pub record Running (p : Checked) (b : ℕ) (ss : List Stmt) (x : ℤ) (s0 s : StateValue) (o0 o : OutsValue) (n : ℕ) : Type 0 where
  pub going : Going (handled (tree_of p.blocks b) x (store_of s0)) (handled (with_stmts (tree_of p.blocks) b n (drop n ss)) x) s0 s o0 o
  pub ready : Ready p (with_stmts (tree_of p.blocks) b n (drop n ss)) s o

pub running_starts : BlocksAreTrees → (p : Checked) (b : ℕ) (ss : List Stmt) (x : ℤ) (s0 : StateValue) (o0 : OutsValue) → b < length p.blocks → ss ≡ block_at p.blocks b → Ready p (tree_of p.blocks b) s0 o0 → Running p b ss x s0 s0 o0 o0 0
running_starts law p b ss x s0 o0 h e r =
    let same : tree_of p.blocks b ≡ with_stmts (tree_of p.blocks) b 0 ss = law.tree p.blocks b r.checked.lower h ∙ ap (with_stmts (tree_of p.blocks) b 0) (sym e) in
    record {
      going = subst (λ k. Going (handled (tree_of p.blocks b) x (store_of s0)) (handled k x) s0 s0 o0 o0) same (going_starts (handled (tree_of p.blocks b) x) s0 o0);
      ready = subst (λ k. Ready p k s0 o0) same r;
    }

next_drop : (ss : List Stmt) (n : ℕ) (s : Stmt) → slice_get ss n ≡ Some s → drop n ss ≡ s ∷ drop (n + 1) ss
next_drop [] n s e = cc
next_drop (x ∷ ss) zero s e = let same : x ≡ s = cc in ap (λ y. y ∷ ss) same
next_drop (x ∷ ss) (suc n) s e = let more : suc (n + 1) ≡ suc n + 1 = omega arith in next_drop ss n s e ∙ ap (λ j. s ∷ drop j (x ∷ ss)) more

module _ (p : Checked) (b : ℕ) (ss : List Stmt) (x : ℤ) (s0 s : StateValue) (o0 o : OutsValue) (n : ℕ) (stmt : Stmt) (item : slice_get ss n ≡ Some stmt) (r : Running p b ss x s0 s o0 o n) where
  abbrev F : ℕ → Body
  F = tree_of p.blocks

  abbrev Later : Body
  Later = with_stmts F b (n + 1) (drop (n + 1) ss)

  left_is : with_stmts F b n (drop n ss) ≡ with_stmt F b n stmt Later
  left_is = ap (with_stmts F b n) (next_drop ss n stmt item)

  left_ready : Ready p (with_stmt F b n stmt Later) s o
  left_ready = subst (λ k. Ready p k s o) left_is r.ready

  pub running_ready : Ready p (with_stmt F 0 0 stmt Empty) s o
  running_ready = record {
    checked = r.ready.checked;
    words_are = r.ready.words_are;
    posts_are = r.ready.posts_are;
    held = left_ready.held;
    works = (stmt_works F b n Later (length p.words) (length p.tasks) left_ready.held stmt left_ready.works).0;
    room = omega (arith, left_ready.room, stmt_outs F b n Later stmt);
  }

  pub running_goes : OutputsAreFew → (s' : StateValue) (o' : OutsValue) → Handles (with_stmt F 0 0 stmt Empty) x s o s' o' → Running p b ss x s0 s' o0 o' (n + 1)
  running_goes outs_most s' o' v =
      let one = with_stmt F 0 0 stmt Empty in
      let shape = ready_shape p s s' (handled one x (store_of s)) o o' v (handled_words one x (store_of s)) (handled_posts one x (store_of s)) in
      record {
        going = going_goes _ (handled one x (store_of s)) (handled (with_stmts F b n (drop n ss)) x) (handled Later x) s0 s s' o0 o o' r.going v (ap (λ k. handled k x (store_of s)) left_is ∙ stmt_handled F b n Later stmt x (store_of s));
        ready = record {
          checked = r.ready.checked;
          words_are = shape.0 ∙ r.ready.words_are;
          posts_are = shape.1 ∙ r.ready.posts_are;
          held = left_ready.held;
          works = (stmt_works F b n Later (length p.words) (length p.tasks) left_ready.held stmt left_ready.works).1;
          room = omega (arith, left_ready.room, stmt_outs F b n Later stmt, v.spare, outs_most one x (store_of s));
        };
      }

pub running_ends : (p : Checked) (b : ℕ) (ss : List Stmt) (x : ℤ) (s0 s : StateValue) (o0 o : OutsValue) (n : ℕ) → length ss ≤ n → Running p b ss x s0 s o0 o n → Handles (tree_of p.blocks b) x s0 o0 s o
running_ends p b ss x s0 s o0 o n le r =
    going_ends _ _ s0 s o0 o r.going (ap (λ l. handled (with_stmts (tree_of p.blocks) b n l) x (store_of s)) (drop_all n ss le))

-- the turns of a repeat, as far as they are done
pub record Turning (p : Checked) (count : ℕ) (body : Body) (x : ℤ) (s0 s : StateValue) (o0 o : OutsValue) (n : ℕ) : Type 0 where
  pub going : Going (times count (handled body x) (store_of s0)) (times (count - n) (handled body x)) s0 s o0 o
  pub checked : IsChecked p
  pub words_are : length s.words ≡ length p.words
  pub posts_are : length s.posts ≡ length p.tasks
  pub held : ℕ
  pub works : EventWorks (length p.words) (length p.tasks) held body
  pub room : (count - n) * most_outs body ≤ o.spare

pub turning_starts : (p : Checked) (count : ℕ) (body : Body) (x : ℤ) (s0 : StateValue) (o0 : OutsValue) → Ready p (Turns 0 0 count body Empty) s0 o0 → Turning p count body x s0 s0 o0 o0 0
turning_starts p count body x s0 o0 r =
    let all : count - 0 ≡ count = omega arith in
    let room : (count - 0) * most_outs body ≤ o0.spare = omega (arith, r.room, ap (λ k. k * most_outs body) all) in
    record {
      going = subst (λ k. Going (times count (handled body x) (store_of s0)) (times k (handled body x)) s0 s0 o0 o0) (sym all) (going_starts (times count (handled body x)) s0 o0);
      checked = r.checked;
      words_are = r.words_are;
      posts_are = r.posts_are;
      held = r.held + 1;
      works = r.works.2;
      room = room;
    }

less_left : (count n : ℕ) → n < count → count - n ≡ suc (count - (n + 1))
less_left count n h = omega arith

module _ (p : Checked) (count : ℕ) (body : Body) (x : ℤ) (s0 s : StateValue) (o0 o : OutsValue) (n : ℕ) (less : n < count) (t : Turning p count body x s0 s o0 o n) where
  more_room : most_outs body + (count - (n + 1)) * most_outs body ≤ o.spare
  more_room =
      let left = ap (λ k. k * most_outs body) (less_left count n less) in
      let more : suc (count - (n + 1)) * most_outs body ≡ (count - (n + 1)) * most_outs body + most_outs body = grind arith in
      omega (arith, t.room, left, more)

  pub turning_ready : Ready p body s o
  turning_ready = record { checked = t.checked; words_are = t.words_are; posts_are = t.posts_are; held = t.held; works = t.works; room = omega (arith, more_room) }

  pub turning_goes : OutputsAreFew → (s' : StateValue) (o' : OutsValue) → Handles body x s o s' o' → Turning p count body x s0 s' o0 o' (n + 1)
  turning_goes outs_most s' o' v =
      let shape = ready_shape p s s' (handled body x (store_of s)) o o' v (handled_words body x (store_of s)) (handled_posts body x (store_of s)) in
      record {
        going = going_goes _ (handled body x (store_of s)) (times (count - n) (handled body x)) (times (count - (n + 1)) (handled body x)) s0 s s' o0 o o' t.going v (ap (λ k. times k (handled body x) (store_of s)) (less_left count n less));
        checked = t.checked;
        words_are = shape.0 ∙ t.words_are;
        posts_are = shape.1 ∙ t.posts_are;
        held = t.held;
        works = t.works;
        room = omega (arith, more_room, v.spare, outs_most body x (store_of s));
      }

pub turning_ends : (p : Checked) (count : ℕ) (body : Body) (x : ℤ) (s0 s : StateValue) (o0 o : OutsValue) (n : ℕ) → count ≤ n → Turning p count body x s0 s o0 o n → Handles (Turns 0 0 count body Empty) x s0 o0 s o
turning_ends p count body x s0 s o0 o n le t =
    let none : count - n ≡ 0 = omega arith in
    chosen_gives (times count (handled body x) (store_of s0)) s0 s o0 o (going_ends _ _ s0 s o0 o t.going (ap (λ k. times k (handled body x) (store_of s)) none))

-- ---- a version's block

pub version_ready : (p : Checked) → EachPart p → (s : StateValue) (o : OutsValue) (event version b : ℕ) → Fits p s → HasVersion p event version → b ≡ slice_index (unwrap_or (slice_get p.events event) []) version → most_outs (version_at p event version) ≤ o.spare → Ready p (tree_of p.blocks b) s o
version_ready p parts s o event version b fits there e room =
    subst (λ k. Ready p (tree_of p.blocks k) s o) (sym e)
    (record {
      checked = fits.checked;
      words_are = fits.words_are;
      posts_are = fits.posts_are;
      held = 0;
      works = (parts.versions event version there).works.works;
      room = room;
    })

pub handled_fits : (p : Checked) (body : Body) (x : ℤ) (s s' : StateValue) (o o' : OutsValue) → Fits p s → Handles body x s o s' o' → Fits p s'
handled_fits p body x s s' o o' fits g =
    subst (Fits p) (sym g.state)
    (record {
      checked = fits.checked;
      words_are = handled_words body x (store_of s) ∙ fits.words_are;
      posts_are = handled_posts body x (store_of s) ∙ fits.posts_are;
      cursor = fits.cursor;
      idle = fits.idle;
    })
