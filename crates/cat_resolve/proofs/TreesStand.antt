-- The tree of a block of the program stands for the block of the source that it is.
use Rattle.std.proofs.Common.{◌≡◌, ℕ, zero, suc, ◌+◌, ◌<◌, ◌≤◌, List, [], ◌∷◌, ◌++◌, length, ◌∙◌, arith, length-append}
use Rattle.std.specs.Prelude.{map}
use Rattle.cat_program.specs.declared.syntax.Stmt.{Stmt}
use Rattle.cat_program.specs.Body.{with_stmts, block_at, tree_to, tree_of}
use Rattle.cat_conditions.specs.Plain.{Term, Actions, no_action, action, no_else, otherwise}
use Rattle.cat_conditions.specs.Plain as plain
use Rattle.cat_resolve.specs.Names.{Meanings}
use Rattle.cat_resolve.specs.Form.{Command, command, commands}
use Rattle.cat_resolve.specs.Resolved.{formula_of}
use Rattle.cat_resolve.specs.Blocks.{blocks_in, commands_of, blocks_within, else_blocks, block_blocks, block_number}
use Rattle.cat_resolve.proofs.Targets.{set_is, set_at_is, post_is}
use Rattle.cat_resolve.proofs.Standing.{Stands, ends, set_stands, set_at_stands, out_stands, post_stands, when_stands, choose_stands, loop_stands, turns_stand}
use Rattle.cat_resolve.proofs.BlocksAt.{StandAt, first_at, second_at, after_at, own_at}

head_is : {A : Type 0} {x y : A} {xs ys : List A} → x ∷ xs ≡ y ∷ ys → x ≡ y
head_is e = (cc)

tail_is : {A : Type 0} {x y : A} {xs ys : List A} → x ∷ xs ≡ y ∷ ys → xs ≡ ys
tail_is e = (cc)

-- a block with those in it, before others, below d
record Inner (blocks : List (List Stmt)) (d n : ℕ) (within : List (List Command)) (own : List Command) (others : List (List Command)) : Type 0 where
  pub below : n + length within < d
  pub inner : StandAt (commands blocks) n within
  pub own_is : map command (block_at blocks (n + length within)) ≡ own
  pub fits : n + length within + 1 + length others ≤ d
  pub later : StandAt (commands blocks) (n + length within + 1) others

inner_of : (blocks : List (List Stmt)) (d n : ℕ) (within : List (List Command)) (own : List Command) (others : List (List Command))
    → n + length (within ++ own ∷ others) ≤ d → StandAt (commands blocks) n (within ++ own ∷ others) → Inner blocks d n within own others
inner_of blocks d n within own others le at =
    let l : length (within ++ own ∷ others) ≡ length within + suc (length others) = length-append within (own ∷ others) in
    let next = second_at (commands blocks) n within (own ∷ others) at in
    record {
      below = omega (arith, l, le);
      inner = first_at (commands blocks) n within (own ∷ others) at;
      own_is = own_at blocks (n + length within) own others next;
      fits = omega (arith, l, le);
      later = after_at (commands blocks) (n + length within) own others next;
    }

pub first_fits : (n d : ℕ) (one more : List (List Command)) → n + length (one ++ more) ≤ d → n + length one ≤ d
first_fits n d one more le =
    let l : length (one ++ more) ≡ length one + length more = length-append one more in
    omega (arith, l, le)

pub rest_fits : (n d : ℕ) (one more : List (List Command)) → n + length (one ++ more) ≤ d → (n + length one) + length more ≤ d
rest_fits n d one more le =
    let l : length (one ++ more) ≡ length one + length more = length-append one more in
    omega (arith, l, le)

-- a block is its statements over the trees of one level less
at_depth : (names : Meanings) (blocks : List (List Stmt)) (b : Actions) (d m : ℕ) → m < d
    → ((e : ℕ) → m ≤ e → Stands names b (with_stmts (tree_to e blocks) m 0 (block_at blocks m))) → Stands names b (tree_to d blocks m)
unfolding tree_to
at_depth names blocks b zero m lt h = absurd (omega (arith, lt))
at_depth names blocks b (suc d) m lt h = h d (omega (arith, lt))

module _ (names : Meanings) (blocks : List (List Stmt)) where
  actions_stand : (b : Actions) (d n number place : ℕ) (ss : List Stmt) → n + length (blocks_within names n b) ≤ d
      → StandAt (commands blocks) n (blocks_within names n b) → map command ss ≡ commands_of names n b → Stands names b (with_stmts (tree_to d blocks) number place ss)
  actions_stand no_action d n number place [] le at e = ends
  actions_stand no_action d n number place (s ∷ ss) le at e = absurd (cc)
  actions_stand (action (plain.set x t) rest) d n number place (s ∷ ss) le at e =
      let one = blocks_in names n (plain.set x t) in
      let more = blocks_within names (n + length one) rest in
      let after : Stands names rest (with_stmts (tree_to d blocks) number (place + 1) ss) =
      actions_stand rest d (n + length one) number (place + 1) ss (rest_fits n d one more le) (second_at (commands blocks) n one more at) (tail_is e) in
      set_stands names (tree_to d blocks) number place rest _ after x t s (head_is e ∙ set_is (names x) (formula_of names t))
  actions_stand (action (plain.set_at x i t) rest) d n number place (s ∷ ss) le at e =
      let one = blocks_in names n (plain.set_at x i t) in
      let more = blocks_within names (n + length one) rest in
      let after : Stands names rest (with_stmts (tree_to d blocks) number (place + 1) ss) =
      actions_stand rest d (n + length one) number (place + 1) ss (rest_fits n d one more le) (second_at (commands blocks) n one more at) (tail_is e) in
      set_at_stands names (tree_to d blocks) number place rest _ after x i t s (head_is e ∙ set_at_is (names x) (formula_of names i) (formula_of names t))
  actions_stand (action (plain.out c t) rest) d n number place (s ∷ ss) le at e =
      let one = blocks_in names n (plain.out c t) in
      let more = blocks_within names (n + length one) rest in
      let after : Stands names rest (with_stmts (tree_to d blocks) number (place + 1) ss) =
      actions_stand rest d (n + length one) number (place + 1) ss (rest_fits n d one more le) (second_at (commands blocks) n one more at) (tail_is e) in
      out_stands names (tree_to d blocks) number place rest _ after c _ t s (head_is e)
  actions_stand (action (plain.post x) rest) d n number place (s ∷ ss) le at e =
      let one = blocks_in names n (plain.post x) in
      let more = blocks_within names (n + length one) rest in
      let after : Stands names rest (with_stmts (tree_to d blocks) number (place + 1) ss) =
      actions_stand rest d (n + length one) number (place + 1) ss (rest_fits n d one more le) (second_at (commands blocks) n one more at) (tail_is e) in
      post_stands names (tree_to d blocks) number place rest _ after x s (head_is e ∙ post_is (names x))
  actions_stand (action (plain.choose t first no_else) rest) d n number place (s ∷ ss) le at e =
      let one = blocks_in names n (plain.choose t first no_else) in
      let more = blocks_within names (n + length one) rest in
      let after : Stands names rest (with_stmts (tree_to d blocks) number (place + 1) ss) =
      actions_stand rest d (n + length one) number (place + 1) ss (rest_fits n d one more le) (second_at (commands blocks) n one more at) (tail_is e) in
      let within = blocks_within names n first in
      let m = n + length within in
      let i = inner_of blocks d n within (commands_of names n first) [] (first_fits n d one more le) (first_at (commands blocks) n one more at) in
      let on : Stands names first (tree_to d blocks m) =
      at_depth names blocks first d m i.below (λ j fits. actions_stand first j n m 0 (block_at blocks m) fits i.inner i.own_is) in
      when_stands names (tree_to d blocks) number place rest _ after t first m s on (head_is e)
  actions_stand (action (plain.choose t first (otherwise second)) rest) d n number place (s ∷ ss) le at e =
      let one = blocks_in names n (plain.choose t first (otherwise second)) in
      let more = blocks_within names (n + length one) rest in
      let after : Stands names rest (with_stmts (tree_to d blocks) number (place + 1) ss) =
      actions_stand rest d (n + length one) number (place + 1) ss (rest_fits n d one more le) (second_at (commands blocks) n one more at) (tail_is e) in
      let within = blocks_within names n first in
      let m = n + length within in
      let others = else_blocks names (m + 1) (otherwise second) in
      let i = inner_of blocks d n within (commands_of names n first) others (first_fits n d one more le) (first_at (commands blocks) n one more at) in
      let on : Stands names first (tree_to d blocks m) =
      at_depth names blocks first d m i.below (λ j fits. actions_stand first j n m 0 (block_at blocks m) fits i.inner i.own_is) in
      let within_second = blocks_within names (m + 1) second in
      let k = m + 1 + length within_second in
      let j = inner_of blocks d (m + 1) within_second (commands_of names (m + 1) second) [] i.fits i.later in
      let off : Stands names second (tree_to d blocks k) =
      at_depth names blocks second d k j.below (λ l fits. actions_stand second l (m + 1) k 0 (block_at blocks k) fits j.inner j.own_is) in
      choose_stands names (tree_to d blocks) number place rest _ after t first second m k s on off (head_is e)
  actions_stand (action (plain.loop t body) rest) d n number place (s ∷ ss) le at e =
      let one = blocks_in names n (plain.loop t body) in
      let more = blocks_within names (n + length one) rest in
      let after : Stands names rest (with_stmts (tree_to d blocks) number (place + 1) ss) =
      actions_stand rest d (n + length one) number (place + 1) ss (rest_fits n d one more le) (second_at (commands blocks) n one more at) (tail_is e) in
      let within = blocks_within names n body in
      let m = n + length within in
      let i = inner_of blocks d n within (commands_of names n body) [] (first_fits n d one more le) (first_at (commands blocks) n one more at) in
      let inside : Stands names body (tree_to d blocks m) =
      at_depth names blocks body d m i.below (λ j fits. actions_stand body j n m 0 (block_at blocks m) fits i.inner i.own_is) in
      loop_stands names (tree_to d blocks) number place rest _ after t body m s inside (head_is e)
  actions_stand (action (plain.turns count body) rest) d n number place (s ∷ ss) le at e =
      let one = blocks_in names n (plain.turns count body) in
      let more = blocks_within names (n + length one) rest in
      let after : Stands names rest (with_stmts (tree_to d blocks) number (place + 1) ss) =
      actions_stand rest d (n + length one) number (place + 1) ss (rest_fits n d one more le) (second_at (commands blocks) n one more at) (tail_is e) in
      let within = blocks_within names n body in
      let m = n + length within in
      let i = inner_of blocks d n within (commands_of names n body) [] (first_fits n d one more le) (first_at (commands blocks) n one more at) in
      let inside : Stands names body (tree_to d blocks m) =
      at_depth names blocks body d m i.below (λ j fits. actions_stand body j n m 0 (block_at blocks m) fits i.inner i.own_is) in
      turns_stand names (tree_to d blocks) number place rest _ after count body m s inside (head_is e)
  actions_stand _ d n number place [] le at e = absurd (cc)

  -- so does the tree of a whole block
  pub tree_stands : (b : Actions) (n : ℕ) → n + length (block_blocks names n b) ≤ length blocks → StandAt (commands blocks) n (block_blocks names n b)
      → Stands names b (tree_of blocks (block_number names n b))
  tree_stands b n le at =
      let m = block_number names n b in
      let i = inner_of blocks (length blocks) n (blocks_within names n b) (commands_of names n b) [] le at in
      at_depth names blocks b (length blocks) m i.below (λ j fits. actions_stand b j n m 0 (block_at blocks m) fits i.inner i.own_is)
