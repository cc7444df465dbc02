-- A place is looked for in a block, statement by statement.
use Rattle.std.proofs.Common.{◌≡◌, ℕ, suc, ◌+◌, ◌-◌, ◌<◌, ◌≤◌, Bool, true, false, List, [], ◌∷◌, ◌++◌, length, Option, Some, None, refl, sym, ap, ◌∙◌, subst, arith}
use Rattle.std.specs.Prelude.{slice_get}
use Rattle.std.proofs.lemmas.Option.{slice_get_within}
use Rattle.cat_program.specs.declared.syntax.Expr.{Expr}
use Rattle.cat_program.specs.declared.syntax.Stmt.{Stmt}
use Rattle.cat_program.specs.declared.syntax.Stmt.TheVariants.{If, While, Repeat}
use Rattle.cat_program.specs.Body.{Body, join, with_stmt, tree_of, block_at}
use Rattle.cat_program.specs.Places.{Marks, body_size, expr_size, marks_of}
use Rattle.cat_program.specs.Checked.{Checked, NamesLower, depth_of}
use Rattle.cat_program.specs.PartLaws.{BlocksAreTrees}
use Rattle.cat_eval.specs.declared.state.Frame.{Frame}
use Rattle.cat_eval.specs.Cursor.{frame_body, cursor_body}
use Rattle.cat_eval.specs.Places.{IsAtStatement, AreAtStatements, Stands, IsBefore, IsIn, IsStmtIn, IsChoiceIn, choice_marks}
use Rattle.cat_eval.proofs.Frames.{frame, frame_next, frame_over, depth_some}
use Rattle.cat_eval.proofs.Parts.{one, frame_first, stmt_join, stmt_size, stmt_depth, stmt_some}
use Rattle.cat_eval.proofs.Marks.{CanStand, head_size, get_front, get_back, marks_length, when_within, choice_within, loop_within, stmt_behind, stmt_first, stmt_none, repeat_none}

pub stands_as : (p : Checked) (marks marks' : Marks) (i j : ℕ) (told : Bool) (fs : List Frame) → slice_get marks i ≡ slice_get marks' j → Stands p marks' j told fs → Stands p marks i told fs
stands_as p marks marks' i j told fs e s = record { some = λ y. e ∙ s.some y; at_statements = s.at_statements; none = λ n. e ∙ s.none n }

pub stands_yes : (p : Checked) (marks : Marks) (i : ℕ) (fs : List Frame) → slice_get marks i ≡ Some (Some (cursor_body p fs)) → AreAtStatements p fs → Stands p marks i true fs
stands_yes p marks i fs e at = record { some = λ y. e; at_statements = λ y. at; none = λ n. cc }

pub stands_no : (p : Checked) (marks : Marks) (i : ℕ) (fs : List Frame) → slice_get marks i ≡ Some None → Stands p marks i false fs
stands_no p marks i fs e = record { some = λ y. cc; at_statements = λ y. cc; none = λ n. e }

-- how far a block was looked through: its statements from number n on are left, and the place is so far in their code
pub record Finding (p : Checked) (b at : ℕ) (fs : List Frame) (left place n : ℕ) : Type 0 where
  pub place_is : place ≡ n
  pub marks : slice_get (marks_of (tree_of p.blocks b) (cursor_body p fs)) at ≡ slice_get (marks_of (frame_body p (frame b n)) (cursor_body p fs)) left
  pub within : left < body_size (frame_body p (frame b n))
  pub short : n + body_size (frame_body p (frame b n)) ≤ 60000
  pub room : length fs + depth_of (frame_body p (frame b n)) ≤ 32

module _ (law : BlocksAreTrees) (p : Checked) (b at : ℕ) (fs : List Frame) (is : IsIn p b at fs) where
  same : tree_of p.blocks b ≡ frame_body p (frame b 0)
  same = sym (frame_first law p is.lower b is.before.block)

  pub finding_starts : Finding p b at fs at 0 0
  finding_starts = record {
    place_is = refl;
    marks = ap (λ x. slice_get (marks_of x (cursor_body p fs)) at) same;
    within = subst (λ x. at < body_size x) same is.within;
    short = let e = ap body_size same in omega (arith, e, is.before.short);
    room = subst (λ x. length fs + depth_of x ≤ 32) same is.before.room;
  }

  module _ (left place n : ℕ) (s : Stmt) (here : slice_get (block_at p.blocks b) n ≡ Some s) (f : Finding p b at fs left place n) where
    abbrev Later : Body
    Later = frame_body p (frame b (n + 1))

    whole : frame_body p (frame b n) ≡ with_stmt (tree_of p.blocks) b n s Later
    whole = frame_next p b n s here

    size_is : body_size (frame_body p (frame b n)) ≡ body_size (one (tree_of p.blocks) s) + body_size Later
    size_is = ap body_size whole ∙ stmt_size (tree_of p.blocks) b n s Later

    depth_is : depth_of Later ≤ depth_of (frame_body p (frame b n))
    depth_is = subst (λ x. depth_of Later ≤ depth_of x) (sym whole) (stmt_depth (tree_of p.blocks) b n s Later)

    pub finding_short : body_size (one (tree_of p.blocks) s) ≤ 60000
    finding_short = omega (arith, size_is, f.short)

    pub finding_here : NamesLower b s → left < body_size (one (tree_of p.blocks) s) → IsStmtIn p (frame b n) s left fs
    finding_here names lt = record {
      lower = is.lower;
      names = names;
      block = is.before.block;
      here = here;
      few = omega (arith, f.short, f.within);
      short = omega (arith, f.short);
      room = f.room;
      behind = is.before.behind;
      within = lt;
    }

    pub finding_goes : body_size (one (tree_of p.blocks) s) ≤ left → Finding p b at fs (left - body_size (one (tree_of p.blocks) s)) (place + 1) (n + 1)
    finding_goes le =
        let size = body_size (one (tree_of p.blocks) s) in
        let cut : left ≡ size + (left - size) = omega (arith, le) in
        record {
          place_is = ap (λ m. m + 1) f.place_is;
          marks = f.marks ∙ ap (λ x. slice_get (marks_of x (cursor_body p fs)) left) whole ∙ stmt_behind (tree_of p.blocks) b n Later (cursor_body p fs) s left (left - size) cut;
          within = omega (arith, size_is, f.within, le);
          short = omega (arith, size_is, f.short, stmt_some (tree_of p.blocks) s);
          room = omega (arith, depth_is, f.room);
        }

  pub finding_found : (left place n : ℕ) (told : Bool) (found : List Frame) → Finding p b at fs left place n → Stands p (marks_of (frame_body p (frame b n)) (cursor_body p fs)) left told found
      → Stands p (marks_of (tree_of p.blocks b) (cursor_body p fs)) at told found
  finding_found left place n told found f s = stands_as p _ _ at left told found f.marks s

  pub finding_over : (left place n : ℕ) → length (block_at p.blocks b) ≤ n → Finding p b at fs left place n → ⊥
  finding_over left place n over f =
      let none : body_size (frame_body p (frame b n)) ≡ 0 = ap body_size (frame_over p b n over) in
      let lt = f.within in
      omega (arith, none, lt)

-- within a statement
module _ (p : Checked) (b n : ℕ) (s : Stmt) (at : ℕ) (fs : List Frame) (is : IsStmtIn p (frame b n) s at fs) where
  abbrev Tree : ℕ → Body
  Tree = tree_of p.blocks

  abbrev Behind : Body
  Behind = frame_body p (frame b (n + 1))

  abbrev K : Body
  K = cursor_body p fs

  stmt_whole : frame_body p (frame b n) ≡ with_stmt Tree b n s Behind
  stmt_whole = frame_next p b n s is.here

  marks_are : slice_get (marks_of (frame_body p (frame b n)) K) at ≡ slice_get (marks_of (with_stmt Tree b n s Behind) K) at
  marks_are = ap (λ x. slice_get (marks_of x K) at) stmt_whole

  pub frame_at : IsAtStatement p (frame b n)
  frame_at = record { block = is.block; place = slice_get_within (block_at p.blocks b) n s is.here }

  pub opened_at : AreAtStatements p (frame b n ∷ fs)
  opened_at = (frame_at, is.behind)

  opened_is : cursor_body p (frame b n ∷ fs) ≡ with_stmt Tree b n s (join Behind K)
  opened_is = ap (λ x. join x K) stmt_whole ∙ stmt_join Tree b n s Behind K

  pub room_for_one : length fs < 32
  room_for_one = omega (arith, is.room, depth_some (frame_body p (frame b n)))

  stmt_short : body_size (one Tree s) ≤ 60000
  stmt_short =
      let e : body_size (frame_body p (frame b n)) ≡ body_size (one Tree s) + body_size Behind = ap body_size stmt_whole ∙ stmt_size Tree b n s Behind in
      omega (arith, e, is.short)

  stmt_room : length fs + depth_of (with_stmt Tree b n s Behind) ≤ 32
  stmt_room = subst (λ x. length fs + depth_of x ≤ 32) stmt_whole is.room

  -- its first place
  pub at_first : CanStand s → at ≡ 0 → Stands p (marks_of (frame_body p (frame b n)) K) at true (frame b n ∷ fs)
  at_first can zero_is =
      stands_yes p _ at _
      (marks_are ∙ ap (λ i. slice_get (marks_of (with_stmt Tree b n s Behind) K) i) zero_is ∙ stmt_first Tree b n Behind K s can ∙ ap (λ x. Some (Some x)) (stmt_join Tree b n s Behind K ∙ sym opened_is))
      opened_at

  -- the places behind it, up to its last instruction or the end of its test
  pub at_none : (found : List Frame) → CanStand s → 0 < at → at < head_size s → Stands p (marks_of (frame_body p (frame b n)) K) at false found
  at_none found can some lt = stands_no p _ at found (marks_are ∙ stmt_none Tree b n Behind K s at can some lt)

  -- the same, where the statement is known
  pub at_first_as : (s' : Stmt) → s ≡ s' → CanStand s' → at ≡ 0 → Stands p (marks_of (frame_body p (frame b n)) K) at true (frame b n ∷ fs)
  at_first_as s' e can zero_is = at_first (subst CanStand (sym e) can) zero_is

  pub at_none_as : (s' : Stmt) (found : List Frame) → s ≡ s' → CanStand s' → 0 < at → at < head_size s' → Stands p (marks_of (frame_body p (frame b n)) K) at false found
  at_none_as s' found e can some lt = at_none found (subst CanStand (sym e) can) some (subst (λ x. at < head_size x) (sym e) lt)

  -- a statement with no block: only its first place stands for something
  pub at_plain : (s' : Stmt) (told : Bool) (new : List Frame) → s ≡ s' → CanStand s' → body_size (one Tree s') ≤ head_size s' → (told ≡ true → (at ≡ 0) × (new ≡ frame b n ∷ fs)) → (told ≡ false → (0 < at) × (new ≡ fs))
      → Stands p (marks_of (frame_body p (frame b n)) K) at told new
  at_plain s' true new e can le first later = subst (λ (l : List Frame). Stands p (marks_of (frame_body p (frame b n)) K) at true l) (sym (first refl).1) (at_first_as s' e can (first refl).0)
  at_plain s' false new e can le first later =
      let within : at < body_size (one Tree s') = subst (λ x. at < body_size (one Tree x)) e is.within in
      at_none_as s' new e can (later refl).0 (omega (arith, within, le))

  pub test_short : (test : Expr) (on : ℕ) (off : Option ℕ) → s ≡ If test on off → expr_size test < 60000
  test_short test on None e = let short : body_size (one Tree (If test on None)) ≤ 60000 = subst (λ x. body_size (one Tree x) ≤ 60000) e stmt_short in omega (arith, short)
  test_short test on (Some off) e = let short : body_size (one Tree (If test on (Some off))) ≤ 60000 = subst (λ x. body_size (one Tree x) ≤ 60000) e stmt_short in omega (arith, short)

  pub loop_short : (test : Expr) (body : ℕ) → s ≡ While test body → expr_size test < 60000
  loop_short test body e = let short : body_size (one Tree (While test body)) ≤ 60000 = subst (λ x. body_size (one Tree x) ≤ 60000) e stmt_short in omega (arith, short)

  pub at_repeat : (found : List Frame) (count body : ℕ) → s ≡ Repeat count body → Stands p (marks_of (frame_body p (frame b n)) K) at false found
  at_repeat found count body e =
      let whole : frame_body p (frame b n) ≡ with_stmt Tree b n (Repeat count body) Behind = subst (λ x. frame_body p (frame b n) ≡ with_stmt Tree b n x Behind) e stmt_whole in
      let lt : at < body_size (one Tree (Repeat count body)) = subst (λ x. at < body_size (one Tree x)) e is.within in
      stands_no p _ at found (ap (λ x. slice_get (marks_of x K) at) whole ∙ repeat_none Tree b n Behind K count body at lt)

  -- what was opened behind it
  module _ (later : List Frame) (body_is : cursor_body p later ≡ join Behind K) (are : AreAtStatements p later) (few : length later ≤ length fs + 1) where
    -- the block of a test
    module _ (test : Expr) (on : ℕ) (e : s ≡ If test on None) (behind : expr_size test + 1 ≤ at) where
      pub when_in : IsIn p on (at - (expr_size test + 1)) later
      when_in =
          let names : NamesLower b (If test on None) = subst (NamesLower b) e is.names in
          let within : at < body_size (one Tree (If test on None)) = subst (λ x. at < body_size (one Tree x)) e is.within in
          let short : body_size (one Tree (If test on None)) ≤ 60000 = subst (λ x. body_size (one Tree x) ≤ 60000) e stmt_short in
          let room : length fs + depth_of (with_stmt Tree b n (If test on None) Behind) ≤ 32 = subst (λ x. length fs + depth_of (with_stmt Tree b n x Behind) ≤ 32) e stmt_room in
          record {
            lower = is.lower;
            before = record { block = omega (arith, names, is.block); short = omega (arith, short); room = omega (arith, room, few); behind = are };
            within = omega (arith, within, behind);
          }

      pub when_stands : (told : Bool) (found : List Frame) → Stands p (marks_of (Tree on) (cursor_body p later)) (at - (expr_size test + 1)) told found → Stands p (marks_of (frame_body p (frame b n)) K) at told found
      when_stands told found stands =
          let whole : frame_body p (frame b n) ≡ with_stmt Tree b n (If test on None) Behind = subst (λ x. frame_body p (frame b n) ≡ with_stmt Tree b n x Behind) e stmt_whole in
          let cut : at ≡ expr_size test + 1 + (at - (expr_size test + 1)) = omega (arith, behind) in
          stands_as p _ _ at (at - (expr_size test + 1)) told found
          (ap (λ x. slice_get (marks_of x K) at) whole ∙ when_within Tree b n Behind K test on at (at - (expr_size test + 1)) cut when_in.within
          ∙ ap (λ x. slice_get (marks_of (Tree on) x) (at - (expr_size test + 1))) (sym body_is))
          stands

    -- the two blocks of a test
    module _ (test : Expr) (on off : ℕ) (e : s ≡ If test on (Some off)) (behind : expr_size test + 1 ≤ at) where
      pub choice_in : IsChoiceIn p on off (at - (expr_size test + 1)) later
      choice_in =
          let names : NamesLower b (If test on (Some off)) = subst (NamesLower b) e is.names in
          let first : on < b = names.0 in
          let second : off < b = names.1 in
          let within : at < body_size (one Tree (If test on (Some off))) = subst (λ x. at < body_size (one Tree x)) e is.within in
          let short : body_size (one Tree (If test on (Some off))) ≤ 60000 = subst (λ x. body_size (one Tree x) ≤ 60000) e stmt_short in
          let room : length fs + depth_of (with_stmt Tree b n (If test on (Some off)) Behind) ≤ 32 = subst (λ x. length fs + depth_of (with_stmt Tree b n x Behind) ≤ 32) e stmt_room in
          record {
            lower = is.lower;
            first = record { block = omega (arith, first, is.block); short = omega (arith, short); room = omega (arith, room, few); behind = are };
            second = record { block = omega (arith, second, is.block); short = omega (arith, short); room = omega (arith, room, few); behind = are };
            within = omega (arith, within, behind);
          }

      pub choice_stands : (told : Bool) (found : List Frame) → Stands p (choice_marks p on off (cursor_body p later)) (at - (expr_size test + 1)) told found → Stands p (marks_of (frame_body p (frame b n)) K) at told found
      choice_stands told found stands =
          let whole : frame_body p (frame b n) ≡ with_stmt Tree b n (If test on (Some off)) Behind = subst (λ x. frame_body p (frame b n) ≡ with_stmt Tree b n x Behind) e stmt_whole in
          let cut : at ≡ expr_size test + 1 + (at - (expr_size test + 1)) = omega (arith, behind) in
          stands_as p _ _ at (at - (expr_size test + 1)) told found
          (ap (λ x. slice_get (marks_of x K) at) whole ∙ choice_within Tree b n Behind K test on off at (at - (expr_size test + 1)) cut choice_in.within
          ∙ ap (λ x. slice_get (choice_marks p on off x) (at - (expr_size test + 1))) (sym body_is))
          stands

  -- the body of a loop
  module _ (test : Expr) (body : ℕ) (e : s ≡ While test body) (behind : expr_size test + 1 ≤ at) where
    abbrev Inner : ℕ
    Inner = at - (expr_size test + 1)

    loop_names : NamesLower b (While test body)
    loop_names = subst (NamesLower b) e is.names

    loop_whole : frame_body p (frame b n) ≡ with_stmt Tree b n (While test body) Behind
    loop_whole = subst (λ x. frame_body p (frame b n) ≡ with_stmt Tree b n x Behind) e stmt_whole

    loop_opened : cursor_body p (frame b n ∷ fs) ≡ with_stmt Tree b n (While test body) (join Behind K)
    loop_opened = subst (λ x. cursor_body p (frame b n ∷ fs) ≡ with_stmt Tree b n x (join Behind K)) e opened_is

    loop_inner : Inner < body_size (Tree body) + 1
    loop_inner =
        let within : at < body_size (one Tree (While test body)) = subst (λ x. at < body_size (one Tree x)) e is.within in
        omega (arith, within, behind)

    pub loop_before : IsBefore p body (frame b n ∷ fs)
    loop_before =
        let short : body_size (one Tree (While test body)) ≤ 60000 = subst (λ x. body_size (one Tree x) ≤ 60000) e stmt_short in
        let room : length fs + depth_of (with_stmt Tree b n (While test body) Behind) ≤ 32 = subst (λ x. length fs + depth_of (with_stmt Tree b n x Behind) ≤ 32) e stmt_room in
        record { block = omega (arith, loop_names, is.block); short = omega (arith, short); room = omega (arith, room); behind = opened_at }

    pub loop_in : Inner < body_size (Tree body) → IsIn p body Inner (frame b n ∷ fs)
    loop_in lt = record { lower = is.lower; before = loop_before; within = lt }

    loop_marks : slice_get (marks_of (frame_body p (frame b n)) K) at ≡ slice_get (marks_of (Tree body) (cursor_body p (frame b n ∷ fs)) ++ Some (cursor_body p (frame b n ∷ fs)) ∷ []) Inner
    loop_marks =
        let cut : at ≡ expr_size test + 1 + Inner = omega (arith, behind) in
        ap (λ x. slice_get (marks_of x K) at) loop_whole ∙ loop_within Tree b n Behind K test body at Inner cut loop_inner
        ∙ ap (λ x. slice_get (marks_of (Tree body) x ++ Some x ∷ []) Inner) (sym loop_opened)

    pub loop_stands : (told : Bool) (found : List Frame) → Inner < body_size (Tree body) → Stands p (marks_of (Tree body) (cursor_body p (frame b n ∷ fs))) Inner told found → Stands p (marks_of (frame_body p (frame b n)) K) at told found
    loop_stands told found lt stands =
        let l = marks_length (Tree body) (cursor_body p (frame b n ∷ fs)) in
        stands_as p _ _ at Inner told found (loop_marks ∙ get_front (marks_of (Tree body) (cursor_body p (frame b n ∷ fs))) (Some (cursor_body p (frame b n ∷ fs)) ∷ []) Inner (omega (arith, l, lt))) stands

    pub loop_back : body_size (Tree body) ≤ Inner → Stands p (marks_of (frame_body p (frame b n)) K) at true (frame b n ∷ fs)
    loop_back le =
        let l = marks_length (Tree body) (cursor_body p (frame b n ∷ fs)) in
        stands_yes p _ at _ (loop_marks ∙ get_back (marks_of (Tree body) (cursor_body p (frame b n ∷ fs))) (Some (cursor_body p (frame b n ∷ fs)) ∷ []) Inner 0 (let i = loop_inner in omega (arith, l, le, i))) opened_at

-- two blocks and the jump between them
module _ (p : Checked) (on off at : ℕ) (fs : List Frame) (is : IsChoiceIn p on off at fs) where
  abbrev First : Marks
  First = marks_of (tree_of p.blocks on) (cursor_body p fs)

  abbrev Second : Marks
  Second = marks_of (tree_of p.blocks off) (cursor_body p fs)

  first_length : length First ≡ body_size (tree_of p.blocks on)
  first_length = marks_length (tree_of p.blocks on) (cursor_body p fs)

  pub first_in : at < body_size (tree_of p.blocks on) → IsIn p on at fs
  first_in lt = record { lower = is.lower; before = is.first; within = lt }

  pub first_stands : (b : Bool) (found : List Frame) → at < body_size (tree_of p.blocks on) → Stands p First at b found → Stands p (choice_marks p on off (cursor_body p fs)) at b found
  first_stands b found lt s = stands_as p _ _ at at b found (get_front First (Some (cursor_body p fs) ∷ Second) at (omega (arith, first_length, lt))) s

  pub jump_stands : at ≡ body_size (tree_of p.blocks on) → Stands p (choice_marks p on off (cursor_body p fs)) at true fs
  jump_stands e = stands_yes p _ at fs (get_back First (Some (cursor_body p fs) ∷ Second) at 0 (omega (arith, first_length, e))) is.first.behind

  pub second_in : body_size (tree_of p.blocks on) < at → IsIn p off (at - body_size (tree_of p.blocks on) - 1) fs
  second_in lt = record { lower = is.lower; before = is.second; within = omega (arith, is.within, lt) }

  pub second_stands : (b : Bool) (found : List Frame) → body_size (tree_of p.blocks on) < at → Stands p Second (at - body_size (tree_of p.blocks on) - 1) b found → Stands p (choice_marks p on off (cursor_body p fs)) at b found
  second_stands b found lt s =
      stands_as p _ _ at (at - body_size (tree_of p.blocks on) - 1) b found
      (get_back First (Some (cursor_body p fs) ∷ Second) at (suc (at - body_size (tree_of p.blocks on) - 1)) (omega (arith, first_length, lt))) s
