-- The statements of a block, one after the other.
use Rattle.std.proofs.Common.{◌≡◌, ℕ, zero, suc, ◌+◌, ◌<◌, ◌≤◌, List, [], ◌∷◌, ◌++◌, length, drop, Some, None, sym, ap, ◌∙◌, arith, append_assoc, append-nil, length-append}
use Rattle.std.specs.Prelude.{slice_get, pos}
use Rattle.std.proofs.lemmas.List.{drop_all}
use Rattle.cat_program.specs.declared.syntax.Stmt.{Stmt}
use Rattle.cat_program.specs.declared.syntax.Stmt.TheVariants.{Set, SetAt, Out, Post, If, While, Repeat}
use Rattle.cat_program.specs.Body.{Body, Empty, with_stmt, with_stmts, tree_of, block_at}
use Rattle.cat_program.specs.Places.{expr_size, body_size}
use Rattle.cat_program.specs.Checked.{EachLower}
use Rattle.cat_program.specs.PartLaws.{BlocksAreTrees}
use Rattle.cat_machine.specs.declared.instr.Instr.{Instr}
use Rattle.cat_machine.specs.declared.instr.Instr.TheVariants as i
use Rattle.cat_machine.specs.Code.{expr_code, body_code}
use Rattle.cat_machine.specs.LaidOut.{CodeHasSizes}

-- a statement's code and then the rest
abbrev first_of_two : (ℕ → Body) → ℕ → ℕ → Stmt → Body → ℕ → Type 0
first_of_two f b p s rest at = body_code at (with_stmt f b p s rest) ≡ body_code at (with_stmt f 0 0 s Empty) ++ body_code (at + body_size (with_stmt f 0 0 s Empty)) rest

stmt_size : (f : ℕ → Body) (b p : ℕ) (s : Stmt) (rest : Body) → body_size (with_stmt f b p s rest) ≡ body_size (with_stmt f 0 0 s Empty) + body_size rest
stmt_size f b p (Set word value) rest = omega arith
stmt_size f b p (SetAt base len index value) rest = omega arith
stmt_size f b p (Out channel value) rest = omega arith
stmt_size f b p (Post task) rest = omega arith
stmt_size f b p (If test on None) rest = omega arith
stmt_size f b p (If test on (Some off)) rest = omega arith
stmt_size f b p (While test body) rest = omega arith
stmt_size f b p (Repeat count body) rest = omega arith

stmt_code : (f : ℕ → Body) (b p : ℕ) (s : Stmt) (rest : Body) (at : ℕ) → first_of_two f b p s rest at
stmt_code f b p (Set word value) rest at =
    let e : at + expr_size value + 1 ≡ at + (expr_size value + 1 + 0) = omega arith in
    simp append_assoc (ap (λ j. expr_code value ++ i.Store word ∷ body_code j rest) e)
stmt_code f b p (SetAt base len index value) rest at =
    let n = expr_size index + expr_size value in
    let e : at + n + 1 ≡ at + (n + 1 + 0) = omega arith in
    simp append_assoc (ap (λ j. expr_code index ++ (expr_code value ++ i.StoreAt base len ∷ body_code j rest)) e)
stmt_code f b p (Out channel value) rest at =
    let e : at + expr_size value + 1 ≡ at + (expr_size value + 1 + 0) = omega arith in
    simp append_assoc (ap (λ j. expr_code value ++ i.Out channel ∷ body_code j rest) e)
stmt_code f b p (Post task) rest at =
    let e : at + 0 + 1 ≡ at + (0 + 1 + 0) = omega arith in
    ap (λ j. i.Post task ∷ body_code j rest) e
stmt_code f b p (If test on None) rest at =
    let first = at + expr_size test + 1 in
    let end = first + body_size (f on) in
    let e : end ≡ at + (expr_size test + 1 + body_size (f on) + 0) = omega arith in
    simp append_assoc (ap (λ j. expr_code test ++ i.JumpZero end ∷ (body_code first (f on) ++ body_code j rest)) e)
stmt_code f b p (If test on (Some off)) rest at =
    let first = at + expr_size test + 1 in
    let second = first + body_size (f on) + 1 in
    let end = second + body_size (f off) in
    let e : end ≡ at + (expr_size test + 1 + body_size (f on) + 1 + body_size (f off) + 0) = omega arith in
    simp append_assoc (ap (λ j. expr_code test ++ i.JumpZero second ∷ (body_code first (f on) ++ i.Jump end ∷ (body_code second (f off) ++ body_code j rest))) e)
stmt_code f b p (While test body) rest at =
    let first = at + expr_size test + 1 in
    let end = first + body_size (f body) + 1 in
    let e : end ≡ at + (expr_size test + 1 + body_size (f body) + 1 + 0) = omega arith in
    simp append_assoc (ap (λ j. expr_code test ++ i.JumpZero end ∷ (body_code first (f body) ++ i.Jump at ∷ body_code j rest)) e)
stmt_code f b p (Repeat count body) rest at =
    let first = at + 2 in
    let end = first + body_size (f body) + 1 in
    let e : end ≡ at + (2 + body_size (f body) + 1 + 0) = omega arith in
    simp append_assoc (ap (λ j. i.Push (pos count) ∷ i.Turn end ∷ (body_code first (f body) ++ i.Jump (at + 1) ∷ body_code j rest)) e)

-- what is emitted, and then the code of what is left, is the whole block's code
pub record Emitting (blocks : List (List Stmt)) (b : ℕ) (ss : List Stmt) (start now : List Instr) (n : ℕ) : Type 0 where
  pub code_is : start ++ body_code (length start) (tree_of blocks b) ≡ now ++ body_code (length now) (with_stmts (tree_of blocks) b n (drop n ss))
  pub room : length now + body_size (with_stmts (tree_of blocks) b n (drop n ss)) ≤ 60000

pub emitting_starts : BlocksAreTrees → (blocks : List (List Stmt)) (b : ℕ) (ss : List Stmt) (start : List Instr) → EachLower 0 blocks → b < length blocks → ss ≡ block_at blocks b → length start + body_size (tree_of blocks b) ≤ 60000 → Emitting blocks b ss start start 0
emitting_starts law blocks b ss start lower h e room =
    let same : tree_of blocks b ≡ with_stmts (tree_of blocks) b 0 ss = law.tree blocks b lower h ∙ ap (with_stmts (tree_of blocks) b 0) (sym e) in
    record { code_is = ap (λ t. start ++ body_code (length start) t) same; room = omega (arith, ap body_size same) }

next_drop : (ss : List Stmt) (n : ℕ) (s : Stmt) → slice_get ss n ≡ Some s → drop n ss ≡ s ∷ drop (n + 1) ss
next_drop [] n s e = cc
next_drop (x ∷ ss) zero s e = let same : x ≡ s = cc in ap (λ y. y ∷ ss) same
next_drop (x ∷ ss) (suc n) s e = let more : suc (n + 1) ≡ suc n + 1 = omega arith in next_drop ss n s e ∙ ap (λ j. s ∷ drop j (x ∷ ss)) more

pub emitting_room : (blocks : List (List Stmt)) (b : ℕ) (ss : List Stmt) (start now : List Instr) (n : ℕ) (s : Stmt) → slice_get ss n ≡ Some s → Emitting blocks b ss start now n → length now + body_size (with_stmt (tree_of blocks) 0 0 s Empty) ≤ 60000
emitting_room blocks b ss start now n s e m =
    omega (arith, m.room, ap (λ l. body_size (with_stmts (tree_of blocks) b n l)) (next_drop ss n s e), stmt_size (tree_of blocks) b n s (with_stmts (tree_of blocks) b (n + 1) (drop (n + 1) ss)))

pub emitting_goes : CodeHasSizes → (blocks : List (List Stmt)) (b : ℕ) (ss : List Stmt) (start now new : List Instr) (n : ℕ) (s : Stmt) → slice_get ss n ≡ Some s → Emitting blocks b ss start now n → new ≡ now ++ body_code (length now) (with_stmt (tree_of blocks) 0 0 s Empty) → Emitting blocks b ss start new (n + 1)
emitting_goes sizes blocks b ss start now new n s e m new_is =
    let f = tree_of blocks in
    let one = with_stmt f 0 0 s Empty in
    let rest = with_stmts f b (n + 1) (drop (n + 1) ss) in
    let long : length new ≡ length now + body_size one = omega (arith, ap length new_is, length-append now (body_code (length now) one), sizes.body one (length now)) in
    record {
      code_is = m.code_is
          ∙ ap (λ l. now ++ body_code (length now) (with_stmts f b n l)) (next_drop ss n s e)
          ∙ ap (λ l. now ++ l) (stmt_code f b n s rest (length now))
          ∙ sym (append_assoc now (body_code (length now) one) (body_code (length now + body_size one) rest))
          ∙ ap (λ l. l ++ body_code (length now + body_size one) rest) (sym new_is)
          ∙ ap (λ j. new ++ body_code j rest) (sym long);
      room = omega (arith, m.room, ap (λ l. body_size (with_stmts f b n l)) (next_drop ss n s e), stmt_size f b n s rest);
    }

pub emitting_ends : (blocks : List (List Stmt)) (b : ℕ) (ss : List Stmt) (start now : List Instr) (n : ℕ) → length ss ≤ n → Emitting blocks b ss start now n → now ≡ start ++ body_code (length start) (tree_of blocks b)
emitting_ends blocks b ss start now n le m =
    sym (m.code_is ∙ ap (λ l. now ++ body_code (length now) (with_stmts (tree_of blocks) b n l)) (drop_all n ss le) ∙ append-nil now)
