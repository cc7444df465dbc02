-- Where the places of a list of statements stand in its marks.
use Rattle.std.proofs.Common.{◌≡◌, ℕ, zero, suc, ◌+◌, ◌<◌, List, [], ◌∷◌, ◌++◌, length, replicate, Some, None, refl, sym, ap, ◌∙◌, arith, append_assoc, length-append}
use Rattle.std.specs.Prelude.{slice_get}
use Rattle.std.proofs.lemmas.List.{length-replicate}
use Rattle.cat_program.specs.declared.syntax.Expr.{Expr}
use Rattle.cat_program.specs.declared.syntax.Stmt.{Stmt}
use Rattle.cat_program.specs.declared.syntax.Stmt.TheVariants.{Set, SetAt, Out, Post, If, While, Repeat}
use Rattle.cat_program.specs.Body.{SetWord, SetElement, Emit, Raise, Body, Empty, Plain, When, Choice, Loop, Turns, join, with_stmt}
use Rattle.cat_program.specs.Places.{Marks, body_size, expr_size, operands_size, marked, marks_of}
use Rattle.cat_eval.proofs.Parts.{one}

module _ {A : Type 0} where
  pub get_front : (xs ys : List A) (i : ℕ) → i < length xs → slice_get (xs ++ ys) i ≡ slice_get xs i
  get_front [] ys i lt = absurd (omega (arith, lt))
  get_front (x ∷ xs) ys zero lt = refl
  get_front (x ∷ xs) ys (suc i) lt = get_front xs ys i (omega (arith, lt))

  pub get_back : (xs ys : List A) (n i : ℕ) → n ≡ length xs + i → slice_get (xs ++ ys) n ≡ slice_get ys i
  get_back [] ys n i e = ap (slice_get ys) (omega (arith, e))
  get_back (x ∷ xs) ys zero i e = absurd (omega (arith, e))
  get_back (x ∷ xs) ys (suc n) i e = get_back xs ys n i (omega (arith, e))

  pub get_same : (n : ℕ) (x : A) (i : ℕ) → i < n → slice_get (replicate n x) i ≡ Some x
  get_same zero x i lt = absurd (omega (arith, lt))
  get_same (suc n) x zero lt = refl
  get_same (suc n) x (suc i) lt = get_same n x i (omega (arith, lt))

-- places that stand for nothing
abbrev nones : ℕ → Marks
nones n = replicate n None

nones_length : (n : ℕ) → length (nones n) ≡ n
nones_length n = length-replicate n None

marked_length : (k : Body) (n : ℕ) → length (marked k n) ≡ n + 1
marked_length k n = let e = nones_length n in omega (arith, e)

-- behind a statement's first instruction up to its last one nothing is stood for
pub marked_none : (k : Body) (n : ℕ) (xs : Marks) (i : ℕ) → 0 < i → i < n + 1 → slice_get (marked k n ++ xs) i ≡ Some None
marked_none k n xs zero some lt = absurd (omega (arith, some))
marked_none k n xs (suc i) some lt =
    let e = nones_length n in
    get_front (replicate n None) xs i (omega (arith, lt, e)) ∙ get_same n None i (omega (arith, lt))

pub marked_behind : (k : Body) (n : ℕ) (xs : Marks) (i j : ℕ) → i ≡ n + 1 + j → slice_get (marked k n ++ xs) i ≡ slice_get xs j
marked_behind k n xs i j e = get_back (marked k n) xs i j (let l = marked_length k n in omega (arith, l, e))

-- each place has a mark
pub marks_length : (body k : Body) → length (marks_of body k) ≡ body_size body
marks_length Empty k = refl
marks_length (Plain b p simple rest) k =
    let whole = length-append (marked (Plain b p simple (join rest k)) (operands_size simple)) (marks_of rest k) in
    let first = marked_length (Plain b p simple (join rest k)) (operands_size simple) in
    omega (arith, whole, first, marks_length rest k)
marks_length (When b p test on rest) k =
    let head = marked (When b p test on (join rest k)) (expr_size test) in
    let whole = length-append head (marks_of on (join rest k) ++ marks_of rest k) in
    let later = length-append (marks_of on (join rest k)) (marks_of rest k) in
    let first = marked_length (When b p test on (join rest k)) (expr_size test) in
    omega (arith, whole, later, first, marks_length on (join rest k), marks_length rest k)
marks_length (Choice b p test on off rest) k =
    let j = join rest k in
    let head = marked (Choice b p test on off j) (expr_size test) in
    let whole = length-append head (marks_of on j ++ (Some j ∷ (marks_of off j ++ marks_of rest k))) in
    let later = length-append (marks_of on j) (Some j ∷ (marks_of off j ++ marks_of rest k)) in
    let last = length-append (marks_of off j) (marks_of rest k) in
    let first = marked_length (Choice b p test on off j) (expr_size test) in
    omega (arith, whole, later, last, first, marks_length on j, marks_length off j, marks_length rest k)
marks_length (Loop b p test body rest) k =
    let j = Loop b p test body (join rest k) in
    let head = marked j (expr_size test) in
    let whole = length-append head (marks_of body j ++ (Some j ∷ marks_of rest k)) in
    let later = length-append (marks_of body j) (Some j ∷ marks_of rest k) in
    let first = marked_length j (expr_size test) in
    omega (arith, whole, later, first, marks_length body j, marks_length rest k)
marks_length (Turns b p n body rest) k =
    let whole = length-append (nones (2 + body_size body + 1)) (marks_of rest k) in
    let first = nones_length (2 + body_size body + 1) in
    omega (arith, whole, first, marks_length rest k)

append_twice : {A : Type 0} (xs ys zs : List A) → (xs ++ ys) ++ zs ≡ xs ++ (ys ++ zs)
append_twice xs ys zs = append_assoc xs ys zs

-- a statement of a task
abbrev pub CanStand : Stmt → Type 0
CanStand (Repeat count body) = ⊥
CanStand _ = Unit {0}

-- the places up to a statement's last instruction, or to the end of its test
abbrev pub head_size : Stmt → ℕ
head_size (Set word value) = expr_size value + 1
head_size (SetAt base len index value) = expr_size index + expr_size value + 1
head_size (Out channel value) = expr_size value + 1
head_size (Post task) = 1
head_size (If test on off) = expr_size test + 1
head_size (While test body) = expr_size test + 1
head_size (Repeat count body) = 0

-- the marks of a statement, of a test and its blocks, and of what follows
module _ (f : ℕ → Body) (b n : ℕ) (rest k : Body) where
  abbrev J : Body
  J = join rest k

  -- a place within a test's first block
  pub when_within : (test : Expr) (on i j : ℕ) → i ≡ expr_size test + 1 + j → j < body_size (f on) → slice_get (marks_of (with_stmt f b n (If test on None) rest) k) i ≡ slice_get (marks_of (f on) J) j
  when_within test on i j e lt =
      marked_behind (When b n test (f on) J) (expr_size test) (marks_of (f on) J ++ marks_of rest k) i j e
      ∙ get_front (marks_of (f on) J) (marks_of rest k) j (let l = marks_length (f on) J in omega (arith, l, lt))

  -- a place within a choice
  pub choice_within : (test : Expr) (on off i j : ℕ) → i ≡ expr_size test + 1 + j → j < body_size (f on) + 1 + body_size (f off)
      → slice_get (marks_of (with_stmt f b n (If test on (Some off)) rest) k) i ≡ slice_get (marks_of (f on) J ++ (Some J ∷ marks_of (f off) J)) j
  choice_within test on off i j e lt =
      let a = marks_of (f on) J in
      let c = marks_of (f off) J in
      let la : length a ≡ body_size (f on) = marks_length (f on) J in
      let lc : length c ≡ body_size (f off) = marks_length (f off) J in
      let all = length-append a (Some J ∷ c) in
      marked_behind (Choice b n test (f on) (f off) J) (expr_size test) (a ++ (Some J ∷ (c ++ marks_of rest k))) i j e
      ∙ ap (λ l. slice_get l j) (sym (append_twice a (Some J ∷ c) (marks_of rest k)))
      ∙ get_front (a ++ (Some J ∷ c)) (marks_of rest k) j (omega (arith, la, lc, all, lt))

  -- a place within a loop, its jump back among them
  pub loop_within : (test : Expr) (body i j : ℕ) → i ≡ expr_size test + 1 + j → j < body_size (f body) + 1
      → slice_get (marks_of (with_stmt f b n (While test body) rest) k) i ≡ slice_get (marks_of (f body) (with_stmt f b n (While test body) J) ++ Some (with_stmt f b n (While test body) J) ∷ []) j
  loop_within test body i j e lt =
      let l = with_stmt f b n (While test body) J in
      let a = marks_of (f body) l in
      let la : length a ≡ body_size (f body) = marks_length (f body) l in
      let all = length-append a (Some l ∷ []) in
      marked_behind l (expr_size test) (a ++ (Some l ∷ marks_of rest k)) i j e
      ∙ ap (λ m. slice_get m j) (sym (append_twice a (Some l ∷ []) (marks_of rest k)))
      ∙ get_front (a ++ Some l ∷ []) (marks_of rest k) j (omega (arith, la, all, lt))

  -- the marks of a statement without what follows
  record Front (s : Stmt) : Type 0 where
    marks : Marks
    whole : marks_of (with_stmt f b n s rest) k ≡ marks ++ marks_of rest k
    size : length marks ≡ body_size (one f s)

  front_of : (s : Stmt) → Front s
  front_of (Set word value) = record { marks = marked (Plain b n (SetWord word value) J) (expr_size value); whole = refl; size = let l = marked_length (Plain b n (SetWord word value) J) (expr_size value) in omega (arith, l) }
  front_of (SetAt base len index value) = record {
    marks = marked (Plain b n (SetElement base len index value) J) (expr_size index + expr_size value);
    whole = refl;
    size = let l = marked_length (Plain b n (SetElement base len index value) J) (expr_size index + expr_size value) in omega (arith, l);
  }
  front_of (Out channel value) = record { marks = marked (Plain b n (Emit channel value) J) (expr_size value); whole = refl; size = let l = marked_length (Plain b n (Emit channel value) J) (expr_size value) in omega (arith, l) }
  front_of (Post task) = record { marks = marked (Plain b n (Raise task) J) 0; whole = refl; size = let l = marked_length (Plain b n (Raise task) J) 0 in omega (arith, l) }
  front_of (If test on None) =
      let head = marked (When b n test (f on) J) (expr_size test) in
      record {
        marks = head ++ marks_of (f on) J;
        whole = sym (append_twice head (marks_of (f on) J) (marks_of rest k));
        size = let l = marked_length (When b n test (f on) J) (expr_size test) in let all = length-append head (marks_of (f on) J) in let m = marks_length (f on) J in omega (arith, l, all, m);
      }
  front_of (If test on (Some off)) =
      let head = marked (Choice b n test (f on) (f off) J) (expr_size test) in
      let both = marks_of (f on) J ++ (Some J ∷ marks_of (f off) J) in
      record {
        marks = head ++ both;
        whole = sym (append_twice head both (marks_of rest k) ∙ ap (λ l. head ++ l) (append_twice (marks_of (f on) J) (Some J ∷ marks_of (f off) J) (marks_of rest k)));
        size =
            let l = marked_length (Choice b n test (f on) (f off) J) (expr_size test) in
            let all = length-append head both in
            let later = length-append (marks_of (f on) J) (Some J ∷ marks_of (f off) J) in
            let m = marks_length (f on) J in
            let o = marks_length (f off) J in
            omega (arith, l, all, later, m, o);
      }
  front_of (While test body) =
      let l = Loop b n test (f body) J in
      let head = marked l (expr_size test) in
      let turn = marks_of (f body) l ++ (Some l ∷ []) in
      record {
        marks = head ++ turn;
        whole = sym (append_twice head turn (marks_of rest k) ∙ ap (λ m. head ++ m) (append_twice (marks_of (f body) l) (Some l ∷ []) (marks_of rest k)));
        size =
            let h = marked_length l (expr_size test) in
            let all = length-append head turn in
            let later = length-append (marks_of (f body) l) (Some l ∷ []) in
            let m = marks_length (f body) l in
            omega (arith, h, all, later, m);
      }
  front_of (Repeat count body) = record {
    marks = replicate (2 + body_size (f body) + 1) None;
    whole = refl;
    size = let l = nones_length (2 + body_size (f body) + 1) in omega (arith, l);
  }

  -- the places behind a statement
  pub stmt_behind : (s : Stmt) (i j : ℕ) → i ≡ body_size (one f s) + j → slice_get (marks_of (with_stmt f b n s rest) k) i ≡ slice_get (marks_of rest k) j
  stmt_behind s i j e =
      let front = front_of s in
      ap (λ l. slice_get l i) front.whole ∙ get_back front.marks (marks_of rest k) i j (let l = front.size in omega (arith, l, e))

  -- the first place of a statement of a task
  pub stmt_first : (s : Stmt) → CanStand s → slice_get (marks_of (with_stmt f b n s rest) k) 0 ≡ Some (Some (join (with_stmt f b n s rest) k))
  stmt_first (Set word value) can = refl
  stmt_first (SetAt base len index value) can = refl
  stmt_first (Out channel value) can = refl
  stmt_first (Post task) can = refl
  stmt_first (If test on None) can = refl
  stmt_first (If test on (Some off)) can = refl
  stmt_first (While test body) can = refl
  stmt_first (Repeat count body) can = absurd can

  -- the places behind it up to its last instruction, or to the end of its test
  pub stmt_none : (s : Stmt) (i : ℕ) → CanStand s → 0 < i → i < head_size s → slice_get (marks_of (with_stmt f b n s rest) k) i ≡ Some None
  stmt_none (Set word value) i can some lt = marked_none (Plain b n (SetWord word value) J) (expr_size value) (marks_of rest k) i some lt
  stmt_none (SetAt base len index value) i can some lt = marked_none (Plain b n (SetElement base len index value) J) (expr_size index + expr_size value) (marks_of rest k) i some lt
  stmt_none (Out channel value) i can some lt = marked_none (Plain b n (Emit channel value) J) (expr_size value) (marks_of rest k) i some lt
  stmt_none (Post task) i can some lt = marked_none (Plain b n (Raise task) J) 0 (marks_of rest k) i some lt
  stmt_none (If test on None) i can some lt = marked_none (When b n test (f on) J) (expr_size test) (marks_of (f on) J ++ marks_of rest k) i some lt
  stmt_none (If test on (Some off)) i can some lt =
      marked_none (Choice b n test (f on) (f off) J) (expr_size test) (marks_of (f on) J ++ (Some J ∷ (marks_of (f off) J ++ marks_of rest k))) i some lt
  stmt_none (While test body) i can some lt =
      marked_none (Loop b n test (f body) J) (expr_size test) (marks_of (f body) (Loop b n test (f body) J) ++ (Some (Loop b n test (f body) J) ∷ marks_of rest k)) i some lt
  stmt_none (Repeat count body) i can some lt = absurd can

  -- a repeat's places stand for nothing
  pub repeat_none : (count body i : ℕ) → i < body_size (one f (Repeat count body)) → slice_get (marks_of (with_stmt f b n (Repeat count body) rest) k) i ≡ Some None
  repeat_none count body i lt =
      let l = nones_length (2 + body_size (f body) + 1) in
      get_front (replicate (2 + body_size (f body) + 1) None) (marks_of rest k) i (omega (arith, l, lt)) ∙ get_same (2 + body_size (f body) + 1) None i (omega (arith, lt))
