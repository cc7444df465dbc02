-- Programs that say the same have the same code.
use Rattle.std.proofs.Common.{◌≡◌, ℕ, zero, suc, ◌+◌, List, [], ◌∷◌, ◌++◌, length, refl, ap, sym, ◌∙◌, arith}
use Rattle.std.specs.Prelude.{map, pos, slice_get, slice_index, unwrap_or}
use Rattle.cat_program.specs.declared.headers.Event.{Event}
use Rattle.cat_program.specs.declared.syntax.Stmt.{Stmt}
use Rattle.cat_program.specs.Body.{Simple, Body, tree_of}
use Rattle.cat_program.specs.Places.{expr_size, operands_size, body_size, task_size, tasks_size, version_size, versions_size}
use Rattle.cat_program.specs.Checked.{Checked, bodies_of}
use Rattle.cat_machine.specs.declared.instr.Instr.{Instr}
use Rattle.cat_machine.specs.declared.instr.Instr.TheVariants as i
use Rattle.cat_machine.specs.CodeValue.{CodeValue, versions_at}
use Rattle.cat_machine.specs.Code.{operands_code, simple_instr, body_code, tasks_code, tasks_entries, versions_code, versions_entries, events_code, events_entries, code_of}
use Rattle.cn_base.specs.Texts.{in_turn}
use Rattle.cat_compile.specs.Listing.{heads, task_line, version_line, name_of, task_header, version_header, event_headers, place_lines, listing_text}
use Rattle.cat_resolve.specs.Form.{commands}
use Rattle.same_program.specs.Same.{IsSame}
use Rattle.same_program.specs.Alike.{SimpleIsLike, sets, sets_at, emits, raises, IsLike, ends, simple, when, choice, loop, turns}
use Rattle.same_program.proofs.Expressions.{same_size, same_code}
use Rattle.same_program.proofs.Bodies.{trees_like}

pub simple_size : {s t : Simple} → SimpleIsLike s t → operands_size s ≡ operands_size t
simple_size (sets {e = e} {f = f} a same) = same_size e f same
simple_size (sets_at {i = i} {j = j} {e = e} {f = f} a b c same) = omega (arith, same_size i j c, same_size e f same)
simple_size (emits {e = e} {f = f} a same) = same_size e f same
simple_size (raises a) = refl

simple_code : {s t : Simple} → SimpleIsLike s t → operands_code s ≡ operands_code t
simple_code (sets {e = e} {f = f} a same) = same_code e f same
simple_code (sets_at {i = i} {j = j} {e = e} {f = f} a b c same) = cc (same_code i j c, same_code e f same)
simple_code (emits {e = e} {f = f} a same) = same_code e f same
simple_code (raises a) = refl

simple_last : {s t : Simple} → SimpleIsLike s t → simple_instr s ≡ simple_instr t
simple_last (sets a same) = ap i.Store a
simple_last (sets_at {b = b} {m = m} a c d same) = ap (λ n. i.StoreAt n m) a ∙ ap (i.StoreAt b) c
simple_last (emits a same) = ap i.Out a
simple_last (raises a) = ap i.Post a

pub body_same_size : {k l : Body} → IsLike k l → body_size k ≡ body_size l
body_same_size ends = refl
body_same_size (simple a rest) = omega (arith, simple_size a, body_same_size rest)
body_same_size (when {e = e} {f = f} a on rest) = omega (arith, same_size e f a, body_same_size on, body_same_size rest)
body_same_size (choice {e = e} {f = f} a on off rest) = omega (arith, same_size e f a, body_same_size on, body_same_size off, body_same_size rest)
body_same_size (loop {e = e} {f = f} a body rest) = omega (arith, same_size e f a, body_same_size body, body_same_size rest)
body_same_size (turns a body rest) = omega (arith, body_same_size body, body_same_size rest)

joined : {a b c d : List Instr} {x y : Instr} → a ≡ b → x ≡ y → c ≡ d → a ++ (x ∷ c) ≡ b ++ (y ∷ d)
joined p q r = cc

body_same_code : {k l : Body} → IsLike k l → (m n : ℕ) → m ≡ n → body_code m k ≡ body_code n l
body_same_code ends m n at = refl
body_same_code (simple {s = s} {t = t} a rest) m n at =
    joined (simple_code a) (simple_last a) (body_same_code rest (m + operands_size s + 1) (n + operands_size t + 1) (omega (arith, simple_size a)))
body_same_code (when {e = e} {f = f} {m = x} {n = y} a on rest) m n at =
    let first = body_same_code on (m + expr_size e + 1) (n + expr_size f + 1) (omega (arith, same_size e f a)) in
    let end : m + expr_size e + 1 + body_size x ≡ n + expr_size f + 1 + body_size y = omega (arith, same_size e f a, body_same_size on) in
    joined (same_code e f a) (ap i.JumpZero end) (cc (first, body_same_code rest _ _ end))
body_same_code (choice {e = e} {f = f} {m = x} {n = y} {x = u} {y = v} a on off rest) m n at =
    let first = body_same_code on (m + expr_size e + 1) (n + expr_size f + 1) (omega (arith, same_size e f a)) in
    let second : m + expr_size e + 1 + body_size x + 1 ≡ n + expr_size f + 1 + body_size y + 1 = omega (arith, same_size e f a, body_same_size on) in
    let end : m + expr_size e + 1 + body_size x + 1 + body_size u ≡ n + expr_size f + 1 + body_size y + 1 + body_size v = omega (arith, second, body_same_size off) in
    joined (same_code e f a) (ap i.JumpZero second) (joined first (ap i.Jump end) (cc (body_same_code off _ _ second, body_same_code rest _ _ end)))
body_same_code (loop {e = e} {f = f} {m = x} {n = y} a body rest) m n at =
    let first = body_same_code body (m + expr_size e + 1) (n + expr_size f + 1) (omega (arith, same_size e f a)) in
    let end : m + expr_size e + 1 + body_size x + 1 ≡ n + expr_size f + 1 + body_size y + 1 = omega (arith, same_size e f a, body_same_size body) in
    joined (same_code e f a) (ap i.JumpZero end) (joined first (ap i.Jump at) (body_same_code rest _ _ end))
body_same_code (turns {c = c} {d = d} {m = x} {n = y} a body rest) m n at =
    let first = body_same_code body (m + 2) (n + 2) (omega arith) in
    let end : m + 2 + body_size x + 1 ≡ n + 2 + body_size y + 1 = omega (arith, body_same_size body) in
    let back : m + 1 ≡ n + 1 = omega arith in
    cc (ap (λ k. i.Push (pos k)) a, ap i.Turn end, joined first (ap i.Jump back) (body_same_code rest _ _ end))

-- ---- the whole program

module _ (xs ys : List (List Stmt)) (same : commands xs ≡ commands ys) where
  like : (b : ℕ) → IsLike (tree_of xs b) (tree_of ys b)
  like b = trees_like xs ys b b same refl

  size_at : (b : ℕ) → body_size (tree_of xs b) ≡ body_size (tree_of ys b)
  size_at b = body_same_size (like b)

  tasks_same_size : (bs : List ℕ) → tasks_size (map (tree_of xs) bs) ≡ tasks_size (map (tree_of ys) bs)
  tasks_same_size [] = refl
  tasks_same_size (b ∷ bs) = omega (arith, size_at b, tasks_same_size bs)

  versions_same_size : (bs : List ℕ) → versions_size (map (tree_of xs) bs) ≡ versions_size (map (tree_of ys) bs)
  versions_same_size [] = refl
  versions_same_size (b ∷ bs) = omega (arith, size_at b, versions_same_size bs)

  tasks_same : (m n t : ℕ) (bs : List ℕ) → m ≡ n → tasks_code m t (map (tree_of xs) bs) ≡ tasks_code n t (map (tree_of ys) bs)
  tasks_same m n t [] at = refl
  tasks_same m n t (b ∷ bs) at =
      let next : m + task_size (tree_of xs b) ≡ n + task_size (tree_of ys b) = omega (arith, size_at b) in
      let one : m + 1 ≡ n + 1 = omega arith in
      cc (body_same_code (like b) (m + 1) (n + 1) one, tasks_same (m + task_size (tree_of xs b)) (n + task_size (tree_of ys b)) (t + 1) bs next)

  entries_same : (m n : ℕ) (bs : List ℕ) → m ≡ n → tasks_entries m (map (tree_of xs) bs) ≡ tasks_entries n (map (tree_of ys) bs)
  entries_same m n [] at = refl
  entries_same m n (b ∷ bs) at =
      let next : m + task_size (tree_of xs b) ≡ n + task_size (tree_of ys b) = omega (arith, size_at b) in
      cc (at, entries_same (m + task_size (tree_of xs b)) (n + task_size (tree_of ys b)) bs next)

  versions_same : (m n : ℕ) (bs : List ℕ) → m ≡ n → versions_code m (map (tree_of xs) bs) ≡ versions_code n (map (tree_of ys) bs)
  versions_same m n [] at = refl
  versions_same m n (b ∷ bs) at =
      let next : m + version_size (tree_of xs b) ≡ n + version_size (tree_of ys b) = omega (arith, size_at b) in
      cc (body_same_code (like b) m n at, versions_same (m + version_size (tree_of xs b)) (n + version_size (tree_of ys b)) bs next)

  version_entries_same : (m n : ℕ) (bs : List ℕ) → m ≡ n → versions_entries m (map (tree_of xs) bs) ≡ versions_entries n (map (tree_of ys) bs)
  version_entries_same m n [] at = refl
  version_entries_same m n (b ∷ bs) at =
      let next : m + version_size (tree_of xs b) ≡ n + version_size (tree_of ys b) = omega (arith, size_at b) in
      cc (at, version_entries_same (m + version_size (tree_of xs b)) (n + version_size (tree_of ys b)) bs next)

  events_same : (m n : ℕ) (lists : List (List ℕ)) → m ≡ n → events_code m (map (λ bs. map (tree_of xs) bs) lists) ≡ events_code n (map (λ bs. map (tree_of ys) bs) lists)
  events_same m n [] at = refl
  events_same m n (bs ∷ lists) at =
      let next : m + versions_size (map (tree_of xs) bs) ≡ n + versions_size (map (tree_of ys) bs) = omega (arith, versions_same_size bs) in
      cc (versions_same m n bs at, events_same (m + versions_size (map (tree_of xs) bs)) (n + versions_size (map (tree_of ys) bs)) lists next)

  event_entries_same : (m n : ℕ) (lists : List (List ℕ)) → m ≡ n → events_entries m (map (λ bs. map (tree_of xs) bs) lists) ≡ events_entries n (map (λ bs. map (tree_of ys) bs) lists)
  event_entries_same m n [] at = refl
  event_entries_same m n (bs ∷ lists) at =
      let next : m + versions_size (map (tree_of xs) bs) ≡ n + versions_size (map (tree_of ys) bs) = omega (arith, versions_same_size bs) in
      cc (version_entries_same m n bs at, event_entries_same (m + versions_size (map (tree_of xs) bs)) (n + versions_size (map (tree_of ys) bs)) lists next)

-- code of these blocks, tasks and events
unfoldable code_with : List (List Stmt) → List ℕ → List (List ℕ) → CodeValue
code_with blocks tasks events =
    let bodies = map (tree_of blocks) tasks in
    let versions = map (λ bs. map (tree_of blocks) bs) events in
    record {
      instrs = tasks_code 0 0 bodies ++ events_code (tasks_size bodies) versions;
      tasks = tasks_entries 0 bodies;
      versions = events_entries (tasks_size bodies) versions;
    }

code_is : (p : Checked) → code_of p ≡ code_with p.blocks p.tasks p.events
unfolding code_of code_with
code_is p = refl

blocks_same : (xs ys : List (List Stmt)) (tasks : List ℕ) (events : List (List ℕ)) → commands xs ≡ commands ys → code_with xs tasks events ≡ code_with ys tasks events
unfolding code_with
blocks_same xs ys tasks events same =
    let size = tasks_same_size xs ys same tasks in
    let code = tasks_same xs ys same 0 0 0 tasks refl in
    let entries = entries_same xs ys same 0 0 tasks refl in
    let handlers = events_same xs ys same _ _ events size in
    let starts = event_entries_same xs ys same _ _ events size in
    cc

pub same_tasks_size : (p q : Checked) → IsSame p q → tasks_size (bodies_of p) ≡ tasks_size (bodies_of q)
same_tasks_size p q same = tasks_same_size p.blocks q.blocks same.blocks p.tasks ∙ ap (λ l. tasks_size (map (tree_of q.blocks) l)) same.tasks

pub code_same : (p q : Checked) → IsSame p q → code_of p ≡ code_of q
code_same p q same =
    code_is p ∙ blocks_same p.blocks q.blocks p.tasks p.events same.blocks ∙ ap (λ l. code_with q.blocks l p.events) same.tasks
    ∙ ap (code_with q.blocks q.tasks) same.events ∙ sym (code_is q)

-- ---- its listing

in_turn_same : (f g : ℕ → List ℕ) → ((k : ℕ) → f k ≡ g k) → (n : ℕ) → in_turn f n ≡ in_turn g n
in_turn_same f g each zero = refl
in_turn_same f g each (suc n) = cc (in_turn_same f g each n, each n)

module _ (p q : Checked) (code : CodeValue) (names : p.names ≡ q.names) (headers : p.headers ≡ q.headers) where
  task_header_same : (pc t : ℕ) → task_header p code pc t ≡ task_header q code pc t
  task_header_same pc t = ap (λ (l : List (List ℕ)). heads (slice_index code.tasks t) pc (task_line (unwrap_or (slice_get l t) []) pc)) names

  version_header_same : (pc e v : ℕ) → version_header p code pc e v ≡ version_header q code pc e v
  version_header_same pc e v = ap (λ (l : List Event). heads (slice_index (unwrap_or (slice_get code.versions e) []) v) pc (version_line (name_of (slice_get l e)) v pc)) headers

  event_headers_same : (pc e : ℕ) → event_headers p code pc e ≡ event_headers q code pc e
  event_headers_same pc e = in_turn_same (version_header p code pc e) (version_header q code pc e) (version_header_same pc e) (length (versions_at code e))

  lines_same : (pc : ℕ) → place_lines p code pc ≡ place_lines q code pc
  lines_same pc =
      let tasks = in_turn_same (task_header p code pc) (task_header q code pc) (task_header_same pc) (length code.tasks) in
      let events = in_turn_same (event_headers p code pc) (event_headers q code pc) (event_headers_same pc) (length code.versions) in
      cc

  listing_same : listing_text p code ≡ listing_text q code
  listing_same = in_turn_same (place_lines p code) (place_lines q code) lines_same (length code.instrs)

pub same_listing : (p q : Checked) → IsSame p q → listing_text p (code_of p) ≡ listing_text q (code_of q)
same_listing p q same = listing_same p q (code_of p) same.names same.headers ∙ ap (listing_text q) (code_same p q same)
