-- The code of statements is a stretch.
use Rattle.std.proofs.Common.{◌≡◌, ℕ, ◌+◌, ◌-◌, ◌≤◌, Bool, true, false, List, [], ◌∷◌, ◌++◌, length, refl, sym, ap, ◌∙◌, subst, arith}
use Rattle.cat_program.specs.declared.syntax.Expr.{Expr, Number, Payload, Word, Element', Signed', Chain', Row_of-Further, end_of-Further, more_of-Further}
use Rattle.cat_program.specs.Body.{Simple, SetWord, SetElement, Emit, Raise, Body, Empty, Plain, When, Choice, Loop, Turns}
use Rattle.cat_program.specs.Places.{expr_size, chain_size, operands_size, body_size}
use Rattle.cat_program.specs.Checked.{expr_need, chain_need, Reads, ChainReads, IsFree, ChainIsFree, Works, SimpleWorks, SimpleIsFree, TaskWorks, EventWorks}
use Rattle.cat_machine.specs.declared.instr.Instr.{Instr}
use Rattle.cat_machine.specs.declared.instr.Instr.TheVariants as i
use Rattle.cat_machine.specs.Code.{expr_code, chain_code, operands_code, simple_instr, body_code}
use Rattle.cat_machine.specs.LaidOut.{HasAt, CodeIsLaidOut}
use Rattle.cost_bounds.specs.Paths.{acts}
use Rattle.cn_object.specs.Operands.{HasOperands}
use Rattle.cn_object.specs.Depths.{taken, given}
use Rattle.compiled_objects.proofs.Stretches.{Setting, At, is_plain, Suits, Plains, Same, Next, Stretch, Done, Then, Tests, Chooses, Loops, Turns as Turning}

need_some : (e : Expr) → 1 ≤ expr_need e
need_some (Number n) = omega arith
need_some Payload = omega arith
need_some (Word w) = omega arith
need_some (Element' base len p index) = need_some index
need_some (Signed' sign p operand) = need_some operand
need_some (Chain' p first q rest) = omega (arith, need_some first)

not_task : (t : Bool) → (t ≡ true → ⊥) → t ≡ false
not_task true h = absurd (h refl)
not_task false h = refl

module _ (g : Setting) (laid : CodeIsLaidOut) where
  abbrev L : List Instr
  L = g.code.instrs

  plains_as : (floor depth depth' at at' end last : ℕ) → depth ≡ depth' → at ≡ at' → Plains g floor depth at end last → Plains g floor depth' at' end last
  plains_as floor depth depth' at at' end last e d k = subst (λ z. Plains g floor z at' end last) e (subst (λ z. Plains g floor depth z end last) d k)

  -- an instruction that works something out
  works_suits : (floor depth : ℕ) (x : Instr) → floor + taken x ≤ depth → depth ≤ 32 → acts x ≡ false → HasOperands g.words g.posts (length L) x → (x ≡ i.Payload → g.task ≡ false) → Suits g floor depth x
  works_suits floor depth x finds room quiet operands payload =
      record { finds = finds; room = room; acting = λ task a. absurd (let both : true ≡ false = sym a ∙ quiet in cc); operands = operands; payload = payload }

  next_on : (floor depth after at place end last : ℕ) (x : Instr) → At g at x → is_plain x ≡ true → Suits g floor depth x → after ≡ depth - taken x + given x → place ≡ at + 1 → Plains g floor after place end last → Plains g floor depth at end last
  next_on floor depth after at place end last x e plain suits same there k = Next x e plain suits (plains_as floor after (depth - taken x + given x) place (at + 1) end last same there k)

  mutual
    expr_plains : (e : Expr) (floor depth at end last : ℕ) → HasAt L at (expr_code e) → Reads g.words e → (g.task ≡ true → IsFree e) → floor ≤ depth → depth + expr_need e ≤ 32 → Plains g floor (depth + 1) (at + expr_size e) end last → Plains g floor depth at end last
    expr_plains (Number n) floor depth at end last has reads free low need k =
        next_on floor depth (depth + 1) at (at + 1) end last (i.Push n) has.0 refl (works_suits floor depth (i.Push n) (omega (arith, low)) (omega (arith, need)) refl tt (λ e. cc)) (omega arith) refl k
    expr_plains Payload floor depth at end last has reads free low need k =
        next_on floor depth (depth + 1) at (at + 1) end last i.Payload has.0 refl (works_suits floor depth i.Payload (omega (arith, low)) (omega (arith, need)) refl tt (λ e. not_task g.task free)) (omega arith) refl k
    expr_plains (Word w) floor depth at end last has reads free low need k =
        next_on floor depth (depth + 1) at (at + 1) end last (i.Load w) has.0 refl (works_suits floor depth (i.Load w) (omega (arith, low)) (omega (arith, need)) refl reads (λ e. cc)) (omega arith) refl k
    expr_plains (Element' base len p index) floor depth at end last has reads free low need k =
        let n = expr_size index in
        let front = laid.stands.front L at (expr_code index) (i.LoadAt base len ∷ []) has in
        let back = laid.stands.rest L at (at + n) (expr_code index) (i.LoadAt base len ∷ []) (ap (λ j. at + j) (laid.sizes.expr index)) has in
        let some = need_some index in
        expr_plains index floor depth at end last front reads.2 free low need
        (next_on floor (depth + 1) (depth + 1) (at + n) (at + (n + 1)) end last (i.LoadAt base len) back.0 refl
        (works_suits floor (depth + 1) (i.LoadAt base len) (omega (arith, low)) (omega (arith, need, some)) refl (reads.0, reads.1) (λ e. cc)) (omega arith) (omega arith) k)
    expr_plains (Signed' sign p operand) floor depth at end last has reads free low need k =
        let n = expr_size operand in
        let front = laid.stands.front L at (expr_code operand) (i.Signed sign ∷ []) has in
        let back = laid.stands.rest L at (at + n) (expr_code operand) (i.Signed sign ∷ []) (ap (λ j. at + j) (laid.sizes.expr operand)) has in
        let some = need_some operand in
        expr_plains operand floor depth at end last front reads free low need
        (next_on floor (depth + 1) (depth + 1) (at + n) (at + (n + 1)) end last (i.Signed sign) back.0 refl
        (works_suits floor (depth + 1) (i.Signed sign) (omega (arith, low)) (omega (arith, need, some)) refl tt (λ e. cc)) (omega arith) (omega arith) k)
    expr_plains (Chain' p first q rest) floor depth at end last has reads free low need k =
        let n = expr_size first in
        let front = laid.stands.front L at (expr_code first) (chain_code rest) has in
        let back = laid.stands.rest L at (at + n) (expr_code first) (chain_code rest) (ap (λ j. at + j) (laid.sizes.expr first)) has in
        let place : at + (n + chain_size rest) ≡ at + n + chain_size rest = omega arith in
        expr_plains first floor depth at end last front reads.0 (λ t. (free t).0) low (omega (arith, need))
        (chain_plains rest floor depth (at + n) end last back reads.1 (λ t. (free t).1) low (omega (arith, need)) (plains_as floor (depth + 1) (depth + 1) (at + (n + chain_size rest)) (at + n + chain_size rest) end last refl place k))

    chain_plains : {m : _} (row : Row_of-Further m) (floor depth at end last : ℕ) → HasAt L at (chain_code row) → ChainReads g.words row → (g.task ≡ true → ChainIsFree row) → floor ≤ depth → depth + chain_need row ≤ 32 → Plains g floor (depth + 1) (at + chain_size row) end last → Plains g floor (depth + 1) at end last
    chain_plains end_of-Further floor depth at end last has reads free low need k = plains_as floor (depth + 1) (depth + 1) (at + 0) at end last refl (omega arith) k
    chain_plains (more_of-Further operator operand rest) floor depth at end last has reads free low need k =
        let n = expr_size operand in
        let front = laid.stands.front L at (expr_code operand) (i.Operate operator ∷ chain_code rest) has in
        let back = laid.stands.rest L at (at + n) (expr_code operand) (i.Operate operator ∷ chain_code rest) (ap (λ j. at + j) (laid.sizes.expr operand)) has in
        let some = need_some operand in
        let place : at + (n + 1 + chain_size rest) ≡ at + n + 1 + chain_size rest = omega arith in
        expr_plains operand floor (depth + 1) at end last front reads.0 (λ t. (free t).0) (omega (arith, low)) (omega (arith, need))
        (next_on floor (depth + 1 + 1) (depth + 1) (at + n) (at + n + 1) end last (i.Operate operator) back.0 refl
        (works_suits floor (depth + 1 + 1) (i.Operate operator) (omega (arith, low)) (omega (arith, need, some)) refl tt (λ e. cc)) (omega arith) refl
        (chain_plains rest floor depth (at + n + 1) end last back.1 reads.1 (λ t. (free t).1) low (omega (arith, need)) (plains_as floor (depth + 1) (depth + 1) (at + (n + 1 + chain_size rest)) (at + n + 1 + chain_size rest) end last refl place k)))

  -- ---- simple statements

  acts_suits : (floor depth : ℕ) (x : Instr) → depth ≡ floor + taken x → depth ≤ 32 → (g.task ≡ true → floor ≡ 0) → HasOperands g.words g.posts (length L) x → (x ≡ i.Payload → g.task ≡ false) → Suits g floor depth x
  acts_suits floor depth x deep room flat operands payload =
      record { finds = omega (arith, deep); room = room; acting = λ task a. omega (arith, deep, flat task); operands = operands; payload = payload }

  last_one : (floor depth at : ℕ) (x : Instr) → At g at x → is_plain x ≡ true → given x ≡ 0 → depth ≡ floor + taken x → depth ≤ 32 → (g.task ≡ true → floor ≡ 0) → HasOperands g.words g.posts (length L) x → (x ≡ i.Payload → g.task ≡ false) → Plains g floor depth at (at + 1) floor
  last_one floor depth at x e plain none deep room flat operands payload =
      Next x e plain (acts_suits floor depth x deep room flat operands payload) (Same refl (omega (arith, deep, none)))

  simple_plains : (simple : Simple) (floor at : ℕ) → HasAt L at (operands_code simple) → At g (at + operands_size simple) (simple_instr simple) → SimpleWorks g.words g.posts floor simple → (g.task ≡ true → SimpleIsFree simple) → (g.task ≡ true → floor ≡ 0) → floor ≤ 32
      → Plains g floor floor at (at + operands_size simple + 1) floor
  simple_plains (SetWord word value) floor at has e works free flat room =
      let n = expr_size value in
      let some = need_some value in
      expr_plains value floor floor at (at + n + 1) floor has works.1.1 free (omega arith) works.1.0
      (last_one floor (floor + 1) (at + n) (i.Store word) e refl refl refl (omega (arith, works.1.0, some)) flat works.0 (λ q. cc))
  simple_plains (SetElement base len index value) floor at has e works free flat room =
      let n = expr_size index in
      let m = expr_size value in
      let front = laid.stands.front L at (expr_code index) (expr_code value) has in
      let back = laid.stands.rest L at (at + n) (expr_code index) (expr_code value) (ap (λ j. at + j) (laid.sizes.expr index)) has in
      let some = need_some value in
      let place : at + (n + m) ≡ at + n + m = omega arith in
      let end = at + (n + m) + 1 in
      expr_plains index floor floor at end floor front works.2.1 (λ t. (free t).0) (omega arith) works.2.0
      (expr_plains value floor (floor + 1) (at + n) end floor back works.3.1 (λ t. (free t).1) (omega arith) works.3.0
      (plains_as floor (floor + 1 + 1) (floor + 1 + 1) (at + (n + m)) (at + n + m) end floor refl place
      (last_one floor (floor + 1 + 1) (at + (n + m)) (i.StoreAt base len) e refl refl (omega arith) (omega (arith, works.3.0, some)) flat (works.0, works.1) (λ q. cc))))
  simple_plains (Emit channel value) floor at has e works free flat room =
      let n = expr_size value in
      let some = need_some value in
      expr_plains value floor floor at (at + n + 1) floor has works.1 free (omega arith) works.0
      (last_one floor (floor + 1) (at + n) (i.Out channel) e refl refl refl (omega (arith, works.0, some)) flat tt (λ q. cc))
  simple_plains (Raise task) floor at has e works free flat room =
      let place : at + 0 ≡ at = omega arith in
      plains_as floor floor floor (at + 0) at (at + 0 + 1) floor refl place
      (last_one floor floor (at + 0) (i.Post task) e refl refl (omega arith) room flat works (λ q. cc))

  -- ---- a test

  test_plains : (test : Expr) (floor at : ℕ) → HasAt L at (expr_code test) → Works g.words floor test → (g.task ≡ true → IsFree test) → Plains g floor floor at (at + expr_size test) (floor + 1)
  test_plains test floor at has works free = expr_plains test floor floor at (at + expr_size test) (floor + 1) has works.1 free (omega arith) works.0 (Same refl refl)

  ends_at : (floor at end end' : ℕ) → end ≡ end' → Stretch g floor at end → Stretch g floor at end'
  ends_at floor at end end' e k = subst (λ z. Stretch g floor at z) e k

  -- ---- statements, by what their parts are

  abbrev Part : ℕ → ℕ → Body → Type 0
  Part floor at body = HasAt L at (body_code at body) → Stretch g floor at (at + body_size body)

  plain_part : (b p : ℕ) (simple : Simple) (rest : Body) (floor at : ℕ) → HasAt L at (body_code at (Plain b p simple rest)) → SimpleWorks g.words g.posts floor simple → (g.task ≡ true → SimpleIsFree simple) → (g.task ≡ true → floor ≡ 0) → floor ≤ 32
      → Part floor (at + operands_size simple + 1) rest → Stretch g floor at (at + body_size (Plain b p simple rest))
  plain_part b p simple rest floor at has works free flat room k =
      let n = operands_size simple in
      let tail = simple_instr simple ∷ body_code (at + n + 1) rest in
      let front = laid.stands.front L at (operands_code simple) tail has in
      let back = laid.stands.rest L at (at + n) (operands_code simple) tail (ap (λ j. at + j) (laid.sizes.operands simple)) has in
      ends_at floor at (at + n + 1 + body_size rest) (at + (n + 1 + body_size rest)) (omega arith)
      (Then (at + n + 1) (simple_plains simple floor at front back.0 works free flat room) (k back.1))

  when_part : (b p : ℕ) (test : Expr) (on rest : Body) (floor at : ℕ) → HasAt L at (body_code at (When b p test on rest)) → Works g.words floor test → (g.task ≡ true → IsFree test)
      → Part floor (at + expr_size test + 1) on → Part floor (at + expr_size test + 1 + body_size on) rest → Stretch g floor at (at + body_size (When b p test on rest))
  when_part b p test on rest floor at has works free k more =
      let n = expr_size test in
      let first = at + n + 1 in
      let end = first + body_size on in
      let tail = body_code first on ++ body_code end rest in
      let front = laid.stands.front L at (expr_code test) (i.JumpZero end ∷ tail) has in
      let back = laid.stands.rest L at (at + n) (expr_code test) (i.JumpZero end ∷ tail) (ap (λ j. at + j) (laid.sizes.expr test)) has in
      let on_at = laid.stands.front L first (body_code first on) (body_code end rest) back.1 in
      let rest_at = laid.stands.rest L first end (body_code first on) (body_code end rest) (ap (λ j. first + j) (laid.sizes.body on first)) back.1 in
      let some = need_some test in
      ends_at floor at (end + body_size rest) (at + (n + 1 + body_size on + body_size rest)) (omega arith)
      (Tests (at + n) end (omega (arith, works.0, some)) (test_plains test floor at front works free) back.0 (k on_at) (more rest_at))

  choice_part : (b p : ℕ) (test : Expr) (on off rest : Body) (floor at : ℕ) → HasAt L at (body_code at (Choice b p test on off rest)) → Works g.words floor test → (g.task ≡ true → IsFree test)
      → Part floor (at + expr_size test + 1) on → Part floor (at + expr_size test + 1 + body_size on + 1) off → Part floor (at + expr_size test + 1 + body_size on + 1 + body_size off) rest → Stretch g floor at (at + body_size (Choice b p test on off rest))
  choice_part b p test on off rest floor at has works free k other more =
      let n = expr_size test in
      let first = at + n + 1 in
      let jump = first + body_size on in
      let second = jump + 1 in
      let end = second + body_size off in
      let last = body_code second off ++ body_code end rest in
      let tail = body_code first on ++ (i.Jump end ∷ last) in
      let front = laid.stands.front L at (expr_code test) (i.JumpZero second ∷ tail) has in
      let back = laid.stands.rest L at (at + n) (expr_code test) (i.JumpZero second ∷ tail) (ap (λ j. at + j) (laid.sizes.expr test)) has in
      let on_at = laid.stands.front L first (body_code first on) (i.Jump end ∷ last) back.1 in
      let jump_at = laid.stands.rest L first jump (body_code first on) (i.Jump end ∷ last) (ap (λ j. first + j) (laid.sizes.body on first)) back.1 in
      let off_at = laid.stands.front L second (body_code second off) (body_code end rest) jump_at.1 in
      let rest_at = laid.stands.rest L second end (body_code second off) (body_code end rest) (ap (λ j. second + j) (laid.sizes.body off second)) jump_at.1 in
      let some = need_some test in
      ends_at floor at (end + body_size rest) (at + (n + 1 + body_size on + 1 + body_size off + body_size rest)) (omega arith)
      (Chooses (at + n) jump end (omega (arith, works.0, some)) (test_plains test floor at front works free) back.0 (k on_at) jump_at.0 (other off_at) (more rest_at))

  -- ---- the statements of a task, and of a version

  pub task_stretch : (body : Body) (at : ℕ) → g.task ≡ true → TaskWorks g.words g.posts body → HasAt L at (body_code at body) → Stretch g 0 at (at + body_size body)
  task_stretch Empty at t works has = Done (omega arith)
  task_stretch (Plain b p simple rest) at t works has =
      plain_part b p simple rest 0 at has works.0 (λ q. works.1) (λ q. refl) (omega arith) (task_stretch rest (at + operands_size simple + 1) t works.2)
  task_stretch (When b p test on rest) at t works has =
      when_part b p test on rest 0 at has works.0.0 (λ q. works.0.1) (task_stretch on (at + expr_size test + 1) t works.1) (task_stretch rest (at + expr_size test + 1 + body_size on) t works.2)
  task_stretch (Choice b p test on off rest) at t works has =
      choice_part b p test on off rest 0 at has works.0.0 (λ q. works.0.1) (task_stretch on (at + expr_size test + 1) t works.1) (task_stretch off (at + expr_size test + 1 + body_size on + 1) t works.2) (task_stretch rest (at + expr_size test + 1 + body_size on + 1 + body_size off) t works.3)
  task_stretch (Loop b p test body rest) at t works has =
      let n = expr_size test in
      let first = at + n + 1 in
      let jump = first + body_size body in
      let end = jump + 1 in
      let last = i.Jump at ∷ body_code end rest in
      let front = laid.stands.front L at (expr_code test) (i.JumpZero end ∷ (body_code first body ++ last)) has in
      let back = laid.stands.rest L at (at + n) (expr_code test) (i.JumpZero end ∷ (body_code first body ++ last)) (ap (λ j. at + j) (laid.sizes.expr test)) has in
      let body_at = laid.stands.front L first (body_code first body) last back.1 in
      let jump_at = laid.stands.rest L first jump (body_code first body) last (ap (λ j. first + j) (laid.sizes.body body first)) back.1 in
      let some = need_some test in
      ends_at 0 at (end + body_size rest) (at + (n + 1 + body_size body + 1 + body_size rest)) (omega arith)
      (Loops (at + n) jump t (omega arith) (test_plains test 0 at front works.0.0 (λ q. works.0.1)) back.0 (task_stretch body first t works.1 body_at) jump_at.0 (task_stretch rest end t works.2 jump_at.1))
  task_stretch (Turns b p n body rest) at t works has = absurd works

  none_of : (t : Bool) → t ≡ false → {A : Type 0} → t ≡ true → A
  none_of t f e = absurd (let both : true ≡ false = sym e ∙ f in cc)

  pub event_stretch : (body : Body) (floor at : ℕ) → g.task ≡ false → floor ≤ 32 → EventWorks g.words g.posts floor body → HasAt L at (body_code at body) → Stretch g floor at (at + body_size body)
  event_stretch Empty floor at t room works has = Done (omega arith)
  event_stretch (Plain b p simple rest) floor at t room works has =
      plain_part b p simple rest floor at has works.0 (none_of g.task t) (none_of g.task t) room (event_stretch rest floor (at + operands_size simple + 1) t room works.1)
  event_stretch (When b p test on rest) floor at t room works has =
      when_part b p test on rest floor at has works.0 (none_of g.task t) (event_stretch on floor (at + expr_size test + 1) t room works.1) (event_stretch rest floor (at + expr_size test + 1 + body_size on) t room works.2)
  event_stretch (Choice b p test on off rest) floor at t room works has =
      choice_part b p test on off rest floor at has works.0 (none_of g.task t) (event_stretch on floor (at + expr_size test + 1) t room works.1) (event_stretch off floor (at + expr_size test + 1 + body_size on + 1) t room works.2) (event_stretch rest floor (at + expr_size test + 1 + body_size on + 1 + body_size off) t room works.3)
  event_stretch (Loop b p test body rest) floor at t room works has = absurd works
  event_stretch (Turns b p n body rest) floor at t room works has =
      let turn = at + 1 in
      let first = at + 2 in
      let jump = first + body_size body in
      let end = jump + 1 in
      let last = i.Jump turn ∷ body_code end rest in
      let places : turn + 1 ≡ first = omega arith in
      let inside = subst (λ z. HasAt L z (body_code first body ++ last)) places has.1.1 in
      let body_at = laid.stands.front L first (body_code first body) last inside in
      let jump_at = laid.stands.rest L first jump (body_code first body) last (ap (λ j. first + j) (laid.sizes.body body first)) inside in
      let within = subst (λ z. Stretch g (floor + 1) z jump) (sym places) (event_stretch body (floor + 1) first t works.1 works.2 body_at) in
      ends_at floor at (end + body_size rest) (at + (2 + body_size body + 1 + body_size rest)) (omega arith)
      (Turning n turn jump refl t works.0 works.1 has.0 has.1.0 within jump_at.0 (event_stretch rest floor end t room works.3 jump_at.1))
