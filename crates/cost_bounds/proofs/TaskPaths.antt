-- The sections of the tasks' code: from each place there is one, and these are the greatest sums over them.
use Rattle.std.proofs.Common.{◌≡◌, ℕ, ◌+◌, ◌<◌, ◌≤◌, Bool, true, false, List, [], ◌∷◌, ◌++◌, length, Some, refl, sym, ap, ◌∙◌, subst, arith, inl, inr}
use Rattle.std.specs.Prelude.{max, slice_get, ◌⊎◌}
use Rattle.std.proofs.lemmas.Bool.{cases_lt}
use Rattle.cat_program.specs.declared.syntax.Expr.{Expr, Number, Payload, Word, Element', Signed', Chain', Row_of-Further, end_of-Further, more_of-Further}
use Rattle.nv_memory.specs.declared.device.Class.TheVariants.{Basic}
use Rattle.cat_program.specs.Body.{Simple, SetWord, SetElement, Emit, Raise, Body, Empty, Plain, When, Choice, Loop, Turns}
use Rattle.cat_program.specs.Places.{expr_size, operands_size, body_size, task_size, tasks_size}
use Rattle.cat_program.specs.Checked.{TaskWorks, EachTaskWorks}
use Rattle.cat_machine.specs.declared.instr.Instr.{Instr}
use Rattle.cat_machine.specs.declared.instr.Instr.TheVariants as i
use Rattle.cat_machine.specs.ClassOf.{class_of}
use Rattle.cat_machine.specs.CodeValue.{CodeValue}
use Rattle.cat_machine.specs.Code.{expr_code, chain_code, operands_code, simple_instr, body_code, task_code, tasks_code}
use Rattle.cat_machine.specs.Costs.{Costs, code_cost, instr_cost, place_cost, path_cost, test_cost, first_cost, section_most, task_most, tasks_most}
use Rattle.cat_machine.specs.LaidOut.{HasAt, CodeIsLaidOut}
use Rattle.cost_bounds.specs.Paths.{acts, place_after, SectionFrom, Acts, GoesOn}

-- ---- code that only works something out

abbrev pub works_out : Instr → Bool
works_out (i.Push n) = true
works_out (i.Load w) = true
works_out i.Payload = true
works_out (i.Signed s) = true
works_out (i.Operate o) = true
works_out (i.LoadAt base len) = true
works_out _ = false

abbrev pub AllWorkOut : List Instr → Type 0
AllWorkOut [] = Unit {0}
AllWorkOut (x ∷ xs) = (works_out x ≡ true) × AllWorkOut xs

all_append : (a b : List Instr) → AllWorkOut a → AllWorkOut b → AllWorkOut (a ++ b)
all_append [] b h k = k
all_append (x ∷ a) b h k = (h.0, all_append a b h.1 k)

mutual
  pub expr_works_out : (e : Expr) → AllWorkOut (expr_code e)
  expr_works_out (Number n) = (refl, tt)
  expr_works_out Payload = (refl, tt)
  expr_works_out (Word w) = (refl, tt)
  expr_works_out (Element' base len p index) = all_append (expr_code index) (i.LoadAt base len ∷ []) (expr_works_out index) (refl, tt)
  expr_works_out (Signed' sign p operand) = all_append (expr_code operand) (i.Signed sign ∷ []) (expr_works_out operand) (refl, tt)
  expr_works_out (Chain' p first s rest) = all_append (expr_code first) (chain_code rest) (expr_works_out first) (chain_works_out rest)

  chain_works_out : {m : _} (row : Row_of-Further m) → AllWorkOut (chain_code row)
  chain_works_out end_of-Further = tt
  chain_works_out (more_of-Further operator operand rest) = all_append (expr_code operand) (i.Operate operator ∷ chain_code rest) (expr_works_out operand) (refl, chain_works_out rest)

pub operands_work_out : (s : Simple) → AllWorkOut (operands_code s)
operands_work_out (SetWord word value) = expr_works_out value
operands_work_out (SetElement base len index value) = all_append (expr_code index) (expr_code value) (expr_works_out index) (expr_works_out value)
operands_work_out (Emit channel value) = expr_works_out value
operands_work_out (Raise task) = tt

acts_simple : (s : Simple) → acts (simple_instr s) ≡ true
acts_simple (SetWord word value) = refl
acts_simple (SetElement base len index value) = refl
acts_simple (Emit channel value) = refl
acts_simple (Raise task) = refl

abbrev GoesToNext : Instr → Type 0
GoesToNext x = (acts x ≡ false) × ((pc : ℕ) → place_after x pc ≡ pc + 1)

works_on : (x : Instr) → works_out x ≡ true → GoesToNext x
works_on (i.Push n) h = (refl, λ pc. refl)
works_on (i.Load w) h = (refl, λ pc. refl)
works_on i.Payload h = (refl, λ pc. refl)
works_on (i.Signed s) h = (refl, λ pc. refl)
works_on (i.Operate o) h = (refl, λ pc. refl)
works_on (i.LoadAt base len) h = (refl, λ pc. refl)
works_on (i.Jump to) h = cc
works_on (i.JumpZero to) h = cc
works_on (i.Turn to) h = cc
works_on (i.Begin t) h = cc
works_on i.End h = cc
works_on (i.Store w) h = cc
works_on (i.StoreAt base len) h = cc
works_on (i.Post t) h = cc
works_on (i.Out c) h = cc

-- ---- from a place there is at most one section

pub one_section : (code : CodeValue) (pc : ℕ) (a b : List ℕ) → SectionFrom code pc a → SectionFrom code pc b → a ≡ b
one_section code pc a b (Acts x e t) (Acts y d s) = refl
one_section code pc a b (Acts x e t) (GoesOn y d s rest) = let same : x ≡ y = cc in cc
one_section code pc a b (GoesOn x e t rest) (Acts y d s) = let same : x ≡ y = cc in cc
one_section code pc a b (GoesOn {path = p} x e t rest) (GoesOn {path = q} y d s more) =
    let same : x ≡ y = cc in ap (λ l. pc ∷ l) (one_section code (place_after y pc) p q (subst (λ z. SectionFrom code (place_after z pc) p) same rest) more)

module _ (u : Costs) (code : CodeValue) where
  -- from this place there is a section with this sum
  pub record Sums (pc c : ℕ) : Type 0 where
    pub path : List ℕ
    pub is : SectionFrom code pc path
    pub sums : path_cost (place_cost u code) path ≡ c

  -- the greatest sum from the places of a range
  pub record Most (at end m : ℕ) : Type 0 where
    pub each : (pc : ℕ) → at ≤ pc → pc < end → (c : ℕ) × Sums pc c × (c ≤ m)
    pub reached : ((pc : ℕ) × (at ≤ pc) × (pc < end) × Sums pc m) ⊎ (m ≡ 0)

  acts_here : (pc : ℕ) (x : Instr) → slice_get code.instrs pc ≡ Some x → acts x ≡ true → Sums pc (u (class_of x))
  acts_here pc x e t = record { path = pc ∷ []; is = Acts x e t; sums = omega (arith, ap (instr_cost u) e) }

  goes_here : (pc c : ℕ) (x : Instr) → slice_get code.instrs pc ≡ Some x → acts x ≡ false → Sums (place_after x pc) c → Sums pc (u (class_of x) + c)
  goes_here pc c x e t s = record { path = pc ∷ s.path; is = GoesOn x e t s.is; sums = omega (arith, ap (instr_cost u) e, s.sums) }

  one : (pc c : ℕ) → Sums pc c → Most pc (pc + 1) c
  one pc c s = record {
    each = λ q le lt. (c, subst (λ z. Sums z c) (same q le lt) s, omega arith);
    reached = inl (pc, omega arith, omega arith, s);
  }
    where
      same : (q : ℕ) → pc ≤ q → q < pc + 1 → pc ≡ q
      same q le lt = omega arith

  none : (at : ℕ) → Most at at 0
  none at = record { each = λ pc le lt. absurd (omega arith); reached = inr refl }

  joined : (at mid end m n : ℕ) → at ≤ mid → mid ≤ end → Most at mid m → Most mid end n → Most at end (max m n)
  joined at mid end m n before after a b = record { each = each; reached = by_order (cases_lt n m) }
    where
      each : (pc : ℕ) → at ≤ pc → pc < end → (c : ℕ) × Sums pc c × (c ≤ max m n)
      each pc le lt = by_place (cases_lt pc mid)
        where
          by_place : ((pc < mid) ⊎ (mid ≤ pc)) → (c : ℕ) × Sums pc c × (c ≤ max m n)
          by_place (inl in_first) = let r = a.each pc le in_first in (r.0, r.1, omega (arith, r.2))
          by_place (inr in_second) = let r = b.each pc in_second lt in (r.0, r.1, omega (arith, r.2))

      by_first : (max m n ≡ m) → ((pc : ℕ) × (at ≤ pc) × (pc < mid) × Sums pc m) ⊎ (m ≡ 0) → ((pc : ℕ) × (at ≤ pc) × (pc < end) × Sums pc (max m n)) ⊎ (max m n ≡ 0)
      by_first e (inl r) = inl (r.0, r.1, omega (arith, r.2), subst (Sums r.0) (sym e) r.3)
      by_first e (inr z) = inr (e ∙ z)

      by_second : (max m n ≡ n) → ((pc : ℕ) × (mid ≤ pc) × (pc < end) × Sums pc n) ⊎ (n ≡ 0) → ((pc : ℕ) × (at ≤ pc) × (pc < end) × Sums pc (max m n)) ⊎ (max m n ≡ 0)
      by_second e (inl r) = inl (r.0, omega (arith, r.1), r.2, subst (Sums r.0) (sym e) r.3)
      by_second e (inr z) = inr (e ∙ z)

      by_order : ((n < m) ⊎ (m ≤ n)) → ((pc : ℕ) × (at ≤ pc) × (pc < end) × Sums pc (max m n)) ⊎ (max m n ≡ 0)
      by_order (inl lt) = by_first (omega arith) a.reached
      by_order (inr le) = by_second (omega arith) b.reached

  -- the same under other names
  renamed : (at end end' m m' : ℕ) → end ≡ end' → m ≡ m' → Most at end m → Most at end' m'
  renamed at end end' m m' e d a = subst (λ z. Most at z m') e (subst (Most at end) d a)

  sums_as : (pc pc' c c' : ℕ) → pc ≡ pc' → c ≡ c' → Sums pc c → Sums pc' c'
  sums_as pc pc' c c' e d s = subst (λ z. Sums z c') e (subst (Sums pc) d s)

  -- what is worked out, and then an instruction that acts
  straight : (xs : List Instr) (x : Instr) (at n : ℕ) → HasAt code.instrs at xs → AllWorkOut xs → length xs ≡ n → slice_get code.instrs (at + n) ≡ Some x → acts x ≡ true → Sums at (code_cost u xs + u (class_of x)) × Most at (at + n + 1) (code_cost u xs + u (class_of x))
  straight [] x at n has all long e t =
      let here : at + n ≡ at = omega (arith, long) in
      let s = sums_as (at + n) at (u (class_of x)) (0 + u (class_of x)) here (omega arith) (acts_here (at + n) x e t) in
      (s, renamed at (at + 1) (at + n + 1) (0 + u (class_of x)) (0 + u (class_of x)) (omega (arith, here)) refl (one at (0 + u (class_of x)) s))
  straight (y ∷ xs) x at n has all long e t =
      let k = length xs in
      let place : at + n ≡ at + 1 + k = omega (arith, long) in
      let rest = straight xs x (at + 1) k has.1 all.1 refl (ap (λ j. slice_get code.instrs j) (sym place) ∙ e) t in
      let goes = works_on y all.0 in
      let c = code_cost u xs + u (class_of x) in
      let s = sums_as at at (u (class_of y) + c) (u (class_of y) + code_cost u xs + u (class_of x)) refl (omega arith) (goes_here at c y has.0 goes.0 (subst (λ j. Sums j c) (sym (goes.1 at)) rest.0)) in
      let m = u (class_of y) + code_cost u xs + u (class_of x) in
      (s, renamed at (at + 1 + k + 1) (at + n + 1) (max m c) m (omega (arith, place)) (omega arith) (joined at (at + 1) (at + 1 + k + 1) m c (omega arith) (omega arith) (one at m s) rest.1))

  -- a test, and the jump that it decides
  test_most : CodeIsLaidOut → (e : Expr) (to at : ℕ) → HasAt code.instrs at (expr_code e) → slice_get code.instrs (at + expr_size e) ≡ Some (i.JumpZero to) → Sums at (test_cost u e) × Most at (at + expr_size e + 1) (test_cost u e)
  test_most laid e to at has d = straight (expr_code e) (i.JumpZero to) at (expr_size e) has (expr_works_out e) (laid.sizes.expr e) d refl

  jump_sums : (at to c : ℕ) → slice_get code.instrs at ≡ Some (i.Jump to) → Sums to c → Sums at (u Basic + c)
  jump_sums at to c e s = goes_here at c (i.Jump to) e refl s

  module _ (laid : CodeIsLaidOut) (words posts : ℕ) where
    -- a list of statements, where c is the sum from the place after it
    body_most : (body : Body) (at c : ℕ) → HasAt code.instrs at (body_code at body) → TaskWorks words posts body → Sums (at + body_size body) c → Sums at (first_cost u body c) × Most at (at + body_size body) (section_most u body c)
    body_most Empty at c has works s =
        let here : at + 0 ≡ at = omega arith in
        (sums_as (at + 0) at c c here refl s, renamed at at (at + 0) 0 0 (sym here) refl (none at))
    body_most (Plain b p simple rest) at c has works s =
        let n = operands_size simple in
        let after = laid.stands.rest code.instrs at (at + n) (operands_code simple) (simple_instr simple ∷ body_code (at + n + 1) rest) (ap (λ j. at + j) (laid.sizes.operands simple)) has in
        let first = straight (operands_code simple) (simple_instr simple) at n (laid.stands.front code.instrs at (operands_code simple) _ has) (operands_work_out simple) (laid.sizes.operands simple) after.0 (acts_simple simple) in
        let end : at + (n + 1 + body_size rest) ≡ at + n + 1 + body_size rest = omega arith in
        let others = body_most rest (at + n + 1) c after.1 works.2 (sums_as _ _ c c end refl s) in
        (first.0, renamed at (at + n + 1 + body_size rest) (at + (n + 1 + body_size rest)) _ _ (sym end) refl (joined at (at + n + 1) (at + n + 1 + body_size rest) _ _ (omega arith) (omega arith) first.1 others.1))
    body_most (When b p e on rest) at c has works s =
        let n = expr_size e in
        let first = at + n + 1 in
        let end = first + body_size on in
        let after = laid.stands.rest code.instrs at (at + n) (expr_code e) (i.JumpZero end ∷ (body_code first on ++ body_code end rest)) (ap (λ j. at + j) (laid.sizes.expr e)) has in
        let test = test_most laid e end at (laid.stands.front code.instrs at (expr_code e) _ has) after.0 in
        let last : at + (n + 1 + body_size on + body_size rest) ≡ end + body_size rest = omega arith in
        let rest_at = laid.stands.rest code.instrs first end (body_code first on) (body_code end rest) (ap (λ j. first + j) (laid.sizes.body on first)) after.1 in
        let others = body_most rest end c rest_at works.2 (sums_as _ _ c c last refl s) in
        let within = body_most on first (first_cost u rest c) (laid.stands.front code.instrs first (body_code first on) _ after.1) works.1 others.0 in (
          test.0,
          renamed at (end + body_size rest) _ _ _ (sym last) refl
              (joined at first (end + body_size rest) _ _ (omega arith) (omega arith) test.1 (joined first end (end + body_size rest) _ _ (omega arith) (omega arith) within.1 others.1)),
        )
    body_most (Choice b p e on off rest) at c has works s =
        let n = expr_size e in
        let first = at + n + 1 in
        let jump = first + body_size on in
        let second = jump + 1 in
        let end = second + body_size off in
        let after = laid.stands.rest code.instrs at (at + n) (expr_code e) (i.JumpZero second ∷ (body_code first on ++ (i.Jump end ∷ (body_code second off ++ body_code end rest)))) (ap (λ j. at + j) (laid.sizes.expr e)) has in
        let test = test_most laid e second at (laid.stands.front code.instrs at (expr_code e) _ has) after.0 in
        let last : at + (n + 1 + body_size on + 1 + body_size off + body_size rest) ≡ end + body_size rest = omega arith in
        let jump_at = laid.stands.rest code.instrs first jump (body_code first on) (i.Jump end ∷ (body_code second off ++ body_code end rest)) (ap (λ j. first + j) (laid.sizes.body on first)) after.1 in
        let rest_at = laid.stands.rest code.instrs second end (body_code second off) (body_code end rest) (ap (λ j. second + j) (laid.sizes.body off second)) jump_at.1 in
        let others = body_most rest end c rest_at works.3 (sums_as _ _ c c last refl s) in
        let leaves = jump_sums jump end (first_cost u rest c) jump_at.0 others.0 in
        let one_way = body_most on first (u Basic + first_cost u rest c) (laid.stands.front code.instrs first (body_code first on) _ after.1) works.1 leaves in
        let other_way = body_most off second (first_cost u rest c) (laid.stands.front code.instrs second (body_code second off) _ jump_at.1) works.2 others.0 in (
          test.0,
          renamed at (end + body_size rest) _ _ _ (sym last) refl
              (joined at first (end + body_size rest) _ _ (omega arith) (omega arith) test.1
              (joined first jump (end + body_size rest) _ _ (omega arith) (omega arith) one_way.1
              (joined jump second (end + body_size rest) _ _ (omega arith) (omega arith) (one jump _ leaves)
              (joined second end (end + body_size rest) _ _ (omega arith) (omega arith) other_way.1 others.1)))),
        )
    body_most (Loop b p e body rest) at c has works s =
        let n = expr_size e in
        let first = at + n + 1 in
        let jump = first + body_size body in
        let end = jump + 1 in
        let after = laid.stands.rest code.instrs at (at + n) (expr_code e) (i.JumpZero end ∷ (body_code first body ++ (i.Jump at ∷ body_code end rest))) (ap (λ j. at + j) (laid.sizes.expr e)) has in
        let test = test_most laid e end at (laid.stands.front code.instrs at (expr_code e) _ has) after.0 in
        let last : at + (n + 1 + body_size body + 1 + body_size rest) ≡ end + body_size rest = omega arith in
        let jump_at = laid.stands.rest code.instrs first jump (body_code first body) (i.Jump at ∷ body_code end rest) (ap (λ j. first + j) (laid.sizes.body body first)) after.1 in
        let others = body_most rest end c jump_at.1 works.2 (sums_as _ _ c c last refl s) in
        let back = jump_sums jump at (test_cost u e) jump_at.0 test.0 in
        let within = body_most body first (u Basic + test_cost u e) (laid.stands.front code.instrs first (body_code first body) _ after.1) works.1 back in (
          test.0,
          renamed at (end + body_size rest) _ _ _ (sym last) refl
              (joined at first (end + body_size rest) _ _ (omega arith) (omega arith) test.1
              (joined first jump (end + body_size rest) _ _ (omega arith) (omega arith) within.1
              (joined jump end (end + body_size rest) _ _ (omega arith) (omega arith) (one jump _ back) others.1))),
        )
    body_most (Turns b p k body rest) at c has works s = absurd works

    task_places : (body : Body) (at t : ℕ) → HasAt code.instrs at (task_code at t body) → TaskWorks words posts body → Most at (at + task_size body) (task_most u body)
    task_places body at t has works =
        let end = at + 1 + body_size body in
        let end_at = laid.stands.rest code.instrs (at + 1) end (body_code (at + 1) body) (i.End ∷ []) (ap (λ j. at + 1 + j) (laid.sizes.body body (at + 1))) has.1 in
        let last = acts_here end i.End end_at.0 refl in
        let within = body_most body (at + 1) (u Basic) (laid.stands.front code.instrs (at + 1) (body_code (at + 1) body) _ has.1) works last in
        let begins = acts_here at (i.Begin t) has.0 refl in
        let size : end + 1 ≡ at + task_size body = omega arith in
        renamed at (end + 1) _ _ _ size (omega arith) (joined at (at + 1) (end + 1) _ _ (omega arith) (omega arith) (one at _ begins) (joined (at + 1) end (end + 1) _ _ (omega arith) (omega arith) within.1 (one end _ last)))

    pub tasks_places : (bodies : List Body) (at t : ℕ) → HasAt code.instrs at (tasks_code at t bodies) → EachTaskWorks words posts bodies → Most at (at + tasks_size bodies) (tasks_most u bodies)
    tasks_places [] at t has works = let here : at ≡ at + 0 = omega arith in renamed at at (at + 0) 0 0 here refl (none at)
    tasks_places (body ∷ bodies) at t has works =
        let next = at + task_size body in
        let rest_at = laid.stands.rest code.instrs at next (task_code at t body) (tasks_code next (t + 1) bodies) (ap (λ j. at + j) (laid.sizes.task at t body)) has in
        let size : next + tasks_size bodies ≡ at + (task_size body + tasks_size bodies) = omega arith in
        renamed at (next + tasks_size bodies) _ _ _ size refl (joined at next (next + tasks_size bodies) _ _ (omega arith) (omega arith) (task_places body at t (laid.stands.front code.instrs at (task_code at t body) _ has) works.0) (tasks_places bodies next (t + 1) rest_at works.1))
