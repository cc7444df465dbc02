-- The paths of a handler's code, and the greatest sum over them.
use Rattle.std.proofs.Common.{◌≡◌, ℕ, zero, suc, ◌+◌, ◌*◌, ◌<◌, ◌≤◌, Bool, true, false, List, [], ◌∷◌, ◌++◌, length, Some, refl, sym, ap, ◌∙◌, subst, arith, inl, inr, ⊎_elim}
use Rattle.std.specs.Prelude.{max, slice_get, pos, ◌⊎◌}
use Rattle.std.proofs.lemmas.Bool.{cases_lt}
use Rattle.cat_program.specs.declared.syntax.Expr.{Expr}
use Rattle.nv_memory.specs.declared.device.Class.TheVariants.{Basic}
use Rattle.cat_program.specs.Body.{Simple, SetWord, SetElement, Emit, Raise, Body, Empty, Plain, When, Choice, Loop, Turns}
use Rattle.cat_program.specs.Places.{expr_size, operands_size, body_size}
use Rattle.cat_program.specs.Checked.{EventWorks}
use Rattle.cat_machine.specs.declared.instr.Instr.{Instr}
use Rattle.cat_machine.specs.declared.instr.Instr.TheVariants as i
use Rattle.cat_machine.specs.ClassOf.{class_of}
use Rattle.cat_machine.specs.CodeValue.{CodeValue}
use Rattle.cat_machine.specs.Code.{expr_code, operands_code, simple_instr, body_code}
use Rattle.cat_machine.specs.Costs.{Costs, code_cost, instr_cost, place_cost, path_cost, simple_cost, test_cost, handler_most}
use Rattle.cat_machine.specs.LaidOut.{HasAt, CodeIsLaidOut}
use Rattle.cost_bounds.specs.Paths.{is_turn, LeadsTo, turn_follows, HandlerFrom, Ends, LeadsOn}
use Rattle.cost_bounds.proofs.TaskPaths.{works_out, AllWorkOut, expr_works_out, operands_work_out}

-- ---- where instructions lead

-- an instruction that goes on to the next place wherever no turn follows
pub record IsPlain (x : Instr) : Type 0 where
  pub leads : (pc : ℕ) (left : List ℕ) → LeadsTo false x pc left (pc + 1) left
  pub only : (pc : ℕ) (left : List ℕ) (next : ℕ) (later : List ℕ) → LeadsTo false x pc left next later → (next ≡ pc + 1) × (later ≡ left)
  pub goes : x ≡ i.End → ⊥

abbrev plain_by : (x : Instr) → ((pc : ℕ) (left : List ℕ) → LeadsTo false x pc left (pc + 1) left) → ((pc : ℕ) (left : List ℕ) (next : ℕ) (later : List ℕ) → LeadsTo false x pc left next later → (next ≡ pc + 1) × (later ≡ left)) → (x ≡ i.End → ⊥) → IsPlain x
plain_by x leads only goes = record { leads = leads; only = only; goes = goes }

works_plain : (x : Instr) → works_out x ≡ true → IsPlain x
works_plain (i.Push n) h = plain_by (i.Push n) (λ pc left. (refl, refl)) (λ pc left next later l. l) (λ e. cc)
works_plain (i.Load w) h = plain_by (i.Load w) (λ pc left. (refl, refl)) (λ pc left next later l. l) (λ e. cc)
works_plain i.Payload h = plain_by i.Payload (λ pc left. (refl, refl)) (λ pc left next later l. l) (λ e. cc)
works_plain (i.Signed s) h = plain_by (i.Signed s) (λ pc left. (refl, refl)) (λ pc left next later l. l) (λ e. cc)
works_plain (i.Operate o) h = plain_by (i.Operate o) (λ pc left. (refl, refl)) (λ pc left next later l. l) (λ e. cc)
works_plain (i.LoadAt base len) h = plain_by (i.LoadAt base len) (λ pc left. (refl, refl)) (λ pc left next later l. l) (λ e. cc)
works_plain (i.Jump to) h = cc
works_plain (i.JumpZero to) h = cc
works_plain (i.Turn to) h = cc
works_plain (i.Begin t) h = cc
works_plain i.End h = cc
works_plain (i.Store w) h = cc
works_plain (i.StoreAt base len) h = cc
works_plain (i.Post t) h = cc
works_plain (i.Out c) h = cc

works_no_turn : (x : Instr) → works_out x ≡ true → is_turn (Some x) ≡ false
works_no_turn (i.Push n) h = refl
works_no_turn (i.Load w) h = refl
works_no_turn i.Payload h = refl
works_no_turn (i.Signed s) h = refl
works_no_turn (i.Operate o) h = refl
works_no_turn (i.LoadAt base len) h = refl
works_no_turn (i.Jump to) h = refl
works_no_turn (i.JumpZero to) h = refl
works_no_turn (i.Turn to) h = cc
works_no_turn (i.Begin t) h = refl
works_no_turn i.End h = refl
works_no_turn (i.Store w) h = refl
works_no_turn (i.StoreAt base len) h = refl
works_no_turn (i.Post t) h = refl
works_no_turn (i.Out c) h = refl

-- a simple statement's last instruction, whatever follows it
pub record IsPlainBefore (before_turn : Bool) (x : Instr) : Type 0 where
  pub leads : (pc : ℕ) (left : List ℕ) → LeadsTo before_turn x pc left (pc + 1) left
  pub only : (pc : ℕ) (left : List ℕ) (next : ℕ) (later : List ℕ) → LeadsTo before_turn x pc left next later → (next ≡ pc + 1) × (later ≡ left)
  pub goes : x ≡ i.End → ⊥

simple_plain : (b : Bool) (s : Simple) → IsPlainBefore b (simple_instr s)
simple_plain true (SetWord word value) = record { leads = λ pc left. (refl, refl); only = λ pc left next later l. l; goes = λ e. cc }
simple_plain true (SetElement base len index value) = record { leads = λ pc left. (refl, refl); only = λ pc left next later l. l; goes = λ e. cc }
simple_plain true (Emit channel value) = record { leads = λ pc left. (refl, refl); only = λ pc left next later l. l; goes = λ e. cc }
simple_plain true (Raise task) = record { leads = λ pc left. (refl, refl); only = λ pc left next later l. l; goes = λ e. cc }
simple_plain false (SetWord word value) = record { leads = λ pc left. (refl, refl); only = λ pc left next later l. l; goes = λ e. cc }
simple_plain false (SetElement base len index value) = record { leads = λ pc left. (refl, refl); only = λ pc left next later l. l; goes = λ e. cc }
simple_plain false (Emit channel value) = record { leads = λ pc left. (refl, refl); only = λ pc left next later l. l; goes = λ e. cc }
simple_plain false (Raise task) = record { leads = λ pc left. (refl, refl); only = λ pc left next later l. l; goes = λ e. cc }

simple_no_turn : (s : Simple) → is_turn (Some (simple_instr s)) ≡ false
simple_no_turn (SetWord word value) = refl
simple_no_turn (SetElement base len index value) = refl
simple_no_turn (Emit channel value) = refl
simple_no_turn (Raise task) = refl

module _ (u : Costs) (code : CodeValue) where
  abbrev pub Sum : List ℕ → ℕ
  Sum path = path_cost (place_cost u code) path

  -- a path begins with one instruction
  pub record Steps (x : Instr) (pc : ℕ) (left path : List ℕ) : Type 0 where
    pub next : ℕ
    pub later : List ℕ
    pub rest : List ℕ
    pub path_is : path ≡ pc ∷ rest
    pub leads : LeadsTo (turn_follows code pc) x pc left next later
    pub is : HandlerFrom code next later rest

  steps : (x : Instr) (pc : ℕ) (left path : List ℕ) → slice_get code.instrs pc ≡ Some x → (x ≡ i.End → ⊥) → HandlerFrom code pc left path → Steps x pc left path
  steps x pc left path e goes (Ends d) = let same : x ≡ i.End = cc in absurd (goes same)
  steps x pc left path e goes (LeadsOn {next = n} {later = l} {path = p} y d leads rest) =
      let same : y ≡ x = cc in
      record { next = n; later = l; rest = p; path_is = refl; leads = subst (λ z. LeadsTo (turn_follows code pc) z pc left n l) same leads; is = rest }

  step_sum : (x : Instr) (pc : ℕ) (left path : List ℕ) (s : Steps x pc left path) → slice_get code.instrs pc ≡ Some x → Sum path ≡ u (class_of x) + Sum s.rest
  step_sum x pc left path s e = ap Sum s.path_is ∙ ap (λ c. c + Sum s.rest) (ap (instr_cost u) e)

  pub at_end : (pc : ℕ) (left path : List ℕ) → slice_get code.instrs pc ≡ Some i.End → HandlerFrom code pc left path → Sum path ≡ u Basic
  at_end pc left path e (Ends d) = omega (arith, ap (instr_cost u) e)
  at_end pc left path e (LeadsOn {next = n} {later = l} {path = p} y d leads rest) =
      let same : y ≡ i.End = cc in absurd (subst (λ z. LeadsTo (turn_follows code pc) z pc left n l) same leads)

  -- ---- no path sums to more

  -- a path goes on to a place with as many turns left, and sums to at most m until there
  pub record Comes (end : ℕ) (left path : List ℕ) (m : ℕ) : Type 0 where
    pub rest : List ℕ
    pub is : HandlerFrom code end left rest
    pub sums : Sum path ≤ m + Sum rest

  comes_as : (end end' : ℕ) (left path : List ℕ) (m m' : ℕ) → end ≡ end' → m ≤ m' → Comes end left path m → Comes end' left path m'
  comes_as end end' left path m m' e d c = record { rest = c.rest; is = subst (λ z. HandlerFrom code z left c.rest) e c.is; sums = omega (arith, d, c.sums) }

  comes_on : (mid end : ℕ) (left path : List ℕ) (m n : ℕ) (a : Comes mid left path m) → Comes end left a.rest n → Comes end left path (m + n)
  comes_on mid end left path m n a b = record { rest = b.rest; is = b.is; sums = omega (arith, a.sums, b.sums) }

  -- one instruction, which leads there with as many turns left
  comes_by : (x : Instr) (pc end : ℕ) (left path : List ℕ) → slice_get code.instrs pc ≡ Some x → (s : Steps x pc left path) → s.next ≡ end → s.later ≡ left → Comes end left path (u (class_of x))
  comes_by x pc end left path e s n l = record {
    rest = s.rest;
    is = subst (λ z. HandlerFrom code z left s.rest) n (subst (λ z. HandlerFrom code s.next z s.rest) l s.is);
    sums = omega (arith, step_sum x pc left path s e);
  }

  plain_comes : (x : Instr) (pc : ℕ) (left path : List ℕ) → slice_get code.instrs pc ≡ Some x → IsPlain x → turn_follows code pc ≡ false → HandlerFrom code pc left path → Comes (pc + 1) left path (u (class_of x))
  plain_comes x pc left path e plain none h =
      let s = steps x pc left path e plain.goes h in
      let r = plain.only pc left s.next s.later (subst (λ b. LeadsTo b x pc left s.next s.later) none s.leads) in
      comes_by x pc (pc + 1) left path e s r.0 r.1

  -- no turn stands behind what is worked out and goes on
  next_no_turn : (xs : List Instr) (x : Instr) (at k : ℕ) → HasAt code.instrs (at + 1) xs → AllWorkOut xs → length xs ≡ k → slice_get code.instrs (at + 1 + k) ≡ Some x → is_turn (Some x) ≡ false → turn_follows code at ≡ false
  next_no_turn [] x at k has all long e none = let here : at + 1 ≡ at + 1 + k = omega (arith, long) in ap is_turn (ap (λ j. slice_get code.instrs j) here ∙ e) ∙ none
  next_no_turn (z ∷ xs) x at k has all long e none = ap is_turn has.0 ∙ works_no_turn z all.0

  -- what is worked out, where no turn follows
  worked_comes : (xs : List Instr) (x : Instr) (at n : ℕ) (left path : List ℕ) → HasAt code.instrs at xs → AllWorkOut xs → length xs ≡ n → slice_get code.instrs (at + n) ≡ Some x → is_turn (Some x) ≡ false → HandlerFrom code at left path → Comes (at + n) left path (code_cost u xs)
  worked_comes [] x at n left path has all long e none h =
      let here : at ≡ at + n = omega (arith, long) in
      record { rest = path; is = subst (λ z. HandlerFrom code z left path) here h; sums = omega arith }
  worked_comes (y ∷ xs) x at n left path has all long e none h =
      let k = length xs in
      let place : at + 1 + k ≡ at + n = omega (arith, long) in
      let e' = ap (λ j. slice_get code.instrs j) place ∙ e in
      let first = plain_comes y at left path has.0 (works_plain y all.0) (next_no_turn xs x at k has.1 all.1 refl e' none) h in
      comes_as (at + 1 + k) (at + n) left path (u (class_of y) + code_cost u xs) (code_cost u (y ∷ xs)) place (omega arith)
      (comes_on (at + 1) (at + 1 + k) left path (u (class_of y)) (code_cost u xs) first (worked_comes xs x (at + 1) k left first.rest has.1 all.1 refl e' none first.is))

  simple_comes : CodeIsLaidOut → (s : Simple) (at : ℕ) (left path : List ℕ) → HasAt code.instrs at (operands_code s) → slice_get code.instrs (at + operands_size s) ≡ Some (simple_instr s) → HandlerFrom code at left path → Comes (at + operands_size s + 1) left path (simple_cost u s)
  simple_comes laid s at left path has e h =
      let n = operands_size s in
      let first = worked_comes (operands_code s) (simple_instr s) at n left path has (operands_work_out s) (laid.sizes.operands s) e (simple_no_turn s) h in
      let plain = simple_plain (turn_follows code (at + n)) s in
      let step = steps (simple_instr s) (at + n) left first.rest e plain.goes first.is in
      let r = plain.only (at + n) left step.next step.later step.leads in
      comes_on (at + n) (at + n + 1) left path (code_cost u (operands_code s)) (u (class_of (simple_instr s))) first (comes_by (simple_instr s) (at + n) (at + n + 1) left first.rest e step r.0 r.1)

  -- a test goes one way or the other
  test_comes : CodeIsLaidOut → (e : Expr) (to at : ℕ) (left path : List ℕ) → HasAt code.instrs at (expr_code e) → slice_get code.instrs (at + expr_size e) ≡ Some (i.JumpZero to) → HandlerFrom code at left path → Comes (at + expr_size e + 1) left path (test_cost u e) ⊎ Comes to left path (test_cost u e)
  test_comes laid e to at left path has d h = by_way step.leads.0
    where
      n : ℕ
      n = expr_size e

      first : Comes (at + n) left path (code_cost u (expr_code e))
      first = worked_comes (expr_code e) (i.JumpZero to) at n left path has (expr_works_out e) (laid.sizes.expr e) d refl h

      step : Steps (i.JumpZero to) (at + n) left first.rest
      step = steps (i.JumpZero to) (at + n) left first.rest d (λ q. cc) first.is

      by_way : ((step.next ≡ to) ⊎ (step.next ≡ at + n + 1)) → Comes (at + n + 1) left path (test_cost u e) ⊎ Comes to left path (test_cost u e)
      by_way (inl same) = inr (comes_on (at + n) to left path (code_cost u (expr_code e)) (u Basic) first (comes_by (i.JumpZero to) (at + n) to left first.rest d step same step.leads.1))
      by_way (inr same) = inl (comes_on (at + n) (at + n + 1) left path (code_cost u (expr_code e)) (u Basic) first (comes_by (i.JumpZero to) (at + n) (at + n + 1) left first.rest d step same step.leads.1))

  jump_comes : (at to : ℕ) (left path : List ℕ) → slice_get code.instrs at ≡ Some (i.Jump to) → HandlerFrom code at left path → Comes to left path (u Basic)
  jump_comes at to left path e h =
      let s = steps (i.Jump to) at left path e (λ q. cc) h in
      comes_by (i.Jump to) at to left path e s s.leads.0 s.leads.1

  module _ (laid : CodeIsLaidOut) (words posts : ℕ) where
    -- the turns of a repeat, where m is the most of its body
    turns_come : (body : Body) (at m n : ℕ) (left path : List ℕ) → slice_get code.instrs at ≡ Some (i.Turn (at + 1 + body_size body + 1)) → slice_get code.instrs (at + 1 + body_size body) ≡ Some (i.Jump at)
        → ((more p : List ℕ) → HandlerFrom code (at + 1) more p → Comes (at + 1 + body_size body) more p m)
        → HandlerFrom code at (n ∷ left) path → Comes (at + 1 + body_size body + 1) left path (n * (u Basic + m + u Basic) + u Basic)
    turns_come body at m zero left path t j within h =
        let end = at + 1 + body_size body + 1 in
        let s = steps (i.Turn end) at (0 ∷ left) path t (λ q. cc) h in
        record {
          rest = s.rest;
          is = subst (λ z. HandlerFrom code z left s.rest) s.leads.0 (subst (λ z. HandlerFrom code s.next z s.rest) s.leads.1 s.is);
          sums = omega (arith, step_sum (i.Turn end) at (0 ∷ left) path s t);
        }
    turns_come body at m (suc n) left path t j within h =
        let jump = at + 1 + body_size body in
        let s = steps (i.Turn (jump + 1)) at (suc n ∷ left) path t (λ q. cc) h in
        let in_body = subst (λ z. HandlerFrom code z (n ∷ left) s.rest) s.leads.0 (subst (λ z. HandlerFrom code s.next z s.rest) s.leads.1 s.is) in
        let one = within (n ∷ left) s.rest in_body in
        let back = jump_comes jump at (n ∷ left) one.rest j one.is in
        let others = turns_come body at m n left back.rest t j within back.is in
        let sum = step_sum (i.Turn (jump + 1)) at (suc n ∷ left) path s t in
        record { rest = others.rest; is = others.is; sums = omega (arith, sum, one.sums, back.sums, others.sums, once (u Basic + m + u Basic) n) }
      where
        once : (k n : ℕ) → suc n * k ≡ k + n * k
        once k n = omega arith

    pub body_comes : (body : Body) (d at : ℕ) (left path : List ℕ) → HasAt code.instrs at (body_code at body) → EventWorks words posts d body → HandlerFrom code at left path → Comes (at + body_size body) left path (handler_most u body)
    body_comes Empty d at left path has works h =
        let here : at ≡ at + 0 = omega arith in
        record { rest = path; is = subst (λ z. HandlerFrom code z left path) here h; sums = omega arith }
    body_comes (Plain b p simple rest) d at left path has works h =
        let n = operands_size simple in
        let after = laid.stands.rest code.instrs at (at + n) (operands_code simple) (simple_instr simple ∷ body_code (at + n + 1) rest) (ap (λ j. at + j) (laid.sizes.operands simple)) has in
        let first = simple_comes laid simple at left path (laid.stands.front code.instrs at (operands_code simple) (simple_instr simple ∷ body_code (at + n + 1) rest) has) after.0 h in
        let others = body_comes rest d (at + n + 1) left first.rest after.1 works.1 first.is in
        comes_as (at + n + 1 + body_size rest) (at + (n + 1 + body_size rest)) left path (simple_cost u simple + handler_most u rest) (simple_cost u simple + handler_most u rest) (omega arith) (omega arith)
        (comes_on (at + n + 1) (at + n + 1 + body_size rest) left path (simple_cost u simple) (handler_most u rest) first others)
    body_comes (When b p e on rest) d at left path has works h =
        let first = at + expr_size e + 1 in
        let end = first + body_size on in
        let tail = body_code first on ++ body_code end rest in
        let after = laid.stands.rest code.instrs at (at + expr_size e) (expr_code e) (i.JumpZero end ∷ tail) (ap (λ j. at + j) (laid.sizes.expr e)) has in
        let rest_at = laid.stands.rest code.instrs first end (body_code first on) (body_code end rest) (ap (λ j. first + j) (laid.sizes.body on first)) after.1 in
        let last = at + (expr_size e + 1 + body_size on + body_size rest) in
        let all = test_cost u e + handler_most u on + handler_most u rest in
        let through : Comes first left path (test_cost u e) → Comes last left path all = λ c.
        let within = body_comes on d first left c.rest (laid.stands.front code.instrs first (body_code first on) (body_code end rest) after.1) works.1 c.is in
        let both = comes_on first end left path (test_cost u e) (handler_most u on) c within in
        let others = body_comes rest d end left both.rest rest_at works.2 both.is in
        comes_as (end + body_size rest) last left path all all (omega arith) (omega arith)
        (comes_on end (end + body_size rest) left path (test_cost u e + handler_most u on) (handler_most u rest) both others) in
        let past : Comes end left path (test_cost u e) → Comes last left path all = λ c.
        let others = body_comes rest d end left c.rest rest_at works.2 c.is in
        comes_as (end + body_size rest) last left path (test_cost u e + handler_most u rest) all (omega arith) (omega arith)
        (comes_on end (end + body_size rest) left path (test_cost u e) (handler_most u rest) c others) in
        ⊎_elim through past (test_comes laid e end at left path (laid.stands.front code.instrs at (expr_code e) (i.JumpZero end ∷ tail) has) after.0 h)
    body_comes (Choice b p e on off rest) d at left path has works h =
        let first = at + expr_size e + 1 in
        let jump = first + body_size on in
        let second = jump + 1 in
        let end = second + body_size off in
        let tail = body_code second off ++ body_code end rest in
        let after = laid.stands.rest code.instrs at (at + expr_size e) (expr_code e) (i.JumpZero second ∷ (body_code first on ++ (i.Jump end ∷ tail))) (ap (λ j. at + j) (laid.sizes.expr e)) has in
        let jump_at = laid.stands.rest code.instrs first jump (body_code first on) (i.Jump end ∷ tail) (ap (λ j. first + j) (laid.sizes.body on first)) after.1 in
        let rest_at = laid.stands.rest code.instrs second end (body_code second off) (body_code end rest) (ap (λ j. second + j) (laid.sizes.body off second)) jump_at.1 in
        let last = at + (expr_size e + 1 + body_size on + 1 + body_size off + body_size rest) in
        let most = max (handler_most u on + u Basic) (handler_most u off) in
        let all = test_cost u e + most + handler_most u rest in
        let finish : (m : ℕ) → m ≤ most → Comes end left path (test_cost u e + m) → Comes last left path all = λ m le c.
        let others = body_comes rest d end left c.rest rest_at works.3 c.is in
        comes_as (end + body_size rest) last left path (test_cost u e + m + handler_most u rest) all (omega arith) (omega (arith, le))
        (comes_on end (end + body_size rest) left path (test_cost u e + m) (handler_most u rest) c others) in
        let one_way : Comes first left path (test_cost u e) → Comes last left path all = λ c.
        let within = body_comes on d first left c.rest (laid.stands.front code.instrs first (body_code first on) (i.Jump end ∷ tail) after.1) works.1 c.is in
        let leaves = jump_comes jump end left within.rest jump_at.0 within.is in
        finish (handler_most u on + u Basic) (omega arith) (comes_on first end left path (test_cost u e) (handler_most u on + u Basic) c (comes_on jump end left c.rest (handler_most u on) (u Basic) within leaves)) in
        let other_way : Comes second left path (test_cost u e) → Comes last left path all = λ c.
        let within = body_comes off d second left c.rest (laid.stands.front code.instrs second (body_code second off) (body_code end rest) jump_at.1) works.2 c.is in
        finish (handler_most u off) (omega arith) (comes_on second end left path (test_cost u e) (handler_most u off) c within) in
        ⊎_elim one_way other_way (test_comes laid e second at left path (laid.stands.front code.instrs at (expr_code e) (i.JumpZero second ∷ (body_code first on ++ (i.Jump end ∷ tail))) has) after.0 h)
    body_comes (Loop b p e body rest) d at left path has works h = absurd works
    body_comes (Turns b p n body rest) d at left path has works h =
        let turn = at + 1 in
        let first = at + 2 in
        let jump = first + body_size body in
        let end = jump + 1 in
        let places : at + 2 ≡ turn + 1 = omega arith in
        let s = steps (i.Push (pos n)) at left path has.0 (λ q. cc) h in
        let opens = subst (λ z. LeadsTo z (i.Push (pos n)) at left s.next s.later) (ap is_turn has.1.0) s.leads in
        let in_turn = subst (λ z. HandlerFrom code z (n ∷ left) s.rest) opens.0 (subst (λ z. HandlerFrom code s.next z s.rest) opens.1 s.is) in
        let jump_at = laid.stands.rest code.instrs first jump (body_code first body) (i.Jump (at + 1) ∷ body_code end rest) (ap (λ j. first + j) (laid.sizes.body body first)) (subst (λ z. HasAt code.instrs z (body_code first body ++ (i.Jump (at + 1) ∷ body_code end rest))) (sym places) has.1.1) in
        let body_at = laid.stands.front code.instrs first (body_code first body) (i.Jump (at + 1) ∷ body_code end rest) (subst (λ z. HasAt code.instrs z (body_code first body ++ (i.Jump (at + 1) ∷ body_code end rest))) (sym places) has.1.1) in
        let within : (more p : List ℕ) → HandlerFrom code (turn + 1) more p → Comes (turn + 1 + body_size body) more p (handler_most u body) =
        λ more p k. comes_as (first + body_size body) (turn + 1 + body_size body) more p (handler_most u body) (handler_most u body) (omega arith) (omega arith) (body_comes body (d + 1) first more p body_at works.2 (subst (λ z. HandlerFrom code z more p) (sym places) k)) in
        let jump_is : jump ≡ turn + 1 + body_size body = omega arith in
        let t = has.1.0 ∙ ap (λ j. Some (i.Turn (j + 1))) jump_is in
        let j = ap (λ z. slice_get code.instrs z) (sym jump_is) ∙ jump_at.0 in
        let turns = turns_come body turn (handler_most u body) n left s.rest t j within in_turn in
        let others = body_comes rest d end left turns.rest jump_at.1 works.3 (subst (λ z. HandlerFrom code z left turns.rest) (ap (λ z. z + 1) (sym jump_is)) turns.is) in
        let last : end + body_size rest ≡ at + (2 + body_size body + 1 + body_size rest) = omega arith in
        let sum = step_sum (i.Push (pos n)) at left path s has.0 in
        record { rest = others.rest; is = subst (λ z. HandlerFrom code z left others.rest) last others.is; sums = omega (arith, sum, turns.sums, others.sums) }

  -- ---- some path sums to as much

  -- a path from a place, which sums to m more than what it ends with
  pub record Made (pc : ℕ) (left rest : List ℕ) (m : ℕ) : Type 0 where
    pub path : List ℕ
    pub is : HandlerFrom code pc left path
    pub sums : Sum path ≡ m + Sum rest

  made_on : (pc : ℕ) (left rest : List ℕ) (m n k : ℕ) (b : Made pc left rest n) (p : List ℕ) → Sum rest ≡ m + Sum p → k ≡ n + m → Made pc left p k
  made_on pc left rest m n k b p e d = record { path = b.path; is = b.is; sums = omega (arith, b.sums, e, d) }

  -- one instruction before a path
  made_by : (x : Instr) (pc next : ℕ) (left later rest : List ℕ) → slice_get code.instrs pc ≡ Some x → LeadsTo (turn_follows code pc) x pc left next later → HandlerFrom code next later rest → Made pc left rest (u (class_of x))
  made_by x pc next left later rest e leads h = record { path = pc ∷ rest; is = LeadsOn x e leads h; sums = ap (λ c. c + Sum rest) (ap (instr_cost u) e) }

  worked_made : (xs : List Instr) (x : Instr) (at n : ℕ) (left rest : List ℕ) → HasAt code.instrs at xs → AllWorkOut xs → length xs ≡ n → slice_get code.instrs (at + n) ≡ Some x → is_turn (Some x) ≡ false → HandlerFrom code (at + n) left rest → Made at left rest (code_cost u xs)
  worked_made [] x at n left rest has all long e none h =
      let here : at + n ≡ at = omega (arith, long) in
      record { path = rest; is = subst (λ z. HandlerFrom code z left rest) here h; sums = omega arith }
  worked_made (y ∷ xs) x at n left rest has all long e none h =
      let k = length xs in
      let place : at + 1 + k ≡ at + n = omega (arith, long) in
      let e' = ap (λ j. slice_get code.instrs j) place ∙ e in
      let others = worked_made xs x (at + 1) k left rest has.1 all.1 refl e' none (subst (λ z. HandlerFrom code z left rest) (sym place) h) in
      let leads = subst (λ b. LeadsTo b y at left (at + 1) left) (sym (next_no_turn xs x at k has.1 all.1 refl e' none)) ((works_plain y all.0).leads at left) in
      let first = made_by y at (at + 1) left left others.path has.0 leads others.is in
      made_on at left others.path (code_cost u xs) (u (class_of y)) (code_cost u (y ∷ xs)) first rest others.sums refl

  simple_made : CodeIsLaidOut → (s : Simple) (at : ℕ) (left rest : List ℕ) → HasAt code.instrs at (operands_code s) → slice_get code.instrs (at + operands_size s) ≡ Some (simple_instr s) → HandlerFrom code (at + operands_size s + 1) left rest → Made at left rest (simple_cost u s)
  simple_made laid s at left rest has e h =
      let n = operands_size s in
      let last = made_by (simple_instr s) (at + n) (at + n + 1) left left rest e ((simple_plain (turn_follows code (at + n)) s).leads (at + n) left) h in
      let first = worked_made (operands_code s) (simple_instr s) at n left last.path has (operands_work_out s) (laid.sizes.operands s) e (simple_no_turn s) last.is in
      made_on at left last.path (u (class_of (simple_instr s))) (code_cost u (operands_code s)) (simple_cost u s) first rest last.sums refl

  test_made : CodeIsLaidOut → (e : Expr) (to at next : ℕ) (left rest : List ℕ) → HasAt code.instrs at (expr_code e) → slice_get code.instrs (at + expr_size e) ≡ Some (i.JumpZero to) → ((next ≡ to) ⊎ (next ≡ at + expr_size e + 1)) → HandlerFrom code next left rest → Made at left rest (test_cost u e)
  test_made laid e to at next left rest has d way h =
      let n = expr_size e in
      let last = made_by (i.JumpZero to) (at + n) next left left rest d (way, refl) h in
      let first = worked_made (expr_code e) (i.JumpZero to) at n left last.path has (expr_works_out e) (laid.sizes.expr e) d refl last.is in
      made_on at left last.path (u Basic) (code_cost u (expr_code e)) (test_cost u e) first rest last.sums refl

  turns_made : (body : Body) (at m n : ℕ) (left rest : List ℕ) → slice_get code.instrs at ≡ Some (i.Turn (at + 1 + body_size body + 1)) → slice_get code.instrs (at + 1 + body_size body) ≡ Some (i.Jump at)
      → ((more p : List ℕ) → HandlerFrom code (at + 1 + body_size body) more p → Made (at + 1) more p m)
      → HandlerFrom code (at + 1 + body_size body + 1) left rest → Made at (n ∷ left) rest (n * (u Basic + m + u Basic) + u Basic)
  turns_made body at m zero left rest t j within h =
      let end = at + 1 + body_size body + 1 in
      let one = made_by (i.Turn end) at end (0 ∷ left) left rest t (refl, refl) h in
      record { path = one.path; is = one.is; sums = omega (arith, one.sums) }
  turns_made body at m (suc n) left rest t j within h =
      let jump = at + 1 + body_size body in
      let others = turns_made body at m n left rest t j within h in
      let back = made_by (i.Jump at) jump at (n ∷ left) (n ∷ left) others.path j (refl, refl) others.is in
      let once = within (n ∷ left) back.path back.is in
      let first = made_by (i.Turn (jump + 1)) at (at + 1) (suc n ∷ left) (n ∷ left) once.path t (refl, refl) once.is in
      record { path = first.path; is = first.is; sums = omega (arith, first.sums, once.sums, back.sums, others.sums, one_more (u Basic + m + u Basic) n) }
    where
      one_more : (k n : ℕ) → suc n * k ≡ k + n * k
      one_more k n = omega arith

  module _ (laid : CodeIsLaidOut) (words posts : ℕ) where
    pub body_made : (body : Body) (d at : ℕ) (left rest : List ℕ) → HasAt code.instrs at (body_code at body) → EventWorks words posts d body → HandlerFrom code (at + body_size body) left rest → Made at left rest (handler_most u body)
    body_made Empty d at left rest has works h =
        let here : at + 0 ≡ at = omega arith in
        record { path = rest; is = subst (λ z. HandlerFrom code z left rest) here h; sums = omega arith }
    body_made (Plain b p simple more) d at left rest has works h =
        let n = operands_size simple in
        let after = laid.stands.rest code.instrs at (at + n) (operands_code simple) (simple_instr simple ∷ body_code (at + n + 1) more) (ap (λ j. at + j) (laid.sizes.operands simple)) has in
        let last : at + (n + 1 + body_size more) ≡ at + n + 1 + body_size more = omega arith in
        let others = body_made more d (at + n + 1) left rest after.1 works.1 (subst (λ z. HandlerFrom code z left rest) last h) in
        let first = simple_made laid simple at left others.path (laid.stands.front code.instrs at (operands_code simple) (simple_instr simple ∷ body_code (at + n + 1) more) has) after.0 others.is in
        made_on at left others.path (handler_most u more) (simple_cost u simple) (simple_cost u simple + handler_most u more) first rest others.sums refl
    body_made (When b p e on more) d at left rest has works h =
        let first = at + expr_size e + 1 in
        let end = first + body_size on in
        let tail = body_code first on ++ body_code end more in
        let after = laid.stands.rest code.instrs at (at + expr_size e) (expr_code e) (i.JumpZero end ∷ tail) (ap (λ j. at + j) (laid.sizes.expr e)) has in
        let more_at = laid.stands.rest code.instrs first end (body_code first on) (body_code end more) (ap (λ j. first + j) (laid.sizes.body on first)) after.1 in
        let last : at + (expr_size e + 1 + body_size on + body_size more) ≡ end + body_size more = omega arith in
        let others = body_made more d end left rest more_at works.2 (subst (λ z. HandlerFrom code z left rest) last h) in
        let within = body_made on d first left others.path (laid.stands.front code.instrs first (body_code first on) (body_code end more) after.1) works.1 others.is in
        let test = test_made laid e end at first left within.path (laid.stands.front code.instrs at (expr_code e) (i.JumpZero end ∷ tail) has) after.0 (inr refl) within.is in
        record { path = test.path; is = test.is; sums = omega (arith, test.sums, within.sums, others.sums) }
    body_made (Choice b p e on off more) d at left rest has works h =
        let first = at + expr_size e + 1 in
        let jump = first + body_size on in
        let second = jump + 1 in
        let end = second + body_size off in
        let tail = body_code second off ++ body_code end more in
        let after = laid.stands.rest code.instrs at (at + expr_size e) (expr_code e) (i.JumpZero second ∷ (body_code first on ++ (i.Jump end ∷ tail))) (ap (λ j. at + j) (laid.sizes.expr e)) has in
        let jump_at = laid.stands.rest code.instrs first jump (body_code first on) (i.Jump end ∷ tail) (ap (λ j. first + j) (laid.sizes.body on first)) after.1 in
        let more_at = laid.stands.rest code.instrs second end (body_code second off) (body_code end more) (ap (λ j. second + j) (laid.sizes.body off second)) jump_at.1 in
        let last : at + (expr_size e + 1 + body_size on + 1 + body_size off + body_size more) ≡ end + body_size more = omega arith in
        let test_at = laid.stands.front code.instrs at (expr_code e) (i.JumpZero second ∷ (body_code first on ++ (i.Jump end ∷ tail))) has in
        let others = body_made more d end left rest more_at works.3 (subst (λ z. HandlerFrom code z left rest) last h) in
        let most = test_cost u e + max (handler_most u on + u Basic) (handler_most u off) + handler_most u more in
        let one_way : handler_most u off < handler_most u on + u Basic → Made at left rest most = λ lt.
        let leaves = made_by (i.Jump end) jump end left left others.path jump_at.0 (refl, refl) others.is in
        let within = body_made on d first left leaves.path (laid.stands.front code.instrs first (body_code first on) (i.Jump end ∷ tail) after.1) works.1 leaves.is in
        let test = test_made laid e second at first left within.path test_at after.0 (inr refl) within.is in
        record { path = test.path; is = test.is; sums = omega (arith, test.sums, within.sums, leaves.sums, others.sums, lt) } in
        let other_way : handler_most u on + u Basic ≤ handler_most u off → Made at left rest most = λ le.
        let within = body_made off d second left others.path (laid.stands.front code.instrs second (body_code second off) (body_code end more) jump_at.1) works.2 others.is in
        let test = test_made laid e second at second left within.path test_at after.0 (inl refl) within.is in
        record { path = test.path; is = test.is; sums = omega (arith, test.sums, within.sums, others.sums, le) } in
        ⊎_elim one_way other_way (cases_lt (handler_most u off) (handler_most u on + u Basic))
    body_made (Loop b p e body more) d at left rest has works h = absurd works
    body_made (Turns b p n body more) d at left rest has works h =
        let turn = at + 1 in
        let first = at + 2 in
        let jump = first + body_size body in
        let end = jump + 1 in
        let places : turn + 1 ≡ at + 2 = omega arith in
        let inside = subst (λ z. HasAt code.instrs z (body_code first body ++ (i.Jump turn ∷ body_code end more))) places has.1.1 in
        let jump_at = laid.stands.rest code.instrs first jump (body_code first body) (i.Jump turn ∷ body_code end more) (ap (λ j. first + j) (laid.sizes.body body first)) inside in
        let body_at = laid.stands.front code.instrs first (body_code first body) (i.Jump turn ∷ body_code end more) inside in
        let jump_is : jump ≡ turn + 1 + body_size body = omega arith in
        let within : (others p : List ℕ) → HandlerFrom code (turn + 1 + body_size body) others p → Made (turn + 1) others p (handler_most u body) =
        λ others p k. subst (λ z. Made z others p (handler_most u body)) (sym places) (body_made body (d + 1) first others p body_at works.2 (subst (λ z. HandlerFrom code z others p) (sym jump_is) k)) in
        let last : at + (2 + body_size body + 1 + body_size more) ≡ end + body_size more = omega arith in
        let others = body_made more d end left rest jump_at.1 works.3 (subst (λ z. HandlerFrom code z left rest) last h) in
        let turns = turns_made body turn (handler_most u body) n left others.path (has.1.0 ∙ ap (λ j. Some (i.Turn (j + 1))) jump_is) (ap (λ z. slice_get code.instrs z) (sym jump_is) ∙ jump_at.0) within (subst (λ z. HandlerFrom code (z + 1) left others.path) jump_is others.is) in
        let opens = subst (λ b. LeadsTo b (i.Push (pos n)) at left turn (n ∷ left)) (sym (ap is_turn has.1.0)) (refl, refl) in
        let push = made_by (i.Push (pos n)) at turn left (n ∷ left) turns.path has.0 opens turns.is in
        record { path = push.path; is = push.is; sums = omega (arith, push.sums, turns.sums, others.sums) }
