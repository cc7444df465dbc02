-- What the entry of a handler is worth.
use Rattle.std.proofs.Common.{◌≡◌, ℕ, ◌+◌, ◌*◌, true, List, [], ◌∷◌, ◌++◌, length, refl, sym, ap, subst, arith}
use Rattle.std.specs.Prelude.{max, pos}
use Rattle.nv_memory.specs.declared.device.Class.TheVariants.{Basic}
use Rattle.cat_program.specs.Body.{Simple, SetWord, SetElement, Emit, Raise, Body, Empty, Plain, When, Choice, Loop, Turns}
use Rattle.cat_program.specs.Places.{expr_size, operands_size, body_size}
use Rattle.cat_program.specs.Checked.{EventWorks}
use Rattle.cat_machine.specs.declared.instr.Instr.{Instr}
use Rattle.cat_machine.specs.declared.instr.Instr.TheVariants as i
use Rattle.cat_machine.specs.ClassOf.{class_of}
use Rattle.cat_machine.specs.CodeValue.{CodeValue}
use Rattle.cat_machine.specs.Code.{expr_code, operands_code, simple_instr, body_code}
use Rattle.cat_machine.specs.Costs.{Costs, code_cost, simple_cost, test_cost, handler_most}
use Rattle.cat_machine.specs.LaidOut.{HasAt, CodeIsLaidOut}
use Rattle.cost_bounds.specs.Pass.{is_straight, Worth, TurnsBack, Leaves, Tests, Repeats, GoesOn}
use Rattle.cost_bounds.proofs.TaskPaths.{works_out, AllWorkOut, expr_works_out, operands_work_out}

works_straight : (x : Instr) → works_out x ≡ true → is_straight x ≡ true
works_straight (i.Push n) h = refl
works_straight (i.Load w) h = refl
works_straight i.Payload h = refl
works_straight (i.Signed s) h = refl
works_straight (i.Operate o) h = refl
works_straight (i.LoadAt base len) h = refl
works_straight (i.Jump to) h = cc
works_straight (i.JumpZero to) h = cc
works_straight (i.Turn to) h = cc
works_straight (i.Begin t) h = cc
works_straight i.End h = cc
works_straight (i.Store w) h = cc
works_straight (i.StoreAt base len) h = cc
works_straight (i.Post t) h = cc
works_straight (i.Out c) h = cc

simple_straight : (s : Simple) → is_straight (simple_instr s) ≡ true
simple_straight (SetWord word value) = refl
simple_straight (SetElement base len index value) = refl
simple_straight (Emit channel value) = refl
simple_straight (Raise task) = refl

module _ (u : Costs) (code : CodeValue) where
  worth_as : (pc pc' c c' : ℕ) → pc ≡ pc' → c ≡ c' → Worth u code pc c → Worth u code pc' c'
  worth_as pc pc' c c' e d w = subst (λ z. Worth u code z c') e (subst (Worth u code pc) d w)

  worked_worth : (xs : List Instr) (at n c : ℕ) → HasAt code.instrs at xs → AllWorkOut xs → length xs ≡ n → Worth u code (at + n) c → Worth u code at (code_cost u xs + c)
  worked_worth [] at n c has all long w = worth_as (at + n) at c (0 + c) (omega (arith, long)) (omega arith) w
  worked_worth (y ∷ xs) at n c has all long w =
      let k = length xs in
      let place : at + n ≡ at + 1 + k = omega (arith, long) in
      let rest = worked_worth xs (at + 1) k c has.1 all.1 refl (worth_as (at + n) (at + 1 + k) c c place refl w) in
      worth_as at at (u (class_of y) + (code_cost u xs + c)) (u (class_of y) + code_cost u xs + c) refl (omega arith) (GoesOn y has.0 (works_straight y all.0) rest)

  module _ (laid : CodeIsLaidOut) (words posts : ℕ) where
    pub body_worth : (body : Body) (d at c : ℕ) → HasAt code.instrs at (body_code at body) → EventWorks words posts d body → Worth u code (at + body_size body) c → Worth u code at (handler_most u body + c)
    body_worth Empty d at c has works w = worth_as (at + 0) at c (0 + c) (omega arith) (omega arith) w
    body_worth (Plain b p simple rest) d at c has works w =
        let n = operands_size simple in
        let after = laid.stands.rest code.instrs at (at + n) (operands_code simple) (simple_instr simple ∷ body_code (at + n + 1) rest) (ap (λ j. at + j) (laid.sizes.operands simple)) has in
        let others = body_worth rest d (at + n + 1) c after.1 works.1 (worth_as (at + (n + 1 + body_size rest)) (at + n + 1 + body_size rest) c c (omega arith) refl w) in
        let last = GoesOn (simple_instr simple) after.0 (simple_straight simple) others in
        let first = worked_worth (operands_code simple) at n (u (class_of (simple_instr simple)) + (handler_most u rest + c)) (laid.stands.front code.instrs at (operands_code simple) (simple_instr simple ∷ body_code (at + n + 1) rest) has) (operands_work_out simple) (laid.sizes.operands simple) last in
        worth_as at at (code_cost u (operands_code simple) + (u (class_of (simple_instr simple)) + (handler_most u rest + c))) (simple_cost u simple + handler_most u rest + c) refl (omega arith) first
    body_worth (When b p e on rest) d at c has works w =
        let n = expr_size e in
        let first = at + n + 1 in
        let end = first + body_size on in
        let tail = body_code first on ++ body_code end rest in
        let after = laid.stands.rest code.instrs at (at + n) (expr_code e) (i.JumpZero end ∷ tail) (ap (λ j. at + j) (laid.sizes.expr e)) has in
        let rest_at = laid.stands.rest code.instrs first end (body_code first on) (body_code end rest) (ap (λ j. first + j) (laid.sizes.body on first)) after.1 in
        let others = body_worth rest d end c rest_at works.2 (worth_as (at + (n + 1 + body_size on + body_size rest)) (end + body_size rest) c c (omega arith) refl w) in
        let within = body_worth on d first (handler_most u rest + c) (laid.stands.front code.instrs first (body_code first on) (body_code end rest) after.1) works.1 others in
        let jump = Tests end after.0 (omega arith) within others in
        let all = worked_worth (expr_code e) at n (u Basic + max (handler_most u on + (handler_most u rest + c)) (handler_most u rest + c)) (laid.stands.front code.instrs at (expr_code e) (i.JumpZero end ∷ tail) has) (expr_works_out e) (laid.sizes.expr e) jump in
        worth_as at at _ (test_cost u e + handler_most u on + handler_most u rest + c) refl (omega arith) all
    body_worth (Choice b p e on off rest) d at c has works w =
        let n = expr_size e in
        let first = at + n + 1 in
        let jump = first + body_size on in
        let second = jump + 1 in
        let end = second + body_size off in
        let tail = body_code second off ++ body_code end rest in
        let after = laid.stands.rest code.instrs at (at + n) (expr_code e) (i.JumpZero second ∷ (body_code first on ++ (i.Jump end ∷ tail))) (ap (λ j. at + j) (laid.sizes.expr e)) has in
        let jump_at = laid.stands.rest code.instrs first jump (body_code first on) (i.Jump end ∷ tail) (ap (λ j. first + j) (laid.sizes.body on first)) after.1 in
        let rest_at = laid.stands.rest code.instrs second end (body_code second off) (body_code end rest) (ap (λ j. second + j) (laid.sizes.body off second)) jump_at.1 in
        let others = body_worth rest d end c rest_at works.3 (worth_as (at + (n + 1 + body_size on + 1 + body_size off + body_size rest)) (end + body_size rest) c c (omega arith) refl w) in
        let leaves = Leaves end jump_at.0 (omega arith) others in
        let one_way = body_worth on d first (u Basic + (handler_most u rest + c)) (laid.stands.front code.instrs first (body_code first on) (i.Jump end ∷ tail) after.1) works.1 leaves in
        let other_way = body_worth off d second (handler_most u rest + c) (laid.stands.front code.instrs second (body_code second off) (body_code end rest) jump_at.1) works.2 others in
        let test = Tests second after.0 (omega arith) one_way other_way in
        let all = worked_worth (expr_code e) at n (u Basic + max (handler_most u on + (u Basic + (handler_most u rest + c))) (handler_most u off + (handler_most u rest + c))) (laid.stands.front code.instrs at (expr_code e) (i.JumpZero second ∷ (body_code first on ++ (i.Jump end ∷ tail))) has) (expr_works_out e) (laid.sizes.expr e) test in
        worth_as at at _ (test_cost u e + max (handler_most u on + u Basic) (handler_most u off) + handler_most u rest + c) refl (omega arith) all
    body_worth (Loop b p e body rest) d at c has works w = absurd works
    body_worth (Turns b p n body rest) d at c has works w =
        let turn = at + 1 in
        let first = at + 2 in
        let jump = first + body_size body in
        let end = jump + 1 in
        let places : turn + 1 ≡ first = omega arith in
        let inside = subst (λ z. HasAt code.instrs z (body_code first body ++ (i.Jump turn ∷ body_code end rest))) places has.1.1 in
        let jump_at = laid.stands.rest code.instrs first jump (body_code first body) (i.Jump turn ∷ body_code end rest) (ap (λ j. first + j) (laid.sizes.body body first)) inside in
        let back = TurnsBack turn jump_at.0 (omega arith) in
        let within = body_worth body (d + 1) first (u Basic) (laid.stands.front code.instrs first (body_code first body) (i.Jump turn ∷ body_code end rest) inside) works.2 back in
        let others = body_worth rest d end c jump_at.1 works.3 (worth_as (at + (2 + body_size body + 1 + body_size rest)) (end + body_size rest) c c (omega arith) refl w) in
        let turns = Repeats n at end has.1.0 refl has.0 (omega arith) (worth_as first (turn + 1) (handler_most u body + u Basic) (handler_most u body + u Basic) (sym places) refl within) others in
        let push = GoesOn (i.Push (pos n)) has.0 refl turns in
        worth_as at at _ (u Basic + (n * (u Basic + handler_most u body + u Basic) + u Basic) + handler_most u rest + c) refl (sums (u Basic) (handler_most u body) n (handler_most u rest) c) push
      where
        sums : (base m n rest c : ℕ) → base + ((base + (m + base)) * n + base + (rest + c)) ≡ base + (n * (base + m + base) + base) + rest + c
        sums base m n rest c = omega arith
