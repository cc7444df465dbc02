-- The code of an expression leaves its value on the stack.
use Rattle.std.proofs.Common.{◌≡◌, ℕ, ◌+◌, ◌<◌, ◌≤◌, true, List, [], ◌∷◌, ◌++◌, length, Some, refl, sym, ap, ◌∙◌, arith, length-append}
use Rattle.std.specs.Prelude.{nat_lt, nat_le, ◌&&◌, slice_get, ℤ}
use Rattle.cat_program.specs.declared.syntax.Expr.{Expr, Number, Payload, Word, Element', Signed', Chain', Row_of-Further, end_of-Further, more_of-Further}
use Rattle.cat_program.specs.Value.{value_of, chain_value, operator_value, index_of, word_at}
use Rattle.cat_program.specs.Places.{expr_size, chain_size}
use Rattle.cat_program.specs.Checked.{expr_need, chain_need, Reads, ChainReads}
use Rattle.cat_machine.specs.declared.instr.Instr.{Instr}
use Rattle.cat_machine.specs.declared.instr.Instr.TheVariants as i
use Rattle.cat_machine.specs.declared.instr.Mode.{Mode}
use Rattle.cat_machine.specs.CodeValue.{CodeValue}
use Rattle.cat_machine.specs.Held.{Held}
use Rattle.cat_machine.specs.Machine.{moved, went, if_so, is_array, act}
use Rattle.cat_machine.specs.Code.{expr_code, chain_code}
use Rattle.cat_machine.specs.ClassOf.{class_of}
use Rattle.cat_machine.specs.Costs.{Costs, code_cost}
use Rattle.cat_machine.specs.LaidOut.{HasAt}
use Rattle.cat_machine.proofs.At.{has_front, has_rest}
use Rattle.cat_machine.proofs.Runs.{lt_true, le_true, code_cost-append, Weighs, Leads, leads_on, leads_as, leads_here, one_leads}

mutual
  pub expr_length : (e : Expr) → length (expr_code e) ≡ expr_size e
  expr_length (Number n) = refl
  expr_length Payload = refl
  expr_length (Word x) = refl
  expr_length (Element' base len p index) = omega (arith, length-append (expr_code index) (i.LoadAt base len ∷ []), expr_length index)
  expr_length (Signed' sign p operand) = omega (arith, length-append (expr_code operand) (i.Signed sign ∷ []), expr_length operand)
  expr_length (Chain' p first s rest) = omega (arith, length-append (expr_code first) (chain_code rest), expr_length first, chain_length rest)

  chain_length : {m : _} (row : Row_of-Further m) → length (chain_code row) ≡ chain_size row
  chain_length end_of-Further = refl
  chain_length (more_of-Further operator operand rest) =
      omega (arith, length-append (expr_code operand) (i.Operate operator ∷ chain_code rest), expr_length operand, chain_length rest)

pub array_true : (words : List ℤ) (base len : ℕ) → 0 < len → base + len ≤ length words → is_array words base len ≡ true
array_true words base len h k = ap (λ b. b && nat_le (base + len) (length words)) (lt_true 0 len h) ∙ le_true (base + len) (length words) k

module _ (f : ℕ → ℕ) (u : Costs) (mode : Mode) (code : CodeValue) (weighs : Weighs f u code) (h : Held) where
  -- a state at a place, with this stack
  abbrev At : ℕ → List ℤ → Held
  At pc stack = moved h pc stack

  abbrev Comes : ℕ → List ℤ → ℕ → List ℤ → ℕ → Type 0
  Comes pc stack pc' stack' cost = Leads f mode code (At pc stack) (At pc' stack') cost []

  push_leads : (instr : Instr) (v : ℤ) (pc : ℕ) (stack : List ℤ) → slice_get code.instrs pc ≡ Some instr → act mode instr pc (At pc stack) ≡ if_so (nat_lt (length stack) 32) (went (At (pc + 1) (v ∷ stack))) → length stack + 1 ≤ 32 → Comes pc stack (pc + 1) (v ∷ stack) (u (class_of instr) + 0)
  push_leads instr v pc stack at does room =
      let room' : nat_lt (length stack) 32 ≡ true = lt_true (length stack) 32 (omega arith) in
      let does' = does ∙ ap (λ b. if_so b (went (At (pc + 1) (v ∷ stack)))) room' in
      leads_as f mode code (At pc stack) _ _ _ _ [] refl (omega (arith, weighs.by pc instr at)) (one_leads f mode code h pc stack instr (At (pc + 1) (v ∷ stack)) at does')

  -- code, and one instruction after it
  then_one : (is : List Instr) (instr : Instr) (n pc : ℕ) (stack stack1 stack2 : List ℤ) → length is ≡ n → HasAt code.instrs pc (is ++ instr ∷ []) → act mode instr (pc + n) (At (pc + n) stack1) ≡ went (At (pc + n + 1) stack2) → Comes pc stack (pc + n) stack1 (code_cost u is) → Comes pc stack (pc + (n + 1)) stack2 (code_cost u (is ++ instr ∷ []))
  then_one is instr n pc stack stack1 stack2 e has does l =
      let at = (has_rest code.instrs pc (pc + n) is (instr ∷ []) (ap (λ m. pc + m) e) has).0 in
      let end : pc + n + 1 ≡ pc + (n + 1) = omega arith in
      leads_as f mode code (At pc stack) _ _ _ _ [] (ap (λ m. At m stack2) end) (omega (arith, code_cost-append u is (instr ∷ []), weighs.by (pc + n) instr at))
      (leads_on f mode code _ _ _ _ _ [] [] l (one_leads f mode code h (pc + n) stack1 instr (At (pc + n + 1) stack2) at does))

  mutual
    unfolding act

    pub expr_leads : (e : Expr) (pc : ℕ) (stack : List ℤ) → HasAt code.instrs pc (expr_code e) → length stack + expr_need e ≤ 32 → Reads (length h.words) e → Comes pc stack (pc + expr_size e) (value_of e h.words h.payload ∷ stack) (code_cost u (expr_code e))
    expr_leads (Number n) pc stack has room reads = push_leads (i.Push n) n pc stack has.0 refl room
    expr_leads Payload pc stack has room reads = push_leads i.Payload h.payload pc stack has.0 refl room
    expr_leads (Word x) pc stack has room reads =
        push_leads (i.Load x) (word_at h.words x) pc stack has.0 (ap (λ b. if_so b (if_so (nat_lt (length stack) 32) (went (At (pc + 1) (word_at h.words x ∷ stack))))) (lt_true x (length h.words) reads)) room
    expr_leads (Element' base len p index) pc stack has room reads =
        let v = value_of index h.words h.payload in
        let n = expr_size index in
        then_one (expr_code index) (i.LoadAt base len) n pc stack (v ∷ stack) _ (expr_length index) has
        (ap (λ b. if_so b (went (At (pc + n + 1) (word_at h.words (base + index_of v len) ∷ stack)))) (array_true h.words base len reads.0 reads.1))
        (expr_leads index pc stack (has_front code.instrs pc (expr_code index) _ has) room reads.2)
    expr_leads (Signed' sign p operand) pc stack has room reads =
        then_one (expr_code operand) (i.Signed sign) (expr_size operand) pc stack (value_of operand h.words h.payload ∷ stack) _ (expr_length operand) has refl
        (expr_leads operand pc stack (has_front code.instrs pc (expr_code operand) _ has) room reads)
    expr_leads (Chain' p first s rest) pc stack has room reads =
        let n = expr_size first in
        let x = value_of first h.words h.payload in
        let back = has_rest code.instrs pc (pc + n) (expr_code first) (chain_code rest) (ap (λ m. pc + m) (expr_length first)) has in
        let a = expr_leads first pc stack (has_front code.instrs pc (expr_code first) _ has) (omega arith) reads.0 in
        let b = chain_leads rest (pc + n) x stack back (omega arith) reads.1 in
        let end : pc + n + chain_size rest ≡ pc + (n + chain_size rest) = omega arith in
        leads_as f mode code (At pc stack) _ _ _ _ [] (ap (λ m. At m (chain_value rest h.words h.payload x ∷ stack)) end) (sym (code_cost-append u (expr_code first) (chain_code rest)))
        (leads_on f mode code _ _ _ _ _ [] [] a b)

    chain_leads : {m : _} (row : Row_of-Further m) (pc : ℕ) (x : ℤ) (stack : List ℤ) → HasAt code.instrs pc (chain_code row) → length stack + chain_need row ≤ 32 → ChainReads (length h.words) row → Comes pc (x ∷ stack) (pc + chain_size row) (chain_value row h.words h.payload x ∷ stack) (code_cost u (chain_code row))
    chain_leads end_of-Further pc x stack has room reads =
        let end : pc ≡ pc + 0 = omega arith in
        leads_as f mode code (At pc (x ∷ stack)) _ _ _ _ [] (ap (λ m. At m (x ∷ stack)) end) refl (leads_here f mode code (At pc (x ∷ stack)))
    chain_leads (more_of-Further operator operand rest) pc x stack has room reads =
        let n = expr_size operand in
        let y = value_of operand h.words h.payload in
        let back = has_rest code.instrs pc (pc + n) (expr_code operand) (i.Operate operator ∷ chain_code rest) (ap (λ m. pc + m) (expr_length operand)) has in
        let a = expr_leads operand pc (x ∷ stack) (has_front code.instrs pc (expr_code operand) _ has) (omega arith) reads.0 in
        let b = one_leads f mode code h (pc + n) (y ∷ x ∷ stack) (i.Operate operator) (At (pc + n + 1) (operator_value operator x y ∷ stack)) back.0 refl in
        let c = chain_leads rest (pc + n + 1) (operator_value operator x y) stack back.1 (omega arith) reads.1 in
        let end : pc + n + 1 + chain_size rest ≡ pc + (n + 1 + chain_size rest) = omega arith in
        leads_as f mode code (At pc (x ∷ stack)) _ _ _ _ [] (ap (λ m. At m (chain_value rest h.words h.payload (operator_value operator x y) ∷ stack)) end)
        (omega (arith, code_cost-append u (expr_code operand) (i.Operate operator ∷ chain_code rest), weighs.by (pc + n) (i.Operate operator) back.0))
        (leads_on f mode code _ _ _ _ _ [] [] a (leads_on f mode code _ _ _ _ _ [] [] b c))
