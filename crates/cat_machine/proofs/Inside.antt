-- What stands in the code of tasks: no payload is read, and what goes on stays in that code.
use Rattle.std.proofs.Common.{◌≡◌, ℕ, zero, suc, ◌+◌, ◌<◌, ◌≤◌, List, [], ◌∷◌, ◌++◌, length, Some, refl, ap, subst, arith, length-append}
use Rattle.std.specs.Prelude.{slice_get}
use Rattle.cat_program.specs.declared.syntax.Expr.{Expr, Number, Payload, Word, Element', Signed', Chain', Row_of-Further, end_of-Further, more_of-Further}
use Rattle.cat_program.specs.Body.{Simple, SetWord, SetElement, Emit, Raise, Body, Empty, Plain, When, Choice, Loop, Turns}
use Rattle.cat_program.specs.Places.{expr_size, chain_size, operands_size, body_size, task_size, tasks_size}
use Rattle.cat_program.specs.Checked.{Checked, IsChecked, bodies_of, versions_of, IsFree, ChainIsFree, SimpleIsFree, TaskWorks, EachTaskWorks}
use Rattle.cat_machine.specs.declared.instr.Instr.{Instr}
use Rattle.cat_machine.specs.declared.instr.Instr.TheVariants as i
use Rattle.cat_machine.specs.Code.{expr_code, chain_code, operands_code, simple_instr, body_code, task_code, tasks_code, tasks_entries, events_code, code_of}
use Rattle.cat_machine.proofs.Expressions.{expr_length}
use Rattle.cat_machine.proofs.Sizes.{operands_length, body_length}
use Rattle.cat_machine.proofs.Tasks.{task_code_length}

-- an instruction at a place reads no payload, and where it goes on in a task it leads to a place below the end
abbrev pub IsInside : ℕ → ℕ → Instr → Type 0
IsInside end at (i.Push n) = at + 1 < end
IsInside end at (i.Load w) = at + 1 < end
IsInside end at i.Payload = ⊥
IsInside end at (i.Signed s) = at + 1 < end
IsInside end at (i.Operate o) = at + 1 < end
IsInside end at (i.Jump to) = to < end
IsInside end at (i.LoadAt base len) = at + 1 < end
IsInside end at _ = Unit {0}

abbrev pub AllInside : ℕ → ℕ → List Instr → Type 0
AllInside end at [] = Unit {0}
AllInside end at (instr ∷ instrs) = IsInside end at instr × AllInside end (at + 1) instrs

module _ (end : ℕ) where
  inside_on : (a b : List Instr) (at n : ℕ) → at + length a ≡ n → AllInside end at a → AllInside end n b → AllInside end at (a ++ b)
  inside_on [] b at n e x y = let here : n ≡ at = omega (arith, e) in subst (λ m. AllInside end m b) here y
  inside_on (instr ∷ a) b at n e x y = (x.0, inside_on a b (at + 1) n (omega (arith, e)) x.1 y)

  pub inside_at : (instrs more : List Instr) (at k : ℕ) (instr : Instr) → AllInside end at instrs → k < length instrs → slice_get (instrs ++ more) k ≡ Some instr → IsInside end (at + k) instr
  inside_at [] more at k instr x below is = absurd (omega (arith, below))
  inside_at (first ∷ instrs) more at zero instr x below is =
      let same : first ≡ instr = cc in
      let here : at ≡ at + 0 = omega arith in
      subst (λ m. IsInside end m instr) here (subst (IsInside end at) same x.0)
  inside_at (first ∷ instrs) more at (suc k) instr x below is =
      let here : at + 1 + k ≡ at + suc k = omega arith in
      subst (λ m. IsInside end m instr) here (inside_at instrs more (at + 1) k instr x.1 (omega (arith, below)) is)

  mutual
    expr_inside : (e : Expr) (at : ℕ) → IsFree e → at + expr_size e < end → AllInside end at (expr_code e)
    expr_inside (Number n) at free below = (below, tt)
    expr_inside Payload at free below = absurd free
    expr_inside (Word w) at free below = (below, tt)
    expr_inside (Element' base len p index) at free below =
        inside_on (expr_code index) (i.LoadAt base len ∷ []) at (at + expr_size index) (ap (λ n. at + n) (expr_length index)) (expr_inside index at free (omega (arith, below))) (omega (arith, below), tt)
    expr_inside (Signed' sign p operand) at free below =
        inside_on (expr_code operand) (i.Signed sign ∷ []) at (at + expr_size operand) (ap (λ n. at + n) (expr_length operand)) (expr_inside operand at free (omega (arith, below))) (omega (arith, below), tt)
    expr_inside (Chain' p first s rest) at free below =
        inside_on (expr_code first) (chain_code rest) at (at + expr_size first) (ap (λ n. at + n) (expr_length first)) (expr_inside first at free.0 (omega (arith, below)))
        (chain_inside rest (at + expr_size first) free.1 (omega (arith, below)))

    chain_inside : {m : _} (row : Row_of-Further m) (at : ℕ) → ChainIsFree row → at + chain_size row < end → AllInside end at (chain_code row)
    chain_inside end_of-Further at free below = tt
    chain_inside (more_of-Further operator operand rest) at free below =
        inside_on (expr_code operand) (i.Operate operator ∷ chain_code rest) at (at + expr_size operand) (ap (λ n. at + n) (expr_length operand)) (expr_inside operand at free.0 (omega (arith, below)))
        (omega (arith, below), chain_inside rest (at + expr_size operand + 1) free.1 (omega (arith, below)))

  simple_inside : (s : Simple) (at : ℕ) → SimpleIsFree s → at + operands_size s < end → AllInside end at (operands_code s)
  simple_inside (SetWord word value) at free below = expr_inside value at free below
  simple_inside (SetElement base len index value) at free below =
      inside_on (expr_code index) (expr_code value) at (at + expr_size index) (ap (λ n. at + n) (expr_length index)) (expr_inside index at free.0 (omega (arith, below)))
      (expr_inside value (at + expr_size index) free.1 (omega (arith, below)))
  simple_inside (Emit channel value) at free below = expr_inside value at free below
  simple_inside (Raise task) at free below = tt

  acts_inside : (s : Simple) (at : ℕ) → IsInside end at (simple_instr s)
  acts_inside (SetWord word value) at = tt
  acts_inside (SetElement base len index value) at = tt
  acts_inside (Emit channel value) at = tt
  acts_inside (Raise task) at = tt

  module _ (words posts : ℕ) where
    body_inside : (body : Body) (at : ℕ) → TaskWorks words posts body → at + body_size body < end → AllInside end at (body_code at body)
    body_inside Empty at works below = tt
    body_inside (Plain b p s rest) at works below =
        let n = operands_size s in
        inside_on (operands_code s) (simple_instr s ∷ body_code (at + n + 1) rest) at (at + n) (ap (λ m. at + m) (operands_length s)) (simple_inside s at works.1 (omega (arith, below)))
        (acts_inside s (at + n), body_inside rest (at + n + 1) works.2 (omega (arith, below)))
    body_inside (When b p test on rest) at works below =
        let n = expr_size test in
        let first = at + n + 1 in
        let last = first + body_size on in
        inside_on (expr_code test) (i.JumpZero last ∷ (body_code first on ++ body_code last rest)) at (at + n) (ap (λ m. at + m) (expr_length test)) (expr_inside test at works.0.1 (omega (arith, below)))
        (tt, inside_on (body_code first on) (body_code last rest) first last (ap (λ m. first + m) (body_length on first)) (body_inside on first works.1 (omega (arith, below))) (body_inside rest last works.2 (omega (arith, below))))
    body_inside (Choice b p test on off rest) at works below =
        let n = expr_size test in
        let first = at + n + 1 in
        let middle = first + body_size on in
        let second = middle + 1 in
        let last = second + body_size off in
        inside_on (expr_code test) (i.JumpZero second ∷ (body_code first on ++ (i.Jump last ∷ (body_code second off ++ body_code last rest)))) at (at + n) (ap (λ m. at + m) (expr_length test)) (expr_inside test at works.0.1 (omega (arith, below))) (
          tt,
          inside_on (body_code first on) (i.Jump last ∷ (body_code second off ++ body_code last rest)) first middle (ap (λ m. first + m) (body_length on first)) (body_inside on first works.1 (omega (arith, below))) (
            omega (arith, below),
            inside_on (body_code second off) (body_code last rest) second last (ap (λ m. second + m) (body_length off second)) (body_inside off second works.2 (omega (arith, below))) (body_inside rest last works.3 (omega (arith, below))),
          ),
        )
    body_inside (Loop b p test body rest) at works below =
        let n = expr_size test in
        let first = at + n + 1 in
        let middle = first + body_size body in
        let last = middle + 1 in
        inside_on (expr_code test) (i.JumpZero last ∷ (body_code first body ++ (i.Jump at ∷ body_code last rest))) at (at + n) (ap (λ m. at + m) (expr_length test)) (expr_inside test at works.0.1 (omega (arith, below))) (
          tt,
          inside_on (body_code first body) (i.Jump at ∷ body_code last rest) first middle (ap (λ m. first + m) (body_length body first)) (body_inside body first works.1 (omega (arith, below)))
              (omega (arith, below), body_inside rest last works.2 (omega (arith, below))),
        )
    body_inside (Turns b p n body rest) at works below = absurd works

    task_inside : (body : Body) (at t : ℕ) → TaskWorks words posts body → at + task_size body ≤ end → AllInside end at (task_code at t body)
    task_inside body at t works below = (
      tt,
      inside_on (body_code (at + 1) body) (i.End ∷ []) (at + 1) (at + 1 + body_size body) (ap (λ m. at + 1 + m) (body_length body (at + 1))) (body_inside body (at + 1) works (omega (arith, below))) (tt, tt),
    )

    pub tasks_inside : (bodies : List Body) (at t : ℕ) → EachTaskWorks words posts bodies → at + tasks_size bodies ≤ end → AllInside end at (tasks_code at t bodies)
    tasks_inside [] at t works below = tt
    tasks_inside (body ∷ bodies) at t works below =
        let next = at + task_size body in
        inside_on (task_code at t body) (tasks_code next (t + 1) bodies) at next (ap (λ m. at + m) (task_code_length at t body)) (task_inside body at t works.0 (omega (arith, below)))
        (tasks_inside bodies next (t + 1) works.1 (omega (arith, below)))

tasks_length : (bodies : List Body) (at t : ℕ) → length (tasks_code at t bodies) ≡ tasks_size bodies
tasks_length [] at t = refl
tasks_length (body ∷ bodies) at t =
    omega (arith, length-append (task_code at t body) (tasks_code (at + task_size body) (t + 1) bodies), task_code_length at t body, tasks_length bodies (at + task_size body) (t + 1))

-- an entry of a task is a place of the tasks' code
entry_below : (bodies : List Body) (at t entry : ℕ) → slice_get (tasks_entries at bodies) t ≡ Some entry → entry < at + tasks_size bodies
entry_below [] at t entry is = absurd (cc)
entry_below (body ∷ bodies) at zero entry is = let same : at ≡ entry = cc in omega (arith, same)
entry_below (body ∷ bodies) at (suc t) entry is = let more = entry_below bodies (at + task_size body) t entry is in omega (arith, more)

module _ (p : Checked) where
  abbrev pub tasks_end : ℕ
  tasks_end = tasks_size (bodies_of p)

  pub code_inside : IsChecked p → (at : ℕ) (instr : Instr) → at < tasks_end → slice_get (code_of p).instrs at ≡ Some instr → IsInside tasks_end at instr
  unfolding code_of
  code_inside checked at instr below is =
      let all = tasks_inside tasks_end (length p.words) (length p.tasks) (bodies_of p) 0 0 checked.tasks_work (omega arith) in
      let here : 0 + at ≡ at = omega arith in
      subst (λ m. IsInside tasks_end m instr) here
      (inside_at tasks_end (tasks_code 0 0 (bodies_of p)) (events_code tasks_end (versions_of p)) 0 at instr all (omega (arith, below, tasks_length (bodies_of p) 0 0)) is)

  pub entries_inside : (t entry : ℕ) → slice_get (code_of p).tasks t ≡ Some entry → entry < tasks_end
  unfolding code_of
  entries_inside t entry is = let below = entry_below (bodies_of p) 0 t entry is in omega (arith, below)
