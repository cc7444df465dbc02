-- A run, step by step.
use Rattle.std.proofs.Common.{◌≡◌, ℕ, zero, suc, ◌+◌, ◌-◌, ◌<◌, ◌≤◌, List, [], ◌∷◌, ◌++◌, length, take, drop, Option, Some, None, Result, refl, sym, ap, ◌∙◌, arith, append_assoc, pos, MatchOption}
use Rattle.std.proofs.lemmas.List.{append-nil, take-append-drop}
use Rattle.cn_base.specs.Pages.{IsHeld, Adds}
use Rattle.cn_base.specs.PageSums.{adds_cut, adds_on}
use Rattle.cn_base.specs.Writing.{IsCut}
use Rattle.cat_program.specs.declared.syntax.Stepped.{Stepped}
use Rattle.cat_program.specs.declared.syntax.Stepped.TheVariants.{Quiet, None as NoStep}
use Rattle.cat_program.specs.Body.{Body, Empty, Plain, When, Choice, Loop, Turns}
use Rattle.cat_program.specs.Meaning.{Store, Output, output, answer_of, TaskState, TaskStep, first_posted, lowered, quietly, taken as begun, list_step, step_from, task_step_of}
use Rattle.cat_program.specs.Checked.{Checked, body_at}
use Rattle.cat_eval.specs.StateValue.{StateValue}
use Rattle.cat_eval.specs.Cursor.{state_of}
use Rattle.cat_eval.specs.Steps.{StepIs, StepsAs}
use Rattle.catnap_top.specs.Run.{answers, follow, out_line, out_lines, steps_line, run_text}

-- ---- the answers that are left

pub answers_stop : (bodies : ℕ → Body) (count : ℕ) (state : TaskState) → task_step_of bodies state ≡ None → answers bodies count state ≡ []
unfolding answers
answers_stop bodies zero state e = refl
answers_stop bodies (suc count) state e = ap (λ s. follow s (answers bodies count)) e

answers_next : (bodies : ℕ → Body) (count : ℕ) (state : TaskState) (step : TaskStep) → task_step_of bodies state ≡ Some step
    → answers bodies (suc count) state ≡ step.answer ∷ answers bodies count step.after
unfolding answers
answers_next bodies count state step e = ap (λ s. follow s (answers bodies count)) e

pub answers_done : (bodies : ℕ → Body) (steps taken : ℕ) (state : TaskState) → steps ≤ taken → answers bodies (steps - taken) state ≡ []
unfolding answers
answers_done bodies steps taken state le = let none : steps - taken ≡ 0 = omega arith in ap (λ n. answers bodies n state) none

-- each step answers something
answer_is_some : (os : List Output) → answer_of os ≡ NoStep → ⊥
answer_is_some [] e = absurd cc
answer_is_some (o ∷ os) e = absurd cc

list_answers : (k : Body) (s : Store) → (list_step k s).answer ≡ NoStep → ⊥
list_answers Empty s e = absurd cc
list_answers (Plain b p simple rest) s e = answer_is_some (output simple (pos 0) s) e
list_answers (When b p test on rest) s e = absurd cc
list_answers (Choice b p test on off rest) s e = absurd cc
list_answers (Loop b p test body rest) s e = absurd cc
list_answers (Turns b p n body rest) s e = absurd cc

taken_answers : (bodies : ℕ → Body) (s : Store) (t : Option ℕ) (step : TaskStep) → begun bodies s t ≡ Some step → step.answer ≡ NoStep → ⊥
taken_answers bodies s None step is e = absurd cc
taken_answers bodies s (Some t) step is e =
    let same : quietly (record { words = s.words; posts = lowered s.posts t }) (Some (bodies t)) ≡ step = cc in
    let both : Quiet ≡ NoStep = ap (λ x. x.answer) same ∙ e in
    absurd cc

step_answers : (bodies : ℕ → Body) (s : Store) (k : Option Body) (step : TaskStep) → step_from bodies s k ≡ Some step → step.answer ≡ NoStep → ⊥
step_answers bodies s None step is e = taken_answers bodies s (first_posted s.posts) step is e
step_answers bodies s (Some k) step is e =
    let same : list_step k s ≡ step = cc in
    list_answers k s (ap (λ x. x.answer) same ∙ e)

-- what a call of the interpreter says of the answers that are left
pub left_stop : (xs : List Stepped) (p : Checked) (steps taken : ℕ) (old new : StateValue) (answer : Stepped)
    → drop taken xs ≡ answers (body_at p) (steps - taken) (state_of p old) → StepsAs p old answer new → answer ≡ NoStep → drop taken xs ≡ []
left_stop xs p steps taken old new answer left is none = left ∙ stopped (task_step_of (body_at p) (state_of p old)) refl is where
  stopped : (s : Option TaskStep) → task_step_of (body_at p) (state_of p old) ≡ s
      → MatchOption s ((answer ≡ NoStep) × (new ≡ old)) (λ step. StepIs p step answer new)
      → answers (body_at p) (steps - taken) (state_of p old) ≡ []
  stopped None e at = answers_stop (body_at p) (steps - taken) (state_of p old) e
  stopped (Some step) e at = absurd (step_answers (body_at p) (state_of p old).store (state_of p old).current step e (sym at.answers ∙ none))

pub left_go : (xs : List Stepped) (p : Checked) (steps taken : ℕ) (old new : StateValue) (answer : Stepped)
    → drop taken xs ≡ answers (body_at p) (steps - taken) (state_of p old) → taken < steps → StepsAs p old answer new → ¬ (answer ≡ NoStep)
    → drop taken xs ≡ answer ∷ answers (body_at p) (steps - (taken + 1)) (state_of p new)
left_go xs p steps taken old new answer left lt is some = left ∙ gone (task_step_of (body_at p) (state_of p old)) refl is where
  gone : (s : Option TaskStep) → task_step_of (body_at p) (state_of p old) ≡ s
      → MatchOption s ((answer ≡ NoStep) × (new ≡ old)) (λ step. StepIs p step answer new)
      → answers (body_at p) (steps - taken) (state_of p old) ≡ answer ∷ answers (body_at p) (steps - (taken + 1)) (state_of p new)
  gone None e at = absurd (some at.0)
  gone (Some step) e at =
      let one : steps - taken ≡ suc (steps - (taken + 1)) = omega arith in
      ap (λ n. answers (body_at p) n (state_of p old)) one
      ∙ answers_next (body_at p) (steps - (taken + 1)) (state_of p old) step e
      ∙ ap (λ a. a ∷ answers (body_at p) (steps - (taken + 1)) step.after) (sym at.answers)
      ∙ ap (λ s. answer ∷ answers (body_at p) (steps - (taken + 1)) s) (sym at.after)

-- ---- a list from a place on

taken_more : (xs : List Stepped) (i : ℕ) (a : Stepped) (rest : List Stepped) → drop i xs ≡ a ∷ rest
    → (take (suc i) xs ≡ take i xs ++ a ∷ []) × (drop (suc i) xs ≡ rest) × (i < length xs)
taken_more [] zero a rest e = absurd cc
taken_more [] (suc i) a rest e = absurd cc
taken_more (x ∷ xs) zero a rest e =
    let head : x ≡ a = cc in
    let tail : xs ≡ rest = cc in
    (ap (λ y. y ∷ []) head, tail, omega arith)
taken_more (x ∷ xs) (suc i) a rest e =
    let more = taken_more xs i a rest e in
    (ap (λ ys. x ∷ ys) more.0, more.1, omega (arith, more.2))

pub record Goes (xs : List Stepped) (i : ℕ) (a : Stepped) (rest : List Stepped) : Type 0 where
  pub front : take (i + 1) xs ≡ take i xs ++ a ∷ []
  pub left : drop (i + 1) xs ≡ rest
  pub within : i + 1 ≤ length xs

pub goes : (xs : List Stepped) (i : ℕ) (a : Stepped) (rest : List Stepped) → drop i xs ≡ a ∷ rest → Goes xs i a rest
goes xs i a rest e =
    let more = taken_more xs i a rest e in
    let one : suc i ≡ i + 1 = omega arith in
    record {
      front = ap (λ n. take n xs) (sym one) ∙ more.0;
      left = ap (λ n. drop n xs) (sym one) ∙ more.1;
      within = omega (arith, more.2);
    }

-- nothing is left
taken_all : (xs : List Stepped) (i : ℕ) → i ≤ length xs → drop i xs ≡ [] → (take i xs ≡ xs) × (length xs ≡ i)
taken_all [] zero le e = (refl, refl)
taken_all [] (suc i) le e = absurd (omega arith)
taken_all (x ∷ xs) zero le e = absurd cc
taken_all (x ∷ xs) (suc i) le e =
    let fits : i ≤ length xs = omega arith in
    let all = taken_all xs i fits e in
    (ap (λ ys. x ∷ ys) all.0, ap suc all.1)

-- ---- the lines

out_append : (xs ys : List Stepped) → out_lines (xs ++ ys) ≡ out_lines xs ++ out_lines ys
out_append [] ys = refl
out_append (x ∷ xs) ys = ap (λ t. out_line x ++ t) (out_append xs ys) ∙ sym (append_assoc (out_line x) (out_lines xs) (out_lines ys))

pub out_more : (xs : List Stepped) (i : ℕ) (a : Stepped) (rest : List Stepped) → drop i xs ≡ a ∷ rest
    → out_lines (take (i + 1) xs) ≡ out_lines (take i xs) ++ out_line a
out_more xs i a rest e =
    ap out_lines (goes xs i a rest e).front ∙ out_append (take i xs) (a ∷ []) ∙ ap (λ t. out_lines (take i xs) ++ t) (append-nil (out_line a))

out_split : (xs : List Stepped) (i : ℕ) (a : Stepped) (rest : List Stepped) (tail : List ℕ) → drop i xs ≡ a ∷ rest
    → out_lines (take i xs) ++ (out_line a ++ (out_lines rest ++ tail)) ≡ out_lines xs ++ tail
out_split xs i a rest tail e =
    ap (λ t. out_lines (take i xs) ++ t) (sym (append_assoc (out_line a) (out_lines rest) tail))
    ∙ ap (λ ys. out_lines (take i xs) ++ (out_lines ys ++ tail)) (sym e)
    ∙ sym (append_assoc (out_lines (take i xs)) (out_lines (drop i xs)) tail)
    ∙ ap (λ t. t ++ tail) (sym (out_append (take i xs) (drop i xs)))
    ∙ ap (λ ys. out_lines ys ++ tail) (take-append-drop i xs)

-- ---- the page

-- a line was cut
pub run_cut : (w0 w1 w2 : Option (List ℕ)) (h0 h1 : List ℕ) (xs : List Stepped) (i : ℕ) (a : Stepped) (rest : List Stepped)
    → IsHeld w0 w1 (h0 ++ out_lines (take i xs)) h1 → drop i xs ≡ a ∷ rest → IsCut w1 w2 (h1 ++ out_line a) → IsCut w0 w2 (h0 ++ run_text xs)
run_cut w0 w1 w2 h0 h1 xs i a rest so_far e cut =
    adds_cut w0 w1 w2 h0 h1 (out_lines (take i xs)) (out_line a) (out_lines rest ++ steps_line (length xs)) (run_text xs)
    (out_split xs i a rest (steps_line (length xs)) e) so_far cut

-- all steps that exist were taken
pub run_ends : {T E : Type 0} (w0 w1 w2 : Option (List ℕ)) (h0 h1 h2 : List ℕ) (xs : List Stepped) (i : ℕ) (r : Result T E)
    → IsHeld w0 w1 (h0 ++ out_lines (take i xs)) h1 → i ≤ length xs → drop i xs ≡ [] → Adds w1 w2 h1 h2 (steps_line i) r
    → Adds w0 w2 h0 h2 (run_text xs) r
run_ends w0 w1 w2 h0 h1 h2 xs i r so_far le e h =
    let all = taken_all xs i le e in
    adds_on w0 w1 w2 h0 h1 h2 (out_lines (take i xs)) (steps_line i) (run_text xs) r
    (ap (λ ys. out_lines ys ++ steps_line i) all.0 ∙ ap (λ n. out_lines xs ++ steps_line n) (sym all.1)) so_far h
