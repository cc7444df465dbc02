-- Each task and each version begins at the first place, or behind the end of another.
use Rattle.std.proofs.Common.{◌≡◌, ℕ, zero, suc, ◌+◌, ◌<◌, true, false, nat_eq, List, [], ◌∷◌, ◌++◌, length, get_or, Some, refl, sym, ap, ◌∙◌, subst, arith, append_assoc, length-append}
use Rattle.std.specs.Prelude.{slice_get, unwrap_or, if◌then◌else◌}
use Rattle.std.proofs.lemmas.Bool.Decides.{nat_tests}
use Rattle.std.proofs.lemmas.List.{append-nil}
use Rattle.cn_base.specs.Texts.{in_turn}
use Rattle.cat_program.specs.Body.{Body}
use Rattle.cat_program.specs.Places.{task_size, tasks_size, version_size, versions_size}
use Rattle.cat_program.specs.Checked.{Checked, bodies_of, versions_of}
use Rattle.cat_machine.specs.declared.instr.Instr.{Instr}
use Rattle.cat_machine.specs.declared.instr.Instr.TheVariants as i
use Rattle.cat_machine.specs.Code.{body_code, task_code, tasks_code, tasks_entries, versions_code, versions_entries, events_code, events_entries, code_of}
use Rattle.cat_machine.specs.CodeValue.{CodeValue, versions_at}
use Rattle.cat_machine.specs.LaidOut.{CodeHasSizes}
use Rattle.cat_compile.specs.Begins.{FollowsEnd}
use Rattle.cat_compile.specs.Listing.{heads, task_header, version_header, event_headers}

abbrev EachFollows : List Instr → List ℕ → Type 0
EachFollows instrs [] = Unit {0}
EachFollows instrs (at ∷ entries) = FollowsEnd instrs at × EachFollows instrs entries

abbrev AllFollow : List Instr → List (List ℕ) → Type 0
AllFollow instrs [] = Unit {0}
AllFollow instrs (entries ∷ lists) = EachFollows instrs entries × AllFollow instrs lists

behind : (xs ys : List Instr) (x : Instr) → slice_get (xs ++ x ∷ ys) (length xs) ≡ Some x
behind [] ys x = refl
behind (y ∷ xs) ys x = behind xs ys x

-- behind a piece of code that ends
follows : (whole front piece more : List Instr) (n : ℕ) → whole ≡ front ++ ((piece ++ i.End ∷ []) ++ more) → n ≡ length front + length piece + 1 → FollowsEnd whole n
follows whole front piece more n e long = λ k is.
    let at : k ≡ length (front ++ piece) = omega (arith, is, long, length-append front piece) in
    let parts : whole ≡ (front ++ piece) ++ i.End ∷ more =
    e ∙ ap (λ l. front ++ l) (append_assoc piece (i.End ∷ []) more) ∙ sym (append_assoc front piece (i.End ∷ more)) in
    ap (λ (l : List Instr). slice_get l k) parts
    ∙ ap (λ (n : ℕ). slice_get ((front ++ piece) ++ i.End ∷ more) n) at
    ∙ behind (front ++ piece) more i.End

moved : (instrs : List Instr) (m n : ℕ) → m ≡ n → FollowsEnd instrs m → FollowsEnd instrs n
moved instrs m n e h = λ k is. h k (e ∙ is)

record Begun (code : CodeValue) : Type 0 where
  tasks : EachFollows code.instrs code.tasks
  versions : AllFollow code.instrs code.versions

-- with the length of each part of the code
module _ (sizes : CodeHasSizes) where
  tasks_follow : (whole front rest : List Instr) (at t : ℕ) (bodies : List Body) → at ≡ length front → whole ≡ front ++ (tasks_code at t bodies ++ rest) → FollowsEnd whole at
      → EachFollows whole (tasks_entries at bodies) × FollowsEnd whole (at + tasks_size bodies)
  tasks_follow whole front rest at t [] long e here = (tt, moved whole at (at + 0) (omega arith) here)
  tasks_follow whole front rest at t (body ∷ bodies) long e here =
      let code = task_code at t body in
      let piece : List Instr = i.Begin t ∷ body_code (at + 1) body in
      let next = at + task_size body in
      let more : List Instr = tasks_code next (t + 1) bodies ++ rest in
      let all : whole ≡ front ++ (code ++ more) = e ∙ ap (λ l. front ++ l) (append_assoc code (tasks_code next (t + 1) bodies) rest) in
      let size : next ≡ length front + length piece + 1 = omega (arith, long, sizes.task at t body, length-append piece (i.End ∷ [])) in
      let longer : next ≡ length (front ++ code) = omega (arith, long, length-append front code, sizes.task at t body) in
      let later = tasks_follow whole (front ++ code) rest next (t + 1) bodies longer (all ∙ sym (append_assoc front code more)) (follows whole front piece more next all size) in (
        (here, later.0),
        moved whole (next + tasks_size bodies) (at + (task_size body + tasks_size bodies)) (omega arith) later.1,
      )

  versions_follow : (whole front rest : List Instr) (at : ℕ) (bodies : List Body) → at ≡ length front → whole ≡ front ++ (versions_code at bodies ++ rest) → FollowsEnd whole at
      → EachFollows whole (versions_entries at bodies) × FollowsEnd whole (at + versions_size bodies)
  versions_follow whole front rest at [] long e here = (tt, moved whole at (at + 0) (omega arith) here)
  versions_follow whole front rest at (body ∷ bodies) long e here =
      let piece = body_code at body in
      let code : List Instr = piece ++ i.End ∷ [] in
      let next = at + version_size body in
      let more : List Instr = versions_code next bodies ++ rest in
      let all : whole ≡ front ++ (code ++ more) = e ∙ ap (λ l. front ++ l) (append_assoc code (versions_code next bodies) rest) in
      let size : next ≡ length front + length piece + 1 = omega (arith, long, sizes.version body at, length-append piece (i.End ∷ [])) in
      let longer : next ≡ length (front ++ code) = omega (arith, long, length-append front code, sizes.version body at) in
      let later = versions_follow whole (front ++ code) rest next bodies longer (all ∙ sym (append_assoc front code more)) (follows whole front piece more next all size) in (
        (here, later.0),
        moved whole (next + versions_size bodies) (at + (version_size body + versions_size bodies)) (omega arith) later.1,
      )

  events_follow : (whole front rest : List Instr) (at : ℕ) (events : List (List Body)) → at ≡ length front → whole ≡ front ++ (events_code at events ++ rest) → FollowsEnd whole at → AllFollow whole (events_entries at events)
  events_follow whole front rest at [] long e here = tt
  events_follow whole front rest at (event ∷ events) long e here =
      let code = versions_code at event in
      let next = at + versions_size event in
      let more : List Instr = events_code next events ++ rest in
      let all : whole ≡ front ++ (code ++ more) = e ∙ ap (λ l. front ++ l) (append_assoc code (events_code next events) rest) in
      let longer : next ≡ length (front ++ code) = omega (arith, long, length-append front code, sizes.versions event at) in
      let first = versions_follow whole front more at event long all here in
      (first.0, events_follow whole (front ++ code) rest next events longer (all ∙ sym (append_assoc front code more)) first.1)

  begun : (p : Checked) → Begun (code_of p)
  unfolding code_of
  begun p =
      let tasks = bodies_of p in
      let first = tasks_code 0 0 tasks in
      let second = events_code (tasks_size tasks) (versions_of p) in
      let whole : List Instr = first ++ second in
      let start : FollowsEnd whole 0 = λ k is. absurd (omega (arith, is)) in
      let one = tasks_follow whole [] second 0 0 tasks refl refl start in
      let long : tasks_size tasks ≡ length first = sym (sizes.tasks tasks 0 0) in
      record {
        tasks = one.0;
        versions = events_follow whole first [] (tasks_size tasks) (versions_of p) long (ap (λ l. first ++ l) (sym (append-nil second)))
            (moved whole (0 + tasks_size tasks) (tasks_size tasks) (omega arith) one.1);
      }

-- ---- no header elsewhere

each_at : (instrs : List Instr) (entries : List ℕ) (k : ℕ) → EachFollows instrs entries → k < length entries → FollowsEnd instrs (get_or entries k 0)
each_at instrs [] k each less = absurd (omega arith)
each_at instrs (x ∷ entries) zero each less = each.0
each_at instrs (x ∷ entries) (suc k) each less = each_at instrs entries k each.1 (omega arith)

all_at : (instrs : List Instr) (lists : List (List ℕ)) (e : ℕ) → AllFollow instrs lists → EachFollows instrs (unwrap_or (slice_get lists e) [])
all_at instrs [] e all = tt
all_at instrs (x ∷ lists) zero all = all.0
all_at instrs (x ∷ lists) (suc e) all = all_at instrs lists e all.1

heads_none : (instrs : List Instr) (entry pc : ℕ) (header : List ℕ) → FollowsEnd instrs entry → (FollowsEnd instrs pc → ⊥) → heads entry pc header ≡ []
heads_none instrs entry pc header here inside =
    elim (nat_eq entry pc) as (λ b. nat_eq entry pc ≡ b → (if b then header else []) ≡ []) [
      | true ↦ (λ is. let same : entry ≡ pc = grind (arith, nat_tests) in absurd (inside (moved instrs entry pc same here)))
      | false ↦ (λ is. refl)
    ] refl

in_turn_none : (f : ℕ → List ℕ) (n : ℕ) → ((k : ℕ) → k < n → f k ≡ []) → in_turn f n ≡ []
in_turn_none f zero none = refl
in_turn_none f (suc n) none = ap (λ t. t ++ f n) (in_turn_none f n (λ k less. none k (omega arith))) ∙ none n (omega arith)

module _ (sizes : CodeHasSizes) (p : Checked) (code : CodeValue) (pc : ℕ) (is : code ≡ code_of p) (inside : FollowsEnd code.instrs pc → ⊥) where
  are : Begun code
  are = subst Begun (sym is) (begun sizes p)

  pub no_task : in_turn (task_header p code pc) (length code.tasks) ≡ []
  no_task = in_turn_none (task_header p code pc) (length code.tasks) (λ t less.
      heads_none code.instrs (get_or code.tasks t 0) pc _ (each_at code.instrs code.tasks t are.tasks less) inside)

  pub no_version : in_turn (event_headers p code pc) (length code.versions) ≡ []
  no_version = in_turn_none (event_headers p code pc) (length code.versions) (λ e less.
      in_turn_none (version_header p code pc e) (length (versions_at code e)) (λ v fewer.
      heads_none code.instrs (get_or (versions_at code e) v 0) pc _ (each_at code.instrs (versions_at code e) v (all_at code.instrs code.versions e are.versions) fewer) inside))
