-- The bounds of programs that say the same, on a device.
use Rattle.std.proofs.Common.{◌≡◌, ℕ, suc, ◌≤◌, List, [], ◌∷◌, length, Option, Some, None, inl, inr, refl, ap, sym, ◌∙◌, subst, arith}
use Rattle.std.specs.Prelude.{map, slice_get, unwrap_or}
use Rattle.nv_memory.specs.declared.device.Class.{Class}
use Rattle.cat_program.specs.Places.{tasks_size}
use Rattle.cat_program.specs.Checked.{Checked, bodies_of}
use Rattle.nv_memory.specs.declared.device.Device.{Device}
use Rattle.cat_machine.specs.declared.instr.Instr.{Instr}
use Rattle.cat_machine.specs.ClassOf.{class_of}
use Rattle.cat_machine.specs.CodeValue.{CodeValue, EntryAt}
use Rattle.cat_machine.specs.Code.{code_of}
use Rattle.cat_machine.specs.Costs.{Costs, instr_cost, place_cost, path_cost}
use Rattle.cost_bounds.specs.declared.job.Job.{Job}
use Rattle.cost_bounds.specs.BoundsValue.{BoundsValue}
use Rattle.cost_bounds.specs.Paths.{SectionFrom, HandlerFrom, IsSection, IsHandler}
use Rattle.cost_bounds.specs.Greatest.{units_of, ticks_of, sum_over, IsGreatest, AreGreatest, whole_job, IsJob, AreBounds}
use Rattle.same_program.specs.Same.{IsSame}
use Rattle.same_program.proofs.Codes.{code_same, same_tasks_size}

-- ---- a greatest sum is one

below : (P Q : List ℕ → Type 0) (f g : List ℕ → ℕ) (m n : ℕ) → ((path : List ℕ) → P path → Q path) → ((path : List ℕ) → f path ≡ g path)
    → IsGreatest P f m → IsGreatest Q g n → m ≤ n
below P Q f g m n to same first second =
    elim (first.reached) [
      | inl some ↦ let here = second.upper some.0 (to some.0 some.1) in omega (arith, here, same some.0, some.2)
      | inr none ↦ omega (arith, none.1)
    ]

one_greatest : (P Q : List ℕ → Type 0) (f g : List ℕ → ℕ) (m n : ℕ) → ((path : List ℕ) → P path → Q path) → ((path : List ℕ) → Q path → P path)
    → ((path : List ℕ) → f path ≡ g path) → IsGreatest P f m → IsGreatest Q g n → m ≡ n
one_greatest P Q f g m n to from same first second =
    let one = below P Q f g m n to same first second in
    let other = below Q P g f n m from (λ path. sym (same path)) second first in
    omega arith

-- ---- sums by costs and code that are the same

instr_same : (u v : Costs) → ((class : Class) → u class ≡ v class) → (i : Option Instr) → instr_cost u i ≡ instr_cost v i
instr_same u v each None = refl
instr_same u v each (Some i) = each (class_of i)

path_same : (u v : Costs) (code : CodeValue) → ((class : Class) → u class ≡ v class) → (path : List ℕ) → path_cost (place_cost u code) path ≡ path_cost (place_cost v code) path
path_same u v code each [] = refl
path_same u v code each (pc ∷ path) = omega (arith, instr_same u v each (slice_get code.instrs pc), path_same u v code each path)

sum_same : (u v : Costs) (p q : Checked) → code_of p ≡ code_of q → ((class : Class) → u class ≡ v class) → (path : List ℕ) → sum_over u p path ≡ sum_over v q path
sum_same u v p q code each path = path_same u v (code_of p) each path ∙ ap (λ c. path_cost (place_cost v c) path) code

abbrev job_by : ℕ → ℕ → Job
job_by units ticks = record { units = units; ticks = ticks }

one_job : (a b : Job) → a.units ≡ b.units → a.ticks ≡ b.ticks → a ≡ b
one_job a b units ticks = ap (λ n. job_by n a.ticks) units ∙ ap (job_by b.units) ticks

-- ---- tables of jobs that agree in each place

one_row : (xs ys : List Job) → length xs ≡ length ys → ((v : ℕ) (a b : Job) → slice_get xs v ≡ Some a → slice_get ys v ≡ Some b → a ≡ b) → xs ≡ ys
one_row [] [] long each = refl
one_row (x ∷ xs) (y ∷ ys) long each = cc (each 0 x y refl refl, one_row xs ys (omega arith) (λ v. each (suc v)))
one_row [] (y ∷ ys) long each = absurd (omega arith)
one_row (x ∷ xs) [] long each = absurd (omega arith)

abbrev in_rows : List (List Job) → ℕ → ℕ → Option Job
in_rows rows e v = slice_get (unwrap_or (slice_get rows e) []) v

one_table : (xs ys : List (List Job)) → map length xs ≡ map length ys → ((e v : ℕ) (a b : Job) → in_rows xs e v ≡ Some a → in_rows ys e v ≡ Some b → a ≡ b) → xs ≡ ys
one_table [] [] long each = refl
one_table (x ∷ xs) (y ∷ ys) long each = cc (one_row x y (cc) (each 0), one_table xs ys (cc) (λ e. each (suc e)))
one_table [] (y ∷ ys) long each = absurd (cc)
one_table (x ∷ xs) [] long each = absurd (cc)

-- ---- the bounds

section_to : (p q : Checked) → code_of p ≡ code_of q → tasks_size (bodies_of p) ≡ tasks_size (bodies_of q) → (path : List ℕ) → IsSection p path → IsSection q path
section_to p q code size path is =
    record { from = is.from; within = omega (arith, is.within); is = subst (λ c. SectionFrom c is.from path) code is.is }

handler_to : (p q : Checked) → code_of p ≡ code_of q → (event version : ℕ) (path : List ℕ) → IsHandler p event version path → IsHandler q event version path
handler_to p q code event version path is =
    record {
      entry = is.entry;
      enters = subst (λ c. EntryAt c event version is.entry) code is.enters;
      is = subst (λ c. HandlerFrom c is.entry [] path) code is.is;
    }

module _ (p q : Checked) (d : Device) (lines : ℕ) (same : IsSame p q) where
  code : code_of p ≡ code_of q
  code = code_same p q same

  greatest_same : (P Q : List ℕ → Type 0) (a b : Job) → ((path : List ℕ) → P path → Q path) → ((path : List ℕ) → Q path → P path)
      → AreGreatest P p d a → AreGreatest Q q d b → a ≡ b
  greatest_same P Q a b to from first second =
      one_job a b
      (one_greatest P Q (sum_over (units_of d) p) (sum_over (units_of d) q) a.units b.units to from (sum_same (units_of d) (units_of d) p q code (λ class. refl)) first.units second.units)
      (one_greatest P Q (sum_over (ticks_of d) p) (sum_over (ticks_of d) q) a.ticks b.ticks to from (sum_same (ticks_of d) (ticks_of d) p q code (λ class. refl)) first.ticks second.ticks)

  job_same : (event version : ℕ) (a b : Job) → IsJob p d lines event version a → IsJob q d lines event version b → a ≡ b
  job_same event version a b first second =
      let handler = greatest_same (IsHandler p event version) (IsHandler q event version) first.handler second.handler (handler_to p q code event version) (handler_to q p (sym code) event version) first.greatest second.greatest in
      first.whole ∙ ap (whole_job d lines) handler ∙ sym second.whole

  pub one_bounds : (b c : BoundsValue) → AreBounds p d lines b → AreBounds q d lines c → b ≡ c
  one_bounds b c first second =
      let jobs : b.jobs ≡ c.jobs = one_table b.jobs c.jobs (first.versions ∙ ap (map length) same.events ∙ sym second.versions)
      (λ event version x y at at'. job_same event version x y (first.jobs event version x at) (second.jobs event version y at')) in
      let size = same_tasks_size p q same in
      let section : b.section ≡ c.section = greatest_same (IsSection p) (IsSection q) b.section c.section (section_to p q code size) (section_to q p (sym code) (sym size)) first.section second.section in
      let checkpoint : b.checkpoint ≡ c.checkpoint = first.checkpoint ∙ sym second.checkpoint in
      let wake : b.wake ≡ c.wake = first.wake ∙ sym second.wake in
      bounds_same b c jobs section checkpoint wake
    where
      bounds_same : (b c : BoundsValue) → b.jobs ≡ c.jobs → b.section ≡ c.section → b.checkpoint ≡ c.checkpoint → b.wake ≡ c.wake → b ≡ c
      bounds_same b c jobs section checkpoint wake =
          ap (λ j. record { jobs = j; section = b.section; checkpoint = b.checkpoint; wake = b.wake }) jobs
          ∙ ap (λ j. record { jobs = c.jobs; section = j; checkpoint = b.checkpoint; wake = b.wake }) section
          ∙ ap (λ j. record { jobs = c.jobs; section = c.section; checkpoint = j; wake = b.wake }) checkpoint
          ∙ ap (λ j. record { jobs = c.jobs; section = c.section; checkpoint = c.checkpoint; wake = j }) wake
