-- The places that are known, one more at each step of the pass.
use Rattle.std.proofs.Common.{◌≡◌, ℕ, zero, suc, ◌+◌, ◌-◌, ◌<◌, ◌≤◌, List, [], ◌∷◌, length, None, refl, sym, ap, ◌∙◌, subst, arith, inl, inr, ⊎_elim}
use Rattle.std.specs.Prelude.{slice_get, slice_set, ◌⊎◌}
use Rattle.std.proofs.lemmas.Bool.{cases_lt}
use Rattle.nv_memory.specs.declared.device.Device.{Device}
use Rattle.cat_machine.specs.CodeValue.{CodeValue}
use Rattle.cat_machine.specs.Costs.{Costs}
use Rattle.cost_bounds.specs.declared.job.Job.{Job}
use Rattle.cost_bounds.specs.Greatest.{units_of, ticks_of}
use Rattle.cost_bounds.specs.Pass.{most_number, job_in, front_of, SectionKnown, Worth, AtEnd, TurnsBack, Leaves, Tests, Repeats, GoesOn, IsWorth, HandlerKnown, PlaceKnown, AllKnown}
use Rattle.cost_bounds.proofs.Known.{front_none}
use Rattle.cost_bounds.proofs.KnownJobs.{no_section}

none_worth : (u : Costs) (code : CodeValue) (pc m : ℕ) → slice_get code.instrs pc ≡ None → IsWorth u code pc m
none_worth u code pc m e = record { by = by }
  where
    by : (c : ℕ) → Worth u code pc c → c ≤ most_number → m ≡ c
    by c (AtEnd d) le = cc
    by c (TurnsBack t d b) le = cc
    by c (Leaves t d lt w) le = cc
    by c (Tests t d lt w v) le = cc
    by c (Repeats n before to d at push lt w v) le = cc
    by c (GoesOn x d s w) le = cc

none_past : {A : Type 0} (xs : List A) (j : ℕ) → length xs ≤ j → slice_get xs j ≡ None
none_past [] j le = refl
none_past (x ∷ xs) zero le = absurd (omega (arith, le))
none_past (x ∷ xs) (suc j) le = none_past xs j (omega (arith, le))

module _ (device : Device) (code : CodeValue) (tasks : ℕ) where
  pub all_past : (from : ℕ) (jobs : List Job) → tasks ≤ length code.instrs → length code.instrs ≤ from → AllKnown device code tasks from jobs
  all_past from jobs short le = λ pc at. record {
    section = λ lt. absurd (omega (arith, lt, short, le, at));
    handler = λ _. record {
      units = none_worth (units_of device) code pc (job_in jobs pc).units (none_past code.instrs pc (omega (arith, le, at)));
      ticks = none_worth (ticks_of device) code pc (job_in jobs pc).ticks (none_past code.instrs pc (omega (arith, le, at)));
    };
  }

  -- of a task's place all later sections are known, and of a handler's all later handlers
  pub later_sections : (pc : ℕ) (jobs : List Job) → AllKnown device code tasks (pc + 1) jobs → (j : ℕ) → pc < j → SectionKnown device (front_of tasks code) j (job_in jobs j)
  later_sections pc jobs known j lt =
      let in_tasks : j < tasks → SectionKnown device (front_of tasks code) j (job_in jobs j) = λ within. (known j (omega (arith, lt))).section within in
      let past : tasks ≤ j → SectionKnown device (front_of tasks code) j (job_in jobs j) = λ le. no_section device (front_of tasks code) j (job_in jobs j) (front_none tasks code.instrs j le) in
      ⊎_elim in_tasks past (cases_lt j tasks)

  pub later_handlers : (pc : ℕ) (jobs : List Job) → tasks ≤ pc → AllKnown device code tasks (pc + 1) jobs → (j : ℕ) → pc < j → HandlerKnown device code j (job_in jobs j)
  later_handlers pc jobs le known j lt = (known j (omega (arith, lt))).handler (omega (arith, le, lt))

  -- one place more
  pub one_known : (pc : ℕ) (old new : List Job) (job : Job) → job_in new pc ≡ job → ((j : ℕ) → pc < j → job_in new j ≡ job_in old j) → PlaceKnown device code tasks pc job → AllKnown device code tasks (pc + 1) old → AllKnown device code tasks pc new
  one_known pc old new job here others known all = λ j at. by j at (cases_lt pc j)
    where
      by : (j : ℕ) → pc ≤ j → ((pc < j) ⊎ (j ≤ pc)) → PlaceKnown device code tasks j (job_in new j)
      by j at (inl lt) = subst (PlaceKnown device code tasks j) (sym (others j lt)) (all j (omega (arith, lt)))
      by j at (inr le) =
          let same : pc ≡ j = omega (arith, at, le) in
          subst (λ z. PlaceKnown device code tasks z (job_in new z)) same (subst (PlaceKnown device code tasks pc) (sym here) known)

-- ---- a place of the list is set

pub set_here : (jobs : List Job) (k : ℕ) (job : Job) → k < length jobs → job_in (slice_set jobs k job) k ≡ job
set_here [] k job lt = absurd (omega (arith, lt))
set_here (x ∷ jobs) zero job lt = refl
set_here (x ∷ jobs) (suc k) job lt = set_here jobs k job (omega (arith, lt))

pub set_others : (jobs : List Job) (k : ℕ) (job : Job) (j : ℕ) → k < j → job_in (slice_set jobs k job) j ≡ job_in jobs j
set_others [] k job j lt = refl
set_others (x ∷ jobs) zero job zero lt = absurd (omega (arith, lt))
set_others (x ∷ jobs) zero job (suc j) lt = refl
set_others (x ∷ jobs) (suc k) job zero lt = absurd (omega (arith, lt))
set_others (x ∷ jobs) (suc k) job (suc j) lt = set_others jobs k job j (omega (arith, lt))

pub set_length : (jobs : List Job) (k : ℕ) (job : Job) → length (slice_set jobs k job) ≡ length jobs
set_length [] k job = refl
set_length (x ∷ jobs) zero job = refl
set_length (x ∷ jobs) (suc k) job = ap suc (set_length jobs k job)

-- so far as the pass has come
pub record Passed (device : Device) (code : CodeValue) (tasks : ℕ) (jobs : List Job) (done : ℕ) : Type 0 where
  pub all : length jobs ≡ length code.instrs
  pub known : AllKnown device code tasks (length code.instrs - done) jobs

module _ (device : Device) (code : CodeValue) (tasks : ℕ) (short : tasks ≤ length code.instrs) where
  pub passed_starts : (jobs : List Job) → length jobs ≡ length code.instrs → Passed device code tasks jobs 0
  passed_starts jobs all = record { all = all; known = all_past device code tasks (length code.instrs - 0) jobs short (omega arith) }

  from_as : (jobs : List Job) (from from' : ℕ) → from ≡ from' → AllKnown device code tasks from jobs → AllKnown device code tasks from' jobs
  from_as jobs from from' e known = λ pc at. known pc (omega (arith, e, at))

  pub passed_later : (jobs now : List Job) (done len : ℕ) → now ≡ jobs → len ≡ length code.instrs → done < len → Passed device code tasks jobs done → AllKnown device code tasks (len - 1 - done + 1) now
  passed_later jobs now done len e is lt p =
      subst (AllKnown device code tasks (len - 1 - done + 1)) (sym e) (from_as jobs (length code.instrs - done) (len - 1 - done + 1) (omega (arith, is, lt)) p.known)

  pub passed_goes : (jobs : List Job) (done len : ℕ) (job : Job) → len ≡ length code.instrs → done < len → PlaceKnown device code tasks (len - 1 - done) job → Passed device code tasks jobs done → Passed device code tasks (slice_set jobs (len - 1 - done) job) (done + 1)
  passed_goes jobs done len job is lt known p =
      let pc = len - 1 - done in
      let new = slice_set jobs pc job in
      record {
        all = set_length jobs pc job ∙ p.all;
        known = from_as new pc (length code.instrs - (done + 1)) (omega (arith, is, lt)) (one_known device code tasks pc jobs new job (set_here jobs pc job (omega (arith, is, lt, p.all))) (λ j on. set_others jobs pc job j on) known (passed_later jobs jobs done len refl is lt p));
      }

  pub passed_ends : (jobs : List Job) (done len : ℕ) → len ≡ length code.instrs → len ≤ done → Passed device code tasks jobs done → AllKnown device code tasks 0 jobs
  passed_ends jobs done len is le p = from_as jobs (length code.instrs - done) 0 (omega (arith, is, le)) p.known
