-- What holds of objects that can be run.
use Rattle.std.proofs.Common.{◌≡◌, ℕ, zero, suc, ◌<◌, ◌≤◌, List, [], ◌∷◌, length, refl, sym, ◌∙◌, ap, subst, arith}
use Rattle.std.specs.Prelude.{Option, Some, None, MatchOption, slice_get, unwrap_or}
use Rattle.cat_program.specs.Meaning.{Output}
use Rattle.cat_program.specs.declared.syntax.Stepped.{Stepped}
use Rattle.cat_program.specs.declared.syntax.Stepped.TheVariants.{None as NoStep}
use Rattle.nv_memory.specs.declared.device.Device.{Device}
use Rattle.cat_machine.specs.declared.instr.Did.{Did}
use Rattle.cat_machine.specs.declared.instr.Mode.{Mode}
use Rattle.cat_machine.specs.declared.instr.Mode.TheVariants.{Task, Handler}
use Rattle.cat_machine.specs.CodeValue.{CodeValue}
use Rattle.cat_machine.specs.Held.{Held}
use Rattle.cat_machine.specs.Machine.{Ended', Stepping, after_step, next_of, prepended, step_at, step_of, until}
use Rattle.cat_machine.specs.Fits.{stepped_of}
use Rattle.cost_bounds.specs.declared.job.Job.{Job}
use Rattle.cost_bounds.specs.BoundsValue.{BoundsValue}
use Rattle.cost_bounds.specs.Paths.{SectionFrom, HandlerFrom}
use Rattle.cost_bounds.specs.Greatest.{whole_job, IsWithin}
use Rattle.cost_bounds.specs.Pass.{tasks_in, AreMade}
use Rattle.cn_object.specs.declared.object.Object.{Object}
use Rattle.cn_object.specs.Regions.{version_entries}
use Rattle.cn_object.specs.Verified.{IsVerified}
use Rattle.cn_object.specs.Sums.{HandlerSums}
use Rattle.object_runs.specs.Resting.{IsAtRest, IsResting, IsRunnable}
use Rattle.object_runs.specs.Running.{Answers, Enough, Over, Goes, IsSection, SectionGives}
use Rattle.object_runs.specs.Whole.{RunsWell, IsReached, First, BySection, ByHandler, IsStart, AtSection, AtHandler, Follows, Same, Further}
use Rattle.object_runs.specs.Bounds.{lines_for, spent_in, IsSectionPath, AreBoundsIn, AreBoundsOf, CostsWithin}
use Rattle.object_runs.proofs.Places.{some_same}
use Rattle.object_runs.proofs.Runs.{until_more}
use Rattle.object_runs.proofs.Tasks.{rest_stands, stands_task}
use Rattle.object_runs.proofs.Handlers.{NeverStuck, entry_found, handler_ends}
use Rattle.object_runs.proofs.Sections.{section_ends}
use Rattle.object_runs.proofs.Greatest.{are_bounds, tasks_same}

abbrev pub HaveSums : Type 0
HaveSums = (words tasks : ℕ) (code : CodeValue) (k entry : ℕ) → IsVerified words tasks code → slice_get (version_entries code) k ≡ Some entry → HandlerSums code entry

-- ---- any verified code

pub runs_well : NeverStuck → HaveSums → (words tasks : ℕ) (code : CodeValue) (h : Held) → IsVerified words tasks code → length code.tasks ≡ tasks → length code.instrs ≤ 60000 → IsResting words tasks code h → RunsWell words tasks code h
runs_well stuck sums words tasks code h v counted short rest = record {
  section = λ pc next. section_ends words tasks code v counted stuck h pc short rest next;
  handler = λ event version entry payload at. let k = entry_found code event version entry at in handler_ends words tasks code v counted stuck h k.0 entry payload rest k.1 (sums words tasks code k.0 entry v k.1);
}

-- ---- runs of instructions

-- a run that ends has a next place, and an instruction there that finds what it needs
module _ (mode : Mode) (code : CodeValue) where
  next_by : (h : Held) (n : ℕ) (run : Ended') (o : Option ℕ) → next_of code h ≡ o → until (suc n) mode code h ≡ Some run → (pc : ℕ) × (next_of code h ≡ Some pc)
  unfolding until
  next_by h n run None e ends = absurd (let none : None ≡ Some run = sym (ap (λ z. after_step mode (until n mode code) (unwrap_or z 0) (step_at mode code h z)) e) ∙ ends in cc)
  next_by h n run (Some pc) e ends = (pc, e)

  pub next_is : (h : Held) (n : ℕ) (run : Ended') → until n mode code h ≡ Some run → (pc : ℕ) × (next_of code h ≡ Some pc)
  unfolding until
  next_is h zero run ends = absurd (let none : None ≡ Some run = ends in cc)
  next_is h (suc n) run ends = next_by h n run (next_of code h) refl ends

  step_by : (h : Held) (n : ℕ) (run : Ended') (o : Option Stepping) → step_of mode code h ≡ o → until (suc n) mode code h ≡ Some run → (s : Stepping) × (step_of mode code h ≡ Some s)
  unfolding until
  step_by h n run None e ends = absurd (let none : None ≡ Some run = sym (ap (after_step mode (until n mode code) (unwrap_or (next_of code h) 0)) e) ∙ ends in cc)
  step_by h n run (Some s) e ends = (s, e)

  step_is : (h : Held) (n : ℕ) (run : Ended') → until n mode code h ≡ Some run → (s : Stepping) × (step_of mode code h ≡ Some s)
  unfolding until
  step_is h zero run ends = absurd (let none : None ≡ Some run = ends in cc)
  step_is h (suc n) run ends = step_by h n run (step_of mode code h) refl ends

  -- what follows an instruction ends too
  rest_by : (pc : ℕ) (outs : List Output) (run : Ended') (o : Option Ended') → prepended (pc ∷ []) outs o ≡ Some run → (e : Ended') × (o ≡ Some e)
  rest_by pc outs run None ends = absurd (let none : None ≡ Some run = ends in cc)
  rest_by pc outs run (Some e) ends = (e, refl)

  none_ends : (h : Held) (run : Ended') → until 0 mode code h ≡ Some run → ⊥
  unfolding until
  none_ends h run e = let none : None ≡ Some run = e in cc

  -- wherever it has come to, the next instruction finds what it needs
  pub finds_each : {h now : Held} → Follows mode code h now → (n : ℕ) (run : Ended') → until n mode code h ≡ Some run → (s : Stepping) × (step_of mode code now ≡ Some s)
  finds_each (Same {h}) n run ends = step_is h n run ends
  finds_each (Further {h} {now} s outs step goes rest) zero run ends = absurd (none_ends h run ends)
  finds_each (Further {h} {now} s outs step goes rest) (suc n) run ends =
      let pc = next_is h (suc n) run ends in
      let more = until_more mode code h pc.0 s pc.1 step n (Some outs) goes in
      let after = rest_by pc.0 outs run (until n mode code s.after) (sym more ∙ ends) in
      finds_each rest n after.0 after.1

-- ---- an object

pub counted_as : (o : Object) → IsRunnable o → IsVerified (length o.words) (length o.started) o.code
counted_as o r = subst (λ z. IsVerified (length o.words) z o.code) (sym r.small.started) r.verified

pub object_well : NeverStuck → HaveSums → (o : Object) (h : Held) → IsRunnable o → IsAtRest o h → RunsWell (length o.words) (length o.started) o.code h
object_well stuck sums o h r rest = runs_well stuck sums (length o.words) (length o.started) o.code h (counted_as o r) (sym r.small.started) r.small.count rest

-- what a section that was run gives
pub section_gives : NeverStuck → HaveSums → (o : Object) (h : Held) (pc : ℕ) (run : Ended') (did : Did) (answer : Stepped) (new : Held) → IsRunnable o → IsAtRest o h → next_of o.code h ≡ Some pc → until 1000000 Task o.code h ≡ Some run → run.did ≡ did → run.after ≡ new → answer ≡ stepped_of did
    → SectionGives o.code h answer new × IsAtRest o new
section_gives stuck sums o h pc run did answer new r rest next ends did_is after_is answer_is =
    let s = (object_well stuck sums o h r rest).section pc next in
    let same : s.run ≡ run = some_same s.run run (sym s.is.ends ∙ ends) in (
      subst (λ z. MatchOption z ((answer ≡ NoStep) × (new ≡ h)) (λ p. (e : Ended') × IsSection o.code h p e × (answer ≡ stepped_of e.did) × (new ≡ e.after))) (sym next)
          (run, record { ends = ends; path = subst (λ (e : Ended'). SectionFrom o.code pc e.path) same s.is.path }, answer_is ∙ ap stepped_of (sym did_is), sym after_is),
      subst (IsAtRest o) after_is (subst (λ (e : Ended'). IsAtRest o e.after) same s.rests),
    )

reached_rests : NeverStuck → HaveSums → (o : Object) → IsRunnable o → {h : Held} → IsReached o h → IsAtRest o h
reached_rests stuck sums o r First = record { shape = record { words_are = refl; posts_are = refl }; place = tt; free = refl; empty = refl }
reached_rests stuck sums o r (BySection {h} run before ends) =
    let rest = reached_rests stuck sums o r before in
    let pc = next_is Task o.code h 1000000 run ends in
    let s = (object_well stuck sums o h r rest).section pc.0 pc.1 in
    subst (λ (e : Ended'). IsAtRest o e.after) (some_same s.run run (sym s.is.ends ∙ ends)) s.rests
reached_rests stuck sums o r (ByHandler {h} event version entry payload run before at ends) =
    let rest = reached_rests stuck sums o r before in
    let s = (object_well stuck sums o h r rest).handler event version entry payload at in
    subst (λ (e : Ended'). IsAtRest o e.after) (some_same s.run run (sym s.ends ∙ ends)) s.rests

pub objects_run : NeverStuck → HaveSums → (o : Object) (h : Held) → IsRunnable o → IsReached o h → RunsWell (length o.words) (length o.started) o.code h
objects_run stuck sums o h r reached = object_well stuck sums o h r (reached_rests stuck sums o r reached)

start_finds : (o : Object) (h start now : Held) (mode : Mode) → RunsWell (length o.words) (length o.started) o.code h → IsStart o.code h mode start → Follows mode o.code start now → (s : Stepping) × (step_of mode o.code now ≡ Some s)
start_finds o h _ now _ w (AtSection pc next) follows = let s = w.section pc next in finds_each Task o.code follows 1000000 s.run s.is.ends
start_finds o h _ now _ w (AtHandler event version entry payload at) follows = let s = w.handler event version entry payload at in finds_each Handler o.code follows 1000000 s.run s.ends

pub each_finds : NeverStuck → HaveSums → (o : Object) (h start now : Held) (mode : Mode) → IsRunnable o → IsReached o h → IsStart o.code h mode start → Follows mode o.code start now → (s : Stepping) × (step_of mode o.code now ≡ Some s)
each_finds stuck sums o h start now mode r reached begins follows = start_finds o h start now mode (objects_run stuck sums o h r reached) begins follows

-- ---- what it costs

pub bounds_of : HaveSums → (o : Object) (device : Device) (lines : ℕ) (b : BoundsValue) → IsRunnable o → lines < 4294967296 → lines ≡ lines_for o → AreMade o.code device lines (tasks_in o.code) b → AreBoundsOf o device b
bounds_of sums o device lines b r fits same made =
    let made' = subst (λ z. AreMade o.code device lines z b) (tasks_same (length o.words) (length o.code.tasks) o.code r.verified r.small.versions) made in
    subst (λ z. AreBoundsIn o.code device z b) same (are_bounds device lines fits (length o.words) (length o.code.tasks) o.code r.verified r.small.count b made'
    (λ event version entry at. let k = entry_found o.code event version entry at in sums (length o.words) (length o.code.tasks) o.code k.0 entry r.verified k.1))

more_whole : (device : Device) (lines : ℕ) (a b : Job) → IsWithin a b → IsWithin (whole_job device lines a) (whole_job device lines b)
more_whole device lines a b w = record { units = omega (arith, w.units); ticks = omega (arith, w.ticks) }

pub costs_within : NeverStuck → HaveSums → (o : Object) (device : Device) (b : BoundsValue) (h : Held) → IsRunnable o → AreBoundsOf o device b → IsReached o h → CostsWithin o device b h
costs_within stuck sums o device b h r bounds reached =
    let rest = reached_rests stuck sums o r reached in
    let well = object_well stuck sums o h r rest in
    let v = counted_as o r in
    record {
      section = λ run ends.
          let pc = next_is Task o.code h 1000000 run ends in
          let s = well.section pc.0 pc.1 in
          let same : s.run ≡ run = some_same s.run run (sym s.is.ends ∙ ends) in
          let low = (stands_task (length o.words) (length o.started) o.code v h pc.0 (rest_stands (length o.words) (length o.started) o.code v h rest.free rest.empty rest.place) rest.free pc.1).low in
          let path : IsSectionPath o.code run.path = record { from = pc.0; within = low; is = subst (λ (e : Ended'). SectionFrom o.code pc.0 e.path) same s.is.path } in
          record { units = bounds.section.units.upper run.path path; ticks = bounds.section.ticks.upper run.path path };
      handler = λ event version entry payload run job at ends job_is.
          let s = well.handler event version entry payload at in
          let same : s.run ≡ run = some_same s.run run (sym s.ends ∙ ends) in
          let path = subst (λ (e : Ended'). HandlerFrom o.code entry [] e.path) same s.path in
          let j = bounds.jobs event version entry job at job_is in
          subst (IsWithin (whole_job device (lines_for o) (spent_in device o.code run.path))) (sym j.whole)
          (more_whole device (lines_for o) (spent_in device o.code run.path) j.handler (record { units = j.greatest.units.upper run.path path; ticks = j.greatest.ticks.upper run.path path }));
    }

-- ---- one run

one_answers : (code : CodeValue) {most : ℕ} {h : Held} {a b : List Stepped} → Answers code most h a → Answers code most h b → a ≡ b
one_answers code Enough Enough = refl
one_answers code Enough (Over none) = refl
one_answers code (Over none) Enough = refl
one_answers code (Over none) (Over also) = refl
one_answers code (Over none) (Goes pc run next ends rest) = absurd (let clash : None ≡ Some pc = sym none ∙ next in cc)
one_answers code (Goes pc run next ends rest) (Over none) = absurd (let clash : None ≡ Some pc = sym none ∙ next in cc)
one_answers code (Goes {most} {h} {answers = a} pc run next ends rest) (Goes {answers = b} pc' run' next' ends' rest') =
    let same : run' ≡ run = some_same run' run (sym ends' ∙ ends) in
    let tail : a ≡ b = one_answers code rest (subst (λ (e : Ended'). Answers code most e.after b) same rest') in
    ap (λ (e : Ended'). stepped_of e.did ∷ a) (sym same) ∙ ap (λ l. stepped_of run'.did ∷ l) tail

pub one_run : (code : CodeValue) (most : ℕ) (h : Held) (a b : List Stepped) → Answers code most h a → Answers code most h b → a ≡ b
one_run code most h a b p q = one_answers code p q
