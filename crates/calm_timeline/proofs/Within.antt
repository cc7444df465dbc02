-- Each chunk stays within its bounds.
use Rattle.std.proofs.Common.{◌≡◌, ℕ, ℤ, ◌+◌, ◌*◌, ◌≤◌, List, [], ◌∷◌, ◌++◌, length, refl, sym, ap, subst, ◌∙◌, arith, Bool, true, false, Some, None}
use Rattle.cat_program.specs.Checked.{Checked}
use Rattle.cat_machine.specs.declared.instr.Mode.{Mode}
use Rattle.cat_machine.specs.declared.instr.Mode.TheVariants.{Task, Handler}
use Rattle.cat_machine.specs.Code.{code_of}
use Rattle.cat_machine.specs.CodeValue.{CodeValue, EntryAt}
use Rattle.cat_machine.specs.Costs.{IsPathIn, place_cost, path_cost}
use Rattle.cat_machine.specs.Fits.{Fits}
use Rattle.cat_machine.specs.Held.{Held}
use Rattle.cat_machine.specs.Machine.{Ended', until, entered}
use Rattle.nv_memory.specs.declared.device.Class.{Class}
use Rattle.nv_memory.specs.declared.device.Class.TheVariants as class
use Rattle.nv_memory.specs.declared.device.Device.{Device}
use Rattle.nv_memory.specs.declared.entry.Op.TheVariants as op
use Rattle.nv_memory.specs.declared.entry.Entry.{Entry}
use Rattle.nv_memory.specs.Layout.{lines_of}
use Rattle.nv_memory.specs.AnyBoard.{cost_of}
use Rattle.nv_memory.specs.Board.{State}
use Rattle.nv_log.specs.declared.log.By.TheVariants as by
use Rattle.cost_bounds.specs.declared.job.Job.{Job as JobBound}
use Rattle.cost_bounds.specs.BoundsValue.{BoundsValue, job_at, longest_of}
use Rattle.cost_bounds.specs.Greatest.{units_of, ticks_of, RunsWithin, AreBounds}
use Rattle.event_queue.specs.declared.queue.Due.{Due}
use Rattle.cn_scheduler.specs.declared.plan.Plan.{Plan}
use Rattle.cn_scheduler.specs.declared.engine.Chunk.{Chunk}
use Rattle.cn_scheduler.specs.declared.engine.Chunk.TheVariants.{Ended}
use Rattle.cn_scheduler.specs.InForce.{version_of}
use Rattle.cn_scheduler.specs.Point.{Point, Work, held_of, slot_of}
use Rattle.cn_scheduler.specs.Paths.{run_outs, run_acts}
use Rattle.cn_scheduler.specs.Asked.{plain, recording, path_asks}
use Rattle.cn_scheduler.specs.Chunks.{task_limits, no_floor, commit_asks, wake_asks, ran_of, job_asks, after_job, Commits, JobAsks, SectionDoes, JobDoes, CheckpointDoes, WakeDoes, SleepDoes}
use Rattle.cn_scheduler.specs.Chunks.JobAsks.{Early, Late}
use Rattle.cn_scheduler.specs.Belongs.{BelongTogether}
use Rattle.calm_timeline.specs.Numbers.{IsPlanned}
use Rattle.calm_timeline.proofs.Asks.{Came, came, came_within, came_on, units_asked, ticks_asked, PassesAll}
use Rattle.calm_timeline.proofs.Costs.{units-append, ticks-append, path_units, path_ticks, commit_units, commit_ticks}

-- what the crates below say of runs
pub record RunsLaw : Type 0 where
  pub within : (p : Checked) (device : Device) (lines : ℕ) (b : BoundsValue) (h : Held) → AreBounds p device lines b → Fits p (code_of p) h → h.kept ≡ None → h.stack ≡ [] →
      RunsWithin p device lines b h
  pub in_code : (n : ℕ) (mode : Mode) (code : CodeValue) (h : Held) (run : Ended') → until n mode code h ≡ Some run → IsPathIn code run.path

-- the classes take the device's ticks on a board
pub record HasTicks (device : Device) (s : State) : Type 0 where
  pub ticks : (c : Class) → s.ticks c ≡ (cost_of device c).ticks
  pub some : (c : Class) → 1 ≤ s.ticks c

module _ (runs : RunsLaw) (program : Checked) (device : Device) (b : BoundsValue) (plan : Plan) (planned : IsPlanned program device b plan) where
  -- the engine's working value stands in the program's code
  fits_code : (p : Point) → BelongTogether program plan p → (payload : ℤ) → Fits program (code_of program) (held_of p.work payload)
  fits_code p belong payload =
      subst (λ (code : CodeValue). Fits program code (held_of p.work payload)) (belong.fits payload).code_is (belong.fits payload)

  runs_within : (p : Point) → BelongTogether program plan p → (payload : ℤ) → RunsWithin program device (lines_of plan.layout) b (held_of p.work payload)
  runs_within p belong payload = runs.within program device (lines_of plan.layout) b (held_of p.work payload) planned.bounds (fits_code p belong payload) refl refl

  pub section_came : (p q : Point) (outcome : Chunk) → BelongTogether program plan p → HasTicks device p.board → SectionDoes plan p outcome q →
      Came device p.board q.board b.section.units b.section.ticks outcome
  section_came p q outcome belong has does =
      let run : Ended' = does.run in
      let payload : ℤ = does.is_section.payload in
      let ends = does.is_section.ends in
      let in_code = runs.in_code 1000000 Task plan.code (held_of p.work payload) run ends in
      let code : plan.code ≡ code_of program = (belong.fits payload).code_is in
      let within = (runs_within p belong payload).section run (subst (λ (c : CodeValue). until 1000000 Task c (held_of p.work payload) ≡ Some run) code ends) in
      let units = path_units device plan.layout plan.code run.path p.work.len (run_outs run) in_code.0 in
      let ticks = path_ticks device p.board.ticks has.ticks plan.layout plan.code run.path p.work.len (run_outs run) in_code.0 in
      let same : path_cost (place_cost (units_of device) plan.code) run.path ≡ path_cost (place_cost (units_of device) (code_of program)) run.path =
      ap (λ (c : CodeValue). path_cost (place_cost (units_of device) c) run.path) code in
      let same' : path_cost (place_cost (ticks_of device) plan.code) run.path ≡ path_cost (place_cost (ticks_of device) (code_of program)) run.path =
      ap (λ (c : CodeValue). path_cost (place_cost (ticks_of device) c) run.path) code in
      let few = within.units in
      let short = within.ticks in
      came_within device p.board q.board (units_asked device (path_asks plan.layout p.work.len (run_acts plan.code run)))
      (ticks_asked p.board.ticks (path_asks plan.layout p.work.len (run_acts plan.code run))) b.section.units b.section.ticks outcome (omega arith) (omega arith)
      (came device (task_limits plan) (path_asks plan.layout p.work.len (run_acts plan.code run)) p.board q.board outcome has.some does.asked)

  commit_came : (w : Work) (old new : State) (outcome : Chunk) → HasTicks device old → Commits plan w old outcome new →
      Came device old new ((lines_of plan.layout + 1) * device.write.bound) ((lines_of plan.layout + 1) * device.write.ticks) outcome
  commit_came w old new outcome has asked =
      let units = commit_units device plan.layout (slot_of w) old.image in
      let ticks = commit_ticks device plan.layout (slot_of w) old.image old.ticks in
      let write : old.ticks class.Write ≡ device.write.ticks = has.ticks class.Write in
      let same = ap (λ (n : ℕ). (lines_of plan.layout + 1) * n) write in
      came_within device old new (units_asked device (commit_asks plan w old.image)) (ticks_asked old.ticks (commit_asks plan w old.image))
      ((lines_of plan.layout + 1) * device.write.bound) ((lines_of plan.layout + 1) * device.write.ticks) outcome units (omega arith)
      (came device (no_floor plan) (commit_asks plan w old.image) old new outcome has.some asked)

  pub checkpoint_came : (p q : Point) (outcome : Chunk) → HasTicks device p.board → CheckpointDoes plan p outcome q →
      Came device p.board q.board b.checkpoint.units b.checkpoint.ticks outcome
  checkpoint_came p q outcome has does =
      let units : b.checkpoint.units ≡ (lines_of plan.layout + 1) * device.write.bound = ap (λ (j : JobBound). j.units) planned.bounds.checkpoint in
      let ticks : b.checkpoint.ticks ≡ (lines_of plan.layout + 1) * device.write.ticks = ap (λ (j : JobBound). j.ticks) planned.bounds.checkpoint in
      came_within device p.board q.board ((lines_of plan.layout + 1) * device.write.bound) ((lines_of plan.layout + 1) * device.write.ticks) b.checkpoint.units b.checkpoint.ticks outcome
      (omega arith) (omega arith) (commit_came p.work p.board q.board outcome has does.asked)

  pub wake_came : (p q : Point) (outcome : Chunk) → HasTicks device p.board → WakeDoes plan p outcome q →
      Came device p.board q.board b.wake.units b.wake.ticks outcome
  wake_came p q outcome has does =
      let units : b.wake.units ≡ 1 * device.wake.bound = ap (λ (j : JobBound). j.units) planned.bounds.wake in
      let ticks : b.wake.ticks ≡ 1 * device.wake.ticks = ap (λ (j : JobBound). j.ticks) planned.bounds.wake in
      let wake : p.board.ticks class.Wake ≡ device.wake.ticks = has.ticks class.Wake in
      came_within device p.board q.board (units_asked device (plain op.Wake ∷ [])) (ticks_asked p.board.ticks (plain op.Wake ∷ [])) b.wake.units b.wake.ticks outcome
      (omega arith) (omega arith) (came device (no_floor plan) (plain op.Wake ∷ []) p.board q.board outcome has.some does.asked)

  pub sleep_came : (p q : Point) (outcome : Chunk) → HasTicks device p.board → SleepDoes plan p outcome q → Came device p.board q.board 0 (longest_of b) outcome
  sleep_came p q outcome has does =
      came_within device p.board q.board (units_asked device (plain op.Sleep ∷ [])) (ticks_asked p.board.ticks (plain op.Sleep ∷ [])) 0 (longest_of b) outcome
      (omega arith) (omega arith) (came device (no_floor plan) (plain op.Sleep ∷ []) p.board q.board outcome has.some does.asked)

  -- ---- jobs

  wake_units : (on : Bool) → units_asked device (wake_asks on) ≤ device.wake.bound
  wake_units true = omega arith
  wake_units false = omega arith

  wake_ticks : (ticks : Class → ℕ) (on : Bool) → ticks_asked ticks (wake_asks on) ≤ ticks class.Wake
  wake_ticks ticks true = omega arith
  wake_ticks ticks false = omega arith

  has_still : (entries : List Entry) (old new : State) → PassesAll old entries new → HasTicks device old → HasTicks device new
  has_still [] old new same has = subst (λ (s : State). HasTicks device s) (sym same) has
  has_still (e ∷ entries) old new passes has =
      has_still entries passes.0 new passes.2
      (record {
        ticks = λ c. ap (λ (t : Class → ℕ). t c) passes.1.ticks ∙ has.ticks c;
        some = λ c. subst (λ (t : Class → ℕ). 1 ≤ t c) (sym passes.1.ticks) (has.some c);
      })

  -- up to a job's own record
  record Handled (p : Point) (due : Due) (run : Ended') (job : JobBound) : Type 0 where
    units : units_asked device (job_asks plan p due run) + (lines_of plan.layout + 1) * device.write.bound ≤ job.units
    ticks : ticks_asked p.board.ticks (job_asks plan p due run) + (lines_of plan.layout + 1) * device.write.ticks ≤ job.ticks

  handled : (p q : Point) (due : Due) (outcome : Chunk) (job : JobBound) → BelongTogether program plan p → HasTicks device p.board →
      job_at b due.event (version_of plan.rows due) ≡ Some job → (does : JobDoes plan p due outcome q) → Handled p due does.run job
  handled p q due outcome job belong has is_job does =
      let run : Ended' = does.run in
      let payload : ℤ = does.is_handler.payload in
      let entry : ℕ = does.is_handler.entry in
      let ends = does.is_handler.ends in
      let in_code = runs.in_code 1000000 Handler plan.code (entered (held_of p.work payload) entry due.payload) run ends in
      let code : plan.code ≡ code_of program = (belong.fits payload).code_is in
      let within = (runs_within p belong payload).handler due.event (version_of plan.rows due) entry due.payload run job
      (subst (λ (c : CodeValue). EntryAt c due.event (version_of plan.rows due) entry) code does.is_handler.there)
      (subst (λ (c : CodeValue). until 1000000 Handler c (entered (held_of p.work payload) entry due.payload) ≡ Some run) code ends) is_job in
      let units = path_units device plan.layout plan.code run.path p.work.len (run_outs run) in_code.0 in
      let ticks = path_ticks device p.board.ticks has.ticks plan.layout plan.code run.path p.work.len (run_outs run) in_code.0 in
      let same : path_cost (place_cost (units_of device) plan.code) run.path ≡ path_cost (place_cost (units_of device) (code_of program)) run.path =
      ap (λ (c : CodeValue). path_cost (place_cost (units_of device) c) run.path) code in
      let same' : path_cost (place_cost (ticks_of device) plan.code) run.path ≡ path_cost (place_cost (ticks_of device) (code_of program)) run.path =
      ap (λ (c : CodeValue). path_cost (place_cost (ticks_of device) c) run.path) code in
      let front : units_asked device (job_asks plan p due does.run) ≡ units_asked device (wake_asks p.board.on ++ path_asks plan.layout p.work.len (run_acts plan.code run)) + (device.write.bound + 0) =
      units-append device (wake_asks p.board.on ++ path_asks plan.layout p.work.len (run_acts plan.code run)) (recording plan.layout (p.work.len + length (run_outs run)) (ran_of plan p due) by.Write ∷ []) in
      let back = units-append device (wake_asks p.board.on) (path_asks plan.layout p.work.len (run_acts plan.code run)) in
      let front' : ticks_asked p.board.ticks (job_asks plan p due does.run) ≡ ticks_asked p.board.ticks (wake_asks p.board.on ++ path_asks plan.layout p.work.len (run_acts plan.code run)) + (p.board.ticks class.Write + 0) =
      ticks-append p.board.ticks (wake_asks p.board.on ++ path_asks plan.layout p.work.len (run_acts plan.code run)) (recording plan.layout (p.work.len + length (run_outs run)) (ran_of plan p due) by.Write ∷ []) in
      let back' = ticks-append p.board.ticks (wake_asks p.board.on) (path_asks plan.layout p.work.len (run_acts plan.code run)) in
      let wake = wake_units p.board.on in
      let wake' = wake_ticks p.board.ticks p.board.on in
      let wake_is : p.board.ticks class.Wake ≡ device.wake.ticks = has.ticks class.Wake in
      let write_is : p.board.ticks class.Write ≡ device.write.ticks = has.ticks class.Write in
      let few : 1 * device.wake.bound + path_cost (place_cost (units_of device) (code_of program)) run.path + (lines_of plan.layout + 2) * device.write.bound ≤ job.units = within.units in
      let short : 1 * device.wake.ticks + path_cost (place_cost (ticks_of device) (code_of program)) run.path + (lines_of plan.layout + 2) * device.write.ticks ≤ job.ticks = within.ticks in
      record { units = omega arith; ticks = omega arith }

  pub job_came : (p q : Point) (due : Due) (outcome : Chunk) (job : JobBound) → BelongTogether program plan p → HasTicks device p.board →
      job_at b due.event (version_of plan.rows due) ≡ Some job → (does : JobDoes plan p due outcome q) → Came device p.board q.board job.units job.ticks outcome
  job_came p q due outcome job belong has is_job does = go does.asks
    where
      all : Handled p due does.run job
      all = handled p q due outcome job belong has is_job does

      go : JobAsks plan p due does.run outcome q.board → Came device p.board q.board job.units job.ticks outcome
      go (Early other asked) =
          let units = all.units in
          let ticks = all.ticks in
          came_within device p.board q.board (units_asked device (job_asks plan p due does.run)) (ticks_asked p.board.ticks (job_asks plan p due does.run)) job.units job.ticks outcome
          (omega arith) (omega arith) (came device (no_floor plan) (job_asks plan p due does.run) p.board q.board outcome has.some asked)
      go (Late mid asked outs own saved commits) =
          let first = came device (no_floor plan) (job_asks plan p due does.run) p.board mid Ended has.some asked in
          let second = commit_came (after_job p.work due does.run) mid q.board outcome (has_still first.entries p.board mid first.passes has) commits in
          came_within device p.board q.board (units_asked device (job_asks plan p due does.run) + (lines_of plan.layout + 1) * device.write.bound)
          (ticks_asked p.board.ticks (job_asks plan p due does.run) + (lines_of plan.layout + 1) * device.write.ticks) job.units job.ticks outcome all.units all.ticks
          (came_on device p.board mid q.board (units_asked device (job_asks plan p due does.run)) (ticks_asked p.board.ticks (job_asks plan p due does.run))
          ((lines_of plan.layout + 1) * device.write.bound) ((lines_of plan.layout + 1) * device.write.ticks) outcome first second)
