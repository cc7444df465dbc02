-- A chunk as the deadlines rest on it.
use Rattle.std.proofs.Common.{◌≡◌, ◌≢◌, ℕ, ◌+◌, ◌<◌, ◌≤◌, inl, inr, List, [], ◌∷◌, length, refl, sym, ap, subst, ◌∙◌, arith, Bool, true, false, nat_eq, if◌then◌else◌, Option, le_refl, get_or-set_same, get_or-set_other}
use Rattle.std.specs.Prelude.{slice_index, slice_set}
use Rattle.std.specs.Option.{option_map_or}
use Rattle.std.proofs.lemmas.Bool.{cases_eq}
use Rattle.std.proofs.lemmas.Bool.Decides.{nat_tests}
use Rattle.cat_program.specs.Checked.{Checked}
use Rattle.cat_machine.specs.Machine.{Ended'}
use Rattle.nv_memory.specs.declared.device.Device.{Device}
use Rattle.nv_memory.specs.declared.entry.Op.TheVariants as op
use Rattle.nv_memory.specs.Board.{State}
use Rattle.checkpoint_slots.specs.Image.{committed_slot}
use Rattle.event_queue.specs.declared.queue.Due.{Due}
use Rattle.event_queue.specs.Queue.{IsDue, arrival_of}
use Rattle.cost_bounds.specs.BoundsValue.{BoundsValue, job_at, longest_of}
use Rattle.calm_stretch.specs.Moment.{Doing, taken_in}
use Rattle.calm_stretch.specs.Moment.Doing.{Section as DoSection}
use Rattle.cn_scheduler.specs.declared.plan.Plan.{Plan}
use Rattle.cn_scheduler.specs.declared.plan.PlanRow.{PlanRow}
use Rattle.cn_scheduler.specs.declared.choice.Choice.{Choice}
use Rattle.cn_scheduler.specs.declared.choice.Choice.TheVariants.{Job, Section, Checkpoint, Wake, Sleep}
use Rattle.cn_scheduler.specs.declared.engine.Chunk.{Chunk}
use Rattle.cn_scheduler.specs.declared.engine.Chunk.TheVariants.{Ended, Dropped, Lost, Over, Full}
use Rattle.cn_scheduler.specs.InForce.{floor_in, floor_at, need_in, version_of, version_in}
use Rattle.cn_scheduler.specs.Point.{Point, Work, work_of, held_of}
use Rattle.cn_scheduler.specs.Policy.{Chooses, IsNextDue}
use Rattle.cn_scheduler.specs.Paths.{run_outs, run_acts, acts_of}
use Rattle.cat_program.specs.Meaning.{Output}
use Rattle.cat_machine.specs.CodeValue.{CodeValue}
use Rattle.cat_machine.specs.declared.instr.Mode.TheVariants.{Task}
use Rattle.nv_memory.specs.declared.layout.Layout.{Layout}
use Rattle.cn_scheduler.specs.Asked.{plain, path_asks, Asked}
use Rattle.cn_scheduler.specs.Chunks.{is_last, no_floor, task_limits, commit_asks, after_section, after_job, Leaves, SectionDoes, JobDoes, CheckpointDoes, WakeDoes, SleepDoes, Does}
use Rattle.cn_scheduler.specs.Belongs.{IsPlanOf, BelongTogether}
use Rattle.calm_timeline.specs.Numbers.{base_with, IsPlanned}
use Rattle.calm_timeline.proofs.Asks.{Came, came_within}
use Rattle.calm_timeline.proofs.Warrants.{warranted}
use Rattle.calm_timeline.proofs.Setting.{doing_of, units_for, ticks_for, event_within, in_force_at}
use Rattle.calm_timeline.proofs.Begins.{ArrivalLaws, due_facts}
use Rattle.calm_timeline.proofs.Within.{RunsLaw, HasTicks, section_came, job_came, checkpoint_came, wake_came, sleep_came}
use Rattle.calm_timeline.proofs.Moves.{moves, commit_moves, job_moves, job_not_dropped, not_dropped}

-- ---- what a chunk leaves

leaves_dirty : (plan : Plan) (p q : Point) (next : Work) (dirty : Bool) (outcome : Chunk) → Leaves plan p next dirty outcome q → is_last outcome ≡ false → outcome ≢ Dropped →
    dirty ≡ false → q.dirty ≡ false
leaves_dirty plan p q next dirty Ended leaves goes kept clean = leaves.1 ∙ clean
leaves_dirty plan p q next dirty Dropped leaves goes kept clean = absurd (kept refl)
leaves_dirty plan p q next dirty Lost leaves goes kept clean = leaves.clean
leaves_dirty plan p q next dirty Over leaves goes kept clean = absurd (cc)
leaves_dirty plan p q next dirty Full leaves goes kept clean = absurd (cc)

leaves_work : (plan : Plan) (p q : Point) (next : Work) (dirty : Bool) (outcome : Chunk) → Leaves plan p next dirty outcome q → is_last outcome ≡ false → outcome ≢ Lost → outcome ≢ Dropped →
    q.work ≡ next
leaves_work plan p q next dirty Ended leaves goes kept whole = leaves.0
leaves_work plan p q next dirty Dropped leaves goes kept whole = absurd (whole refl)
leaves_work plan p q next dirty Lost leaves goes kept whole = absurd (kept refl)
leaves_work plan p q next dirty Over leaves goes kept whole = absurd (cc)
leaves_work plan p q next dirty Full leaves goes kept whole = absurd (cc)

section_done : (plan : Plan) (p q : Point) (run : Ended') (outcome : Chunk) → Leaves plan p (after_section p.work run) true outcome q → is_last outcome ≡ false → outcome ≢ Lost →
    q.work.done ≡ p.work.done
section_done plan p q run Ended leaves goes kept = ap (λ (w : Work). w.done) leaves.0
section_done plan p q run Dropped leaves goes kept = ap (λ (w : Work). w.done) leaves.0
section_done plan p q run Lost leaves goes kept = absurd (kept refl)
section_done plan p q run Over leaves goes kept = absurd (cc)
section_done plan p q run Full leaves goes kept = absurd (cc)

-- one more of an event
raised_at : (done : List ℕ) (j e : ℕ) → j < length done →
    slice_index (slice_set done j (slice_index done j + 1)) e ≡ (if nat_eq e j then slice_index done e + 1 else slice_index done e)
raised_at done j e within =
    elim (cases_eq e j) [
      | inl same ↦
          let yes' : nat_eq e j ≡ true = grind (arith, nat_tests) in
          let here : slice_index (slice_set done j (slice_index done j + 1)) j ≡ slice_index done j + 1 = get_or-set_same done j (slice_index done j + 1) 0 within in
          rw yes' (subst (λ (i : ℕ). slice_index (slice_set done j (slice_index done j + 1)) i ≡ slice_index done i + 1) (sym same) here)
      | inr other ↦
          let no' : nat_eq e j ≡ false = grind (arith, nat_tests) in
          rw no' (get_or-set_other done j e (slice_index done j + 1) 0 other)
    ]

-- a path asks for something
some_path : (l : Layout) (code : CodeValue) (path : List ℕ) (at : ℕ) (outs : List Output) → 0 < length path → 0 < length (path_asks l at (acts_of code path outs))
some_path l code [] at outs some = absurd (omega arith)
some_path l code (pc ∷ path) at outs some = omega arith

-- sleep changes nothing of the image
slept : (plan : Plan) (old new : State) → Asked (no_floor plan) old (plain op.Sleep ∷ []) Ended new → new.image ≡ old.image
slept plan old new asked =
    elim asked [
      | inl stops ↦ absurd stops
      | inr goes ↦ ap (λ (s : State). s.image) goes.2 ∙ ap (λ (s : State). s.image) goes.1.done.becomes
    ]

module _ (laws : ArrivalLaws) (runs : RunsLaw) (program : Checked) (device : Device) (b : BoundsValue) (plan : Plan) (p q origin : ℕ) (final : State)
    (planned : IsPlanned program device b plan) (plan_is : IsPlanOf program plan) where
  pub record Goes (pt : Point) (choice : Choice) (outcome : Chunk) (qt : Point) : Type 0 where
    pub came : Came device pt.board qt.board (units_for plan (base_with b device p q) choice) (ticks_for plan (base_with b device p q) choice) outcome
    pub moves_on : is_last outcome ≡ false → pt.board.tick < qt.board.tick
    pub dirty : is_last outcome ≡ false → qt.dirty ≡ true → doing_of choice ≡ DoSection
    pub done : is_last outcome ≡ false → outcome ≢ Lost → (e : ℕ) → slice_index qt.work.done e ≡ taken_in (doing_of choice) (λ i. slice_index pt.work.done i) e

  never_dirty : (d : Bool) (doing : Doing) → d ≡ false → d ≡ true → doing ≡ DoSection
  never_dirty d doing clean is = absurd (cc)

  section_goes : (pt qt : Point) (outcome : Chunk) → BelongTogether program plan pt → HasTicks device pt.board → Chooses plan pt Section → SectionDoes plan pt outcome qt → Goes pt Section outcome qt
  section_goes pt qt outcome belong has chosen does =
      let f = in_force_at program device b plan p q planned plan_is pt.board.tick in
      let warrant = warranted plan pt chosen.next Section chosen.choice_is in
      let need : f.row.numbers.reserve + f.row.numbers.checkpoint + f.row.numbers.section ≤ pt.board.stored =
      subst (λ (o : Option PlanRow). option_map_or need_in o 0 ≤ pt.board.stored) f.is warrant.1 in
      let high : floor_at plan.rows pt.board.tick ≤ pt.board.stored =
      subst (λ (o : Option PlanRow). option_map_or floor_in o 0 ≤ pt.board.stored) (sym f.is) (omega arith) in
      let in_code = runs.in_code 1000000 Task plan.code (held_of pt.work does.is_section.payload) does.run does.is_section.ends in
      record {
        came = came_within device pt.board qt.board b.section.units b.section.ticks b.section.units (longest_of b) outcome (le_refl b.section.units) (omega arith)
            (section_came runs program device b plan planned pt qt outcome belong has does);
        moves_on = λ goes. moves device (task_limits plan) (path_asks plan.layout pt.work.len (run_acts plan.code does.run)) pt.board qt.board outcome has.some
            (some_path plan.layout plan.code does.run.path pt.work.len (run_outs does.run) in_code.1) high goes does.asked;
        dirty = λ goes is. refl;
        done = λ goes kept e. ap (λ (ds : List ℕ). slice_index ds e) (section_done plan pt qt does.run outcome does.leaves goes kept);
      }

  checkpoint_goes : (pt qt : Point) (outcome : Chunk) → HasTicks device pt.board → CheckpointDoes plan pt outcome qt → Goes pt Checkpoint outcome qt
  checkpoint_goes pt qt outcome has does =
      let whole : outcome ≢ Dropped = λ is. not_dropped plan (commit_asks plan pt.work pt.board.image) pt.board qt.board
      (subst (λ (o : Chunk). Asked (no_floor plan) pt.board (commit_asks plan pt.work pt.board.image) o qt.board) is does.asked) in
      record {
        came = came_within device pt.board qt.board b.checkpoint.units b.checkpoint.ticks b.checkpoint.units (longest_of b) outcome (le_refl b.checkpoint.units) (omega arith)
            (checkpoint_came runs program device b plan planned pt qt outcome has does);
        moves_on = λ goes. commit_moves device plan pt.work pt.board qt.board outcome has.some goes does.asked;
        dirty = λ goes is. never_dirty qt.dirty (doing_of Checkpoint) (leaves_dirty plan pt qt pt.work false outcome does.leaves goes whole refl) is;
        done = λ goes kept e. ap (λ (w : Work). slice_index w.done e) (leaves_work plan pt qt pt.work false outcome does.leaves goes kept whole);
      }

  wake_goes : (pt qt : Point) (outcome : Chunk) → BelongTogether program plan pt → HasTicks device pt.board → Chooses plan pt Wake → WakeDoes plan pt outcome qt → Goes pt Wake outcome qt
  wake_goes pt qt outcome belong has chosen does =
      let warrant = warranted plan pt chosen.next Wake chosen.choice_is in
      let whole : outcome ≢ Dropped = λ is. not_dropped plan (plain op.Wake ∷ []) pt.board qt.board
      (subst (λ (o : Chunk). Asked (no_floor plan) pt.board (plain op.Wake ∷ []) o qt.board) is does.asked) in
      record {
        came = came_within device pt.board qt.board b.wake.units b.wake.ticks b.wake.units (longest_of b) outcome (le_refl b.wake.units) (omega arith)
            (wake_came runs program device b plan planned pt qt outcome has does);
        moves_on = λ goes. moves device (no_floor plan) (plain op.Wake ∷ []) pt.board qt.board outcome has.some (omega arith) (omega arith) goes does.asked;
        dirty = λ goes is. never_dirty qt.dirty (doing_of Wake) (leaves_dirty plan pt qt pt.work pt.dirty outcome does.leaves goes whole (is_clean warrant.1 pt.dirty refl)) is;
        done = λ goes kept e. ap (λ (w : Work). slice_index w.done e) (leaves_work plan pt qt pt.work pt.dirty outcome does.leaves goes kept whole);
      }
    where
      is_clean : pt.board.on ≡ false → (d : Bool) → pt.dirty ≡ d → d ≡ false
      is_clean off true is = absurd (let lit : pt.board.on ≡ true = belong.on is in cc)
      is_clean off false is = refl

  sleep_goes : (pt qt : Point) (outcome : Chunk) → BelongTogether program plan pt → HasTicks device pt.board → Chooses plan pt Sleep → SleepDoes plan pt outcome qt → Goes pt Sleep outcome qt
  sleep_goes pt qt outcome belong has chosen does =
      let warrant = warranted plan pt chosen.next Sleep chosen.choice_is in
      let whole : outcome ≢ Dropped = λ is. not_dropped plan (plain op.Sleep ∷ []) pt.board qt.board
      (subst (λ (o : Chunk). Asked (no_floor plan) pt.board (plain op.Sleep ∷ []) o qt.board) is does.asked) in
      record {
        came = sleep_came runs program device b plan planned pt qt outcome has does;
        moves_on = λ goes. moves device (no_floor plan) (plain op.Sleep ∷ []) pt.board qt.board outcome has.some (omega arith) (omega arith) goes does.asked;
        dirty = λ goes is. never_dirty qt.dirty (doing_of Sleep)
            (leaves_dirty plan pt qt (work_of (committed_slot plan.layout qt.board.image)) false outcome does.leaves goes whole refl) is;
        done = λ goes kept e. ap (λ (w : Work). slice_index w.done e)
            (leaves_work plan pt qt (work_of (committed_slot plan.layout qt.board.image)) false outcome does.leaves goes kept whole ∙ back warrant.0 outcome does.asked goes kept whole);
      }
    where
      back : pt.dirty ≡ false → (o : Chunk) → Asked (no_floor plan) pt.board (plain op.Sleep ∷ []) o qt.board → is_last o ≡ false → o ≢ Lost → o ≢ Dropped →
          work_of (committed_slot plan.layout qt.board.image) ≡ pt.work
      back clean Ended asked goes kept whole =
          ap (λ (image : List ℕ). work_of (committed_slot plan.layout image)) (slept plan pt.board qt.board asked)
          ∙ ap work_of belong.is_committed.slot_is ∙ sym (belong.clean clean)
      back clean Dropped asked goes kept whole = absurd (whole refl)
      back clean Lost asked goes kept whole = absurd (kept refl)
      back clean Over asked goes kept whole = absurd (cc)
      back clean Full asked goes kept whole = absurd (cc)

  job_goes : (pt qt : Point) (due : Due) (outcome : Chunk) → BelongTogether program plan pt → HasTicks device pt.board → Chooses plan pt (Job due) → JobDoes plan pt due outcome qt → Goes pt (Job due) outcome qt
  job_goes pt qt due outcome belong has chosen does =
      let warrant = warranted plan pt chosen.next (Job due) chosen.choice_is in
      let is_due : IsDue plan.queue (slice_index pt.work.done) pt.board.tick due =
      subst (λ (n : Option Due). IsNextDue plan.queue (slice_index pt.work.done) pt.board.tick n) warrant.0 chosen.is_next in
      let f = due_facts laws program device b plan p q origin final planned plan_is due due.index (arrival_of due) is_due.next.pending.is_it in
      let version : version_of plan.rows due ≡ slice_index f.row.versions due.event = ap (λ (o : Option PlanRow). option_map_or (version_in due.event) o 0) f.row_is in
      let units = f.units in
      let ticks = f.ticks in
      let its_units = f.facts.units in
      let its_ticks = f.facts.ticks in
      let whole : outcome ≢ Dropped = λ is. job_not_dropped device plan pt qt due (subst (λ (o : Chunk). JobDoes plan pt due o qt) is does) in
      let within = event_within plan.queue.arrivals due.event due.index (arrival_of due) is_due.next.pending.is_it in
      let events : length plan.queue.arrivals.timings ≡ length program.events = plan_is.queue in
      let counts : length pt.work.done ≡ length program.events = belong.events in
      record {
        came = came_within device pt.board qt.board f.facts.job.units f.facts.job.ticks (units_for plan (base_with b device p q) (Job due)) (ticks_for plan (base_with b device p q) (Job due)) outcome (omega arith) (omega arith)
            (job_came runs program device b plan planned pt qt due outcome f.facts.job belong has
            (ap (λ (v : ℕ). job_at b due.event v) version ∙ f.facts.job_is) does);
        moves_on = λ goes. job_moves device plan pt qt due outcome has.some goes does;
        dirty = λ goes is. never_dirty qt.dirty (doing_of (Job due)) (leaves_dirty plan pt qt (after_job pt.work due does.run) false outcome does.leaves goes whole refl) is;
        done = λ goes kept e. ap (λ (w : Work). slice_index w.done e) (leaves_work plan pt qt (after_job pt.work due does.run) false outcome does.leaves goes kept whole)
            ∙ raised_at pt.work.done due.event e (omega arith);
      }

  pub goes : (pt qt : Point) (choice : Choice) (outcome : Chunk) → BelongTogether program plan pt → HasTicks device pt.board → Chooses plan pt choice → Does plan pt choice outcome qt → Goes pt choice outcome qt
  goes pt qt (Job due) outcome belong has chosen does = job_goes pt qt due outcome belong has chosen does
  goes pt qt Section outcome belong has chosen does = section_goes pt qt outcome belong has chosen does
  goes pt qt Checkpoint outcome belong has chosen does = checkpoint_goes pt qt outcome has does
  goes pt qt Wake outcome belong has chosen does = wake_goes pt qt outcome belong has chosen does
  goes pt qt Sleep outcome belong has chosen does = sleep_goes pt qt outcome belong has chosen does
