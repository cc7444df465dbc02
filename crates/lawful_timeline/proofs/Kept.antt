-- Each chunk keeps that the image stands for a run of its own, and the working value for one that goes on from it.
use Rattle.std.proofs.Common.{◌≡◌, ◌≢◌, inl, inr, ℕ, ◌+◌, ◌<◌, ◌≤◌, Bool, true, false, List, [], ◌∷◌, ◌++◌, length, map, Some, refl, sym, ap, ap₂, ◌∙◌, subst, arith, append_assoc, length-append, slice_index}
use Rattle.std.specs.Prelude.{◌⊎◌, ℤ}
use Rattle.std.proofs.lemmas.List.{length-map}
use Rattle.cat_program.specs.declared.outs.LogEntry.TheVariants.{Ran}
use Rattle.cat_program.specs.Meaning.{Output, handled}
use Rattle.cat_program.specs.OutsValue.{entry_of}
use Rattle.cat_program.specs.Checked.{Checked, body_at, version_at}
use Rattle.cat_machine.specs.declared.instr.Mode.TheVariants.{Task, Handler}
use Rattle.cat_machine.specs.CodeValue.{CodeValue, EntryAt}
use Rattle.cat_machine.specs.Machine.{Ended', entered, until}
use Rattle.cat_machine.specs.Ending.{HandlerEnds, RunsAreSteps, SectionEnds}
use Rattle.nv_memory.specs.declared.entry.Op.TheVariants as op
use Rattle.nv_memory.specs.declared.entry.Entry.{Entry}
use Rattle.nv_memory.specs.Layout.{size_of}
use Rattle.nv_memory.specs.Board.{State, image_by}
use Rattle.nv_log.specs.declared.log.By.TheVariants as by
use Rattle.nv_log.specs.Record.{EntryFits}
use Rattle.checkpoint_slots.specs.Image.{committed_slot}
use Rattle.checkpoint_slots.specs.Writes.{CommitsAreSafe}
use Rattle.event_arrivals.specs.Next.{IsNext}
use Rattle.event_queue.specs.declared.queue.Due.{Due}
use Rattle.event_queue.specs.Queue.{IsDue, arrival_of}
use Rattle.recovery.specs.Committed.{Committed, IsCommitted}
use Rattle.reference_run.specs.Reference.{Moment, after_step, deadlines_of}
use Rattle.logged_runs.specs.Reference.{Setting}
use Rattle.logged_runs.specs.Own.{IsOwn, IsEarlier}
use Rattle.logged_runs.specs.Laws.{EarlierRunsAreOrdered, EntriesTell, OwnRunsGoOn, after_arrival, counts_of, last_start_of}
use Rattle.image_meaning.specs.Standing.{Spells, moment_of}
use Rattle.image_meaning.specs.Laws.{CommitsAreKept, OperationsAreSafe}
use Rattle.cn_scheduler.specs.declared.plan.Plan.{Plan}
use Rattle.cn_scheduler.specs.declared.choice.Choice.TheVariants.{Job}
use Rattle.cn_scheduler.specs.declared.engine.Chunk.{Chunk}
use Rattle.cn_scheduler.specs.declared.engine.Chunk.TheVariants.{Ended, Dropped, Lost, Over, Full}
use Rattle.cn_scheduler.specs.InForce.{floor_at, version_of}
use Rattle.cn_scheduler.specs.Paths.{last_outs, run_acts, run_outs}
use Rattle.cn_scheduler.specs.Point.{FitsSlot, Point, Work, held_of, slot_of, work_of}
use Rattle.cn_scheduler.specs.Policy.{Chooses}
use Rattle.cn_scheduler.specs.Asked.{Asked, path_asks, plain, recording}
use Rattle.cn_scheduler.specs.Chunks.{AreFit, CheckpointDoes, Commits, JobAsks, JobDoes, Leaves, SectionDoes, SleepDoes, WakeDoes, after_job, after_section, is_last, job_asks, no_floor, ran_of, task_limits, wake_asks}
use Rattle.cn_scheduler.specs.Chunks.JobAsks.{Early, Late}
use Rattle.lawful_timeline.specs.Working.{IsSetUp, setting_of}
use Rattle.lawful_timeline.proofs.Outputs.{IsPutOut, handler_is_quiet, run_puts_out}
use Rattle.lawful_timeline.proofs.Asking.{EachBehind, Left, asked_left, asked_parts, behind-append, path_behind, path_spells, record_spells}
use Rattle.lawful_timeline.proofs.Saving.{Grows, Saved, grows-append, grows_along, image_by-append, saved}
use Rattle.lawful_timeline.proofs.Works.{Holds, committed_holds, handled_at, handler_outs, job_holds, known, next_again, ready_of, section_holds, section_next, shape_of, value_moment, value_of, version_same}
use Rattle.lawful_timeline.proofs.Policies.{chosen_due, never_dropped}

-- what the proofs stand on
pub record Laws (program : Checked) (plan : Plan) : Type 0 where
  pub runs : RunsAreSteps program
  pub writes : CommitsAreSafe
  pub go_on : OwnRunsGoOn (setting_of program plan)
  pub ordered : EarlierRunsAreOrdered (setting_of program plan)
  pub tells : EntriesTell
  pub kept : CommitsAreKept plan.layout program
  pub safe : OperationsAreSafe plan.layout program

pub no_path : true ≡ false → ⊥
no_path e = cc

module _ (program : Checked) (plan : Plan) (laws : Laws program plan) (set_up : IsSetUp program plan) where
  abbrev setting : Setting
  setting = setting_of program plan

  -- the image stands for a moment of a run, and the working value is at one that goes on from it
  pub record Sound (b : State) (w : Work) (v : Committed) (m : Moment) (dirty : Bool) : Type 0 where
    pub committed : IsCommitted plan.layout program b.image v
    pub own : IsOwn (setting_of program plan) (moment_of v)
    pub holds : Holds program plan b.image w m
    pub ahead : IsEarlier (setting_of program plan) (moment_of v) m
    pub start : last_start_of m.entries ≤ b.tick
    pub start_saved : last_start_of v.entries ≤ b.tick
    pub clean : dirty ≡ false → m ≡ moment_of v
    pub same : dirty ≡ false → w ≡ work_of v.slot
    pub large : size_of plan.layout ≤ length b.image

  -- the next decision point, up to which at most one step was taken, and whose last job began by a tick
  pub record Next (m : Moment) (v : Committed) (since : ℕ) (outcome : Chunk) (q : Point) : Type 0 where
    pub moment : Moment
    pub sound : Sound q.board q.work v moment q.dirty
    pub steps : outcome ≢ Lost → m.steps ≤ moment.steps
    pub most : moment.steps ≤ m.steps + 1
    pub begun : last_start_of moment.entries ≤ since

  -- what a chunk leaves
  pub record Kept (v : Committed) (m : Moment) (since : ℕ) (outcome : Chunk) (old : State) (q : Point) : Type 0 where
    pub value : Committed
    pub entries : List Entry
    pub timeline : q.board.timeline ≡ old.timeline ++ entries
    pub image : q.board.image ≡ image_by entries old.image
    pub grows : Grows plan.layout (setting_of program plan) v old.image entries value
    pub committed : IsCommitted plan.layout program q.board.image value
    pub stays : is_last outcome ≡ true → value ≡ v
    pub later : old.tick ≤ q.board.tick
    pub size : length q.board.image ≡ length old.image
    pub next : is_last outcome ≡ false → Next m value since outcome q

  -- back to what the image stands for
  back : (m : Moment) (v : Committed) (since : ℕ) (outcome : Chunk) (q : Point) → q.work ≡ work_of (committed_slot plan.layout q.board.image) → IsCommitted plan.layout program q.board.image v
      → IsOwn (setting_of program plan) (moment_of v) → last_start_of v.entries ≤ since → since ≤ q.board.tick → size_of plan.layout ≤ length q.board.image → (outcome ≢ Lost → m.steps ≤ v.slot.steps)
      → v.slot.steps ≤ m.steps + 1 → Next m v since outcome q
  back m v since outcome q work committed own begun later large steps most =
      let work_is : q.work ≡ work_of v.slot = work ∙ ap work_of committed.slot_is in
      record {
        moment = moment_of v;
        sound = record {
          committed = committed;
          own = own;
          holds = subst (λ (w : Work). Holds program plan q.board.image w (moment_of v)) (sym work_is) (committed_holds program plan set_up q.board.image v committed own);
          ahead = laws.ordered.itself (moment_of v) own;
          start = omega arith;
          start_saved = omega arith;
          clean = λ is. refl;
          same = λ is. work_is;
          large = large;
        };
        steps = steps;
        most = most;
        begun = begun;
      }

  holds_on : (old new : List ℕ) (w : Work) (m : Moment) → Holds program plan old w m → Spells plan.layout program new m.entries → Holds program plan new w m
  holds_on old new w m holds spells = record {
    works = record { state = holds.works.state; steps = holds.works.steps; len = holds.works.len; done = holds.works.done; spells = spells; own = holds.works.own };
    words = holds.words;
    posts = holds.posts;
    counts = holds.counts;
  }

  module _ (b : State) (w : Work) (v : Committed) (m : Moment) (dirty : Bool) (sound : Sound b w v m dirty) where
    pub low : v.slot.len ≤ w.len
    low =
        let many = sound.committed.recorded.many in
        let len = sound.holds.works.len in
        let longer : length m.entries ≡ length v.entries + length sound.ahead.entries.0 = ap length sound.ahead.entries.1 ∙ length-append v.entries sound.ahead.entries.0 in
        omega arith

    few_saved : v.slot.steps ≤ m.steps + 1
    few_saved = let a = sound.ahead.steps in omega arith

    -- operations behind the working value's records leave what is committed
    kept_left : (floor : ℕ → ℕ) (outcome : Chunk) (q : Point) (left : Left plan.layout program w.len floor b q.board) → (is_last outcome ≡ false → Next m v b.tick outcome q) → Kept v m b.tick outcome b q
    kept_left floor outcome q left next = record {
      value = v;
      entries = left.entries;
      timeline = left.timeline;
      image = left.image;
      grows = grows_along plan.layout (setting_of program plan) laws.ordered v b.image left.entries sound.own (left.along v low sound.committed);
      committed = left.keeps v low sound.committed;
      stays = λ is. refl;
      later = left.tick;
      size = left.size;
      next = next;
    }

    module _ (floor : ℕ → ℕ) (q : Point) (left : Left plan.layout program w.len floor b q.board) where
      still_committed : IsCommitted plan.layout program q.board.image v
      still_committed = left.keeps v low sound.committed

      still_spelled : Spells plan.layout program q.board.image m.entries
      still_spelled = left.spells m.entries (let len = sound.holds.works.len in omega arith) sound.holds.works.spells

      -- the working value stays
      stays : (outcome : Chunk) → q.work ≡ w → q.dirty ≡ dirty → Next m v b.tick outcome q
      stays outcome work same = record {
        moment = m;
        sound = record {
          committed = still_committed;
          own = sound.own;
          holds = subst (λ (x : Work). Holds program plan q.board.image x m) (sym work) (holds_on b.image q.board.image w m sound.holds still_spelled);
          ahead = sound.ahead;
          start = (let a = sound.start in let t = left.tick in omega arith);
          start_saved = (let a = sound.start_saved in let t = left.tick in omega arith);
          clean = λ is. sound.clean (sym same ∙ is);
          same = λ is. work ∙ sound.same (sym same ∙ is);
          large = (let a = sound.large in let s = left.size in omega arith);
        };
        steps = λ not_lost. omega arith;
        most = omega arith;
        begun = sound.start;
      }

      -- it is the committed one again
      goes_back : (outcome : Chunk) → q.work ≡ work_of (committed_slot plan.layout q.board.image) → (outcome ≢ Lost → m.steps ≤ v.slot.steps) → Next m v b.tick outcome q
      goes_back outcome work steps = back m v b.tick outcome q work still_committed sound.own sound.start_saved left.tick (let a = sound.large in let s = left.size in omega arith) steps few_saved

    -- ---- wake and sleep

    pub kept_wake : (outcome : Chunk) (q : Point) → WakeDoes plan (record { board = b; work = w; dirty = dirty }) outcome q → Kept v m b.tick outcome b q
    kept_wake outcome q does = kept_left (λ t. 0) outcome q (left outcome does.asked) (next outcome does.leaves (left outcome does.asked))
      where
        left : (o : Chunk) → Asked (no_floor plan) b (plain op.Wake ∷ []) o q.board → Left plan.layout program w.len (λ t. 0) b q.board
        left o asked = asked_left program plan.layout laws.safe w.len (λ t. 0) (plain op.Wake ∷ []) o b q.board ((λ room. tt), tt) sound.large asked

        next : (o : Chunk) → Leaves plan (record { board = b; work = w; dirty = dirty }) w dirty o q → Left plan.layout program w.len (λ t. 0) b q.board → is_last o ≡ false → Next m v b.tick o q
        next Ended leaves l is = stays (λ t. 0) q l Ended leaves.0 leaves.1
        next Dropped leaves l is = stays (λ t. 0) q l Dropped leaves.0 leaves.1
        next Lost leaves l is = goes_back (λ t. 0) q l Lost leaves.work_is (λ not. absurd (not refl))
        next Over leaves l is = absurd (no_path is)
        next Full leaves l is = absurd (no_path is)

    pub kept_sleep : (outcome : Chunk) (q : Point) → dirty ≡ false → SleepDoes plan (record { board = b; work = w; dirty = dirty }) outcome q → Kept v m b.tick outcome b q
    kept_sleep outcome q clean does = kept_left (λ t. 0) outcome q (left outcome does.asked) (next outcome does.leaves (left outcome does.asked))
      where
        left : (o : Chunk) → Asked (no_floor plan) b (plain op.Sleep ∷ []) o q.board → Left plan.layout program w.len (λ t. 0) b q.board
        left o asked = asked_left program plan.layout laws.safe w.len (λ t. 0) (plain op.Sleep ∷ []) o b q.board ((λ room. tt), tt) sound.large asked

        same_steps : m.steps ≤ v.slot.steps
        same_steps = let e : m.steps ≡ v.slot.steps = ap (λ (x : Moment). x.steps) (sound.clean clean) in omega arith

        next : (o : Chunk) → Leaves plan (record { board = b; work = w; dirty = dirty }) (work_of (committed_slot plan.layout q.board.image)) false o q → Left plan.layout program w.len (λ t. 0) b q.board → is_last o ≡ false → Next m v b.tick o q
        next Ended leaves l is = goes_back (λ t. 0) q l Ended leaves.0 (λ not. same_steps)
        next Dropped leaves l is = stays (λ t. 0) q l Dropped leaves.0 leaves.1
        next Lost leaves l is = goes_back (λ t. 0) q l Lost leaves.work_is (λ not. same_steps)
        next Over leaves l is = absurd (no_path is)
        next Full leaves l is = absurd (no_path is)

    -- ---- a checkpoint

    module _ (fits : FitsSlot plan.layout w) where
      -- what the save commits
      abbrev kept_value : Committed
      kept_value = value_of program plan set_up w m

      moment_is : moment_of (value_of program plan set_up w m) ≡ m
      moment_is = value_moment program plan set_up b.image w m sound.holds fits

      own_kept : IsOwn (setting_of program plan) (moment_of (value_of program plan set_up w m))
      own_kept = subst (λ (x : Moment). IsOwn (setting_of program plan) x) (sym moment_is) sound.holds.works.own

      commit : (outcome : Chunk) (q : Point) → Commits plan w b outcome q.board → Saved plan.layout (setting_of program plan) v (value_of program plan set_up w m) b.image outcome b q.board
      commit outcome q asked =
          saved plan.layout (setting_of program plan) laws.safe laws.writes laws.kept v (value_of program plan set_up w m) sound.own own_kept (laws.ordered.itself (moment_of v) sound.own)
          (subst (λ (x : Moment). IsEarlier (setting_of program plan) (moment_of v) x) (sym moment_is) sound.ahead) b.image sound.large sound.committed
          (ready_of program plan set_up b.image w m sound.holds fits) (λ t. 0) outcome b q.board refl asked

      after_commit : (since : ℕ) → last_start_of m.entries ≤ since → last_start_of v.entries ≤ since → since ≤ b.tick → (outcome : Chunk) (q : Point) → Commits plan w b outcome q.board
          → Leaves plan (record { board = b; work = w; dirty = dirty }) w false outcome q → (done : Saved plan.layout (setting_of program plan) v (value_of program plan set_up w m) b.image outcome b q.board)
          → is_last outcome ≡ false → Next m done.value since outcome q
      after_commit since begun begun_saved later Ended q asked leaves done is =
          let same : done.value ≡ value_of program plan set_up w m = done.ended refl in
          subst (λ (x : Committed). Next m x since Ended q) (sym same) (record {
            moment = m;
            sound = record {
              committed = subst (λ (x : Committed). IsCommitted plan.layout program q.board.image x) same done.committed;
              own = own_kept;
              holds = subst (λ (x : Work). Holds program plan q.board.image x m) (sym leaves.0) (holds_on b.image q.board.image w m sound.holds (done.spells m.entries sound.holds.works.spells));
              ahead = subst (λ (x : Moment). IsEarlier (setting_of program plan) (moment_of (value_of program plan set_up w m)) x) moment_is (laws.ordered.itself (moment_of (value_of program plan set_up w m)) own_kept);
              start = (let a = sound.start in let t = done.tick in omega arith);
              start_saved = (let a = sound.start in let t = done.tick in omega arith);
              clean = λ is. sym moment_is;
              same = λ is. leaves.0 ∙ again;
              large = (let a = sound.large in let s = done.size in omega arith);
            };
            steps = λ not. omega arith;
            most = omega arith;
            begun = begun;
          })
        where
          again : w ≡ work_of (slot_of w)
          again = let words = sym fits.words in λ k. record w { words = words k }
      after_commit since begun begun_saved later Dropped q asked leaves done is = absurd (never_dropped plan _ b q.board asked)
      after_commit since begun begun_saved later Lost q asked leaves done is =
          back m done.value since Lost q leaves.work_is done.committed (own_of done.value done.one_of) (start_of done.value done.one_of) (let t = done.tick in omega arith)
          (let a = sound.large in let s = done.size in omega arith) (λ not. absurd (not refl)) (few_of done.value done.one_of)
        where
          own_of : (x : Committed) → (x ≡ v) ⊎ (x ≡ value_of program plan set_up w m) → IsOwn (setting_of program plan) (moment_of x)
          own_of x (inl same) = subst (λ (y : Committed). IsOwn (setting_of program plan) (moment_of y)) (sym same) sound.own
          own_of x (inr same) = subst (λ (y : Committed). IsOwn (setting_of program plan) (moment_of y)) (sym same) own_kept

          start_of : (x : Committed) → (x ≡ v) ⊎ (x ≡ value_of program plan set_up w m) → last_start_of x.entries ≤ since
          start_of x (inl same) = let e : last_start_of x.entries ≡ last_start_of v.entries = ap (λ (y : Committed). last_start_of y.entries) same in omega arith
          start_of x (inr same) = let e : last_start_of x.entries ≡ last_start_of m.entries = ap (λ (y : Committed). last_start_of y.entries) same in omega arith

          few_of : (x : Committed) → (x ≡ v) ⊎ (x ≡ value_of program plan set_up w m) → x.slot.steps ≤ m.steps + 1
          few_of x (inl same) = let e : x.slot.steps ≡ v.slot.steps = ap (λ (y : Committed). y.slot.steps) same in let few = few_saved in omega arith
          few_of x (inr same) = let e : x.slot.steps ≡ w.steps = ap (λ (y : Committed). y.slot.steps) same in let s = sound.holds.works.steps in omega arith
      after_commit since begun begun_saved later Over q asked leaves done is = absurd (no_path is)
      after_commit since begun begun_saved later Full q asked leaves done is = absurd (no_path is)

    pub kept_commit : (since : ℕ) → last_start_of m.entries ≤ since → last_start_of v.entries ≤ since → since ≤ b.tick → (outcome : Chunk) (q : Point)
        → CheckpointDoes plan (record { board = b; work = w; dirty = dirty }) outcome q → Kept v m since outcome b q
    kept_commit since begun begun_saved later outcome q does =
        let done : Saved plan.layout (setting_of program plan) v (value_of program plan set_up w m) b.image outcome b q.board = commit does.fits outcome q does.asked in
        record {
          value = done.value;
          entries = done.entries;
          timeline = done.timeline;
          image = done.image;
          grows = done.grows;
          committed = done.committed;
          stays = done.stays;
          later = done.tick;
          size = done.size;
          next = after_commit does.fits since begun begun_saved later outcome q does.asked does.leaves done;
        }

    pub kept_checkpoint : (outcome : Chunk) (q : Point) → CheckpointDoes plan (record { board = b; work = w; dirty = dirty }) outcome q → Kept v m b.tick outcome b q
    kept_checkpoint outcome q does = kept_commit b.tick sound.start sound.start_saved (omega arith) outcome q does

    -- ---- a section

    pub section_left : (outcome : Chunk) (q : Point) (run : Ended') → Asked (task_limits plan) b (path_asks plan.layout w.len (run_acts plan.code run)) outcome q.board → Left plan.layout program w.len (floor_at plan.rows) b q.board
    section_left outcome q run asked =
        asked_left program plan.layout laws.safe w.len (floor_at plan.rows) (path_asks plan.layout w.len (run_acts plan.code run)) outcome b q.board
        (path_behind program plan.layout laws.safe w.len w.len (run_acts plan.code run) (omega arith)) sound.large asked

    module _ (run : Ended') (payload : ℤ) (ends : until 1000000 Task plan.code (held_of w payload) ≡ Some run) where
      stepped : SectionEnds program m.state run
      stepped =
          laws.runs.section (held_of w payload) m.state run set_up.checked (sound.holds.works.state payload) (shape_of program plan set_up w m b.image payload sound.holds)
          (ap (λ (code : CodeValue). until 1000000 Task code (held_of w payload)) (sym set_up.code_is) ∙ ends)

      put_out : IsPutOut Task plan.code run
      put_out = run_puts_out 1000000 Task plan.code (held_of w payload) run ends

      abbrev later : Moment
      later = after_step m stepped.step

      section_own : IsOwn (setting_of program plan) (after_step m stepped.step) × IsEarlier (setting_of program plan) m (after_step m stepped.step)
      section_own = laws.go_on.step m (after_step m stepped.step) sound.holds.works.own (section_next program plan set_up m run stepped)

      section_spells : (q : Point) → Asked (task_limits plan) b (path_asks plan.layout w.len (run_acts plan.code run)) Ended q.board → AreFit (run_outs run)
          → Spells plan.layout program q.board.image (m.entries ++ map entry_of (run_outs run))
      section_spells q asked fits =
          subst (λ (outs : List Output). Spells plan.layout program q.board.image (m.entries ++ map entry_of outs)) put_out.outs
          (path_spells program plan.layout laws.safe (run_acts plan.code run) (floor_at plan.rows) w.len m.entries b q.board sound.holds.works.len (subst AreFit (sym put_out.outs) fits) sound.large asked sound.holds.works.spells)

      after_acting : (q : Point) → Asked (task_limits plan) b (path_asks plan.layout w.len (run_acts plan.code run)) Ended q.board → AreFit (run_outs run) → q.work ≡ after_section w run → q.dirty ≡ true
          → Left plan.layout program w.len (floor_at plan.rows) b q.board → Next m v b.tick Ended q
      after_acting q asked fits work dirty_is l =
          let started = laws.tells.step_start (body_at program) m (after_step m stepped.step) (section_next program plan set_up m run stepped) in
          record {
            moment = after_step m stepped.step;
            sound = record {
              committed = still_committed (floor_at plan.rows) q l;
              own = sound.own;
              holds = subst (λ (x : Work). Holds program plan q.board.image x (after_step m stepped.step)) (sym work)
                  (section_holds program plan set_up laws.tells b.image q.board.image w m run stepped sound.holds (put_out.quiet refl) (section_spells q asked fits) section_own.0);
              ahead = laws.ordered.onward (moment_of v) m (after_step m stepped.step) sound.ahead section_own.1;
              start = (let a = sound.start in let t = l.tick in omega arith);
              start_saved = (let a = sound.start_saved in let t = l.tick in omega arith);
              clean = λ is. absurd (no_path (sym dirty_is ∙ is));
              same = λ is. absurd (no_path (sym dirty_is ∙ is));
              large = (let a = sound.large in let s = l.size in omega arith);
            };
            steps = λ not. omega arith;
            most = omega arith;
            begun = (let a = sound.start in omega arith);
          }

    pub kept_section : (outcome : Chunk) (q : Point) → SectionDoes plan (record { board = b; work = w; dirty = dirty }) outcome q → Kept v m b.tick outcome b q
    kept_section outcome q does = kept_left (floor_at plan.rows) outcome q (section_left outcome q does.run does.asked) (next outcome does.run does.is_section.payload does.is_section.ends does.asked does.fits does.leaves)
      where
        next : (o : Chunk) (run : Ended') (payload : ℤ) → until 1000000 Task plan.code (held_of w payload) ≡ Some run → (asked : Asked (task_limits plan) b (path_asks plan.layout w.len (run_acts plan.code run)) o q.board)
            → (o ≡ Ended → AreFit (run_outs run)) → Leaves plan (record { board = b; work = w; dirty = dirty }) (after_section w run) true o q → is_last o ≡ false → Next m v b.tick o q
        next Ended run payload ends asked fits leaves is = after_acting run payload ends q asked (fits refl) leaves.0 leaves.1 (section_left Ended q run asked)
        next Dropped run payload ends asked fits leaves is = stays (floor_at plan.rows) q (section_left Dropped q run asked) Dropped leaves.0 leaves.1
        next Lost run payload ends asked fits leaves is = goes_back (floor_at plan.rows) q (section_left Lost q run asked) Lost leaves.work_is (λ not. absurd (not refl))
        next Over run payload ends asked fits leaves is = absurd (no_path is)
        next Full run payload ends asked fits leaves is = absurd (no_path is)

  -- ---- a job

  wake_behind : (n : ℕ) (on : Bool) → EachBehind plan.layout n (wake_asks on)
  wake_behind n true = tt
  wake_behind n false = ((λ room. tt), tt)

  -- what the policy and the machine say of a job
  module _ (b : State) (w : Work) (v : Committed) (m : Moment) (dirty : Bool) (sound : Sound b w v m dirty) (due : Due) (is_due : IsDue plan.queue (slice_index w.done) b.tick due)
      (run : Ended') (payload : ℤ) (entry : ℕ) (there : EntryAt plan.code due.event (version_of plan.rows due) entry)
      (ends : until 1000000 Handler plan.code (entered (held_of w payload) entry due.payload) ≡ Some run) where
    abbrev here : Point
    here = record { board = b; work = w; dirty = dirty }

    -- the moment behind it
    abbrev served : Moment
    served = handled_at program plan set_up m due.event (version_of plan.rows due) due.payload b.tick due.index

    same_counts : (e : ℕ) → e < length plan.queue.arrivals.timings → slice_index w.done e ≡ counts_of m.entries e
    same_counts e within = sound.holds.works.done e (let a = set_up.plan_is.queue in let c = set_up.plan_is.layout.events in omega arith)

    next_is : IsNext plan.queue.arrivals (deadlines_of program) (counts_of m.entries) b.tick due.event due.index (arrival_of due)
    next_is =
        next_again plan.queue.arrivals (deadlines_of program) (slice_index w.done) (counts_of m.entries) b.tick due.event due.index (arrival_of due) same_counts
        (subst (λ (ds : List ℕ). IsNext plan.queue.arrivals ds (slice_index w.done) b.tick due.event due.index (arrival_of due)) set_up.plan_is.deadlines is_due.next)

    event_there : due.event < plan.layout.events
    event_there =
        let within = known plan.queue.arrivals due.event due.index (arrival_of due) is_due.next.pending.is_it in
        let a = set_up.plan_is.queue in
        let c = set_up.plan_is.layout.events in
        omega arith

    served_again : (due.index ≡ counts_of m.entries due.event) × IsOwn (setting_of program plan) (after_arrival (setting_of program plan) m b.tick due.event (arrival_of due))
        × IsEarlier (setting_of program plan) m (after_arrival (setting_of program plan) m b.tick due.event (arrival_of due))
    served_again = laws.go_on.arrival m b.tick due.event due.index (arrival_of due) set_up.spaced sound.holds.works.own sound.start next_is

    served_is : served ≡ after_arrival (setting_of program plan) m b.tick due.event (arrival_of due)
    served_is = ap₂ (λ (version index : ℕ). handled_at program plan set_up m due.event version due.payload b.tick index) (version_same plan.rows due) served_again.0

    served_own : IsOwn (setting_of program plan) served
    served_own = subst (λ (x : Moment). IsOwn (setting_of program plan) x) (sym served_is) served_again.1

    served_later : IsEarlier (setting_of program plan) m served
    served_later = subst (λ (x : Moment). IsEarlier (setting_of program plan) m x) (sym served_is) served_again.2

    handler : HandlerEnds program m.state due.event (version_of plan.rows due) due.payload run
    handler =
        laws.runs.handler (held_of w payload) m.state due.event (version_of plan.rows due) entry due.payload run set_up.checked (sound.holds.works.state payload) (shape_of program plan set_up w m b.image payload sound.holds)
        (subst (λ (code : CodeValue). EntryAt code due.event (version_of plan.rows due) entry) set_up.code_is there)
        (ap (λ (code : CodeValue). until 1000000 Handler code (entered (held_of w payload) entry due.payload)) (sym set_up.code_is) ∙ ends)

    put_out_by : IsPutOut Handler plan.code run
    put_out_by = run_puts_out 1000000 Handler plan.code (entered (held_of w payload) entry due.payload) run ends

    quiet : last_outs run.did ≡ []
    quiet = handler_is_quiet run.did put_out_by.stops

    job_behind : EachBehind plan.layout w.len (job_asks plan here due run)
    job_behind =
        behind-append plan.layout w.len (wake_asks b.on ++ path_asks plan.layout w.len (run_acts plan.code run)) (recording plan.layout (w.len + length (run_outs run)) (ran_of plan here due) by.Write ∷ [])
        (behind-append plan.layout w.len (wake_asks b.on) (path_asks plan.layout w.len (run_acts plan.code run)) (wake_behind w.len b.on)
        (path_behind program plan.layout laws.safe w.len w.len (run_acts plan.code run) (omega arith)))
        ((λ room. laws.safe.behind w.len (w.len + length (run_outs run)) (ran_of plan here due) by.Write (omega arith) room), tt)

    job_left : (outcome : Chunk) (new : State) → Asked (no_floor plan) b (job_asks plan here due run) outcome new → Left plan.layout program w.len (λ t. 0) b new
    job_left outcome new asked = asked_left program plan.layout laws.safe w.len (λ t. 0) (job_asks plan here due run) outcome b new job_behind sound.large asked

    -- ---- a job that comes to its commit

    job_spells : (mid : State) → Asked (no_floor plan) b (job_asks plan here due run) Ended mid → AreFit (run_outs run) → EntryFits plan.layout (ran_of plan here due) → Spells plan.layout program mid.image served.entries
    job_spells mid asked fits ran_fits =
        let acts = run_acts plan.code run in
        let last = asked_parts (no_floor plan) (wake_asks b.on ++ path_asks plan.layout w.len (run_acts plan.code run)) (recording plan.layout (w.len + length (run_outs run)) (ran_of plan here due) by.Write ∷ []) b mid asked in
        let first = asked_parts (no_floor plan) (wake_asks b.on) (path_asks plan.layout w.len (run_acts plan.code run)) b last.0 last.1 in
        let woken : Left plan.layout program w.len (λ t. 0) b first.0 = asked_left program plan.layout laws.safe w.len (λ t. 0) (wake_asks b.on) Ended b first.0 (wake_behind w.len b.on) sound.large first.1 in
        let large : size_of plan.layout ≤ length first.0.image = (let a = sound.large in let s = woken.size in omega arith) in
        let gone : Left plan.layout program w.len (λ t. 0) first.0 last.0 =
        asked_left program plan.layout laws.safe w.len (λ t. 0) (path_asks plan.layout w.len (run_acts plan.code run)) Ended first.0 last.0 (path_behind program plan.layout laws.safe w.len w.len (run_acts plan.code run) (omega arith)) large first.2 in
        let spelled : Spells plan.layout program first.0.image m.entries = woken.spells m.entries (let len = sound.holds.works.len in omega arith) sound.holds.works.spells in
        let outs : Spells plan.layout program last.0.image (m.entries ++ map entry_of (run_outs run)) =
        subst (λ (os : List Output). Spells plan.layout program last.0.image (m.entries ++ map entry_of os)) put_out_by.outs
        (path_spells program plan.layout laws.safe (run_acts plan.code run) (λ t. 0) w.len m.entries first.0 last.0 sound.holds.works.len (subst AreFit (sym put_out_by.outs) fits) large first.2 spelled) in
        let place : w.len + length (run_outs run) ≡ length (m.entries ++ map entry_of (run_outs run)) =
        (let len = sound.holds.works.len in let whole = length-append m.entries (map entry_of (run_outs run)) in let many = length-map (run_outs run) entry_of in omega arith) in
        let whole : Spells plan.layout program mid.image (m.entries ++ map entry_of (run_outs run) ++ ran_of plan here due ∷ []) =
        record_spells program plan.layout laws.safe (λ t. 0) (w.len + length (run_outs run)) (ran_of plan here due) by.Write (m.entries ++ map entry_of (run_outs run)) last.0 mid place handler.there ran_fits
        (let s = gone.size in omega arith) last.2 outs in
        subst (λ (n : ℕ). Spells plan.layout program mid.image (m.entries ++ map entry_of (handled (version_at program due.event (version_of plan.rows due)) due.payload m.state.store).outs ++ Ran due.event (version_of plan.rows due) n b.tick due.index ∷ [])) sound.holds.works.steps
        (subst (λ (os : List Output). Spells plan.layout program mid.image (m.entries ++ map entry_of os ++ ran_of plan here due ∷ [])) (handler_outs program plan set_up m.state due.event (version_of plan.rows due) due.payload run handler quiet) whole)

    -- the working value behind it, before it is saved
    sound_served : (mid : State) → Asked (no_floor plan) b (job_asks plan here due run) Ended mid → AreFit (run_outs run) → EntryFits plan.layout (ran_of plan here due) → Sound mid (after_job w due run) v served true
    sound_served mid asked fits ran_fits =
        let left : Left plan.layout program w.len (λ t. 0) b mid = job_left Ended mid asked in
        let started : last_start_of served.entries ≡ b.tick = laws.tells.arrival_start m (handled (version_at program due.event (version_of plan.rows due)) due.payload m.state.store) due.event (version_of plan.rows due) m.steps b.tick due.index in
        record {
          committed = left.keeps v (low b w v m dirty sound) sound.committed;
          own = sound.own;
          holds = job_holds program plan set_up laws.tells b.image mid.image w m due (version_of plan.rows due) b.tick run handler sound.holds quiet event_there (job_spells mid asked fits ran_fits) served_own;
          ahead = laws.ordered.onward (moment_of v) m served sound.ahead served_later;
          start = (let t = left.tick in omega arith);
          start_saved = (let a = sound.start_saved in let t = left.tick in omega arith);
          clean = λ is. absurd (no_path is);
          same = λ is. absurd (no_path is);
          large = (let a = sound.large in let s = left.size in omega arith);
        }

    job_saves : (mid : State) (outcome : Chunk) (q : Point) → FitsSlot plan.layout (after_job w due run) → Commits plan (after_job w due run) mid outcome q.board → Leaves plan here (after_job w due run) false outcome q
        → CheckpointDoes plan (record { board = mid; work = after_job w due run; dirty = true }) outcome q
    job_saves mid outcome q fits commits leaves = record { asked = commits; fits = fits; leaves = by_outcome outcome commits leaves }
      where
        by_outcome : (o : Chunk) → Commits plan (after_job w due run) mid o q.board → Leaves plan here (after_job w due run) false o q → Leaves plan (record { board = mid; work = after_job w due run; dirty = true }) (after_job w due run) false o q
        by_outcome Ended c l = l
        by_outcome Dropped c l = absurd (never_dropped plan _ mid q.board c)
        by_outcome Lost c l = l
        by_outcome Over c l = tt
        by_outcome Full c l = tt

    kept_late : (mid : State) (outcome : Chunk) (q : Point) → Asked (no_floor plan) b (job_asks plan here due run) Ended mid → AreFit (run_outs run) → EntryFits plan.layout (ran_of plan here due) → FitsSlot plan.layout (after_job w due run)
        → Commits plan (after_job w due run) mid outcome q.board → Leaves plan here (after_job w due run) false outcome q → Kept v m b.tick outcome b q
    kept_late mid outcome q asked fits ran_fits slot_fits commits leaves =
        let left : Left plan.layout program w.len (λ t. 0) b mid = job_left Ended mid asked in
        let started : last_start_of served.entries ≡ b.tick = laws.tells.arrival_start m (handled (version_at program due.event (version_of plan.rows due)) due.payload m.state.store) due.event (version_of plan.rows due) m.steps b.tick due.index in
        let rest : Kept v served b.tick outcome mid q =
        kept_commit mid (after_job w due run) v served true (sound_served mid asked fits ran_fits) b.tick (omega arith) sound.start_saved left.tick outcome q (job_saves mid outcome q slot_fits commits leaves) in
        let along : Grows plan.layout (setting_of program plan) v b.image left.entries v = grows_along plan.layout (setting_of program plan) laws.ordered v b.image left.entries sound.own (left.along v (low b w v m dirty sound) sound.committed) in
        record {
          value = rest.value;
          entries = left.entries ++ rest.entries;
          timeline = rest.timeline ∙ ap (λ (es : List Entry). es ++ rest.entries) left.timeline ∙ append_assoc b.timeline left.entries rest.entries;
          image = rest.image ∙ ap (λ (i : List ℕ). image_by rest.entries i) left.image ∙ sym (image_by-append left.entries rest.entries b.image);
          grows = grows-append plan.layout (setting_of program plan) v v rest.value b.image left.entries rest.entries along
              (subst (λ (i : List ℕ). Grows plan.layout (setting_of program plan) v i rest.entries rest.value) left.image rest.grows);
          committed = rest.committed;
          stays = rest.stays;
          later = (let a = left.tick in let b = rest.later in omega arith);
          size = rest.size ∙ left.size;
          next = λ is. (let n : Next served rest.value b.tick outcome q = rest.next is in record { moment = n.moment; sound = n.sound; steps = n.steps; most = n.most; begun = n.begun });
        }

    kept_early : (outcome : Chunk) (q : Point) → outcome ≢ Ended → Asked (no_floor plan) b (job_asks plan here due run) outcome q.board → Leaves plan here (after_job w due run) false outcome q → Kept v m b.tick outcome b q
    kept_early outcome q not_ended asked leaves = kept_left b w v m dirty sound (λ t. 0) outcome q (job_left outcome q.board asked) (next outcome not_ended asked leaves)
      where
        next : (o : Chunk) → o ≢ Ended → Asked (no_floor plan) b (job_asks plan here due run) o q.board → Leaves plan here (after_job w due run) false o q → is_last o ≡ false → Next m v b.tick o q
        next Ended not asked leaves is = absurd (not refl)
        next Dropped not asked leaves is = absurd (never_dropped plan (job_asks plan here due run) b q.board asked)
        next Lost not asked leaves is = goes_back b w v m dirty sound (λ t. 0) q (job_left Lost q.board asked) Lost leaves.work_is (λ no. absurd (no refl))
        next Over not asked leaves is = absurd (no_path is)
        next Full not asked leaves is = absurd (no_path is)

  pub kept_job : (b : State) (w : Work) (v : Committed) (m : Moment) (dirty : Bool) (sound : Sound b w v m dirty) (due : Due) → Chooses plan (record { board = b; work = w; dirty = dirty }) (Job due) → (outcome : Chunk) (q : Point)
      → JobDoes plan (record { board = b; work = w; dirty = dirty }) due outcome q → Kept v m b.tick outcome b q
  kept_job b w v m dirty sound due chosen outcome q does = by_asks does.asks
    where
      is_due : IsDue plan.queue (slice_index w.done) b.tick due
      is_due = chosen_due plan (record { board = b; work = w; dirty = dirty }) due chosen

      by_asks : JobAsks plan (record { board = b; work = w; dirty = dirty }) due does.run outcome q.board → Kept v m b.tick outcome b q
      by_asks (Early not_ended asked) =
          kept_early b w v m dirty sound due is_due does.run does.is_handler.payload does.is_handler.entry does.is_handler.there does.is_handler.ends outcome q not_ended asked does.leaves
      by_asks (Late mid asked fits ran_fits slot_fits commits) =
          kept_late b w v m dirty sound due is_due does.run does.is_handler.payload does.is_handler.entry does.is_handler.there does.is_handler.ends mid outcome q asked fits ran_fits slot_fits commits does.leaves
