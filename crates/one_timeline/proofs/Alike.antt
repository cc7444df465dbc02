-- Two chunks of one choice at one point, on a board with known rules, come out alike.
use Rattle.std.proofs.Common.{◌≡◌, Bool, true, false, List, [], ◌∷◌, Some, sym, ap, ◌∙◌, subst}
use Rattle.std.specs.Prelude.{ℤ, ℕ}
use Rattle.cat_program.specs.Checked.{Checked, IsChecked}
use Rattle.cat_machine.specs.declared.instr.Mode.TheVariants.{Task, Handler}
use Rattle.cat_machine.specs.CodeValue.{CodeValue}
use Rattle.cat_machine.specs.Code.{code_of}
use Rattle.cat_machine.specs.Machine.{Ended', entered, until}
use Rattle.cat_machine.specs.Fits.{IsIdle}
use Rattle.cat_machine.specs.Unread.{SectionsReadNoPayload, with_payload}
use Rattle.nv_memory.specs.declared.entry.Op.TheVariants as op
use Rattle.nv_memory.specs.Board.{State}
use Rattle.checkpoint_slots.specs.Image.{committed_slot}
use Rattle.board_core.specs.declared.origin.ModelOrigin.{ModelOrigin}
use Rattle.board_core.specs.Laws.{RulesDecide}
use Rattle.board_core.specs.Reached.{IsReached}
use Rattle.event_queue.specs.declared.queue.Due.{Due}
use Rattle.cn_scheduler.specs.declared.plan.Plan.{Plan}
use Rattle.cn_scheduler.specs.declared.choice.Choice.{Choice}
use Rattle.cn_scheduler.specs.declared.choice.Choice.TheVariants.{Job, Section, Checkpoint, Wake, Sleep}
use Rattle.cn_scheduler.specs.declared.engine.Chunk.{Chunk}
use Rattle.cn_scheduler.specs.declared.engine.Chunk.TheVariants.{Ended, Dropped, Lost, Over, Full}
use Rattle.cn_scheduler.specs.Paths.{IsHandler, IsSection, run_acts}
use Rattle.cn_scheduler.specs.Point.{Point, Work, held_of, work_of}
use Rattle.cn_scheduler.specs.Asked.{Ask, Asked, Limits, path_asks, plain}
use Rattle.cn_scheduler.specs.Chunks.{Does, JobAsks, Leaves, SleepDoes, after_job, after_section, commit_asks, is_last, job_asks, no_floor, task_limits}
use Rattle.cn_scheduler.specs.Chunks.JobAsks.{Early, Late}
use Rattle.one_timeline.proofs.Later.{later_asked, later_on}
use Rattle.one_timeline.proofs.Coming.{Came, IsPassed, asked_comes}

-- both came to the same, to which the rules lead
pub record AreSame (o : ModelOrigin) (one other : Chunk) (s t : State) : Type 0 where
  pub outcome : one ≡ other
  pub board : s ≡ t
  pub reached : IsReached o s

-- ---- runs

handlers_alike : (plan : Plan) (w : Work) (due : Due) (a b : Ended') → IsHandler plan w due a → IsHandler plan w due b → a ≡ b
handlers_alike plan w due a b x y =
    let entry : x.entry ≡ y.entry = let both : Some x.entry ≡ Some y.entry = sym x.there ∙ y.there in cc in
    let ends : Some a ≡ Some b = sym x.ends ∙ ap (λ (n : ℕ). until 1000000 Handler plan.code (entered (held_of w x.payload) n due.payload)) entry ∙ y.ends in
    cc

abbrev repaid : ℤ → Ended' → Ended'
repaid payload run = record run { after = with_payload payload run.after }

sections_alike : (program : Checked) (plan : Plan) (w : Work) (a b : Ended') → SectionsReadNoPayload → IsChecked program → plan.code ≡ code_of program
    → ((payload : ℤ) → IsIdle program (held_of w payload)) → (x : IsSection plan w a) → (y : IsSection plan w b) → repaid y.payload a ≡ b
sections_alike program plan w a b unread checked code idle x y =
    let first = ap (λ (c : CodeValue). until 1000000 Task c (held_of w x.payload)) (sym code) ∙ x.ends in
    let second = ap (λ (c : CodeValue). until 1000000 Task c (held_of w y.payload)) (sym code) ∙ y.ends in
    let both : Some (repaid y.payload a) ≡ Some b = sym (unread program (held_of w x.payload) y.payload a checked (idle x.payload) first) ∙ second in
    cc

-- ---- what they leave

-- one point follows, unless the timeline has ended
pub record Follow (o : ModelOrigin) (one other : Chunk) (q r : Point) : Type 0 where
  pub same : AreSame o one other q.board r.board
  pub onward : is_last one ≡ false → q ≡ r

point_is : (q r : Point) → q.board ≡ r.board → q.work ≡ r.work → q.dirty ≡ r.dirty → q ≡ r
point_is q r board work dirty = λ i. record { board = board i; work = work i; dirty = dirty i }

leaves_alike : (plan : Plan) (p : Point) (next : Work) (dirty : Bool) (outcome : Chunk) (q r : Point) → q.board ≡ r.board → is_last outcome ≡ false
    → Leaves plan p next dirty outcome q → Leaves plan p next dirty outcome r → q ≡ r
leaves_alike plan p next dirty Ended q r board goes x y = point_is q r board (x.0 ∙ sym y.0) (x.1 ∙ sym y.1)
leaves_alike plan p next dirty Dropped q r board goes x y = point_is q r board (x.0 ∙ sym y.0) (x.1 ∙ sym y.1)
leaves_alike plan p next dirty Lost q r board goes x y =
    point_is q r board (x.work_is ∙ ap (λ (s : State). work_of (committed_slot plan.layout s.image)) board ∙ sym y.work_is) (x.clean ∙ sym y.clean)
leaves_alike plan p next dirty Over q r board goes x y = absurd (cc)
leaves_alike plan p next dirty Full q r board goes x y = absurd (cc)

module _ (o : ModelOrigin) (rules : RulesDecide o) (plan : Plan) (p : Point) (here : IsReached o p.board) where
  follow : (next : Work) (dirty : Bool) (one other : Chunk) (q r : Point) → AreSame o one other q.board r.board → Leaves plan p next dirty one q → Leaves plan p next dirty other r → Follow o one other q r
  follow next dirty one other q r same x y = record {
    same = same;
    onward = λ goes. leaves_alike plan p next dirty one q r same.board goes x (subst (λ (outcome : Chunk). Leaves plan p next dirty outcome r) (sym same.outcome) y);
  }

  -- operations that are asked for from one state on
  asked_alike : (l : Limits) (asks : List Ask) (s t u : State) (one other : Chunk) → IsReached o s → IsPassed o t → IsPassed o u → Asked l s asks one t → Asked l s asks other u → AreSame o one other t u
  asked_alike l asks s t u one other from passed also x y =
      let a = asked_comes o rules l asks s t one from passed x in
      let b = asked_comes o rules l asks s u other from also y in
      let same = sym a.is ∙ b.is in
      record { outcome = ap (λ (c : Came). c.outcome) same; board = ap (λ (c : Came). c.board) same; reached = a.reached }

  passed_on : (l : Limits) (asks : List Ask) (s t : State) (outcome : Chunk) → Asked l s asks outcome t → IsPassed o t → IsPassed o s
  passed_on l asks s t outcome asked passed = record { last = passed.last; later = later_on s t passed.last (later_asked l asks s t outcome asked) passed.later; reached = passed.reached }

  jobs_alike : (due : Due) (run : Ended') (one other : Chunk) (t u : State) → IsPassed o t → IsPassed o u → JobAsks plan p due run one t → JobAsks plan p due run other u → AreSame o one other t u
  jobs_alike due run one other t u passed also (Early on x) (Early off y) = asked_alike (no_floor plan) (job_asks plan p due run) p.board t u one other here passed also x y
  jobs_alike due run one other t u passed also (Early on x) (Late mid y outs entry slot commits) =
      let between = passed_on (no_floor plan) (commit_asks plan (after_job p.work due run) mid.image) mid u other commits also in
      absurd (on (asked_alike (no_floor plan) (job_asks plan p due run) p.board t mid one Ended here passed between x y).outcome)
  jobs_alike due run one other t u passed also (Late mid x outs entry slot commits) (Early off y) =
      let between = passed_on (no_floor plan) (commit_asks plan (after_job p.work due run) mid.image) mid t one commits passed in
      absurd (off (asked_alike (no_floor plan) (job_asks plan p due run) p.board u mid other Ended here also between y x).outcome)
  jobs_alike due run one other t u passed also (Late mid x outs entry slot commits) (Late mid' y outs' entry' slot' commits') =
      let work = after_job p.work due run in
      let between = passed_on (no_floor plan) (commit_asks plan work mid.image) mid t one commits passed in
      let between' = passed_on (no_floor plan) (commit_asks plan work mid'.image) mid' u other commits' also in
      let first = asked_alike (no_floor plan) (job_asks plan p due run) p.board mid mid' Ended Ended here between between' x y in
      let commits'' = subst (λ (m : State). Asked (no_floor plan) m (commit_asks plan work m.image) other u) (sym first.board) commits' in
      asked_alike (no_floor plan) (commit_asks plan work mid.image) mid t u one other first.reached passed also commits commits''

  sleeps_alike : (one other : Chunk) (q r : Point) → IsPassed o q.board → IsPassed o r.board → SleepDoes plan p one q → SleepDoes plan p other r → Follow o one other q r
  sleeps_alike one other q r passed also x y =
      let same = asked_alike (no_floor plan) (plain op.Sleep ∷ []) p.board q.board r.board one other here passed also x.asked y.asked in
      follow (work_of (committed_slot plan.layout q.board.image)) false one other q r same x.leaves
      (subst (λ (s : State). Leaves plan p (work_of (committed_slot plan.layout s.image)) false other r) (sym same.board) y.leaves)

  module _ (program : Checked) (unread : SectionsReadNoPayload) (checked : IsChecked program) (code : plan.code ≡ code_of program) (idle : (payload : ℤ) → IsIdle program (held_of p.work payload)) where
    pub chunks_alike : (choice : Choice) (one other : Chunk) (q r : Point) → IsPassed o q.board → IsPassed o r.board → Does plan p choice one q → Does plan p choice other r → Follow o one other q r
    chunks_alike Section one other q r passed also x y =
        let run = sections_alike program plan p.work x.run y.run unread checked code idle x.is_section y.is_section in
        let asks = path_asks plan.layout p.work.len (run_acts plan.code x.run) in
        let asked = subst (λ (e : Ended'). Asked (task_limits plan) p.board (path_asks plan.layout p.work.len (run_acts plan.code e)) other r.board) (sym run) y.asked in
        let leaves = subst (λ (e : Ended'). Leaves plan p (after_section p.work e) true other r) (sym run) y.leaves in
        follow (after_section p.work x.run) true one other q r (asked_alike (task_limits plan) asks p.board q.board r.board one other here passed also x.asked asked) x.leaves leaves
    chunks_alike (Job due) one other q r passed also x y =
        let run = handlers_alike plan p.work due x.run y.run x.is_handler y.is_handler in
        let asks = subst (λ (e : Ended'). JobAsks plan p due e other r.board) (sym run) y.asks in
        let leaves = subst (λ (e : Ended'). Leaves plan p (after_job p.work due e) false other r) (sym run) y.leaves in
        follow (after_job p.work due x.run) false one other q r (jobs_alike due x.run one other q.board r.board passed also x.asks asks) x.leaves leaves
    chunks_alike Checkpoint one other q r passed also x y =
        follow p.work false one other q r (asked_alike (no_floor plan) (commit_asks plan p.work p.board.image) p.board q.board r.board one other here passed also x.asked y.asked) x.leaves y.leaves
    chunks_alike Wake one other q r passed also x y =
        follow p.work p.dirty one other q r (asked_alike (no_floor plan) (plain op.Wake ∷ []) p.board q.board r.board one other here passed also x.asked y.asked) x.leaves y.leaves
    chunks_alike Sleep one other q r passed also x y = sleeps_alike one other q r passed also x y
