-- Each chunk only adds to what a board has told and harvested.
use Rattle.std.proofs.Common.{◌≡◌, inl, inr, List, [], ◌∷◌, ◌++◌, refl, sym, ap, ◌∙◌, append_assoc, append-nil}
use Rattle.nv_memory.specs.declared.entry.Entry.{Entry}
use Rattle.nv_memory.specs.declared.entry.Op.TheVariants as op
use Rattle.nv_memory.specs.Board.{State, IsDone, IsLost}
use Rattle.board_core.specs.Laws.{IsLater}
use Rattle.event_queue.specs.declared.queue.Due.{Due}
use Rattle.cat_machine.specs.Machine.{Ended'}
use Rattle.cn_scheduler.specs.declared.plan.Plan.{Plan}
use Rattle.cn_scheduler.specs.declared.choice.Choice.{Choice}
use Rattle.cn_scheduler.specs.declared.choice.Choice.TheVariants.{Job, Section, Checkpoint, Wake, Sleep}
use Rattle.cn_scheduler.specs.declared.engine.Chunk.{Chunk}
use Rattle.cn_scheduler.specs.declared.engine.Chunk.TheVariants.{Ended, Dropped, Lost, Over, Full}
use Rattle.cn_scheduler.specs.Paths.{run_acts}
use Rattle.cn_scheduler.specs.Point.{Point}
use Rattle.cn_scheduler.specs.Asked.{Ask, Limits, Stops, Asked, plain, path_asks}
use Rattle.cn_scheduler.specs.Chunks.{Does, IsLawful, JobAsks, Link, after_job, commit_asks, job_asks, no_floor, point_after, task_limits}
use Rattle.cn_scheduler.specs.Chunks.JobAsks.{Early, Late}

pub later_same : (s t : State) → t ≡ s → IsLater s t
later_same s t e = record {
  entries = [];
  timeline = ap (λ (x : State). x.timeline) e ∙ sym (append-nil s.timeline);
  passed = [];
  harvest = ap (λ (x : State). x.harvest) e ∙ sym (append-nil s.harvest);
}

pub later_on : (s t u : State) → IsLater s t → IsLater t u → IsLater s u
later_on s t u a b = record {
  entries = a.entries ++ b.entries;
  timeline = b.timeline ∙ ap (λ (l : List Entry). l ++ b.entries) a.timeline ∙ append_assoc s.timeline a.entries b.entries;
  passed = a.passed ++ b.passed;
  harvest = b.harvest ∙ ap (λ l. l ++ b.passed) a.harvest ∙ append_assoc s.harvest a.passed b.passed;
}

pub later_done : (s t : State) (a : Ask) → IsDone s a.op t → IsLater s t
later_done s t a done = record {
  entries = _;
  timeline = ap (λ (x : State). x.timeline) done.becomes;
  passed = done.passed;
  harvest = ap (λ (x : State). x.harvest) done.becomes;
}

later_lost : (s t : State) (a : Ask) → IsLost s a.op t → IsLater s t
later_lost s t a lost = record {
  entries = _;
  timeline = ap (λ (x : State). x.timeline) lost.becomes;
  passed = lost.passed;
  harvest = ap (λ (x : State). x.harvest) lost.becomes;
}

pub later_stops : (l : Limits) (s t : State) (a : Ask) (outcome : Chunk) → Stops l s a outcome t → IsLater s t
later_stops l s t a Ended stops = absurd stops
later_stops l s t a Dropped stops = later_same s t stops.1
later_stops l s t a Full stops = later_same s t stops.2
later_stops l s t a Lost stops = later_lost s t a stops.2
later_stops l s t a Over stops = later_same s t stops.2.same

pub later_asked : (l : Limits) (asks : List Ask) (s t : State) (outcome : Chunk) → Asked l s asks outcome t → IsLater s t
later_asked l [] s t Ended asked = later_same s t asked
later_asked l [] s t Dropped asked = absurd asked
later_asked l [] s t Lost asked = absurd asked
later_asked l [] s t Over asked = absurd asked
later_asked l [] s t Full asked = absurd asked
later_asked l (a ∷ asks) s t outcome (inl stops) = later_stops l s t a outcome stops
later_asked l (a ∷ asks) s t outcome (inr goes) = later_on s goes.0 t (later_done s goes.0 a goes.1.done) (later_asked l asks goes.0 t outcome goes.2)

later_job : (plan : Plan) (p : Point) (due : Due) (run : Ended') (t : State) (outcome : Chunk) → JobAsks plan p due run outcome t → IsLater p.board t
later_job plan p due run t outcome (Early on asked) = later_asked (no_floor plan) (job_asks plan p due run) p.board t outcome asked
later_job plan p due run t outcome (Late mid asked outs entry slot commits) =
    later_on p.board mid t (later_asked (no_floor plan) (job_asks plan p due run) p.board mid Ended asked)
    (later_asked (no_floor plan) (commit_asks plan (after_job p.work due run) mid.image) mid t outcome commits)

pub later_does : (plan : Plan) (p q : Point) (choice : Choice) (outcome : Chunk) → Does plan p choice outcome q → IsLater p.board q.board
later_does plan p q Section outcome does = later_asked (task_limits plan) (path_asks plan.layout p.work.len (run_acts plan.code does.run)) p.board q.board outcome does.asked
later_does plan p q (Job due) outcome does = later_job plan p due does.run q.board outcome does.asks
later_does plan p q Checkpoint outcome does = later_asked (no_floor plan) (commit_asks plan p.work p.board.image) p.board q.board outcome does.asked
later_does plan p q Wake outcome does = later_asked (no_floor plan) (plain op.Wake ∷ []) p.board q.board outcome does.asked
later_does plan p q Sleep outcome does = later_asked (no_floor plan) (plain op.Sleep ∷ []) p.board q.board outcome does.asked

pub later_line : (plan : Plan) (cs : List Link) (p : Point) → IsLawful plan p cs → IsLater p.board (point_after p cs).board
later_line plan [] p lawful = later_same p.board p.board refl
later_line plan (c ∷ cs) p lawful =
    later_on p.board c.after.board (point_after c.after cs).board (later_does plan p c.after c.choice c.outcome lawful.0.does) (later_line plan cs c.after lawful.2)
