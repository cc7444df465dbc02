-- Each chunk that does not end the timeline takes time, and only task code is dropped.
use Rattle.std.proofs.Common.{◌≡◌, ℕ, ◌+◌, ◌<◌, ◌≤◌, inl, inr, List, [], ◌∷◌, ◌++◌, length, refl, sym, ap, subst, arith, false, length-append}
use Rattle.std.proofs.lemmas.List.{length-map}
use Rattle.nv_memory.specs.declared.device.Class.{Class}
use Rattle.nv_memory.specs.declared.device.Device.{Device}
use Rattle.nv_memory.specs.declared.entry.Op.{Op}
use Rattle.nv_memory.specs.declared.entry.Entry.{Entry}
use Rattle.nv_memory.specs.Layout.{lines_of}
use Rattle.nv_memory.specs.Board.{State, IsDone}
use Rattle.nv_log.specs.declared.log.By.TheVariants as by
use Rattle.checkpoint_slots.specs.Commit.{line_writes, gate_write, other_at, commit_writes}
use Rattle.cat_machine.specs.Machine.{Ended'}
use Rattle.event_queue.specs.declared.queue.Due.{Due}
use Rattle.cn_scheduler.specs.declared.plan.Plan.{Plan}
use Rattle.cn_scheduler.specs.declared.engine.Chunk.{Chunk}
use Rattle.cn_scheduler.specs.declared.engine.Chunk.TheVariants.{Ended, Dropped, Lost, Over, Full}
use Rattle.cn_scheduler.specs.Point.{Point, Work, slot_of}
use Rattle.cn_scheduler.specs.Paths.{run_outs, run_acts}
use Rattle.cn_scheduler.specs.Asked.{Ask, plain, recording, path_asks, Limits, Stops, Asked}
use Rattle.cn_scheduler.specs.Chunks.{is_last, no_floor, commit_asks, wake_asks, ran_of, job_asks, after_job, Commits, JobAsks, JobDoes}
use Rattle.cn_scheduler.specs.Chunks.JobAsks.{Early, Late}
use Rattle.calm_timeline.proofs.Asks.{came, some_ticks_of, ticks_passed, PassesAll}

-- ---- only task code is dropped

stops_dropped : (plan : Plan) (old new : State) (a : Ask) → Stops (no_floor plan) old a Dropped new → ⊥
stops_dropped plan old new a stops = absurd (omega (arith, stops.0))

pub not_dropped : (plan : Plan) (asks : List Ask) (old new : State) → Asked (no_floor plan) old asks Dropped new → ⊥
not_dropped plan [] old new asked = asked
not_dropped plan (a ∷ asks) old new asked =
    elim asked [
      | inl stops ↦ stops_dropped plan old new a stops
      | inr goes ↦ not_dropped plan asks goes.0 new goes.2
    ]

-- ---- what is asked takes time

done_moves : (old new : State) (o : Op) → ((c : Class) → 1 ≤ old.ticks c) → IsDone old o new → old.tick < new.tick
done_moves old new o some done =
    let tick : new.tick ≡ old.tick + length done.passed = ap (λ (s : State). s.tick) done.becomes in
    let all = done.all_ticks in
    let one = some_ticks_of old.ticks o some in
    omega arith

stops_move : (l : Limits) (old new : State) (a : Ask) (outcome : Chunk) → l.floor old.tick ≤ old.stored → is_last outcome ≡ false → Stops l old a outcome new → old.tick < new.tick
stops_move l old new a Ended high goes stops = absurd stops
stops_move l old new a Dropped high goes stops = absurd (omega (arith, stops.0))
stops_move l old new a Lost high goes stops =
    let lost = stops.2 in
    let tick : new.tick ≡ old.tick + length lost.passed = ap (λ (s : State). s.tick) lost.becomes in
    let some = lost.some_ticks in
    omega arith
stops_move l old new a Over high goes stops = absurd (cc)
stops_move l old new a Full high goes stops = absurd (cc)

module _ (device : Device) where
  -- time never goes back
  pub not_back : (l : Limits) (asks : List Ask) (old new : State) (outcome : Chunk) → ((c : Class) → 1 ≤ old.ticks c) → Asked l old asks outcome new → old.tick ≤ new.tick
  not_back l asks old new outcome some asked =
      let all = came device l asks old new outcome some asked in
      let passed = ticks_passed device all.entries old new all.passes in
      omega arith

  pub moves : (l : Limits) (asks : List Ask) (old new : State) (outcome : Chunk) → ((c : Class) → 1 ≤ old.ticks c) → 0 < length asks → l.floor old.tick ≤ old.stored →
      is_last outcome ≡ false → Asked l old asks outcome new → old.tick < new.tick
  moves l [] old new outcome some any high goes asked = absurd (omega arith)
  moves l (a ∷ asks) old new outcome some any high goes asked =
      elim asked [
        | inl stops ↦ stops_move l old new a outcome high goes stops
        | inr on ↦
            let first = done_moves old on.0 a.op some on.1.done in
            let same : on.0.ticks ≡ old.ticks = ap (λ (s : State). s.ticks) on.1.done.becomes in
            let later = not_back l asks on.0 new outcome (λ c. subst (λ (t : Class → ℕ). 1 ≤ t c) (sym same) (some c)) on.2 in
            omega arith
      ]

  still : (entries : List Entry) (old new : State) → PassesAll old entries new → ((c : Class) → 1 ≤ old.ticks c) → (c : Class) → 1 ≤ new.ticks c
  still [] old new same some = subst (λ (s : State). (c : Class) → 1 ≤ s.ticks c) (sym same) some
  still (e ∷ entries) old new passes some =
      still entries passes.0 new passes.2 (λ c. subst (λ (t : Class → ℕ). 1 ≤ t c) (sym passes.1.ticks) (some c))

  some_commit : (plan : Plan) (w : Work) (image : List ℕ) → 0 < length (commit_asks plan w image)
  some_commit plan w image =
      let all = length-map (commit_writes plan.layout (slot_of w) image) plain in
      let parts = length-append (line_writes (slot_of w) (other_at plan.layout image) image (lines_of plan.layout)) (gate_write image ∷ []) in
      omega arith

  pub commit_moves : (plan : Plan) (w : Work) (old new : State) (outcome : Chunk) → ((c : Class) → 1 ≤ old.ticks c) → is_last outcome ≡ false → Commits plan w old outcome new → old.tick < new.tick
  commit_moves plan w old new outcome some goes asked = moves (no_floor plan) (commit_asks plan w old.image) old new outcome some (some_commit plan w old.image) (omega arith) goes asked

  some_job : (plan : Plan) (p : Point) (due : Due) (run : Ended') → 0 < length (job_asks plan p due run)
  some_job plan p due run =
      let parts : length (job_asks plan p due run) ≡ length (wake_asks p.board.on ++ path_asks plan.layout p.work.len (run_acts plan.code run)) + 1 =
      length-append (wake_asks p.board.on ++ path_asks plan.layout p.work.len (run_acts plan.code run)) (recording plan.layout (p.work.len + length (run_outs run)) (ran_of plan p due) by.Write ∷ []) in
      omega arith

  pub job_moves : (plan : Plan) (p q : Point) (due : Due) (outcome : Chunk) → ((c : Class) → 1 ≤ p.board.ticks c) → is_last outcome ≡ false → JobDoes plan p due outcome q → p.board.tick < q.board.tick
  job_moves plan p q due outcome some goes does = go does.asks
    where
      go : JobAsks plan p due does.run outcome q.board → p.board.tick < q.board.tick
      go (Early other asked) = moves (no_floor plan) (job_asks plan p due does.run) p.board q.board outcome some (some_job plan p due does.run) (omega arith) goes asked
      go (Late mid asked outs own saved commits) =
          let first = moves (no_floor plan) (job_asks plan p due does.run) p.board mid Ended some (some_job plan p due does.run) (omega arith) refl asked in
          let all = came device (no_floor plan) (job_asks plan p due does.run) p.board mid Ended some asked in
          let later = not_back (no_floor plan) (commit_asks plan (after_job p.work due does.run) mid.image) mid q.board outcome (still all.entries p.board mid all.passes some) commits in
          omega arith

  pub job_not_dropped : (plan : Plan) (p q : Point) (due : Due) → JobDoes plan p due Dropped q → ⊥
  job_not_dropped plan p q due does = go does.asks
    where
      go : JobAsks plan p due does.run Dropped q.board → ⊥
      go (Early other asked) = not_dropped plan (job_asks plan p due does.run) p.board q.board asked
      go (Late mid asked outs own saved commits) = not_dropped plan (commit_asks plan (after_job p.work due does.run) mid.image) mid q.board commits
