use Rattle.std.proofs.Common.{◌+◌, ◌∙◌, ap, sym, ℕ, arith, refl, length, slice_index}
use Rattle.std.proofs.lemmas.List.Sums.{count_by-le-length}
use Rattle.checkpoint_slots.specs.declared.slot.Slot.{Slot}
use Rattle.recovery.specs.Committed.{is_ran}
use Rattle.cn_scheduler.specs.declared.engine.Engine.{Engine}
use Rattle.cn_scheduler.specs.declared.choice.Choice.TheVariants.{Job}
use Rattle.cn_scheduler.specs.declared.engine.Chunk.TheVariants.{Ended, Lost}
use Rattle.cn_scheduler.specs.Chunks.{job_asks, after_job}
use Rattle.cn_scheduler.specs.Chunks.JobAsks.{Early}
use Rattle.cn_scheduler.specs.EnginePoint.{work_in, point_of}
use Rattle.cn_scheduler.proofs.Warranted.{warranted}
use Rattle.cn_scheduler.proofs.Sections.{fits_now}
use Rattle.cn_scheduler.proofs.Committing.{commit_asked, commit_leaves, commit_rests, belongs_commit}
use Rattle.cn_scheduler.proofs.Jobs.{known, served_same, served_made, served_later, lost_job, now_rests, now_place, now_ready, now_fits, now_events, now_steps, job_does, stopped_leaves, not_kept}
use Rattle.cn_scheduler.proofs.engine.Engine.run_job.Goals as goal

pub restore-requires-clause-image : goal.restore-requires-clause-image
restore-requires-clause-image g c =
    let plan = c.args.plan.now in
    let e = c.args.self.now in
    let old = g.B.Board.state c.args.board.now in
    let mid = g.B.Board.state c.serve.new.board in
    let due = c.args.due.now in
    let program = c.requires.belongs.0 in
    let b = c.requires.belongs.1 in
    let next = (warranted plan (point_of e old) (Job due) c.requires.chosen).0 in
    omega (arith, (served_same plan program e old due c.requires.rest b next c.runs_end.ensures c.appends_are_safe.ensures c.commits_last.ensures c.serve.new.self mid Lost c.in-Lost.ensures.serves).long, b.image)

pub restore-requires-clause-formed : goal.restore-requires-clause-formed
restore-requires-clause-formed g c =
    let plan = c.args.plan.now in
    let e = c.args.self.now in
    let old = g.B.Board.state c.args.board.now in
    let mid = g.B.Board.state c.serve.new.board in
    let due = c.args.due.now in
    let program = c.requires.belongs.0 in
    let b = c.requires.belongs.1 in
    let next = (warranted plan (point_of e old) (Job due) c.requires.chosen).0 in
    (served_same plan program e old due c.requires.rest b next c.runs_end.ensures c.appends_are_safe.ensures c.commits_last.ensures c.serve.new.self mid Lost c.in-Lost.ensures.serves).committed.formed

pub restore-requires-clause-made : goal.restore-requires-clause-made
restore-requires-clause-made g c =
    let plan = c.args.plan.now in
    let e = c.args.self.now in
    let old = g.B.Board.state c.args.board.now in
    let mid = g.B.Board.state c.serve.new.board in
    let due = c.args.due.now in
    let program = c.requires.belongs.0 in
    let b = c.requires.belongs.1 in
    let next = (warranted plan (point_of e old) (Job due) c.requires.chosen).0 in
    served_made plan program e old due c.requires.rest b next c.runs_end.ensures c.appends_are_safe.ensures c.commits_last.ensures c.serve.new.self mid Lost c.in-Lost.ensures.serves

pub restore-requires-clause-words : goal.restore-requires-clause-words
restore-requires-clause-words g c =
    let plan = c.args.plan.now in
    let e = c.args.self.now in
    let old = g.B.Board.state c.args.board.now in
    let mid = g.B.Board.state c.serve.new.board in
    let due = c.args.due.now in
    let program = c.requires.belongs.0 in
    let b = c.requires.belongs.1 in
    let next = (warranted plan (point_of e old) (Job due) c.requires.chosen).0 in
    (c.in-Lost.ensures.fits program (fits_now plan program e old c.requires.rest b)).shape.words_are ∙ sym b.plan_is.layout.words

pub restore-requires-clause-posts : goal.restore-requires-clause-posts
restore-requires-clause-posts g c =
    let plan = c.args.plan.now in
    let e = c.args.self.now in
    let old = g.B.Board.state c.args.board.now in
    let mid = g.B.Board.state c.serve.new.board in
    let due = c.args.due.now in
    let program = c.requires.belongs.0 in
    let b = c.requires.belongs.1 in
    let next = (warranted plan (point_of e old) (Job due) c.requires.chosen).0 in
    (c.in-Lost.ensures.fits program (fits_now plan program e old c.requires.rest b)).shape.posts_are ∙ sym b.plan_is.layout.tasks

pub returns-in-Lost-clause-does : goal.returns-in-Lost-clause-does
returns-in-Lost-clause-does g c =
    let plan = c.args.plan.now in
    let e = c.args.self.now in
    let old = g.B.Board.state c.args.board.now in
    let mid = g.B.Board.state c.serve.new.board in
    let due = c.args.due.now in
    let program = c.requires.belongs.0 in
    let b = c.requires.belongs.1 in
    let next = (warranted plan (point_of e old) (Job due) c.requires.chosen).0 in
    let s = c.in-Lost.ensures.serves in
    record {
      run = s.run;
      is_handler = s.is_handler;
      asks = Early (λ no. cc) s.asked;
      leaves = record { work_is = c.restore.ensures.work; clean = c.restore.ensures.clean };
    }

pub returns-in-Lost-clause-keeps : goal.returns-in-Lost-clause-keeps
returns-in-Lost-clause-keeps g c =
    let plan = c.args.plan.now in
    let e = c.args.self.now in
    let old = g.B.Board.state c.args.board.now in
    let mid = g.B.Board.state c.serve.new.board in
    let due = c.args.due.now in
    let program = c.requires.belongs.0 in
    let b = c.requires.belongs.1 in
    let next = (warranted plan (point_of e old) (Job due) c.requires.chosen).0 in
    record {
      rest = λ over full. c.restore.ensures.rest;
      belongs = λ over full program b.
          lost_job plan program e old due c.requires.rest b next c.runs_end.ensures c.appends_are_safe.ensures c.commits_last.ensures c.serve.new.self mid (point_of c.restore.new.self mid) c.in-Lost.ensures.serves refl c.restore.ensures.work c.restore.ensures.clean c.restore.ensures.numbers;
    }

pub returns-in_default-clause-does : goal.returns-in_default-clause-does
returns-in_default-clause-does g c =
    let plan = c.args.plan.now in
    let e = c.args.self.now in
    let old = g.B.Board.state c.args.board.now in
    let mid = g.B.Board.state c.serve.new.board in
    let due = c.args.due.now in
    let program = c.requires.belongs.0 in
    let b = c.requires.belongs.1 in
    let next = (warranted plan (point_of e old) (Job due) c.requires.chosen).0 in
    let s = c.serve.ensures.serves in
    record {
      run = s.run;
      is_handler = s.is_handler;
      asks = Early c.in_default.not-Ended s.asked;
      leaves = stopped_leaves plan (point_of e old) (after_job (work_in e) due s.run) (job_asks plan (point_of e old) due s.run) c.serve.result (point_of c.serve.new.self mid) c.in_default.not-Ended c.in_default.not-Lost s.asked;
    }

pub returns-in_default-clause-keeps : goal.returns-in_default-clause-keeps
returns-in_default-clause-keeps g c =
    let plan = c.args.plan.now in
    let e = c.args.self.now in
    let old = g.B.Board.state c.args.board.now in
    let mid = g.B.Board.state c.serve.new.board in
    let due = c.args.due.now in
    let program = c.requires.belongs.0 in
    let b = c.requires.belongs.1 in
    let next = (warranted plan (point_of e old) (Job due) c.requires.chosen).0 in
    let s = c.serve.ensures.serves in
    let never = not_kept plan (job_asks plan (point_of e old) due s.run) c.serve.result old mid c.in_default.not-Ended c.in_default.not-Lost s.asked in
    record { rest = λ over full. absurd (never over full); belongs = λ over full program b. absurd (never over full) }

pub done-done-requires : goal.done-done-requires
done-done-requires g c =
    let plan = c.args.plan.now in
    let e = c.args.self.now in
    let old = g.B.Board.state c.args.board.now in
    let mid = g.B.Board.state c.serve.new.board in
    let due = c.args.due.now in
    let program = c.requires.belongs.0 in
    let b = c.requires.belongs.1 in
    let next = (warranted plan (point_of e old) (Job due) c.requires.chosen).0 in
    let below = known plan program e old due c.requires.rest b next in
    let slot = c.in-Ended.ensures.serves.slot in
    omega (arith, below, b.events, ap (λ (x : Slot). length x.done) slot)

pub overflow_add-done : goal.overflow_add-done
overflow_add-done g c =
    let plan = c.args.plan.now in
    let e = c.args.self.now in
    let old = g.B.Board.state c.args.board.now in
    let mid = g.B.Board.state c.serve.new.board in
    let due = c.args.due.now in
    let program = c.requires.belongs.0 in
    let b = c.requires.belongs.1 in
    let next = (warranted plan (point_of e old) (Job due) c.requires.chosen).0 in
    let below = known plan program e old due c.requires.rest b next in
    let slot = c.in-Ended.ensures.serves.slot in
    let many = count_by-le-length (is_ran due.event) b.ready.entries in
    omega (arith, c.done-done.ensures, ap (λ (x : Slot). slice_index x.done due.event) slot, b.ready.recorded.counted due.event (omega (arith, below, b.plan_is.layout.events)), many, b.ready.recorded.many, b.ready.len_fits, plan.layout.log_in_range)

pub set_done-requires : goal.set_done-requires
set_done-requires g c =
    let plan = c.args.plan.now in
    let e = c.args.self.now in
    let old = g.B.Board.state c.args.board.now in
    let mid = g.B.Board.state c.serve.new.board in
    let due = c.args.due.now in
    let program = c.requires.belongs.0 in
    let b = c.requires.belongs.1 in
    let next = (warranted plan (point_of e old) (Job due) c.requires.chosen).0 in
    let below = known plan program e old due c.requires.rest b next in
    let slot = c.in-Ended.ensures.serves.slot in
    omega (arith, below, b.events, ap (λ (x : Slot). length x.done) slot)

pub commit-requires-clause-rest : goal.commit-requires-clause-rest
commit-requires-clause-rest g c =
    let plan = c.args.plan.now in
    let e = c.args.self.now in
    let old = g.B.Board.state c.args.board.now in
    let mid = g.B.Board.state c.serve.new.board in
    let due = c.args.due.now in
    let program = c.requires.belongs.0 in
    let b = c.requires.belongs.1 in
    let next = (warranted plan (point_of e old) (Job due) c.requires.chosen).0 in
    let count = ap (λ (x : ℕ). x + 1) c.done-done.ensures in
    let same = served_same plan program e old due c.requires.rest b next c.runs_end.ensures c.appends_are_safe.ensures c.commits_last.ensures c.serve.new.self mid Ended c.in-Ended.ensures.serves in
    let fit = c.in-Ended.ensures.fits program (fits_now plan program e old c.requires.rest b) in
    now_rests plan program e old due c.requires.rest b next c.runs_end.ensures c.appends_are_safe.ensures c.commits_last.ensures c.serve.new.self mid c.in-Ended.ensures.serves c.set_done.new.self (c.done-done.result + 1) count c.set_done.ensures

pub commit-requires-clause-words : goal.commit-requires-clause-words
commit-requires-clause-words g c =
    let plan = c.args.plan.now in
    let e = c.args.self.now in
    let old = g.B.Board.state c.args.board.now in
    let mid = g.B.Board.state c.serve.new.board in
    let due = c.args.due.now in
    let program = c.requires.belongs.0 in
    let b = c.requires.belongs.1 in
    let next = (warranted plan (point_of e old) (Job due) c.requires.chosen).0 in
    let count = ap (λ (x : ℕ). x + 1) c.done-done.ensures in
    let same = served_same plan program e old due c.requires.rest b next c.runs_end.ensures c.appends_are_safe.ensures c.commits_last.ensures c.serve.new.self mid Ended c.in-Ended.ensures.serves in
    let fit = c.in-Ended.ensures.fits program (fits_now plan program e old c.requires.rest b) in
    fit.shape.words_are ∙ sym b.plan_is.layout.words

pub commit-requires-clause-posts : goal.commit-requires-clause-posts
commit-requires-clause-posts g c =
    let plan = c.args.plan.now in
    let e = c.args.self.now in
    let old = g.B.Board.state c.args.board.now in
    let mid = g.B.Board.state c.serve.new.board in
    let due = c.args.due.now in
    let program = c.requires.belongs.0 in
    let b = c.requires.belongs.1 in
    let next = (warranted plan (point_of e old) (Job due) c.requires.chosen).0 in
    let count = ap (λ (x : ℕ). x + 1) c.done-done.ensures in
    let same = served_same plan program e old due c.requires.rest b next c.runs_end.ensures c.appends_are_safe.ensures c.commits_last.ensures c.serve.new.self mid Ended c.in-Ended.ensures.serves in
    let fit = c.in-Ended.ensures.fits program (fits_now plan program e old c.requires.rest b) in
    fit.shape.posts_are ∙ sym b.plan_is.layout.tasks

pub commit-requires-clause-on : goal.commit-requires-clause-on
commit-requires-clause-on g c =
    let plan = c.args.plan.now in
    let e = c.args.self.now in
    let old = g.B.Board.state c.args.board.now in
    let mid = g.B.Board.state c.serve.new.board in
    let due = c.args.due.now in
    let program = c.requires.belongs.0 in
    let b = c.requires.belongs.1 in
    let next = (warranted plan (point_of e old) (Job due) c.requires.chosen).0 in
    let count = ap (λ (x : ℕ). x + 1) c.done-done.ensures in
    let same = served_same plan program e old due c.requires.rest b next c.runs_end.ensures c.appends_are_safe.ensures c.commits_last.ensures c.serve.new.self mid Ended c.in-Ended.ensures.serves in
    let fit = c.in-Ended.ensures.fits program (fits_now plan program e old c.requires.rest b) in
    (c.in-Ended.ensures.serves.ended refl).on

pub commit-requires-clause-image : goal.commit-requires-clause-image
commit-requires-clause-image g c =
    let plan = c.args.plan.now in
    let e = c.args.self.now in
    let old = g.B.Board.state c.args.board.now in
    let mid = g.B.Board.state c.serve.new.board in
    let due = c.args.due.now in
    let program = c.requires.belongs.0 in
    let b = c.requires.belongs.1 in
    let next = (warranted plan (point_of e old) (Job due) c.requires.chosen).0 in
    let count = ap (λ (x : ℕ). x + 1) c.done-done.ensures in
    let same = served_same plan program e old due c.requires.rest b next c.runs_end.ensures c.appends_are_safe.ensures c.commits_last.ensures c.serve.new.self mid Ended c.in-Ended.ensures.serves in
    let fit = c.in-Ended.ensures.fits program (fits_now plan program e old c.requires.rest b) in
    omega (arith, same.long, b.image)

pub commit-requires-clause-formed : goal.commit-requires-clause-formed
commit-requires-clause-formed g c =
    let plan = c.args.plan.now in
    let e = c.args.self.now in
    let old = g.B.Board.state c.args.board.now in
    let mid = g.B.Board.state c.serve.new.board in
    let due = c.args.due.now in
    let program = c.requires.belongs.0 in
    let b = c.requires.belongs.1 in
    let next = (warranted plan (point_of e old) (Job due) c.requires.chosen).0 in
    let count = ap (λ (x : ℕ). x + 1) c.done-done.ensures in
    let same = served_same plan program e old due c.requires.rest b next c.runs_end.ensures c.appends_are_safe.ensures c.commits_last.ensures c.serve.new.self mid Ended c.in-Ended.ensures.serves in
    let fit = c.in-Ended.ensures.fits program (fits_now plan program e old c.requires.rest b) in
    same.committed.formed

pub commit-requires-clause-len : goal.commit-requires-clause-len
commit-requires-clause-len g c =
    let plan = c.args.plan.now in
    let e = c.args.self.now in
    let old = g.B.Board.state c.args.board.now in
    let mid = g.B.Board.state c.serve.new.board in
    let due = c.args.due.now in
    let program = c.requires.belongs.0 in
    let b = c.requires.belongs.1 in
    let next = (warranted plan (point_of e old) (Job due) c.requires.chosen).0 in
    let count = ap (λ (x : ℕ). x + 1) c.done-done.ensures in
    let same = served_same plan program e old due c.requires.rest b next c.runs_end.ensures c.appends_are_safe.ensures c.commits_last.ensures c.serve.new.self mid Ended c.in-Ended.ensures.serves in
    let fit = c.in-Ended.ensures.fits program (fits_now plan program e old c.requires.rest b) in
    omega (arith, ap (λ (x : Slot). x.len) c.set_done.ensures, c.in-Ended.ensures.few)

pub commit-requires-clause-place : goal.commit-requires-clause-place
commit-requires-clause-place g c =
    let plan = c.args.plan.now in
    let e = c.args.self.now in
    let old = g.B.Board.state c.args.board.now in
    let mid = g.B.Board.state c.serve.new.board in
    let due = c.args.due.now in
    let program = c.requires.belongs.0 in
    let b = c.requires.belongs.1 in
    let next = (warranted plan (point_of e old) (Job due) c.requires.chosen).0 in
    let count = ap (λ (x : ℕ). x + 1) c.done-done.ensures in
    let same = served_same plan program e old due c.requires.rest b next c.runs_end.ensures c.appends_are_safe.ensures c.commits_last.ensures c.serve.new.self mid Ended c.in-Ended.ensures.serves in
    let fit = c.in-Ended.ensures.fits program (fits_now plan program e old c.requires.rest b) in
    now_place plan program e old due c.requires.rest b next c.runs_end.ensures c.appends_are_safe.ensures c.commits_last.ensures c.serve.new.self mid c.in-Ended.ensures.serves c.set_done.new.self (c.done-done.result + 1) count c.set_done.ensures

pub returns-clause-does : goal.returns-clause-does
returns-clause-does g c =
    let plan = c.args.plan.now in
    let e = c.args.self.now in
    let old = g.B.Board.state c.args.board.now in
    let mid = g.B.Board.state c.serve.new.board in
    let due = c.args.due.now in
    let program = c.requires.belongs.0 in
    let b = c.requires.belongs.1 in
    let next = (warranted plan (point_of e old) (Job due) c.requires.chosen).0 in
    let count = ap (λ (x : ℕ). x + 1) c.done-done.ensures in
    let e2 : Engine = record { working = c.serve.new.self.working; slot = c.set_done.new.self; dirty = c.serve.new.self.dirty } in
    let new = g.B.Board.state c.commit.new.board in
    job_does plan program e old due c.requires.rest b next c.runs_end.ensures c.appends_are_safe.ensures c.commits_last.ensures c.serve.new.self mid c.in-Ended.ensures.serves c.set_done.new.self (c.done-done.result + 1) count c.set_done.ensures c.commit.result (point_of c.commit.new.self new) (record { words = c.commit.ensures.variables; again = c.commit.ensures.again; formed = c.commit.ensures.formed })
    (commit_asked plan e2 c.commit.new.self mid new c.commit.result c.commit.ensures.leaves) (commit_leaves plan e2 c.commit.new.self mid new (point_of e old) c.commit.result c.commit.ensures.leaves)

pub returns-clause-keeps : goal.returns-clause-keeps
returns-clause-keeps g c =
    let plan = c.args.plan.now in
    let e = c.args.self.now in
    let old = g.B.Board.state c.args.board.now in
    let mid = g.B.Board.state c.serve.new.board in
    let due = c.args.due.now in
    let program = c.requires.belongs.0 in
    let b = c.requires.belongs.1 in
    let next = (warranted plan (point_of e old) (Job due) c.requires.chosen).0 in
    let count = ap (λ (x : ℕ). x + 1) c.done-done.ensures in
    let e2 : Engine = record { working = c.serve.new.self.working; slot = c.set_done.new.self; dirty = c.serve.new.self.dirty } in
    let new = g.B.Board.state c.commit.new.board in
    record {
      rest = λ over full. commit_rests plan e2 c.commit.new.self mid new c.commit.result over c.commit.ensures.leaves;
      belongs = λ over full program b.
          let same = served_same plan program e old due c.requires.rest b next c.runs_end.ensures c.appends_are_safe.ensures c.commits_last.ensures c.serve.new.self mid Ended c.in-Ended.ensures.serves in
          let fits = fits_now plan program e old c.requires.rest b in
          let fit = c.in-Ended.ensures.fits program fits in
          let later = served_later plan program e old due c.requires.rest b next c.runs_end.ensures c.appends_are_safe.ensures c.commits_last.ensures c.serve.new.self mid Ended c.in-Ended.ensures.serves in
          belongs_commit plan e2 c.commit.new.self mid new c.commits_last.ensures program fits.checked fits.code_is b.plan_is (omega (arith, same.long, b.image)) b.committed same.committed (omega (arith, later, b.committed_steps)) (now_steps plan program e old due c.requires.rest b next c.runs_end.ensures c.appends_are_safe.ensures c.commits_last.ensures c.serve.new.self mid c.in-Ended.ensures.serves c.set_done.new.self (c.done-done.result + 1) count c.set_done.ensures)
          (now_ready plan program e old due c.requires.rest b next c.runs_end.ensures c.appends_are_safe.ensures c.commits_last.ensures c.serve.new.self mid c.in-Ended.ensures.serves c.set_done.new.self (c.done-done.result + 1) count c.set_done.ensures (omega (arith, ap (λ (x : Slot). x.len) c.set_done.ensures, c.in-Ended.ensures.few))) (now_fits plan program e old due c.requires.rest b next c.runs_end.ensures c.appends_are_safe.ensures c.commits_last.ensures c.serve.new.self mid c.in-Ended.ensures.serves c.set_done.new.self (c.done-done.result + 1) count c.set_done.ensures fit) (now_events plan program e old due c.requires.rest b next c.runs_end.ensures c.appends_are_safe.ensures c.commits_last.ensures c.serve.new.self mid c.in-Ended.ensures.serves c.set_done.new.self (c.done-done.result + 1) count c.set_done.ensures)
          c.commit.ensures.again c.commit.ensures.formed c.commit.ensures.variables c.commit.result over c.commit.ensures.leaves;
    }
