use Rattle.std.proofs.Common.{◌∙◌, sym, pos}
use Rattle.cn_scheduler.specs.declared.choice.Choice.TheVariants.{Checkpoint}
use Rattle.cn_scheduler.specs.EnginePoint.{point_of}
use Rattle.cn_scheduler.proofs.Back.{not_last}
use Rattle.cn_scheduler.proofs.Committing.{commit_asked, commit_leaves, commit_rests, belongs_commit}
use Rattle.cn_scheduler.proofs.Warranted.{warranted}
use Rattle.cn_scheduler.proofs.engine.Engine.run_checkpoint.Goals as goal

pub commit-requires-clause-words : goal.commit-requires-clause-words
commit-requires-clause-words g c = let b = c.requires.belongs.1 in (b.fits (pos 0)).shape.words_are ∙ sym b.plan_is.layout.words

pub commit-requires-clause-posts : goal.commit-requires-clause-posts
commit-requires-clause-posts g c = let b = c.requires.belongs.1 in (b.fits (pos 0)).shape.posts_are ∙ sym b.plan_is.layout.tasks

pub commit-requires-clause-on : goal.commit-requires-clause-on
commit-requires-clause-on g c = c.requires.belongs.1.on (warranted c.args.plan.now (point_of c.args.self.now (g.B.Board.state c.args.board.now)) Checkpoint c.requires.chosen).0

pub commit-requires-clause-formed : goal.commit-requires-clause-formed
commit-requires-clause-formed g c = c.requires.belongs.1.is_committed.formed

pub commit-requires-clause-len : goal.commit-requires-clause-len
commit-requires-clause-len g c = c.requires.belongs.1.ready.len_fits

pub commit-requires-clause-place : goal.commit-requires-clause-place
commit-requires-clause-place g c =
    let b = c.requires.belongs.1 in
    not_last c.runs_end.ensures c.requires.belongs.0 c.args.self.now.working.place b.ready.current (b.fits (pos 0)).checked b.ready.rests

pub returns-clause-does : goal.returns-clause-does
returns-clause-does g c =
    let plan = c.args.plan.now in
    let old = g.B.Board.state c.args.board.now in
    let new = g.B.Board.state c.commit.new.board in
    record {
      asked = commit_asked plan c.args.self.now c.commit.new.self old new c.commit.result c.commit.ensures.leaves;
      leaves = commit_leaves plan c.args.self.now c.commit.new.self old new (point_of c.args.self.now old) c.commit.result c.commit.ensures.leaves;
      fits = record { words = c.commit.ensures.variables; again = c.commit.ensures.again; formed = c.commit.ensures.formed };
    }

pub returns-clause-keeps : goal.returns-clause-keeps
returns-clause-keeps g c =
    let plan = c.args.plan.now in
    let old = g.B.Board.state c.args.board.now in
    let new = g.B.Board.state c.commit.new.board in
    record {
      rest = λ over full. commit_rests plan c.args.self.now c.commit.new.self old new c.commit.result over c.commit.ensures.leaves;
      belongs = λ over full program b.
          let fit = b.fits (pos 0) in
          belongs_commit plan c.args.self.now c.commit.new.self old new c.commits_last.ensures program fit.checked fit.code_is b.plan_is b.image b.committed b.is_committed b.committed_steps b.steps b.ready b.fits b.events
          c.commit.ensures.again c.commit.ensures.formed c.commit.ensures.variables c.commit.result over c.commit.ensures.leaves;
    }
