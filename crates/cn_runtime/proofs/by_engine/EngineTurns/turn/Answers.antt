use Rattle.cn_scheduler.specs.declared.choice.Choice.TheVariants.{Job, Section, Checkpoint, Wake}
use Rattle.lawful_timeline.specs.Lines.Turned.{Did}
use Rattle.cn_runtime.proofs.Engines.{goes_on}
use Rattle.cn_runtime.proofs.by_engine.EngineTurns.turn.Goals as goal

pub returns-in-Job-clause-turned : goal.returns-in-Job-clause-turned
returns-in-Job-clause-turned g c = Did (Job c.in-Job.due) c.in-Job.ensures c.run_job.ensures.does

pub returns-in-Section-clause-turned : goal.returns-in-Section-clause-turned
returns-in-Section-clause-turned g c = Did Section c.in-Section.ensures c.run_section.ensures.does

pub returns-in-Checkpoint-clause-turned : goal.returns-in-Checkpoint-clause-turned
returns-in-Checkpoint-clause-turned g c = Did Checkpoint c.in-Checkpoint.ensures c.run_checkpoint.ensures.does

pub returns-in-Wake-clause-turned : goal.returns-in-Wake-clause-turned
returns-in-Wake-clause-turned g c = Did Wake c.in-Wake.ensures c.run_wake.ensures.does

pub returns-in-Job-clause-belongs : goal.returns-in-Job-clause-belongs
returns-in-Job-clause-belongs g c =
    goes_on c.args.plan.now c.args.self.now c.run_job.new.self (g.B.Board.state c.args.board.now) (g.B.Board.state c.run_job.new.board) c.run_job.result c.run_job.ensures.keeps c.requires.1

pub returns-in-Section-clause-belongs : goal.returns-in-Section-clause-belongs
returns-in-Section-clause-belongs g c =
    goes_on c.args.plan.now c.args.self.now c.run_section.new.self (g.B.Board.state c.args.board.now) (g.B.Board.state c.run_section.new.board) c.run_section.result c.run_section.ensures.keeps c.requires.1

pub returns-in-Checkpoint-clause-belongs : goal.returns-in-Checkpoint-clause-belongs
returns-in-Checkpoint-clause-belongs g c =
    goes_on c.args.plan.now c.args.self.now c.run_checkpoint.new.self (g.B.Board.state c.args.board.now) (g.B.Board.state c.run_checkpoint.new.board) c.run_checkpoint.result c.run_checkpoint.ensures.keeps c.requires.1

pub returns-in-Wake-clause-belongs : goal.returns-in-Wake-clause-belongs
returns-in-Wake-clause-belongs g c =
    goes_on c.args.plan.now c.args.self.now c.run_wake.new.self (g.B.Board.state c.args.board.now) (g.B.Board.state c.run_wake.new.board) c.run_wake.result c.run_wake.ensures.keeps c.requires.1

pub returns-in-Sleep-clause-belongs : goal.returns-in-Sleep-clause-belongs
returns-in-Sleep-clause-belongs g c =
    goes_on c.args.plan.now c.args.self.now c.run_sleep.new.self (g.B.Board.state c.args.board.now) (g.B.Board.state c.run_sleep.new.board) c.run_sleep.result c.run_sleep.ensures.keeps c.requires.1
