use Rattle.std.proofs.Common.{◌∙◌, sym, subst, arith, refl}
use Rattle.cn_scheduler.specs.declared.engine.Chunk.{Chunk}
use Rattle.cn_scheduler.specs.declared.choice.Choice.TheVariants.{Sleep}
use Rattle.cn_scheduler.specs.Chunks.{SleepsOn}
use Rattle.cn_scheduler.specs.EnginePoint.{work_in, point_of}
use Rattle.cn_scheduler.proofs.Warranted.{warranted}
use Rattle.cn_scheduler.proofs.Kept.{is_back, belongs_later}
use Rattle.cn_scheduler.proofs.Resting.{sleeps_on, sleeps_later}
use Rattle.cn_scheduler.proofs.engine.Engine.run_sleep.Goals as goal

pub quiet_until-upto-requires-clause-events : goal.quiet_until-upto-requires-clause-events
quiet_until-upto-requires-clause-events g c = let b = c.requires.belongs.1 in b.events ∙ sym b.plan_is.queue

pub quiet_until-upto-requires-clause-now : goal.quiet_until-upto-requires-clause-now
quiet_until-upto-requires-clause-now g c = omega (arith, c.tick-now.ensures.value, c.tick-now.ensures.sound.in_life, c.tick-now.ensures.sound.life_in_range)

pub enough-enough-requires : goal.enough-enough-requires
enough-enough-requires g c = let b = c.requires.belongs.1 in b.events ∙ sym b.plan_is.queue

pub sleep_to-requires : goal.sleep_to-requires
sleep_to-requires g c = omega (arith, c.tick-now.ensures.value, c.quiet_until-upto.ensures.later)

pub returns-clause-does : goal.returns-clause-does
returns-clause-does g c =
    let plan = c.args.plan.now in
    let e = c.args.self.now in
    let old = g.B.Board.state c.args.board.now in
    let clean = (warranted plan (point_of e old) Sleep c.requires.chosen).0 in
    let after = c.enough-enough.ensures in
    subst (λ (o : Chunk). SleepsOn plan (point_of e old) o (point_of e (g.B.Board.state c.sleep_to.new.self))) (sym c.chunk_of.ensures)
    (sleeps_on plan (work_in e) e.dirty clean c.tick-now.result c.quiet_until-upto.result c.enough-enough.result c.quiet_until-upto.ensures.quiet after.0 after.1 after.2
    old (g.B.Board.state c.sleep_to.new.self) c.sleep_to.result c.sleep_to.ensures.steps (omega (arith, c.tick-now.ensures.value))
    (is_back c.requires.belongs.0 plan (point_of e old) c.requires.belongs.1 clean) c.requires.chosen)

pub returns-clause-keeps : goal.returns-clause-keeps
returns-clause-keeps g c =
    let plan = c.args.plan.now in
    let e = c.args.self.now in
    let old = g.B.Board.state c.args.board.now in
    let new = g.B.Board.state c.sleep_to.new.self in
    let clean = (warranted plan (point_of e old) Sleep c.requires.chosen).0 in
    let later = sleeps_later c.quiet_until-upto.result c.enough-enough.result old new c.sleep_to.result c.sleep_to.ensures.steps in
    record {
      rest = λ over full. c.requires.rest;
      belongs = λ over full program b. belongs_later program plan (point_of e old) (point_of e new) refl refl later.0 later.1 (λ d. let both = sym d ∙ clean in cc) b;
    }
