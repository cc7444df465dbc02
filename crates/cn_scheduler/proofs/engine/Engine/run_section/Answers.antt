use Rattle.std.proofs.Common.{◌+◌, ◌∙◌, ap, sym, subst, arith, refl}
use Rattle.cat_machine.specs.Held.{Held}
use Rattle.cat_machine.specs.Fits.{Fits}
use Rattle.cn_scheduler.specs.declared.choice.Choice.TheVariants.{Section}
use Rattle.cn_scheduler.specs.declared.engine.Chunk.TheVariants.{Ended, Dropped, Lost, Over, Full}
use Rattle.cn_scheduler.specs.EnginePoint.{point_of}
use Rattle.cn_scheduler.proofs.Warranted.{warranted}
use Rattle.cn_scheduler.proofs.Sections.{fits_now, next_now, whole, section_does, same_after, dropped_belongs, lost_belongs, ended_belongs}
use Rattle.cn_scheduler.proofs.engine.Engine.run_section.Goals as goal

pub run_path-requires-clause-fits : goal.run_path-requires-clause-fits
run_path-requires-clause-fits g c =
    let plan = c.args.plan.now in
    let e = c.args.self.now in
    let old = g.B.Board.state c.args.board.now in
    let program = c.requires.belongs.0 in
    let b = c.requires.belongs.1 in
    let step = (warranted plan (point_of e old) Section c.requires.chosen).1 in
    (program, fits_now plan program e old c.requires.rest b, (c.requires.rest.free, next_now plan program e old c.requires.rest b c.runs_end.ensures step))

pub run_path-requires-clause-ends : goal.run_path-requires-clause-ends
run_path-requires-clause-ends g c =
    let plan = c.args.plan.now in
    let e = c.args.self.now in
    let old = g.B.Board.state c.args.board.now in
    let w = whole plan c.requires.belongs.0 e old c.requires.rest c.requires.belongs.1 c.runs_end.ensures (warranted plan (point_of e old) Section c.requires.chosen).1 in
    (w.run, w.ends)

pub run_path-requires-clause-on : goal.run_path-requires-clause-on
run_path-requires-clause-on g c = (warranted c.args.plan.now (point_of c.args.self.now (g.B.Board.state c.args.board.now)) Section c.requires.chosen).2

pub overflow_add-self : goal.overflow_add-self
overflow_add-self g c = omega (arith, c.requires.belongs.1.steps, c.tick-tick.ensures.sound.in_life, c.tick-tick.ensures.sound.life_in_range)

pub drop_section-requires : goal.drop_section-requires
drop_section-requires g c =
    let plan = c.args.plan.now in
    let e = c.args.self.now in
    let old = g.B.Board.state c.args.board.now in
    let w = whole plan c.requires.belongs.0 e old c.requires.rest c.requires.belongs.1 c.runs_end.ensures (warranted plan (point_of e old) Section c.requires.chosen).1 in
    let d = (c.in-Dropped.ensures.leaves w.run w.ends).dropped refl in
    (e.working, d.1, record { place = sym c.pc-from.ensures; free = c.requires.rest.free; empty = c.requires.rest.empty })

pub restore-requires-clause-image : goal.restore-requires-clause-image
restore-requires-clause-image g c =
    let plan = c.args.plan.now in
    let e = c.args.self.now in
    let old = g.B.Board.state c.args.board.now in
    let b = c.requires.belongs.1 in
    let step = (warranted plan (point_of e old) Section c.requires.chosen).1 in
    let w = whole plan c.requires.belongs.0 e old c.requires.rest b c.runs_end.ensures step in
    let same = same_after plan c.requires.belongs.0 e old c.requires.rest b c.runs_end.ensures step c.appends_are_safe.ensures c.commits_last.ensures Lost (g.B.Board.state c.run_path.new.board) (c.in-Lost.ensures.leaves w.run w.ends).asked in
    omega (arith, same.long, b.image)

pub restore-requires-clause-formed : goal.restore-requires-clause-formed
restore-requires-clause-formed g c =
    let plan = c.args.plan.now in
    let e = c.args.self.now in
    let old = g.B.Board.state c.args.board.now in
    let b = c.requires.belongs.1 in
    let step = (warranted plan (point_of e old) Section c.requires.chosen).1 in
    let w = whole plan c.requires.belongs.0 e old c.requires.rest b c.runs_end.ensures step in
    (same_after plan c.requires.belongs.0 e old c.requires.rest b c.runs_end.ensures step c.appends_are_safe.ensures c.commits_last.ensures Lost (g.B.Board.state c.run_path.new.board) (c.in-Lost.ensures.leaves w.run w.ends).asked).committed.formed

pub restore-requires-clause-made : goal.restore-requires-clause-made
restore-requires-clause-made g c = let m = c.requires.rest.made in record { words = m.words; tasks = m.tasks; events = m.events }

pub restore-requires-clause-words : goal.restore-requires-clause-words
restore-requires-clause-words g c =
    let b = c.requires.belongs.1 in
    (c.in-Lost.ensures.keeps c.requires.belongs.0 (fits_now c.args.plan.now c.requires.belongs.0 c.args.self.now (g.B.Board.state c.args.board.now) c.requires.rest b)).shape.words_are ∙ sym b.plan_is.layout.words

pub restore-requires-clause-posts : goal.restore-requires-clause-posts
restore-requires-clause-posts g c =
    let b = c.requires.belongs.1 in
    (c.in-Lost.ensures.keeps c.requires.belongs.0 (fits_now c.args.plan.now c.requires.belongs.0 c.args.self.now (g.B.Board.state c.args.board.now) c.requires.rest b)).shape.posts_are ∙ sym b.plan_is.layout.tasks

pub returns-in-Ended-clause-does : goal.returns-in-Ended-clause-does
returns-in-Ended-clause-does g c =
    let plan = c.args.plan.now in
    let e = c.args.self.now in
    let old = g.B.Board.state c.args.board.now in
    let b = c.requires.belongs.1 in
    let step = (warranted plan (point_of e old) Section c.requires.chosen).1 in
    let w = whole plan c.requires.belongs.0 e old c.requires.rest b c.runs_end.ensures step in
    let leaves = c.in-Ended.ensures.leaves w.run w.ends in
    let end = leaves.ended refl in
    let h = end.held_is in
    section_does plan c.requires.belongs.0 e old c.requires.rest b c.runs_end.ensures step Ended _ leaves.asked
    ((λ i. record { words = (h i).words; posts = (h i).posts; place = (h i).place; len = end.len_is i; steps = e.slot.steps + 1; done = e.slot.done }), refl) (λ _. end.fits)

pub returns-in-Ended-clause-keeps : goal.returns-in-Ended-clause-keeps
returns-in-Ended-clause-keeps g c =
    let plan = c.args.plan.now in
    let e = c.args.self.now in
    let old = g.B.Board.state c.args.board.now in
    let step = (warranted plan (point_of e old) Section c.requires.chosen).1 in
    let w = whole plan c.requires.belongs.0 e old c.requires.rest c.requires.belongs.1 c.runs_end.ensures step in
    let end = (c.in-Ended.ensures.leaves w.run w.ends).ended refl in
    let m = c.requires.rest.made in
    record {
      rest = λ over full. record {
        free = ap (λ (x : Held). x.kept) end.held_is ∙ w.idle.corresponds.free;
        empty = ap (λ (x : Held). x.stack) end.held_is ∙ w.idle.corresponds.empty;
        made = record { words = m.words; tasks = m.tasks; events = m.events };
      };
      belongs = λ over full program b.
          let w = whole plan program e old c.requires.rest b c.runs_end.ensures step in
          let leaves = c.in-Ended.ensures.leaves w.run w.ends in
          let end = leaves.ended refl in
          let h = end.held_is in
          ended_belongs plan program e old c.requires.rest b c.runs_end.ensures step c.appends_are_safe.ensures c.commits_last.ensures _ c.tick-tick.ensures.sound.some_ticks leaves.asked end.fits
          (subst (Fits program plan.code) h (c.in-Ended.ensures.keeps program (fits_now plan program e old c.requires.rest b))) (omega (arith, end.len_is, c.in-Ended.ensures.few))
          (λ i. record { words = (h i).words; posts = (h i).posts; place = (h i).place; len = end.len_is i; steps = e.slot.steps + 1; done = e.slot.done }) refl end.on;
    }

pub returns-in-Dropped-clause-does : goal.returns-in-Dropped-clause-does
returns-in-Dropped-clause-does g c =
    let plan = c.args.plan.now in
    let e = c.args.self.now in
    let old = g.B.Board.state c.args.board.now in
    let b = c.requires.belongs.1 in
    let step = (warranted plan (point_of e old) Section c.requires.chosen).1 in
    let w = whole plan c.requires.belongs.0 e old c.requires.rest b c.runs_end.ensures step in
    let leaves = c.in-Dropped.ensures.leaves w.run w.ends in
    let d = leaves.dropped refl in
    let h = c.drop_section.ensures e.working d.1 (record { place = sym c.pc-from.ensures; free = c.requires.rest.free; empty = c.requires.rest.empty }) in
    section_does plan c.requires.belongs.0 e old c.requires.rest b c.runs_end.ensures step Dropped _ leaves.asked
    ((λ i. record { words = (h i).words; posts = (h i).posts; place = (h i).place; len = d.2 i; steps = e.slot.steps; done = e.slot.done }), refl) (λ no. cc)

pub returns-in-Dropped-clause-keeps : goal.returns-in-Dropped-clause-keeps
returns-in-Dropped-clause-keeps g c =
    let plan = c.args.plan.now in
    let e = c.args.self.now in
    let old = g.B.Board.state c.args.board.now in
    let step = (warranted plan (point_of e old) Section c.requires.chosen).1 in
    let w = whole plan c.requires.belongs.0 e old c.requires.rest c.requires.belongs.1 c.runs_end.ensures step in
    let d = (c.in-Dropped.ensures.leaves w.run w.ends).dropped refl in
    let h = c.drop_section.ensures e.working d.1 (record { place = sym c.pc-from.ensures; free = c.requires.rest.free; empty = c.requires.rest.empty }) in
    let m = c.requires.rest.made in
    record {
      rest = λ over full. record {
        free = ap (λ (x : Held). x.kept) h ∙ c.requires.rest.free;
        empty = ap (λ (x : Held). x.stack) h ∙ c.requires.rest.empty;
        made = record { words = m.words; tasks = m.tasks; events = m.events };
      };
      belongs = λ over full program b.
          let w = whole plan program e old c.requires.rest b c.runs_end.ensures step in
          let leaves = c.in-Dropped.ensures.leaves w.run w.ends in
          dropped_belongs plan program e old c.requires.rest b c.runs_end.ensures step c.appends_are_safe.ensures c.commits_last.ensures _ leaves.asked
          (λ i. record { words = (h i).words; posts = (h i).posts; place = (h i).place; len = d.2 i; steps = e.slot.steps; done = e.slot.done }) refl (λ dirty. d.3);
    }

pub returns-in-Lost-clause-does : goal.returns-in-Lost-clause-does
returns-in-Lost-clause-does g c =
    let plan = c.args.plan.now in
    let e = c.args.self.now in
    let old = g.B.Board.state c.args.board.now in
    let b = c.requires.belongs.1 in
    let step = (warranted plan (point_of e old) Section c.requires.chosen).1 in
    let w = whole plan c.requires.belongs.0 e old c.requires.rest b c.runs_end.ensures step in
    section_does plan c.requires.belongs.0 e old c.requires.rest b c.runs_end.ensures step Lost _ (c.in-Lost.ensures.leaves w.run w.ends).asked
    (record { work_is = c.restore.ensures.work; clean = c.restore.ensures.clean }) (λ no. cc)

pub returns-in-Lost-clause-keeps : goal.returns-in-Lost-clause-keeps
returns-in-Lost-clause-keeps g c =
    let plan = c.args.plan.now in
    let e = c.args.self.now in
    let old = g.B.Board.state c.args.board.now in
    let step = (warranted plan (point_of e old) Section c.requires.chosen).1 in
    record {
      rest = λ over full. c.restore.ensures.rest;
      belongs = λ over full program b.
          let w = whole plan program e old c.requires.rest b c.runs_end.ensures step in
          lost_belongs plan program e old c.requires.rest b c.runs_end.ensures step c.appends_are_safe.ensures c.commits_last.ensures _ (c.in-Lost.ensures.leaves w.run w.ends).asked
          c.restore.ensures.work c.restore.ensures.clean c.restore.ensures.numbers;
    }

pub returns-in-Over-clause-does : goal.returns-in-Over-clause-does
returns-in-Over-clause-does g c =
    let plan = c.args.plan.now in
    let e = c.args.self.now in
    let old = g.B.Board.state c.args.board.now in
    let b = c.requires.belongs.1 in
    let step = (warranted plan (point_of e old) Section c.requires.chosen).1 in
    let w = whole plan c.requires.belongs.0 e old c.requires.rest b c.runs_end.ensures step in
    section_does plan c.requires.belongs.0 e old c.requires.rest b c.runs_end.ensures step Over _ (c.in-Over.ensures.leaves w.run w.ends).asked tt (λ no. cc)

pub returns-in-Full-clause-does : goal.returns-in-Full-clause-does
returns-in-Full-clause-does g c =
    let plan = c.args.plan.now in
    let e = c.args.self.now in
    let old = g.B.Board.state c.args.board.now in
    let b = c.requires.belongs.1 in
    let step = (warranted plan (point_of e old) Section c.requires.chosen).1 in
    let w = whole plan c.requires.belongs.0 e old c.requires.rest b c.runs_end.ensures step in
    section_does plan c.requires.belongs.0 e old c.requires.rest b c.runs_end.ensures step Full _ (c.in-Full.ensures.leaves w.run w.ends).asked tt (λ no. cc)
