use Rattle.std.proofs.Common.{inl, inr, ap, ◌∙◌, subst, refl, sym}
use Rattle.nv_memory.specs.declared.board.Answer.TheVariants.{Done, Lost, Over}
use Rattle.checkpoint_slots.specs.declared.slot.Slot.{Slot}
use Rattle.checkpoint_slots.specs.Image.{IsWellFormed}
use Rattle.checkpoint_slots.specs.Save.{IsSaved}
use Rattle.cn_scheduler.specs.EnginePoint.{work_in}
use Rattle.cn_scheduler.proofs.engine.Engine.commit.Goals as goal

pub save-requires-clause-pc : goal.save-requires-clause-pc
save-requires-clause-pc g c = λ same. c.requires.place (sym (ap (λ (s : Slot). s.pc) c.keep_in.ensures.slot) ∙ same)

pub restore-requires-clause-formed : goal.restore-requires-clause-formed
restore-requires-clause-formed g c =
    let l = c.args.plan.now.layout in
    elim c.in-Lost.ensures.saved.stands [
      | inl same ↦ subst (IsWellFormed l) (sym same) c.requires.formed
      | inr new ↦ subst (IsWellFormed l) (sym new.1) c.in-Lost.ensures.formed
    ]

pub returns-in-Done-clause-leaves : goal.returns-in-Done-clause-leaves
returns-in-Done-clause-leaves g c =
    let e = c.keep_in.ensures.slot in (
      subst (λ (s : Slot). IsSaved c.args.plan.now.layout s (g.B.Board.state c.args.board.now) Done (g.B.Board.state c.save.new.board)) e c.in-Done.ensures.saved,
      record {
        work = λ i. record (work_in c.args.self.now) { len = (e i).len; steps = (e i).steps; done = (e i).done };
        clean = refl;
        rest = record { free = c.requires.rest.free; empty = c.requires.rest.empty; made = c.keep_in.ensures.made };
      },
    )

pub returns-in-Lost-clause-leaves : goal.returns-in-Lost-clause-leaves
returns-in-Lost-clause-leaves g c =
    let e = c.keep_in.ensures.slot in
    (subst (λ (s : Slot). IsSaved c.args.plan.now.layout s (g.B.Board.state c.args.board.now) Lost (g.B.Board.state c.save.new.board)) e c.in-Lost.ensures.saved, c.restore.ensures)

pub returns-in-Over-clause-leaves : goal.returns-in-Over-clause-leaves
returns-in-Over-clause-leaves g c =
    subst (λ (s : Slot). IsSaved c.args.plan.now.layout s (g.B.Board.state c.args.board.now) Over (g.B.Board.state c.save.new.board)) c.keep_in.ensures.slot c.in-Over.ensures.saved
