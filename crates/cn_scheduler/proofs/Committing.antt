-- What a commit of the working state leaves.
use Rattle.std.proofs.Common.{◌≡◌, ◌≢◌, inl, inr, ◌≤◌, ℤ, false, length, refl, sym, ap, ◌∙◌, subst, arith}
use Rattle.cat_program.specs.Checked.{Checked, IsChecked}
use Rattle.cat_machine.specs.Code.{code_of}
use Rattle.cat_machine.specs.Fits.{Fits}
use Rattle.nv_memory.specs.declared.layout.Layout.{Layout}
use Rattle.nv_memory.specs.declared.board.Answer.{Answer}
use Rattle.nv_memory.specs.declared.board.Answer.TheVariants as answer
use Rattle.nv_memory.specs.Layout.{size_of}
use Rattle.nv_memory.specs.Board.{State}
use Rattle.checkpoint_slots.specs.Commit.{commit_writes}
use Rattle.checkpoint_slots.specs.Slot.{variables_of, read_slot, spelling}
use Rattle.checkpoint_slots.specs.Image.{IsWellFormed}
use Rattle.checkpoint_slots.specs.Save.{IsSaved}
use Rattle.recovery.specs.Committed.{Committed, IsCommitted, Commits as CommitsOne}
use Rattle.recovery.specs.Laws.{CommitsLast}
use Rattle.cn_scheduler.specs.declared.plan.Plan.{Plan}
use Rattle.cn_scheduler.specs.declared.engine.Engine.{Engine}
use Rattle.cn_scheduler.specs.declared.engine.Chunk.{Chunk}
use Rattle.cn_scheduler.specs.declared.engine.Chunk.TheVariants.{Ended, Dropped, Lost, Over, Full}
use Rattle.cn_scheduler.specs.Point.{Work, Point, held_of, slot_of}
use Rattle.cn_scheduler.specs.Chunks.{Commits, Leaves}
use Rattle.cn_scheduler.specs.Belongs.{IsPlanOf, IsReady, BelongTogether}
use Rattle.cn_scheduler.specs.EnginePoint.{work_in, point_of, IsAtRest}
use Rattle.cn_scheduler.specs.Parts.{CommitLeaves}
use Rattle.cn_scheduler.proofs.Asking.{runs_asked, asked_later}
use Rattle.cn_scheduler.proofs.Back.{belongs_back}

module _ (plan : Plan) (e e' : Engine) (old new : State) where
  abbrev l : Layout
  l = plan.layout

  abbrev w : Work
  w = work_in e

  pub commit_asked : (o : Chunk) → CommitLeaves plan e old o e' new → Commits plan w old o new
  commit_asked Ended c = runs_asked plan (commit_writes l (slot_of w) old.image) answer.Done old new c.0.writes
  commit_asked Dropped c = absurd c
  commit_asked Lost c = runs_asked plan (commit_writes l (slot_of w) old.image) answer.Lost old new c.0.writes
  commit_asked Over c = runs_asked plan (commit_writes l (slot_of w) old.image) answer.Over old new c.writes
  commit_asked Full c = absurd c

  pub commit_later : (o : Chunk) → CommitLeaves plan e old o e' new → old.tick ≤ new.tick
  commit_later o c = asked_later _ _ o old new (commit_asked o c)

  -- seen from the decision point where the chunk began
  pub commit_leaves : (p : Point) (o : Chunk) → CommitLeaves plan e old o e' new → Leaves plan p w false o (point_of e' new)
  commit_leaves p Ended c = (c.1.work, c.1.clean)
  commit_leaves p Dropped c = absurd c
  commit_leaves p Lost c = record { work_is = c.1.work; clean = c.1.clean }
  commit_leaves p Over c = tt
  commit_leaves p Full c = absurd c

  pub commit_rests : (o : Chunk) → o ≢ Over → CommitLeaves plan e old o e' new → IsAtRest l e'
  commit_rests Ended not c = c.1.rest
  commit_rests Dropped not c = absurd c
  commit_rests Lost not c = c.1.rest
  commit_rests Over not c = absurd (not refl)
  commit_rests Full not c = absurd c

  -- what is committed then
  module _ (last : CommitsLast) (program : Checked) (checked : IsChecked program) (code_is : plan.code ≡ code_of program) (plan_is : IsPlanOf program plan)
      (image : size_of l ≤ length old.image) (v : Committed) (is : IsCommitted l program old.image v) (steps : v.slot.steps ≤ old.tick) (more : w.steps ≤ old.tick)
      (ready : IsReady program plan old.image w) (fits : (payload : ℤ) → Fits program plan.code (held_of w payload)) (events : length w.done ≡ length program.events)
      (again : read_slot l (spelling l (slot_of w)) ≡ slot_of w) (formed : IsWellFormed l (spelling l (slot_of w))) (variables : variables_of (slot_of w) ≡ w.words) where
    abbrev mine : Committed
    mine = record { slot = slot_of w; current = ready.current; entries = ready.entries }

    either : (a : Answer) → IsSaved l (slot_of w) old a new → CommitsOne l program v mine new.image a
    either a s = last.save l program old new v mine is ready.rests ready.recorded formed again a s

    sized : (a : Answer) → IsSaved l (slot_of w) old a new → size_of l ≤ length new.image
    sized a s = omega (arith, s.size, image)

    pub belongs_commit : (o : Chunk) → o ≢ Over → CommitLeaves plan e old o e' new → BelongTogether program plan (point_of e' new)
    belongs_commit Ended not c =
        let done = either answer.Done c.0 in
        let later = commit_later Ended c in
        let same = c.1.work in
        record {
          plan_is = plan_is;
          image = sized answer.Done c.0;
          committed = mine;
          is_committed = done;
          committed_steps = omega (arith, more, later);
          fits = subst (λ (x : Work). (payload : ℤ) → Fits program plan.code (held_of x payload)) (sym same) fits;
          events = subst (λ (x : Work). length x.done ≡ length program.events) (sym same) events;
          steps = omega (arith, more, later, ap (λ (x : Work). x.steps) same);
          len = omega (arith, ap (λ (x : Work). x.len) same);
          on = λ d. let both = sym d ∙ c.1.clean in cc;
          clean = λ d. same ∙ λ i. record w { words = (sym variables) i };
          ready = subst (IsReady program plan new.image) (sym same) (record { current = ready.current; entries = ready.entries; rests = ready.rests; recorded = done.recorded; len_fits = ready.len_fits });
        }
    belongs_commit Dropped not c = absurd c
    belongs_commit Lost not c =
        let later = commit_later Lost c in
        elim (either answer.Lost c.0) [
          | inl kept ↦ belongs_back program plan checked code_is plan_is (point_of e' new) v (sized answer.Lost c.0) kept (omega (arith, steps, later)) c.1.work c.1.clean c.1.numbers
          | inr done ↦ belongs_back program plan checked code_is plan_is (point_of e' new) mine (sized answer.Lost c.0) done (omega (arith, more, later)) c.1.work c.1.clean c.1.numbers
        ]
    belongs_commit Over not c = absurd (not refl)
    belongs_commit Full not c = absurd c
