-- What keeps a plan, an engine and a board together.
use Rattle.std.proofs.Common.{◌≡◌, ℕ, ◌≤◌, ℤ, Bool, true, false, List, length, refl, sym, ap, ◌∙◌, subst, arith, inl, inr}
use Rattle.cat_program.specs.Checked.{Checked}
use Rattle.cat_machine.specs.Fits.{Fits}
use Rattle.nv_memory.specs.Layout.{size_of}
use Rattle.nv_memory.specs.Board.{State, Steps}
use Rattle.nv_memory.specs.declared.board.Answer.{Answer}
use Rattle.nv_memory.specs.declared.board.Answer.TheVariants.{Done, Lost, Over}
use Rattle.nv_memory.specs.declared.entry.Op.TheVariants as op
use Rattle.checkpoint_slots.specs.Image.{committed_slot}
use Rattle.recovery.specs.Committed.{IsCommitted}
use Rattle.cn_scheduler.specs.declared.plan.Plan.{Plan}
use Rattle.cn_scheduler.specs.Point.{Work, Point, held_of, work_of}
use Rattle.cn_scheduler.specs.Belongs.{BelongTogether, IsReady}
use Rattle.cn_scheduler.specs.declared.engine.Chunk.{Chunk}
use Rattle.cn_scheduler.specs.Chunks.{IsBack, WakeDoes}
use Rattle.cn_scheduler.specs.Steps.{chunk_of}

-- the same working value and image, later
pub belongs_later : (program : Checked) (plan : Plan) (p q : Point) → q.work ≡ p.work → q.dirty ≡ p.dirty → q.board.image ≡ p.board.image → p.board.tick ≤ q.board.tick → (q.dirty ≡ true → q.board.on ≡ true)
    → BelongTogether program plan p → BelongTogether program plan q
belongs_later program plan p q work dirty image tick on b = record {
  plan_is = b.plan_is;
  image = subst (λ (i : List ℕ). size_of plan.layout ≤ length i) (sym image) b.image;
  committed = b.committed;
  is_committed = subst (λ (i : List ℕ). IsCommitted plan.layout program i b.committed) (sym image) b.is_committed;
  committed_steps = omega (arith, b.committed_steps);
  fits = subst (λ (w : Work). (payload : ℤ) → Fits program plan.code (held_of w payload)) (sym work) b.fits;
  events = subst (λ (w : Work). length w.done ≡ length program.events) (sym work) b.events;
  steps = omega (arith, ap (λ (w : Work). w.steps) work, b.steps);
  len = omega (arith, ap (λ (w : Work). w.len) work, b.len);
  on = on;
  clean = λ e. work ∙ b.clean (sym dirty ∙ e);
  ready = subst (λ (w : Work). IsReady program plan q.board.image w) (sym work) (subst (λ (i : List ℕ). IsReady program plan i p.work) (sym image) b.ready);
}

-- ---- a wake

off_clean : (dirty on : Bool) → (dirty ≡ true → on ≡ true) → on ≡ false → dirty ≡ false
off_clean true on h off = let both = sym (h refl) ∙ off in cc
off_clean false on h off = refl

pub is_back : (program : Checked) (plan : Plan) (p : Point) → BelongTogether program plan p → p.dirty ≡ false → p.work ≡ work_of (committed_slot plan.layout p.board.image)
is_back program plan p b clean = b.clean clean ∙ ap work_of (sym b.is_committed.slot_is)

wake_later : (old new : State) (a : Answer) → Steps old op.Wake a new → (new.image ≡ old.image) × (old.tick ≤ new.tick)
wake_later old new Done s = (ap (λ (t : State). t.image) s.becomes, omega (arith, ap (λ (t : State). t.tick) s.becomes))
wake_later old new Lost s = (ap (λ (t : State). t.image) s.becomes, omega (arith, ap (λ (t : State). t.tick) s.becomes))
wake_later old new Over s = (ap (λ (t : State). t.image) s.same, omega (arith, ap (λ (t : State). t.tick) s.same))

pub wake_keeps : (plan : Plan) (program : Checked) (work : Work) (dirty : Bool) (old new : State) (a : Answer) → old.on ≡ false → Steps old op.Wake a new
    → BelongTogether program plan (record { board = old; work = work; dirty = dirty }) → BelongTogether program plan (record { board = new; work = work; dirty = dirty })
wake_keeps plan program work dirty old new a off s b =
    let later = wake_later old new a s in
    let clean = off_clean dirty old.on b.on off in
    belongs_later program plan (record { board = old; work = work; dirty = dirty }) (record { board = new; work = work; dirty = dirty }) refl refl later.0 later.1 (λ e. let both = sym e ∙ clean in cc) b

pub wake_does : (plan : Plan) (program : Checked) (work : Work) (dirty : Bool) (old new : State) (a : Answer) (o : Chunk) → o ≡ chunk_of a → old.on ≡ false → Steps old op.Wake a new
    → BelongTogether program plan (record { board = old; work = work; dirty = dirty }) → WakeDoes plan (record { board = old; work = work; dirty = dirty }) o (record { board = new; work = work; dirty = dirty })
wake_does plan program work dirty old new a o is off s b = subst (λ (x : Chunk). WakeDoes plan (record { board = old; work = work; dirty = dirty }) x (record { board = new; work = work; dirty = dirty })) (sym is) (by_answer a s)
  where
    back : BelongTogether program plan (record { board = new; work = work; dirty = dirty }) → IsBack plan (record { board = new; work = work; dirty = dirty })
    back now = let clean = off_clean dirty old.on b.on off in record { work_is = is_back program plan (record { board = new; work = work; dirty = dirty }) now clean; clean = clean }

    by_answer : (a : Answer) → Steps old op.Wake a new → WakeDoes plan (record { board = old; work = work; dirty = dirty }) (chunk_of a) (record { board = new; work = work; dirty = dirty })
    by_answer Done s = record { asked = inr (new, record { above = omega arith; room = tt; done = s }, refl); leaves = (refl, refl) }
    by_answer Lost s = record { asked = inl (omega arith, tt, s); leaves = back (wake_keeps plan program work dirty old new Lost off s b) }
    by_answer Over s = record { asked = inl (omega arith, tt, s); leaves = tt }
