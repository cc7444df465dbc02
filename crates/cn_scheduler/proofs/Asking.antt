-- Operations that are asked of a board in turn.
use Rattle.std.proofs.Common.{◌≡◌, ◌≢◌, ◌⊎◌, inl, inr, ℕ, ◌≤◌, ◌<◌, List, [], ◌∷◌, ◌++◌, length, refl, sym, ap, ◌∙◌, subst, arith, append_assoc, append-nil}
use Rattle.std.specs.Prelude.{map}
use Rattle.nv_memory.specs.declared.device.Class.{Class}
use Rattle.nv_memory.specs.declared.device.Class.TheVariants as class
use Rattle.nv_memory.specs.declared.entry.Op.{Op}
use Rattle.nv_memory.specs.declared.entry.Op.TheVariants.{Instr, Emit, Write, Wake, Sleep}
use Rattle.nv_memory.specs.declared.entry.Entry.{Entry}
use Rattle.nv_memory.specs.declared.board.Answer.{Answer}
use Rattle.nv_memory.specs.declared.board.Answer.TheVariants as answer
use Rattle.nv_memory.specs.Board.{State, IsDone, Runs, ticks_of}
use Rattle.cn_scheduler.specs.declared.plan.Plan.{Plan}
use Rattle.cn_scheduler.specs.declared.engine.Chunk.{Chunk}
use Rattle.cn_scheduler.specs.declared.engine.Chunk.TheVariants.{Ended, Dropped, Lost, Over, Full}
use Rattle.cn_scheduler.specs.Lawful.{Extends}
use Rattle.cn_scheduler.specs.Asked.{Ask, plain, HasRoom, Limits, Stops, Asked}
use Rattle.cn_scheduler.specs.Chunks.{no_floor}
use Rattle.cn_scheduler.specs.Steps.{chunk_of, AskedOnce}

-- ---- writes alone

pub runs_asked : (plan : Plan) (ops : List Op) (a : Answer) (old new : State) → Runs old ops a new → Asked (no_floor plan) old (map plain ops) (chunk_of a) new
runs_asked plan [] answer.Done old new r = r
runs_asked plan [] answer.Lost old new r = absurd r
runs_asked plan [] answer.Over old new r = absurd r
runs_asked plan (op ∷ ops) answer.Done old new (inl r) = absurd r
runs_asked plan (op ∷ ops) answer.Lost old new (inl r) = inl (omega arith, tt, r)
runs_asked plan (op ∷ ops) answer.Over old new (inl r) = inl (omega arith, tt, r)
runs_asked plan (op ∷ ops) answer.Done old new (inr r) = inr (r.0, record { above = omega arith; room = tt; done = r.1 }, runs_asked plan ops answer.Done r.0 new r.2)
runs_asked plan (op ∷ ops) answer.Lost old new (inr r) = inr (r.0, record { above = omega arith; room = tt; done = r.1 }, runs_asked plan ops answer.Lost r.0 new r.2)
runs_asked plan (op ∷ ops) answer.Over old new (inr r) = inr (r.0, record { above = omega arith; room = tt; done = r.1 }, runs_asked plan ops answer.Over r.0 new r.2)

-- ---- time goes on

pub done_later : (op : Op) (old new : State) → IsDone old op new → old.tick ≤ new.tick
done_later op old new d = omega (arith, ap (λ (t : State). t.tick) d.becomes)

stop_later : (l : Limits) (a : Ask) (o : Chunk) (old new : State) → Stops l old a o new → old.tick ≤ new.tick
stop_later l a Ended old new s = absurd s
stop_later l a Dropped old new s = omega (arith, ap (λ (t : State). t.tick) s.1)
stop_later l a Full old new s = omega (arith, ap (λ (t : State). t.tick) s.2)
stop_later l a Lost old new s = omega (arith, ap (λ (t : State). t.tick) s.2.becomes)
stop_later l a Over old new s = omega (arith, ap (λ (t : State). t.tick) s.2.same)

pub asked_later : (l : Limits) (asks : List Ask) (o : Chunk) (old new : State) → Asked l old asks o new → old.tick ≤ new.tick
asked_later l [] Ended old new a = omega (arith, ap (λ (t : State). t.tick) a)
asked_later l [] Dropped old new a = absurd a
asked_later l [] Lost old new a = absurd a
asked_later l [] Over old new a = absurd a
asked_later l [] Full old new a = absurd a
asked_later l (a ∷ asks) o old new (inl s) = stop_later l a o old new s
asked_later l (a ∷ asks) o old new (inr r) = omega (arith, done_later a.op old r.0 r.1.done, asked_later l asks o r.0 new r.2)

-- ---- one list behind another

pub asked_joined : (l : Limits) (first second : List Ask) (o : Chunk) (old mid new : State) → Asked l old first Ended mid → Asked l mid second o new → Asked l old (first ++ second) o new
asked_joined l [] second o old mid new a b = subst (λ (s : State). Asked l s second o new) a b
asked_joined l (x ∷ first) second o old mid new (inl s) b = absurd s
asked_joined l (x ∷ first) second o old mid new (inr r) b = inr (r.0, r.1, asked_joined l first second o r.0 mid new r.2 b)

pub asked_stopped : (l : Limits) (first second : List Ask) (o : Chunk) (old new : State) → o ≢ Ended → Asked l old first o new → Asked l old (first ++ second) o new
asked_stopped l [] second Ended old new not a = absurd (not refl)
asked_stopped l [] second Dropped old new not a = absurd a
asked_stopped l [] second Lost old new not a = absurd a
asked_stopped l [] second Over old new not a = absurd a
asked_stopped l [] second Full old new not a = absurd a
asked_stopped l (x ∷ first) second o old new not (inl s) = inl s
asked_stopped l (x ∷ first) second o old new not (inr r) = inr (r.0, r.1, asked_stopped l first second o r.0 new not r.2)

-- ---- the timeline

none_timed : (old new : State) → new ≡ old → Extends old new
none_timed old new same = record { entries = []; timeline = ap (λ (t : State). t.timeline) same ∙ sym (append-nil old.timeline) }

pub both_timed : (old mid new : State) → Extends old mid → Extends mid new → Extends old new
both_timed old mid new a b = record {
  entries = a.entries ++ b.entries;
  timeline = b.timeline ∙ ap (λ (es : List Entry). es ++ b.entries) a.timeline ∙ append_assoc old.timeline a.entries b.entries;
}

stop_timed : (l : Limits) (a : Ask) (o : Chunk) (old new : State) → Stops l old a o new → Extends old new
stop_timed l a Ended old new s = absurd s
stop_timed l a Dropped old new s = none_timed old new s.1
stop_timed l a Full old new s = none_timed old new s.2
stop_timed l a Lost old new s = record { entries = _; timeline = ap (λ (t : State). t.timeline) s.2.becomes }
stop_timed l a Over old new s = none_timed old new s.2.same

pub asked_timed : (l : Limits) (asks : List Ask) (o : Chunk) (old new : State) → Asked l old asks o new → Extends old new
asked_timed l [] Ended old new a = none_timed old new a
asked_timed l [] Dropped old new a = absurd a
asked_timed l [] Lost old new a = absurd a
asked_timed l [] Over old new a = absurd a
asked_timed l [] Full old new a = absurd a
asked_timed l (a ∷ asks) o old new (inl s) = stop_timed l a o old new s
asked_timed l (a ∷ asks) o old new (inr r) = both_timed old r.0 new (record { entries = _; timeline = ap (λ (t : State). t.timeline) r.1.done.becomes }) (asked_timed l asks o r.0 new r.2)

-- ---- an operation takes a tick

takes_ticks : (ticks : Class → ℕ) (op : Op) → ((kind : Class) → 1 ≤ ticks kind) → 1 ≤ ticks_of ticks op
takes_ticks ticks (Instr kind pc) some = some kind
takes_ticks ticks (Emit pc at left) some = some class.Out
takes_ticks ticks (Write at left) some = some class.Write
takes_ticks ticks Wake some = some class.Wake
takes_ticks ticks Sleep some = omega arith

pub asked_strictly : (l : Limits) (asks : List Ask) (old new : State) → 0 < length asks → ((kind : Class) → 1 ≤ old.ticks kind) → Asked l old asks Ended new → old.tick < new.tick
asked_strictly l [] old new many some a = absurd (omega (arith, many))
asked_strictly l (a ∷ asks) old new many some (inl s) = absurd s
asked_strictly l (a ∷ asks) old new many some (inr r) =
    let d = r.1.done in
    omega (arith, ap (λ (t : State). t.tick) d.becomes, d.all_ticks, takes_ticks old.ticks a.op some, asked_later l asks Ended r.0 new r.2)

-- ---- where a list of operations was cut

pub asked_split : (l : Limits) (first second : List Ask) (o : Chunk) (old new : State) → Asked l old (first ++ second) o new
    → ((o ≢ Ended) × Asked l old first o new) ⊎ ((mid : State) × Asked l old first Ended mid × Asked l mid second o new)
asked_split l [] second o old new a = inr (old, refl, a)
asked_split l (x ∷ first) second o old new (inl s) = inl (not_ended o s, inl s)
  where
    not_ended : (o : Chunk) → Stops l old x o new → o ≢ Ended
    not_ended Ended s e = s
    not_ended Dropped s e = cc
    not_ended Lost s e = cc
    not_ended Over s e = cc
    not_ended Full s e = cc
asked_split l (x ∷ first) second o old new (inr r) = elim (asked_split l first second o r.0 new r.2) [
  | inl stop ↦ inl (stop.0, inr (r.0, r.1, stop.1))
  | inr on ↦ inr (on.0, inr (r.0, r.1, on.1), on.2)
]

-- one operation
pub once_asked : (l : Limits) (size : ℕ) (a : Ask) (o : Chunk) (old new : State) → l.size ≡ size → l.floor old.tick ≤ old.stored → AskedOnce size old a o new → Asked l old (a ∷ []) o new
once_asked l size a Ended old new same above asked = inr (new, record { above = above; room = subst (λ n. HasRoom n a.place) (sym same) asked.0; done = asked.1 }, refl)
once_asked l size a Dropped old new same above asked = absurd asked
once_asked l size a Lost old new same above asked = inl (above, subst (λ n. HasRoom n a.place) (sym same) asked.0, asked.1)
once_asked l size a Over old new same above asked = inl (above, subst (λ n. HasRoom n a.place) (sym same) asked.0, asked.1)
once_asked l size a Full old new same above asked = inl (above, (λ room. asked.0 (subst (λ n. HasRoom n a.place) same room)), asked.1)

-- handlers and commits are never dropped
pub never_dropped : (plan : Plan) (asks : List Ask) (old new : State) → Asked (no_floor plan) old asks Dropped new → ⊥
never_dropped plan [] old new a = a
never_dropped plan (x ∷ asks) old new (inl s) = omega (arith, s.0)
never_dropped plan (x ∷ asks) old new (inr r) = never_dropped plan asks r.0 new r.2
