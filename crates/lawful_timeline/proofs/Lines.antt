-- Timelines grow by a chunk.
use Rattle.std.proofs.Common.{◌≡◌, inl, inr, true, false, List, [], ◌∷◌, ◌++◌, length, refl, sym, ap, ◌∙◌, subst, append_assoc, append-nil}
use Rattle.std.specs.Prelude.{not}
use Rattle.cat_machine.specs.Machine.{Ended'}
use Rattle.nv_memory.specs.declared.entry.Op.{Op}
use Rattle.nv_memory.specs.declared.entry.Op.TheVariants as op
use Rattle.nv_memory.specs.declared.entry.Entry.{Entry}
use Rattle.nv_memory.specs.Board.{State, IsDone, IsLost}
use Rattle.event_queue.specs.declared.queue.Due.{Due}
use Rattle.cn_scheduler.specs.declared.plan.Plan.{Plan}
use Rattle.cn_scheduler.specs.declared.choice.Choice.{Choice}
use Rattle.cn_scheduler.specs.declared.choice.Choice.TheVariants.{Checkpoint, Job, Section, Sleep, Wake}
use Rattle.cn_scheduler.specs.declared.engine.Chunk.{Chunk}
use Rattle.cn_scheduler.specs.declared.engine.Chunk.TheVariants.{Ended, Dropped, Lost, Over, Full}
use Rattle.cn_scheduler.specs.Point.{Point}
use Rattle.cn_scheduler.specs.Policy.{Chooses}
use Rattle.cn_scheduler.specs.Asked.{Ask, Asked, Limits, plain}
use Rattle.cn_scheduler.specs.Chunks.{Does, IsChunk, IsLawful, JobAsks, Link, SleepsOn, is_last, job_asks, no_floor, point_after, task_limits}
use Rattle.cn_scheduler.specs.Chunks.JobAsks.{Early, Late}
use Rattle.cn_scheduler.specs.Chunks.SleepsOn.{Last_tick, Further}
use Rattle.lawful_timeline.specs.Claims.{last_outcome}
use Rattle.lawful_timeline.specs.Lines.{NoneIsLast, Reaches}

-- ---- what is asked is told

pub record Told (old new : State) : Type 0 where
  pub entries : List Entry
  pub timeline : new.timeline ≡ old.timeline ++ entries

told_none : (old new : State) → new ≡ old → Told old new
told_none old new same = record { entries = []; timeline = ap (λ (s : State). s.timeline) same ∙ sym (append-nil old.timeline) }

told_then : (old mid new : State) → Told old mid → Told mid new → Told old new
told_then old mid new one two = record {
  entries = one.entries ++ two.entries;
  timeline = two.timeline ∙ ap (λ (es : List Entry). es ++ two.entries) one.timeline ∙ append_assoc old.timeline one.entries two.entries;
}

told_done : (old new : State) (op : Op) → IsDone old op new → Told old new
told_done old new op done = record { entries = record { tick = old.tick; stored = old.stored; drawn = done.drawn; ticks = length done.passed; op = op; lost = false } ∷ []; timeline = ap (λ (s : State). s.timeline) done.becomes }

told_lost : (old new : State) (op : Op) → IsLost old op new → Told old new
told_lost old new op lost = record { entries = _; timeline = ap (λ (s : State). s.timeline) lost.becomes }

pub asked_told : (limits : Limits) (asks : List Ask) (outcome : Chunk) (old new : State) → Asked limits old asks outcome new → Told old new
asked_told limits [] Ended old new asked = told_none old new asked
asked_told limits [] Dropped old new asked = absurd asked
asked_told limits [] Lost old new asked = absurd asked
asked_told limits [] Over old new asked = absurd asked
asked_told limits [] Full old new asked = absurd asked
asked_told limits (a ∷ asks) Ended old new (inl stops) = absurd stops
asked_told limits (a ∷ asks) Dropped old new (inl stops) = told_none old new stops.1
asked_told limits (a ∷ asks) Full old new (inl stops) = told_none old new stops.2
asked_told limits (a ∷ asks) Over old new (inl stops) = told_none old new stops.2.same
asked_told limits (a ∷ asks) Lost old new (inl stops) = told_lost old new a.op stops.2
asked_told limits (a ∷ asks) outcome old new (inr goes) = told_then old goes.0 new (told_done old goes.0 a.op goes.1.done) (asked_told limits asks outcome goes.0 new goes.2)

module _ (plan : Plan) where
  job_told : (p : Point) (due : Due) (run : Ended') (outcome : Chunk) (new : State) → JobAsks plan p due run outcome new → Told p.board new
  job_told p due run outcome new (Early not asked) = asked_told (no_floor plan) (job_asks plan p due run) outcome p.board new asked
  job_told p due run outcome new (Late mid asked fits ran_fits slot_fits commits) =
      told_then p.board mid new (asked_told (no_floor plan) (job_asks plan p due run) Ended p.board mid asked) (asked_told (no_floor plan) _ outcome mid new commits)

  pub does_told : (p q : Point) (choice : Choice) (outcome : Chunk) → Does plan p choice outcome q → Told p.board q.board
  does_told p q Section outcome does = asked_told (task_limits plan) _ outcome p.board q.board does.asked
  does_told p q (Job due) outcome does = job_told p due does.run outcome q.board does.asks
  does_told p q Checkpoint outcome does = asked_told (no_floor plan) _ outcome p.board q.board does.asked
  does_told p q Wake outcome does = asked_told (no_floor plan) (plain op.Wake ∷ []) outcome p.board q.board does.asked
  does_told p q Sleep outcome does = asked_told (no_floor plan) (plain op.Sleep ∷ []) outcome p.board q.board does.asked

  -- ---- one chunk more

  lawful_more : (p : Point) (cs : List Link) (c : Link) → IsLawful plan p cs → NoneIsLast cs → IsChunk plan (point_after p cs) c → IsLawful plan p (cs ++ c ∷ [])
  lawful_more p [] c lawful none is = (is, (λ last. refl), tt)
  lawful_more p (d ∷ cs) c lawful none is = (lawful.0, (λ last. absurd (let e : true ≡ false = sym last ∙ none.0 in cc)), lawful_more d.after cs c lawful.2 none.1 is)

  leads_more : (p : Point) (cs : List Link) (c : Link) → point_after p (cs ++ c ∷ []) ≡ c.after
  leads_more p [] c = refl
  leads_more p (d ∷ cs) c = leads_more d.after cs c

  last_more : (cs : List Link) (c : Link) → last_outcome (cs ++ c ∷ []) ≡ c.outcome
  last_more [] c = refl
  last_more (d ∷ []) c = refl
  last_more (d ∷ e ∷ cs) c = last_more (e ∷ cs) c

  none_more : (cs : List Link) (c : Link) → NoneIsLast cs → is_last c.outcome ≡ false → NoneIsLast (cs ++ c ∷ [])
  none_more [] c none last = (last, tt)
  none_more (d ∷ cs) c none last = (none.0, none_more cs c none.1 last)

  pub reaches_more : (p q r : Point) (before outcome : Chunk) (choice : Choice) → is_last before ≡ false → Reaches plan p before q → Chooses plan q choice → Does plan q choice outcome r → Reaches plan p outcome r
  reaches_more p q r before outcome choice on so_far chosen does =
      let told = does_told q r choice outcome does in
      let link : Link = record { choice = choice; outcome = outcome; entries = told.entries; after = r } in
      let is : IsChunk plan q (record { choice = choice; outcome = outcome; entries = told.entries; after = r }) = record { chosen = chosen; does = does; timeline = told.timeline } in
      record {
        chunks = so_far.chunks ++ record { choice = choice; outcome = outcome; entries = told.entries; after = r } ∷ [];
        lawful = lawful_more p so_far.chunks (record { choice = choice; outcome = outcome; entries = told.entries; after = r }) so_far.lawful (so_far.goes_on on)
            (subst (λ (x : Point). IsChunk plan x (record { choice = choice; outcome = outcome; entries = told.entries; after = r })) (sym so_far.leads) is);
        leads = leads_more p so_far.chunks (record { choice = choice; outcome = outcome; entries = told.entries; after = r });
        last = last_more so_far.chunks (record { choice = choice; outcome = outcome; entries = told.entries; after = r });
        goes_on = λ last. none_more so_far.chunks (record { choice = choice; outcome = outcome; entries = told.entries; after = r }) (so_far.goes_on on) last;
      }

  pub reaches_asleep : (p q r : Point) (before outcome : Chunk) → is_last before ≡ false → Reaches plan p before q → SleepsOn plan q outcome r → Reaches plan p outcome r
  reaches_asleep p q r before outcome on so_far (Last_tick q' r' outcome' chosen does) = reaches_more p q r before outcome Sleep on so_far chosen does
  reaches_asleep p q r before outcome on so_far (Further q' mid r' outcome' chosen does more) = reaches_asleep p mid r Ended outcome refl (reaches_more p q mid before Ended Sleep on so_far chosen does) more
