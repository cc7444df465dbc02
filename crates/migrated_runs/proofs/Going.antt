-- The run that an image of the first format has saved goes on after a stretch of moves.
use Rattle.std.proofs.Common.{◌≡◌, ℕ, ◌≤◌, ◌<◌, ◌==◌, Bool, true, false, List, length, take, refl, sym, ◌∙◌, ap, subst, arith, Some}
use Rattle.std.specs.Prelude.{slice_get, if◌then◌else◌}
use Rattle.std.proofs.lemmas.List.{take_all}
use Rattle.cat_program.specs.declared.outs.LogEntry.{LogEntry}
use Rattle.cat_program.specs.declared.outs.LogEntry.TheVariants.{Out, Ran}
use Rattle.cat_program.specs.Checked.{Checked}
use Rattle.nv_memory.specs.declared.layout.Layout.{Layout}
use Rattle.nv_memory.specs.Board.{State, image_by}
use Rattle.nv_memory.specs.Layout.{size_of}
use Rattle.nv_log.specs.Record.{EntryFits, most_start}
use Rattle.recovery.specs.Committed.{Committed, IsCommitted}
use Rattle.migration.specs.Laws as moving
use Rattle.migration.specs.Laws.{AllFit, MovesAreSafe}
use Rattle.migration.specs.Moves.{IsInOld, layout_in}
use Rattle.migration.specs.Stretch.{IsInNew, KeepsValue, Moves, StretchesAreSafe}
use Rattle.reference_run.specs.Reference.{Moment}
use Rattle.cn_scheduler.specs.declared.plan.Plan.{Plan}
use Rattle.lawful_timeline.specs.Ending.{HasSaved}
use Rattle.lawful_timeline.specs.Points.{BeganBefore}
use Rattle.migrated_runs.specs.Laws.{CanBeMoved, MovedRunsGoOn, TellsMoment, plan_in}

-- an entry that fits in one layout and began before a tick fits in another one whose records can tell that tick
fits_too : (old new : Layout) (tick : ℕ) (entry : LogEntry) → tick ≤ most_start new.format → EntryFits old entry → ((event version steps start index : ℕ) → entry ≡ Ran event version steps start index → start < tick) → EntryFits new entry
fits_too old new tick (Out channel value) low fits before = fits
fits_too old new tick (Ran event version steps start index) low fits before =
    (fits.0, (let early = before event version steps start index refl in omega (arith, early, low)), fits.2)

in_new : (old new : Layout) (image : List ℕ) → IsInNew image → layout_in old new image ≡ new
in_new old new image is = ap (λ (m : ℕ). if m == 0 then old else new) is

in_old : (old new : Layout) (image : List ℕ) → IsInOld image → layout_in old new image ≡ old
in_old old new image is = ap (λ (m : ℕ). if m == 0 then old else new) is

module _ (moves : MovesAreSafe) (stretches : StretchesAreSafe) (program : Checked) (plan : Plan) (old : Layout) (enough : ℕ) (s : State) (can : CanBeMoved program plan old s) where
  abbrev v : Committed
  v = can.saved.stands.value

  entries_are : v.entries ≡ can.saved.moment.entries
  entries_are = ap (λ (m : Moment). m.entries) can.saved.stands.is

  fit : AllFit plan.layout v
  fit k entry is =
      fits_too old plan.layout s.tick entry can.tick (can.saved.stands.committed.recorded.entries_are k entry is).fits
      (λ event version steps start index same.
      can.saved.began k event version steps start index
      (ap (λ (es : List LogEntry). slice_get es k) (sym entries_are) ∙ is ∙ ap Some same))

  stands : moving.StandsFor old plan.layout program s.image v
  stands = moves.begins old plan.layout program s.image v can.layouts can.size can.is_old can.saved.stands.committed fit

  module _ (t : State) (moved : Bool) (leads : Moves old plan.layout enough s moved t) where
    keeps : KeepsValue old plan.layout program v s t
    keeps = stretches.keeps old plan.layout enough program v s t moved stands leads

    pub tells : TellsMoment old plan.layout program can.saved.moment s t
    tells = record {
      entries = keeps.entries;
      timeline = keeps.timeline;
      image = keeps.image;
      stands = λ n le. record { value = v; committed = (keeps.stands n le).committed; is = can.saved.stands.is };
    }

    at_end : IsCommitted (layout_in old plan.layout t.image) program t.image v
    at_end =
        let all : take (length keeps.entries) keeps.entries ≡ keeps.entries = take_all (length keeps.entries) keeps.entries (omega arith) in
        let last : image_by (take (length keeps.entries) keeps.entries) s.image ≡ t.image = ap (λ es. image_by es s.image) all ∙ sym keeps.image in
        subst (λ (i : List ℕ). IsCommitted (layout_in old plan.layout i) program i v) last (keeps.stands (length keeps.entries) (omega arith)).committed

    later : s.tick ≤ t.tick
    later = stretches.later old plan.layout enough s t moved leads

    same_size : length t.image ≡ length s.image
    same_size = stretches.size old plan.layout enough program v s t moved stands leads

    began : BeganBefore t.tick can.saved.moment.entries
    began i event version steps start index is = (let early = can.saved.began i event version steps start index is in omega (arith, early, later))

    pub saved_in : (p : Plan) (l : Layout) → p ≡ plan_in l plan → layout_in old plan.layout t.image ≡ l → size_of l ≤ length s.image → HasSaved program p t
    saved_in p l is by large = subst (λ (p : Plan). HasSaved program p t) (sym is) (record {
      moment = can.saved.moment;
      stands = record { value = v; committed = subst (λ (l : Layout). IsCommitted l program t.image v) by at_end; is = can.saved.stands.is };
      own = can.saved.own;
      steps = omega (arith, can.saved.steps, later);
      began = began;
      large = omega (arith, large, same_size);
    })

pub go_on : MovesAreSafe → StretchesAreSafe → (program : Checked) (plan : Plan) → MovedRunsGoOn program plan
go_on moves stretches program plan = record {
  same = λ old enough s t moved can leads. tells moves stretches program plan old enough s can t moved leads;
  moved = λ old enough s t can leads.
      saved_in moves stretches program plan old enough s can t true leads plan plan.layout refl
      (in_new old plan.layout t.image (stretches.moved old plan.layout enough s t leads)) can.size;
  ended = λ old enough s t can leads.
      saved_in moves stretches program plan old enough s can t false leads (plan_in old plan) old refl
      (in_old old plan.layout t.image (stretches.ended old plan.layout enough program can.saved.stands.value s t (stands moves stretches program plan old enough s can) leads)) can.saved.large;
}
