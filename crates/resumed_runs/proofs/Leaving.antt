-- What a run leaves is fit.
use Rattle.std.proofs.Common.{◌≡◌, ℕ, ◌+◌, ◌<◌, ◌≤◌, ◌^◌, List, length, get_or, map, Some, Option, refl, sym, ap, ◌∙◌, subst, arith}
use Rattle.std.specs.Prelude.{slice_get, slice_index, count_by, pos}
use Rattle.std.specs.List.{range_with_len}
use Rattle.std.specs.Option.{option_and_then}
use Rattle.std.proofs.lemmas.Nat.{from_le_bytes-to_le_bytes_4}
use Rattle.std.proofs.lemmas.List.FromFn.{fill_by_all}
use Rattle.cat_program.specs.Body.{Body}
use Rattle.cat_program.specs.Checked.{Checked, rest_at}
use Rattle.cat_program.specs.Resting.{RestsAt}
use Rattle.cat_program.specs.declared.outs.LogEntry.{LogEntry}
use Rattle.cat_program.specs.declared.outs.LogEntry.TheVariants.{Out, Ran}
use Rattle.nv_memory.specs.declared.device.Device.{Device}
use Rattle.nv_memory.specs.Layout.{size_of}
use Rattle.nv_memory.specs.Board.{State}
use Rattle.cn_base.specs.declared.TheConstants.{MOST_TICKS}
use Rattle.nv_log.specs.Record.{EntryFits, IsSpelled, entry_of, record_bytes, record_of}
use Rattle.checkpoint_slots.specs.declared.slot.Slot.{Slot}
use Rattle.event_arrivals.specs.Arrivals.{Lists}
use Rattle.recovery.specs.Committed.{Committed, IsCommitted, is_ran}
use Rattle.reference_run.specs.Reference.{Moment}
use Rattle.logged_runs.specs.Laws.{AgreesWithOne}
use Rattle.image_meaning.specs.Standing.{moment_of}
use Rattle.degradation.specs.declared.chosen.Chosen.{Chosen}
use Rattle.cn_scheduler.specs.declared.plan.Plan.{Plan}
use Rattle.cn_scheduler.specs.Point.{Point}
use Rattle.lawful_timeline.specs.Working.{IsSetUp, setting_of}
use Rattle.lawful_timeline.specs.Claims.{Begins}
use Rattle.lawful_timeline.specs.Points.{BeganBefore}
use Rattle.lawful_timeline.specs.Ending.{EndsHold, HasSaved}
use Rattle.lawful_timeline.specs.Starting.{StartsBelong, StartsFresh, StartsSaved, saved_point}
use Rattle.cn_runtime.specs.Steady.{IsSteadyPlan}
use Rattle.cn_resume.specs.declared.fault.ImageKind.{ImageKind}
use Rattle.cn_resume.specs.declared.fault.ImageKind.TheVariants as kind
use Rattle.cn_resume.specs.Records.{IsRecord, StartsBefore, entries_in, entry_in}
use Rattle.cn_resume.specs.Fit.{Holds, IsFit, Purpose, current_in, logged_in, moment_in, slot_in, stored_in, tick_in}
use Rattle.cn_resume.specs.Saved.{saved_bytes}
use Rattle.resumed_runs.specs.Files.{BeginsWith, LeadsTo, SavedImagesFit, purpose_for}
use Rattle.resumed_runs.proofs.Settings.{IsFixed, current_is, own_fixed, there}
use Rattle.resumed_runs.proofs.Fitting.{AreReadAgain, can_go_on, first_size}

-- ---- the head

module _ (board : State) where
  pub tick_again : board.tick < 2 ^ 32 → tick_in (saved_bytes board) ≡ board.tick
  tick_again few = from_le_bytes-to_le_bytes_4 board.tick few

  pub stored_again : board.stored < 2 ^ 32 → stored_in (saved_bytes board) ≡ board.stored
  stored_again few = from_le_bytes-to_le_bytes_4 board.stored few

  whole : length (saved_bytes board) ≡ 16 + length board.image
  whole = omega arith

-- a job that began before a tick
starts_before : (tick k : ℕ) (entries : List LogEntry) (e : LogEntry) → BeganBefore tick entries → slice_get entries k ≡ Some e → StartsBefore tick e
starts_before tick k entries (Out channel value) before at = tt
starts_before tick k entries (Ran event version steps start index) before at = before k event version steps start index at

module _ (read : AreReadAgain) (program : Checked) (device : Device) (arrivals : Lists) (chosen : Chosen) (plan : Plan) (is_plan : IsSteadyPlan program device arrivals chosen plan)
    (agrees : AgreesWithOne program chosen.versions arrivals) where
  module _ (board : State) (in_life : board.tick ≤ board.life) (in_range : board.life ≤ MOST_TICKS) (in_cap : board.stored ≤ device.cap) (saved : HasSaved program plan board)
      (size : length board.image ≡ size_of plan.layout) where
    abbrev P : Purpose
    P = purpose_for program chosen arrivals plan.layout device board.life

    abbrev v : Committed
    v = saved.stands.value

    is : IsCommitted plan.layout program board.image v
    is = saved.stands.committed

    tick_is : tick_in (saved_bytes board) ≡ board.tick
    tick_is = tick_again board (let a = in_life in let b = in_range in omega arith)

    -- ---- what the file says is what the board has committed

    entry_is : (k : ℕ) → k < v.slot.len → get_or v.entries k (Out 0 (pos 0)) ≡ entry_in plan.layout board.image k
    entry_is k within =
        let many = is.recorded.many in
        let spelled = is.recorded.entries_are k (get_or v.entries k (Out 0 (pos 0))) (there v.entries k (Out 0 (pos 0)) (omega arith)) in
        sym (ap (entry_of plan.layout) spelled.bytes_are ∙ read plan.layout (get_or v.entries k (Out 0 (pos 0))) spelled.fits)

    entries_are : v.entries ≡ logged_in P (saved_bytes board)
    entries_are =
        fill_by_all (entry_in plan.layout board.image) v.entries v.slot.len (Out 0 (pos 0)) is.recorded.many entry_is
        ∙ ap (λ (s : Slot). entries_in plan.layout board.image s.len) (sym is.slot_is)

    value_is : v ≡ record { slot = slot_in P (saved_bytes board); current = current_in P (saved_bytes board); entries = logged_in P (saved_bytes board) }
    value_is =
        let slot : v.slot ≡ slot_in P (saved_bytes board) = sym is.slot_is in
        let current : v.current ≡ current_in P (saved_bytes board) = current_is program v.slot.pc v.current is.rests ∙ ap (λ (s : Slot). option_and_then (rest_at program) s.pc) (sym is.slot_is) in
        let entries = entries_are in
        λ k. record { slot = slot k; current = current k; entries = entries k }

    moment_is : saved.moment ≡ moment_in P (saved_bytes board)
    moment_is = sym saved.stands.is ∙ ap moment_of value_is

    ran : IsFixed program chosen arrivals (moment_in P (saved_bytes board))
    ran = subst (λ (m : Moment). IsFixed program chosen arrivals m) moment_is (own_fixed program device arrivals chosen plan is_plan agrees saved.moment saved.own)

    began : BeganBefore (tick_in (saved_bytes board)) v.entries
    began = subst (λ (t : ℕ). BeganBefore t v.entries) (sym tick_is) (subst (λ (m : Moment). BeganBefore board.tick m.entries) (sym saved.stands.is) saved.began)

    recorded : (k : ℕ) → k < v.slot.len → IsRecord plan.layout program (tick_in (saved_bytes board)) board.image k
    recorded k within =
        let many = is.recorded.many in
        let at = there v.entries k (Out 0 (pos 0)) (omega arith) in
        record {
          entry = get_or v.entries k (Out 0 (pos 0));
          spelled = is.recorded.entries_are k (get_or v.entries k (Out 0 (pos 0))) at;
          before = starts_before (tick_in (saved_bytes board)) k v.entries (get_or v.entries k (Out 0 (pos 0))) began at;
        }

    pub fits : (k : ImageKind) → Holds P (saved_bytes board) k
    fits kind.Head = refl
    fits kind.Size = record { size = (let all = whole board in omega arith); padding = refl }
    fits kind.Tick = (let tick = tick_is in let in_life = in_life in omega arith)
    fits kind.Stored = (let few = device.cap_in_range in let stored = stored_again board (omega arith) in omega arith)
    fits kind.Slot = is.formed
    fits kind.Steps =
        let slot : (slot_in P (saved_bytes board)).steps ≡ v.slot.steps = ap (λ (s : Slot). s.steps) is.slot_is in
        let moment : v.slot.steps ≡ saved.moment.steps = ap (λ (m : Moment). m.steps) saved.stands.is in
        let most = saved.steps in
        let tick = tick_is in
        omega arith
    fits kind.Place = (v.current, subst (λ (s : Slot). RestsAt program s.pc v.current) (sym is.slot_is) is.rests)
    fits kind.Record = λ k within. recorded k (let slot : (slot_in P (saved_bytes board)).len ≡ v.slot.len = ap (λ (s : Slot). s.len) is.slot_is in omega arith)
    fits kind.Done = λ event within. subst (λ (x : Committed). slice_index x.slot.done event ≡ count_by (is_ran event) x.entries) value_is (is.recorded.counted event within)
    fits kind.Schedule = (moment_in P (saved_bytes board), ran)
    fits kind.State = ran

  -- ---- where a run ended

  module _ (starts : StartsBelong program plan) (ends : EndsHold program plan) (set_up : IsSetUp program plan) where
    leaves : (p : Point) (board : State) → StartsSaved program plan p → length p.board.image ≡ size_of plan.layout → LeadsTo device plan p board
        → IsFit (purpose_for program chosen arrivals plan.layout device board.life) (saved_bytes board)
    leaves p board from size leads =
        let begins : Begins program plan p = (starts.saved p from).begins in
        let saved : HasSaved program plan board =
        subst (λ (s : State). HasSaved program plan s) leads.leads (ends.saved p leads.chunks set_up begins from.saved leads.takes_time leads.lawful) in
        let long : length board.image ≡ size_of plan.layout = ap (λ (s : State). length s.image) (sym leads.leads) ∙ ends.size p leads.chunks set_up begins leads.lawful ∙ size in
        fits board leads.in_life leads.life_in_range leads.in_cap saved long

    pub fresh : (p : Point) (board : State) → StartsFresh program plan p → LeadsTo device plan p board → IsFit (purpose_for program chosen arrivals plan.layout device board.life) (saved_bytes board)
    fresh p board from leads = leaves p board (starts.fresh p from) (starts.size p from) leads

    pub resumed : (life : ℕ) (file : List ℕ) (first board : State) → IsFit (purpose_for program chosen arrivals plan.layout device life) file → BeginsWith file first
        → LeadsTo device plan (saved_point plan.layout first) board → IsFit (purpose_for program chosen arrivals plan.layout device board.life) (saved_bytes board)
    resumed life file first board fit with leads =
        let can = can_go_on read program device arrivals chosen plan is_plan agrees life file fit first with in
        leaves (saved_point plan.layout first) board (record { saved = can.saved; off = can.off; clean = refl; work_is = refl })
        (first_size read program device arrivals chosen plan is_plan agrees life file fit first with) leads
