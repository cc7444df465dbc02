-- What is prepared makes a replay.
use Rattle.std.proofs.Common.{◌≡◌, ℕ, zero, suc, ◌+◌, ◌<◌, ◌≤◌, List, [], ◌∷◌, ◌++◌, append_assoc, drop, length, max, Some, refl, sym, ap, subst, ◌∙◌, arith}
use Rattle.std.specs.Prelude.{All, sum_by, get_or, slice_get, slice_index}
use Rattle.std.proofs.lemmas.List.{drop_all, drop_more}
use Rattle.std.proofs.lemmas.Option.{get_or_from_slice_get, slice_get-get_or, slice_get_within}
use Rattle.std.proofs.lemmas.List.Sums.{get_or-le-sum_by}
use Rattle.cat_program.specs.declared.headers.Event.{Event}
use Rattle.cat_program.specs.Checked.{Checked, IsChecked}
use Rattle.cat_program.specs.Declares.{EachEventIs}
use Rattle.nv_memory.specs.declared.device.Device.{Device}
use Rattle.nv_memory.specs.declared.layout.Layout.{Layout}
use Rattle.event_arrivals.specs.Arrivals.{Lists}
use Rattle.event_arrivals.specs.Spaced.{AreSpaced}
use Rattle.cost_bounds.specs.BoundsValue.{BoundsValue}
use Rattle.cost_bounds.specs.Greatest.{AreBounds}
use Rattle.feasibility.specs.declared.choose.ChooseFault.TheVariants as choose
use Rattle.nv_memory.specs.Layout.{lines_of}
use Rattle.demand_core.specs.declared.Load.{Load}
use Rattle.demand_core.specs.declared.Numbers.{Numbers}
use Rattle.demand_core.specs.Demand.{room_use}
use Rattle.degradation.specs.declared.chosen.Chosen.{Chosen}
use Rattle.degradation.specs.declared.supply.Supply.{Supply}
use Rattle.degradation.specs.Choice.{base_of, IsChoice, Suits}
use Rattle.forecast_table.specs.declared.epoch.Epoch.{Epoch}
use Rattle.forecast_table.specs.Epochs.{IsForecast}
use Rattle.forecast_choice.specs.declared.rows.RowFault.{RowFault}
use Rattle.forecast_choice.specs.declared.rows.RowFault.TheVariants as row
use Rattle.forecast_choice.specs.Rows.{supply_in, IsFirstRefused, IsRowFault}
use Rattle.degradation.specs.Placed.{IsLayoutOf}
use Rattle.cn_scheduler.specs.declared.engine.Engine.{Engine}
use Rattle.cn_scheduler.specs.EnginePoint.{IsFirst}
use Rattle.cn_scheduler.specs.declared.plan.Plan.{Plan}
use Rattle.cn_scheduler.specs.declared.plan.PlanRow.{PlanRow}
use Rattle.cn_scheduler.specs.Belongs.{IsRowOf, IsLayoutOf as HasCounts}
use Rattle.cn_runtime.specs.Planned.{deadlines_in, fault_of, plan_row, plan_rows, IsChosenFor, IsPlanFor, IsPrepared, IsRefused, PlansAreSetUp}
use Rattle.lawful_timeline.specs.Working.{IsSetUp}

-- what is kept back beside one job of each event, a checkpoint, a section and a wake is within what the store holds
row_fits : (program : Checked) (b : BoundsValue) (device : Device) (supply : Supply) (lines : ℕ) (epoch : Epoch) (chosen : Chosen) → IsChoice program b device supply lines chosen
    → Suits program chosen → IsRowOf program (plan_row epoch chosen)
row_fits program b device supply lines epoch chosen choice suits =
    let v = choice.vector in
    let base = base_of b device supply in
    let room : room_use base v.loads v.window ≤ device.cap = choice.is.is.feasible.room in
    let kept : v.reserve ≡ _ = choice.is.is.reserve_is in
    let cap : device.cap ≤ 1000000 = device.cap_in_range in
    let resume : device.resume ≤ device.cap = device.resume_in_cap in
    let numbers = choice.numbers in
    let reserve : chosen.numbers.reserve ≡ v.reserve = ap (λ (n : Numbers). n.reserve) numbers in
    let checkpoint : chosen.numbers.checkpoint ≡ b.checkpoint.units = ap (λ (n : Numbers). n.checkpoint) numbers in
    let section : chosen.numbers.section ≡ b.section.units = ap (λ (n : Numbers). n.section) numbers in
    let level : chosen.numbers.level ≡ max (v.reserve + b.checkpoint.units + b.section.units + b.wake.units) device.resume = ap (λ (n : Numbers). n.level) numbers in
    let jobs : sum_by (λ (x : Load). x.units) chosen.loads ≡ sum_by (λ (x : Load). x.units) v.loads = ap (λ (ls : List Load). sum_by (λ (x : Load). x.units) ls) choice.loads in
    record {
      versions = suits.versions;
      loads = suits.loads;
      there = suits.there;
      reserve = omega arith;
      checkpoint = omega arith;
      section = omega arith;
      level = omega arith;
      units = λ i d lt. let one = get_or-le-sum_by (λ (x : Load). x.units) chosen.loads i d lt in omega arith;
    }

counts : (program : Checked) (device : Device) (l : Layout) → IsLayoutOf program device l → HasCounts program l
counts program device l is = record { words = is.words; tasks = is.tasks; events = is.events }

-- ---- row by row

-- the parts of a row of the plan
pub record Parts (forecast : List Epoch) (chosen : List Chosen) (place : ℕ) (row : PlanRow) : Type 0 where
  pub epoch : Epoch
  pub one : Chosen
  pub epoch_is : slice_get forecast place ≡ Some epoch
  pub one_is : slice_get chosen place ≡ Some one
  pub row_is : plan_row epoch one ≡ row

pub parts_at : (forecast : List Epoch) (chosen : List Chosen) (place : ℕ) (row : PlanRow) → slice_get (plan_rows forecast chosen) place ≡ Some row → Parts forecast chosen place row
parts_at [] chosen place row is = absurd (cc)
parts_at (e ∷ es) [] place row is = absurd (cc)
parts_at (e ∷ es) (c ∷ cs) zero row is = record { epoch = e; one = c; epoch_is = refl; one_is = refl; row_is = cc }
parts_at (e ∷ es) (c ∷ cs) (suc place) row is =
    let more = parts_at es cs place row is in
    record { epoch = more.epoch; one = more.one; epoch_is = more.epoch_is; one_is = more.one_is; row_is = more.row_is }

-- what holds of each item holds of the one in a place
pub at_place : {X : Type 0} (P : X → Type 0) (xs : List X) (place : ℕ) (x : X) → All P xs → slice_get xs place ≡ Some x → P x
at_place P xs place x all is = subst P (get_or_from_slice_get xs place x x is) (all place x (slice_get_within xs place x is))

-- what holds of each row's parts holds of all rows
pub all_rows : (P : PlanRow → Type 0) (forecast : List Epoch) (chosen : List Chosen)
    → ((place : ℕ) (epoch : Epoch) (one : Chosen) → slice_get forecast place ≡ Some epoch → slice_get chosen place ≡ Some one → P (plan_row epoch one)) → All P (plan_rows forecast chosen)
all_rows P forecast chosen each place d within =
    let parts = parts_at forecast chosen place (get_or (plan_rows forecast chosen) place d) (slice_get-get_or (plan_rows forecast chosen) place d within) in
    subst P parts.row_is (each place parts.epoch parts.one parts.epoch_is parts.one_is)

-- some row is in force from the first tick on
first_row : (forecast : List Epoch) (chosen : List Chosen) → IsForecast forecast → length chosen ≡ length forecast
    → (row : PlanRow) × (slice_get (plan_rows forecast chosen) 0 ≡ Some row) × (row.from ≡ 0)
first_row [] chosen is count = absurd (omega (arith, is.some))
first_row (e ∷ es) [] is count = absurd (omega (arith, count))
first_row (e ∷ es) (c ∷ cs) is count = (plan_row e c, refl, is.first e)

pub set_up : (program : Checked) (device : Device) (arrivals : Lists) (forecast : List Epoch) (l : Layout) (chosen : List Chosen) (plan : Plan) → IsChecked program
    → length arrivals.timings ≡ length program.events → AreSpaced arrivals → IsForecast forecast → IsChosenFor program device l forecast chosen
    → IsPlanFor program device arrivals forecast chosen plan → IsSetUp program plan
set_up program device arrivals forecast l chosen plan checked events spaced sound is planned =
    let fits : All (IsRowOf program) (plan_rows forecast chosen) =
    all_rows (IsRowOf program) forecast chosen (λ place epoch one epoch_is one_is.
    row_fits program is.bounds device (supply_in epoch) (lines_of l) epoch one (is.choices.each place epoch one epoch_is one_is)
    (at_place (Suits program) chosen place one is.suit one_is)) in
    let first = first_row forecast chosen sound is.choices.count in
    record {
      checked = checked;
      code_is = planned.code_is;
      plan_is = record {
        layout = counts program device plan.layout planned.layout_is;
        first = (first.0, ap (λ (rows : List PlanRow). slice_get rows 0) planned.rows_are ∙ first.1, first.2);
        rows = subst (λ (rows : List PlanRow). All (IsRowOf program) rows) (sym planned.rows_are) fits;
        queue = ap (λ (ls : Lists). length ls.timings) planned.arrivals_are ∙ events;
        deadlines = planned.deadlines_are;
      };
      spaced = subst (λ (ls : Lists). AreSpaced ls) (sym planned.arrivals_are) spaced;
    }

pub are_set_up : PlansAreSetUp
are_set_up program device arrivals forecast l chosen plan checked events spaced sound is planned =
    set_up program device arrivals forecast l chosen plan checked events spaced sound is planned

-- ---- rows, one after the other

drop_at : {X : Type 0} (xs : List X) (i : ℕ) (x : X) → slice_get xs i ≡ Some x → drop i xs ≡ x ∷ drop (i + 1) xs
drop_at xs i x is = drop_more xs i x (slice_get_within xs i x is) ∙ ap (λ y. y ∷ drop (i + 1) xs) (get_or_from_slice_get xs i x x is)

pub rows-more : (forecast : List Epoch) (chosen : List Chosen) (found : List PlanRow) (i : ℕ) (e : Epoch) (c : Chosen) → slice_get forecast i ≡ Some e → slice_get chosen i ≡ Some c
    → found ++ plan_rows (drop i forecast) (drop i chosen) ≡ (found ++ plan_row e c ∷ []) ++ plan_rows (drop (i + 1) forecast) (drop (i + 1) chosen)
rows-more forecast chosen found i e c e_is c_is =
    let es = drop_at forecast i e e_is in
    let cs = drop_at chosen i c c_is in
    (λ k. found ++ plan_rows (es k) (cs k)) ∙ sym (append_assoc found (plan_row e c ∷ []) (plan_rows (drop (i + 1) forecast) (drop (i + 1) chosen)))

pub rows-end : (forecast : List Epoch) (chosen : List Chosen) (found : List PlanRow) (i : ℕ) → length forecast ≤ i → found ++ plan_rows (drop i forecast) (drop i chosen) ≡ found ++ []
rows-end forecast chosen found i past = ap (λ es. found ++ plan_rows es (drop i chosen)) (drop_all i forecast past)

-- ---- deadlines, one after the other

pub deadlines-more : (headers : List Event) (found : List ℕ) (i : ℕ) (e : Event) → i < length headers → slice_get headers i ≡ Some e
    → found ++ deadlines_in (drop i headers) ≡ (found ++ e.deadline ∷ []) ++ deadlines_in (drop (i + 1) headers)
deadlines-more headers found i e within is =
    ap (λ es. found ++ deadlines_in es) (drop_more headers i e within ∙ ap (λ x. x ∷ drop (i + 1) headers) (get_or_from_slice_get headers i e e is))
    ∙ sym (append_assoc found (e.deadline ∷ []) (deadlines_in (drop (i + 1) headers)))

pub deadlines-end : (headers : List Event) (found : List ℕ) (i : ℕ) → length headers ≤ i → found ++ deadlines_in (drop i headers) ≡ found ++ []
deadlines-end headers found i past = ap (λ es. found ++ deadlines_in es) (drop_all i headers past)

pub each_short : (headers : List Event) (events : List (List ℕ)) → EachEventIs headers events → (event : ℕ) → slice_index (deadlines_in headers) event ≤ 1000000
each_short [] [] each event = omega arith
each_short (h ∷ hs) (v ∷ vs) each zero = let due = each.0.in_time in let spaced = each.0.spaced in omega arith
each_short (h ∷ hs) (v ∷ vs) each (suc event) = each_short hs vs each.1 event
each_short [] (v ∷ vs) each event = absurd each
each_short (h ∷ hs) [] each event = absurd each

-- ---- no choice

pub refused : (p : Checked) (d : Device) (forecast : List Epoch) (l : Layout) (lines : ℕ) (b : BoundsValue) (fault : RowFault) → IsLayoutOf p d l → lines ≡ lines_of l → AreBounds p d lines b
    → IsRowFault p b d lines forecast fault → IsRefused p d forecast (fault_of fault)
refused p d forecast l lines b (row.WindowTooLong number spacing) layout same bounds none =
    record {
      layout = l;
      is_layout = layout;
      bounds = b;
      are_bounds = subst (λ n. AreBounds p d n b) same bounds;
      refused = subst (λ n. IsFirstRefused p b d n forecast number (choose.WindowTooLong spacing)) same none;
    }
refused p d forecast l lines b (row.Rejected number verdict) layout same bounds none =
    record {
      layout = l;
      is_layout = layout;
      bounds = b;
      are_bounds = subst (λ n. AreBounds p d n b) same bounds;
      refused = subst (λ n. IsFirstRefused p b d n forecast number (choose.Rejected verdict)) same none;
    }
refused p d forecast l lines b row.NoMemory layout same bounds none = tt

-- ---- all of it

pub prepared : (program : Checked) (device : Device) (arrivals : Lists) (forecast : List Epoch) (l : Layout) (chosen : List Chosen) (plan : Plan) (engine : Engine) → IsChecked program
    → length arrivals.timings ≡ length program.events → AreSpaced arrivals → IsForecast forecast → IsFirst program l engine → IsChosenFor program device l forecast chosen
    → IsPlanFor program device arrivals forecast chosen plan → plan.layout ≡ l
    → IsPrepared program device arrivals forecast (record { program = program; device = device; forecast = forecast; chosen = chosen; plan = plan; engine = engine })
prepared program device arrivals forecast l chosen plan engine checked events spaced sound first is planned same =
    record {
      program_is = refl;
      device_is = refl;
      forecast_is = refl;
      chosen = subst (λ (m : Layout). IsChosenFor program device m forecast chosen) (sym same) is;
      plan = planned;
      set_up = set_up program device arrivals forecast l chosen plan checked events spaced sound is planned;
      first = subst (λ (m : Layout). IsFirst program m engine) (sym same) first;
    }
