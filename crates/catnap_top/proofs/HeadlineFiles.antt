-- What the files of a replay tell, and the plan that follows from them.
use Rattle.std.proofs.Common.{◌≡◌, ℕ, List, length, get_or, Option, Some, None, Result, Ok, true, false, refl, ◌∙◌, subst, arith}
use Rattle.std.specs.Prelude.{All, slice_get}
use Rattle.std.proofs.lemmas.Option.{slice_get-get_or}
use Rattle.cn_base.specs.declared.tree.Tree.{Tree}
use Rattle.cat_conditions.specs.Conditions.{MeetsConditions}
use Rattle.cat_program.specs.Checked.{Checked, IsChecked}
use Rattle.cat_resolve.specs.Program.{IsProgramOf}
use Rattle.cost_bounds.specs.BoundsValue.{BoundsValue}
use Rattle.degradation.specs.Choice.{HasBounds, IsChoice, Suits}
use Rattle.degradation.specs.declared.chosen.Chosen.{Chosen}
use Rattle.degradation.specs.declared.supply.Supply.{Supply}
use Rattle.event_arrivals.specs.Arrivals.{Lists, arrivals_of, timings_of}
use Rattle.event_arrivals.specs.Spaced.{AreSound}
use Rattle.harvest_trace.specs.declared.row.TraceRow.{TraceRow}
use Rattle.nv_memory.specs.Layout.{lines_of}
use Rattle.nv_memory.specs.declared.device.Device.{Device}
use Rattle.lawful_timeline.specs.Working.{IsSetUp}
use Rattle.cn_scheduler.specs.declared.plan.Plan.{Plan}
use Rattle.calm_timeline.specs.Numbers.{IsPlanned}
use Rattle.cn_runtime.specs.OnTime.{AreFeasible, PlansArePlanned}
use Rattle.cn_runtime.specs.Planned.{IsChosenFor, IsPlanFor, PlansAreSetUp}
use Rattle.cn_runtime.specs.Steady.{steady_rows}
use Rattle.forecast_choice.specs.Rows.{supply_in}
use Rattle.forecast_table.specs.Epochs.{IsForecast}
use Rattle.forecast_table.specs.Table.{forecast_of}
use Rattle.forecast_table.specs.declared.epoch.Epoch.{Epoch}
use Rattle.catnap_top.specs.declared.fault.Fault.{Fault}
use Rattle.catnap_top.specs.declared.files.ReplayFiles.{ReplayFiles}
use Rattle.catnap_top.specs.Files.{Foreseen, files_in, foreseen_in}
use Rattle.catnap_top.specs.Look.{Look, Then, By, stops, goes, fits, fails}
use Rattle.catnap_top.specs.Replay.{versions_for}
use Rattle.catnap_top.specs.Served.{Serves}
use Rattle.catnap_top.specs.Source.{IsSourceOf}

-- ---- looks that found something

pub then_gives : {A B : Type 0} (first : Look A) (next : A → Look B) (x : B) (P : Type 0) → Then first next (Ok x) → ((y : A) → first (Ok y) → next y (Ok x) → P) → P
then_gives first next x P (stops why is e) more = absurd (cc)
then_gives first next x P (goes y is h) more = more y is h

pub by_gives : {A K : Type 0} (fault_of : K → Fault) (rules : Result A K → Type 0) (x : A) → By fault_of rules (Ok x) → rules (Ok x)
by_gives fault_of rules x (fits y is e) = let same : y ≡ x = cc in subst (λ z. rules (Ok z)) same is
by_gives fault_of rules x (fails kind is e) = absurd (cc)

-- ---- the files

-- what a forecast is
pub record ForecastLaws : Type 0 where
  pub steady : (device : Device) → IsForecast (steady_rows device)
  pub told : (bytes : List ℕ) (rows : List Epoch) → forecast_of bytes ≡ Ok rows → IsForecast rows

foreseen_is : ForecastLaws → (device : Device) (forecast : Option (List ℕ)) (w : Foreseen) → foreseen_in device forecast (Ok w) → IsForecast w.rows
foreseen_is laws device None w h =
    let same : (record { given = false; rows = steady_rows device }) ≡ w = cc in
    subst (λ (x : Foreseen). IsForecast x.rows) same (laws.steady device)
foreseen_is laws device (Some bytes) w h =
    then_gives _ _ w _ h (λ rows table e.
    let same : (record { given = true; rows = rows }) ≡ w = cc in
    subst (λ (x : Foreseen). IsForecast x.rows) same (laws.told bytes rows (by_gives _ _ rows table)))

pub record TellsFiles (source arrivals : List ℕ) (files : ReplayFiles) : Type 0 where
  pub source_is : IsSourceOf source files.program
  pub told : arrivals_of files.program.headers files.trace arrivals ≡ Ok files.arrivals
  pub forecast : IsForecast files.forecast

pub tells_files : ForecastLaws → (s d t a f : List ℕ) (w : Option (List ℕ)) (files : ReplayFiles) → files_in s d t a f w (Ok files) → TellsFiles s a files
tells_files laws s d t a f w files h =
    then_gives _ _ files _ h (λ p source h1.
    then_gives _ _ files _ h1 (λ device profile h2.
    then_gives _ _ files _ h2 (λ trace traced h3.
    then_gives _ _ files _ h3 (λ arrivals told h4.
    then_gives _ _ files _ h4 (λ failures failed h5.
    then_gives _ _ files _ h5 (λ foreseen known e.
    let same : (record { program = p; device = device; trace = trace; arrivals = arrivals; failures = failures; given = foreseen.given; forecast = foreseen.rows }) ≡ files = cc in
    subst (λ (x : ReplayFiles). TellsFiles s a x) same
    (record { source_is = by_gives _ _ p source; told = by_gives _ _ arrivals told; forecast = foreseen_is laws device w foreseen known })))))))

-- without a forecast's file the device's profile says what is harvested
pub steady_files : (s d t a f : List ℕ) (files : ReplayFiles) → files_in s d t a f None (Ok files) → (files.forecast ≡ steady_rows files.device) × (files.given ≡ false)
steady_files s d t a f files h =
    then_gives _ _ files _ h (λ p source h1.
    then_gives _ _ files _ h1 (λ device profile h2.
    then_gives _ _ files _ h2 (λ trace traced h3.
    then_gives _ _ files _ h3 (λ arrivals told h4.
    then_gives _ _ files _ h4 (λ failures failed h5.
    then_gives _ _ files _ h5 (λ foreseen known e.
    let is : (record { given = false; rows = steady_rows device }) ≡ foreseen = cc in
    let same : (record { program = p; device = device; trace = trace; arrivals = arrivals; failures = failures; given = false; forecast = steady_rows device }) ≡ files =
    (λ i. record { program = p; device = device; trace = trace; arrivals = arrivals; failures = failures; given = (is i).given; forecast = (is i).rows }) ∙ (cc) in
    subst (λ (x : ReplayFiles). (x.forecast ≡ steady_rows x.device) × (x.given ≡ false)) same (refl, refl)))))))

-- the plan has the numbers of the program's jobs, and its rows are feasible
pub record PlanFacts (files : ReplayFiles) (chosen : List Chosen) (plan : Plan) : Type 0 where
  pub bounds : BoundsValue
  pub planned : IsPlanned files.program files.device bounds plan
  pub feasible : AreFeasible bounds files.device files.forecast plan.rows

-- what stands past the end of a forecast
abbrev no_row : Epoch
no_row = record { tick = 0; p = 0; q = 0 }

-- ---- the laws

-- what the layers below promise of a source's program, of its arrivals and of a choice
pub record LowerLaws : Type 0 where
  pub program : (tree : Tree) (p : Checked) → MeetsConditions tree → IsProgramOf tree p → IsChecked p
  pub timings : (p : Checked) (trace : List TraceRow) (bytes : List ℕ) (lists : Lists) → IsChecked p → arrivals_of p.headers trace bytes ≡ Ok lists → lists.timings ≡ timings_of p.headers
  pub events : (p : Checked) (trace : List TraceRow) (bytes : List ℕ) (lists : Lists) → IsChecked p → arrivals_of p.headers trace bytes ≡ Ok lists → length lists.timings ≡ length p.events
  pub sound : (p : Checked) (trace : List TraceRow) (bytes : List ℕ) (lists : Lists) → IsChecked p → arrivals_of p.headers trace bytes ≡ Ok lists → AreSound lists
  pub suits : (p : Checked) (b : BoundsValue) (device : Device) (supply : Supply) (lines : ℕ) (chosen : Chosen) → IsChecked p → HasBounds p b → IsChoice p b device supply lines chosen → Suits p chosen
  pub set_up : PlansAreSetUp
  pub planned : PlansArePlanned
  pub forecasts : ForecastLaws

module _ (laws : LowerLaws) (source arrivals : List ℕ) (files : ReplayFiles) (tells : TellsFiles source arrivals files) where
  pub is_checked : IsChecked files.program
  is_checked = laws.program tells.source_is.tree files.program tells.source_is.checked tells.source_is.program

  pub are_sound : AreSound files.arrivals
  are_sound = laws.sound files.program files.trace arrivals files.arrivals is_checked tells.told

  module _ (chosen : List Chosen) (plan : Plan) (served : versions_for files (Ok chosen))
      (planned : IsPlanFor files.program files.device files.arrivals files.forecast chosen plan) where
    serves : Serves files.program files.device files.forecast (Ok chosen)
    serves = by_gives _ _ chosen served

    -- each row's choice is one of the program's
    all_suit : All (Suits files.program) chosen
    all_suit i d lt =
        let there : slice_get chosen i ≡ Some (get_or chosen i d) = slice_get-get_or chosen i d lt in
        let row : Epoch = get_or files.forecast i no_row in
        let row_is : slice_get files.forecast i ≡ Some row = slice_get-get_or files.forecast i no_row (omega (arith, lt, serves.choices.count)) in
        laws.suits files.program serves.b files.device (supply_in row) (lines_of serves.l) (get_or chosen i d) is_checked serves.bounds.versions
        (serves.choices.each i row (get_or chosen i d) row_is there)

    is_chosen : IsChosenFor files.program files.device serves.l files.forecast chosen
    is_chosen = record { bounds = serves.b; are_bounds = serves.bounds; choices = serves.choices; suit = all_suit }

    pub is_set_up : IsSetUp files.program plan
    is_set_up =
        laws.set_up files.program files.device files.arrivals files.forecast serves.l chosen plan is_checked
        (laws.events files.program files.trace arrivals files.arrivals is_checked tells.told) are_sound.spaced tells.forecast is_chosen planned

    pub plan_facts : PlanFacts files chosen plan
    plan_facts =
        let both = laws.planned files.program files.device files.arrivals files.forecast serves.l chosen plan is_checked are_sound
        (laws.timings files.program files.trace arrivals files.arrivals is_checked tells.told) tells.forecast serves.layout is_chosen planned in
        record { bounds = is_chosen.bounds; planned = both.0; feasible = both.1 }
