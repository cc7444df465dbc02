-- What a form of words calls for is one answer.
use Rattle.std.proofs.Common.{◌≡◌, ℕ, List, [], Option, Some, None, Result, Ok, Err, refl, sym, ap, ◌∙◌, subst}
use Rattle.std.specs.Prelude.{Bool, true, false, get_or}
use Rattle.cat_program.specs.Checked.{Checked}
use Rattle.nv_memory.specs.declared.device.Device.{Device}
use Rattle.degradation.specs.declared.chosen.Chosen.{Chosen}
use Rattle.cn_tables.specs.Table.{Bad}
use Rattle.event_arrivals.specs.Arrivals.{Lists, arrivals_of}
use Rattle.cn_runtime.specs.Steady.{steady_rows}
use Rattle.forecast_table.specs.Table.{forecast_of}
use Rattle.forecast_table.specs.declared.epoch.Epoch.{Epoch}
use Rattle.harvest_trace.specs.FailsTable.{fails_of}
use Rattle.harvest_trace.specs.TraceTable.{trace_of}
use Rattle.harvest_trace.specs.declared.row.TraceRow.{TraceRow}
use Rattle.catnap_top.specs.declared.fault.Table.{Table}
use Rattle.catnap_top.specs.declared.fault.Table.TheVariants as table
use Rattle.catnap_words.specs.declared.form.Form.{Form}
use Rattle.catnap_words.specs.declared.form.Form.TheVariants.{Run, List as Listing, Check, CheckForecast, Plan, Replay, ReplayForecast, Image, Resume, Uplink, Object, RunObject, Bench}
use Rattle.catnap_top.specs.declared.fault.Fault.TheVariants as fault
use Rattle.catnap_top.specs.Answer.{Answer}
use Rattle.catnap_top.specs.Alike.{AreAlike, Agree, IsSameProgram, AreSameFiles, AreSameLived}
use Rattle.catnap_top.specs.OneLife.{LivesAreOne}
use Rattle.catnap_top.specs.Files.{Foreseen, IsSource, program_in, IsProfile, device_in, table_in, arrivals_in, foreseen_in, files_in}
use Rattle.catnap_top.specs.Served.{Serves, row_fault, versions_in}
use Rattle.catnap_top.specs.declared.files.ReplayFiles.{ReplayFiles}
use Rattle.catnap_top.specs.Lives.{Life, Lived, reported}
use Rattle.cn_uplink.specs.Table.{links_of}
use Rattle.catnap_top.specs.Check.{choosing}
use Rattle.catnap_top.specs.Look.{Look, Then, found}
use Rattle.catnap_top.specs.Replay.{living, versions_for}
use Rattle.catnap_top.specs.Reply.{looks_of, CallsFor}
use Rattle.catnap_top.proofs.Looks.{by_agree, then_agree, found_agree, comes_to_one}
use Rattle.catnap_top.proofs.OneReport.{SameCode, life_agrees, rest_agrees, reported_same, rest_reported_same, saved_same, summed_same}
use Rattle.catnap_top.proofs.OneUplink.{OneUplinkText, uplinks_agree}
use Rattle.catnap_top.specs.Image.{saved}
use Rattle.catnap_top.specs.OneRest.{RestsAreOne}
use Rattle.catnap_top.specs.Resume.{IsImage, Start, going, start_in}
use Rattle.catnap_top.specs.RunObject.{IsObject, object_ran}
use Rattle.cn_object.specs.declared.object.Object.{Object as TheObject}
use Rattle.catnap_top.specs.Bench.{summed}
use Rattle.bench_input.specs.Input.{source_text, profile_text, trace_text, arrivals_text, failures_text}
use Rattle.catnap_top.proofs.OnePlan.{PlansAgree, one_planning}
use Rattle.catnap_top.proofs.Programs.{SameFirst, SameStep, SameListing, ran_same, listed_same, compiled_same, checked_same}

-- ---- tables

same_alike : {A E : Type 0} (came also : Result A E) → came ≡ also → AreAlike (λ x y. x ≡ y) came also
same_alike (Ok x) also e = subst (λ r. AreAlike (λ x y. x ≡ y) (Ok x) r) e refl
same_alike (Err f) also e = subst (λ r. AreAlike (λ x y. x ≡ y) (Err f) r) e refl

told_agree : {A E : Type 0} (told same : Result A E) → told ≡ same → Agree (λ x y. x ≡ y) (λ came. told ≡ came) (λ came. same ≡ came)
told_agree told same e came also h k = same_alike came also (sym h ∙ e ∙ k)

pub table_agree : {A : Type 0} (which : Table) (told same : Result A Bad) → told ≡ same → Agree (λ (x y : A). x ≡ y) (table_in which told) (table_in which same)
table_agree which told same e =
    by_agree (λ x y. x ≡ y) (λ bad. fault.Table which bad.0 bad.1) (λ came. told ≡ came) (λ came. same ≡ came) (told_agree told same e)

-- ---- chains

-- looks that agree, with what each of them found
agree_given : {A B E : Type 0} (same : A → B → Type 0) (look : Result A E → Type 0) (other : Result B E → Type 0) → Agree same look other
    → Agree (λ x y. same x y × look (Ok x) × other (Ok y)) look other
agree_given same look other agree (Ok x) (Ok y) h k = (agree (Ok x) (Ok y) h k, h, k)
agree_given same look other agree (Ok x) (Err g) h k = agree (Ok x) (Err g) h k
agree_given same look other agree (Err f) (Ok y) h k = agree (Err f) (Ok y) h k
agree_given same look other agree (Err f) (Err g) h k = agree (Err f) (Err g) h k

module _ (source : (bytes : List ℕ) → Agree IsSameProgram (IsSource bytes) (IsSource bytes))
    (profile : (bytes : List ℕ) → Agree (λ (d e : Device). d ≡ e) (IsProfile bytes) (IsProfile bytes))
    (served : (p q : Checked) (d : Device) (rows : List Epoch) → IsSameProgram p q → Agree (λ (x y : List Chosen). x ≡ y) (Serves p d rows) (Serves q d rows)) where
  programs : (bytes : List ℕ) → Agree IsSameProgram (program_in bytes) (program_in bytes)
  programs bytes = by_agree IsSameProgram fault.Source (IsSource bytes) (IsSource bytes) (source bytes)

  devices : (bytes : List ℕ) → Agree (λ (d e : Device). d ≡ e) (device_in bytes) (device_in bytes)
  devices bytes = by_agree (λ d e. d ≡ e) fault.Device (IsProfile bytes) (IsProfile bytes) (profile bytes)

  versions : (p q : Checked) (d e : Device) (given : Bool) (v w : List Epoch) → IsSameProgram p q → d ≡ e → v ≡ w → Agree (λ (x y : List Chosen). x ≡ y) (versions_in p d given v) (versions_in q e given w)
  versions p q d e given v w are device rows =
      subst (λ e. Agree (λ x y. x ≡ y) (versions_in p d given v) (versions_in q e given w)) device
      (subst (λ w. Agree (λ x y. x ≡ y) (versions_in p d given v) (versions_in q d given w)) rows
      (by_agree (λ x y. x ≡ y) (row_fault given) (Serves p d v) (Serves q d v) (served p q d v are)))

  -- what is chosen for the rows of a forecast
  choosing_agrees : (p q : Checked) (d e : Device) (given : Bool) (v w : List Epoch) → IsSameProgram p q → d ≡ e → v ≡ w
      → Agree (λ (a b : Answer). a ≡ b) (choosing p d given v) (choosing q e given w)
  choosing_agrees p q d e given v w are device rows =
      subst (λ w. Agree (λ (a b : Answer). a ≡ b) (choosing p d given v) (choosing q e given w)) rows
      (then_agree (λ x y. x ≡ y) (λ a b. a ≡ b) _ _ _ _ (versions p q d e given v v are device refl)
      (λ x y equal. found_agree (λ a b. a ≡ b) _ _ (checked_same p q given v x y are.same equal)))

  arrived : (p q : Checked) (t u : List TraceRow) (bytes : List ℕ) → IsSameProgram p q → t ≡ u → Agree (λ (x y : Lists). x ≡ y) (arrivals_in p t bytes) (arrivals_in q u bytes)
  arrived p q t u bytes are same =
      table_agree table.Arrivals (arrivals_of p.headers t bytes) (arrivals_of q.headers u bytes)
      (ap (λ h. arrivals_of h t bytes) are.same.headers ∙ ap (λ rows. arrivals_of q.headers rows bytes) same)

  -- what is sure to be harvested
  foreseen_agree : (d e : Device) (w : Option (List ℕ)) → d ≡ e → Agree (λ (v u : Foreseen). v ≡ u) (foreseen_in d w) (foreseen_in e w)
  foreseen_agree d e None same = found_agree (λ v u. v ≡ u) _ _ (ap (λ x. record { given = false; rows = steady_rows x }) same)
  foreseen_agree d e (Some bytes) same =
      then_agree (λ v w. v ≡ w) (λ v u. v ≡ u) _ _ _ _ (table_agree table.Forecast (forecast_of bytes) (forecast_of bytes) refl)
      (λ v w rows. found_agree (λ v u. v ≡ u) _ _ (ap (λ x. record { given = true; rows = x }) rows))

  files_agree : (s d t a f : List ℕ) (w : Option (List ℕ)) → Agree AreSameFiles (files_in s d t a f w) (files_in s d t a f w)
  files_agree s d t a f w =
      then_agree IsSameProgram AreSameFiles _ _ _ _ (programs s)
      (λ p q are. then_agree (λ x y. x ≡ y) AreSameFiles _ _ _ _ (devices d)
      (λ x y device. then_agree (λ x y. x ≡ y) AreSameFiles _ _ _ _ (table_agree table.Trace (trace_of t) (trace_of t) refl)
      (λ v u trace. then_agree (λ x y. x ≡ y) AreSameFiles _ _ _ _ (arrived p q v u a are trace)
      (λ k l arrivals. then_agree (λ x y. x ≡ y) AreSameFiles _ _ _ _ (table_agree table.Fails (fails_of f) (fails_of f) refl)
      (λ m n failures. then_agree (λ x y. x ≡ y) AreSameFiles _ _ _ _ (foreseen_agree x y w device)
      (λ g h foreseen. found_agree AreSameFiles _ _ (record {
        program = are;
        device = device;
        trace = trace;
        arrivals = arrivals;
        failures = failures;
        given = ap (λ (r : Foreseen). r.given) foreseen;
        forecast = ap (λ (r : Foreseen). r.rows) foreseen;
      })))))))

  -- the files of a replay, and what each look for them found
  abbrev AreTold : List ℕ → List ℕ → List ℕ → List ℕ → List ℕ → Option (List ℕ) → ReplayFiles → ReplayFiles → Type 0
  AreTold s d t a f w x y = AreSameFiles x y × files_in s d t a f w (Ok x) × files_in s d t a f w (Ok y)

  told_files_agree : (s d t a f : List ℕ) (w : Option (List ℕ)) → Agree (AreTold s d t a f w) (files_in s d t a f w) (files_in s d t a f w)
  told_files_agree s d t a f w = agree_given AreSameFiles (files_in s d t a f w) (files_in s d t a f w) (files_agree s d t a f w)

  -- the versions that are chosen for them
  chosen_agree : (x y : ReplayFiles) → AreSameFiles x y → Agree (λ (c e : List Chosen). c ≡ e) (versions_for x) (versions_for y)
  chosen_agree x y same =
      subst (λ (given : Bool). Agree (λ (c e : List Chosen). c ≡ e) (versions_for x) (versions_in y.program y.device given y.forecast)) same.given
      (versions x.program y.program x.device y.device x.given x.forecast y.forecast same.program same.device same.forecast)

  -- the life that they call for
  living_agree : SameCode → LivesAreOne → (s d t a f : List ℕ) (w : Option (List ℕ)) (x y : ReplayFiles) → AreTold s d t a f w x y → Agree AreSameLived (living x) (living y)
  living_agree code one s d t a f w x y both =
      let same : AreSameFiles x y = both.0 in
      then_agree (λ c e. (c ≡ e) × versions_for x (Ok c) × versions_for y (Ok e)) AreSameLived _ _ _ _ (agree_given (λ c e. c ≡ e) (versions_for x) (versions_for y) (chosen_agree x y same))
      (λ c e chosen.
      then_agree (λ (k l : Life). k ≡ l) AreSameLived _ _ _ _
      (life_agrees code x y same c e (λ one_life other. one s d t a f w y c one_life other both.2 (subst (λ (v : List Chosen). versions_for y (Ok v)) (sym chosen.0) chosen.2)) chosen.0)
      (λ k l life. found_agree AreSameLived _ _ (record { files = same; chosen = chosen.0; life = life })))

  -- what is told of it
  abbrev telling : List ℕ → List ℕ → List ℕ → List ℕ → List ℕ → Option (List ℕ) → (Lived → Answer) → Look Answer
  telling s d t a f w tell = Then (files_in s d t a f w) (λ files. Then (living files) (λ lived. found (tell lived)))

  telling_agrees : SameCode → LivesAreOne → (s d t a f : List ℕ) (w : Option (List ℕ)) (tell : Lived → Answer) → ((k l : Lived) → AreSameLived k l → tell k ≡ tell l)
      → Agree (λ (a b : Answer). a ≡ b) (telling s d t a f w tell) (telling s d t a f w tell)
  telling_agrees code one s d t a f w tell same_told =
      then_agree (AreTold s d t a f w) (λ a b. a ≡ b) _ _ _ _ (told_files_agree s d t a f w)
      (λ x y both. then_agree AreSameLived (λ a b. a ≡ b) _ _ _ _ (living_agree code one s d t a f w x y both)
      (λ k l same. found_agree (λ a b. a ≡ b) _ _ (same_told k l same)))

  module _ (first : SameFirst) (each : SameStep) (listing : SameListing) (code : SameCode) (one : LivesAreOne) (uplink : OneUplinkText) (plans : PlansAgree)
      (objects : (bytes : List ℕ) → Agree (λ (o p : TheObject). o ≡ p) (IsObject bytes) (IsObject bytes))
      (images : (x y : ReplayFiles) (chosen : List Chosen) (bytes : List ℕ) → AreSameFiles x y → Agree (λ (s t : Start). s ≡ t) (IsImage x chosen bytes) (IsImage y chosen bytes))
      (rests : RestsAreOne) where
    -- a saved image of files that tell the same
    starts_agree : (x y : ReplayFiles) (c e : List Chosen) (bytes : List ℕ) → AreSameFiles x y → c ≡ e → Agree (λ (s t : Start). s ≡ t) (start_in x c bytes) (start_in y e bytes)
    starts_agree x y c e bytes same equal =
        subst (λ (v : List Chosen). Agree (λ (s t : Start). s ≡ t) (start_in x c bytes) (start_in y v bytes)) equal
        (by_agree (λ s t. s ≡ t) fault.Image (IsImage x c bytes) (IsImage y c bytes) (images x y c bytes same))

    -- and what goes on from it
    going_agrees : (s d t a f image : List ℕ) (x y : ReplayFiles) → AreTold s d t a f None x y → Agree (λ (a b : Answer). a ≡ b) (going x image) (going y image)
    going_agrees s d t a f image x y both =
        let same : AreSameFiles x y = both.0 in
        then_agree (λ c e. (c ≡ e) × versions_for x (Ok c) × versions_for y (Ok e)) (λ a b. a ≡ b) _ _ _ _ (agree_given (λ c e. c ≡ e) (versions_for x) (versions_for y) (chosen_agree x y same))
        (λ c e chosen.
        then_agree (λ k l. (k ≡ l) × start_in x c image (Ok k) × start_in y e image (Ok l)) (λ a b. a ≡ b) _ _ _ _
        (agree_given (λ k l. k ≡ l) (start_in x c image) (start_in y e image) (starts_agree x y c e image same chosen.0))
        (λ k l start.
        then_agree (λ (m n : Life). m ≡ n) (λ a b. a ≡ b) _ _ _ _
        (rest_agrees code x y same c e k l
        (λ one_life other.
        rests s d t a f image y c k one_life other both.2 (subst (λ (v : List Chosen). versions_for y (Ok v)) (sym chosen.0) chosen.2)
        (subst (λ (v : List Chosen). start_in y v image (Ok k)) (sym chosen.0) (subst (λ (from : Start). start_in y e image (Ok from)) (sym start.0) start.2)))
        chosen.0 start.0)
        (λ m n life. found_agree (λ a b. a ≡ b) _ _ (rest_reported_same x y c e m n same chosen.0 life))))

    one_looks : (form : Form) (files : List (List ℕ)) → Agree (λ (a b : Answer). a ≡ b) (looks_of form files) (looks_of form files)
    one_looks (Run steps) files =
        then_agree IsSameProgram (λ a b. a ≡ b) _ _ _ _ (programs (get_or files 0 []))
        (λ p q are. found_agree (λ a b. a ≡ b) _ _ (ran_same first each p q are.same steps))
    one_looks Listing files =
        then_agree IsSameProgram (λ a b. a ≡ b) _ _ _ _ (programs (get_or files 0 []))
        (λ p q are. found_agree (λ a b. a ≡ b) _ _ (listed_same listing p q are.same))
    one_looks Object files =
        then_agree IsSameProgram (λ a b. a ≡ b) _ _ _ _ (programs (get_or files 0 []))
        (λ p q are. found_agree (λ a b. a ≡ b) _ _ (compiled_same code p q are.same))
    one_looks Check files =
        then_agree IsSameProgram (λ a b. a ≡ b) _ _ _ _ (programs (get_or files 0 []))
        (λ p q are. then_agree (λ d e. d ≡ e) (λ a b. a ≡ b) _ _ _ _ (devices (get_or files 1 []))
        (λ d e same. choosing_agrees p q d e false (steady_rows d) (steady_rows e) are same (ap steady_rows same)))
    one_looks CheckForecast files =
        then_agree IsSameProgram (λ a b. a ≡ b) _ _ _ _ (programs (get_or files 0 []))
        (λ p q are. then_agree (λ d e. d ≡ e) (λ a b. a ≡ b) _ _ _ _ (devices (get_or files 1 []))
        (λ d e same. then_agree (λ v w. v ≡ w) (λ a b. a ≡ b) _ _ _ _ (table_agree table.Forecast (forecast_of (get_or files 2 [])) (forecast_of (get_or files 2 [])) refl)
        (λ v w rows. choosing_agrees p q d e true v w are same rows)))
    one_looks Plan files = one_planning programs devices plans (get_or files 0 []) (get_or files 1 [])
    one_looks Replay files =
        telling_agrees code one (get_or files 0 []) (get_or files 1 []) (get_or files 2 []) (get_or files 3 []) (get_or files 4 []) None
        (λ lived. reported lived.files lived.chosen lived.life) reported_same
    one_looks ReplayForecast files =
        telling_agrees code one (get_or files 0 []) (get_or files 1 []) (get_or files 2 []) (get_or files 3 []) (get_or files 4 []) (Some (get_or files 5 []))
        (λ lived. reported lived.files lived.chosen lived.life) reported_same
    one_looks Image files =
        telling_agrees code one (get_or files 0 []) (get_or files 1 []) (get_or files 2 []) (get_or files 3 []) (get_or files 4 []) None saved saved_same
    one_looks Resume files =
        let s = get_or files 0 [] in
        let d = get_or files 1 [] in
        let t = get_or files 2 [] in
        let a = get_or files 3 [] in
        let f = get_or files 4 [] in
        then_agree (AreTold s d t a f None) (λ a b. a ≡ b) _ _ _ _ (told_files_agree s d t a f None) (λ x y both. going_agrees s d t a f (get_or files 5 []) x y both)
    one_looks (RunObject steps) files =
        then_agree (λ (o p : TheObject). o ≡ p) (λ a b. a ≡ b) _ _ _ _
        (by_agree (λ o p. o ≡ p) fault.Object (IsObject (get_or files 0 [])) (IsObject (get_or files 0 [])) (objects (get_or files 0 [])))
        (λ o p same. found_agree (λ a b. a ≡ b) _ _ (ap (object_ran steps) same))
    one_looks (Bench size) files =
        telling_agrees code one source_text profile_text (trace_text size) (arrivals_text size) (failures_text size) None (summed size) (summed_same size)
    one_looks Uplink files =
        let s = get_or files 0 [] in
        let d = get_or files 1 [] in
        let t = get_or files 2 [] in
        let a = get_or files 3 [] in
        let f = get_or files 4 [] in
        let l = get_or files 5 [] in
        uplinks_agree uplink (AreTold s d t a f None) (files_in s d t a f None) l (told_files_agree s d t a f None) (living_agree code one s d t a f None)
        (table_agree table.Link (links_of l) (links_of l) refl)

    pub one_answer : (form : Form) (files : List (List ℕ)) (a b : Answer) → CallsFor form files a → CallsFor form files b → a ≡ b
    one_answer form files a b h k = comes_to_one (looks_of form files) (looks_of form files) (one_looks form files) a b h k
