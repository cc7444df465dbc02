-- One byte more than the greatest file has tells as much as the whole file.
use Rattle.std.proofs.Common.{◌≡◌, ℕ, zero, suc, ◌+◌, ◌<◌, ◌≤◌, List, [], ◌∷◌, length, take, map, Result, Some, None, Ok, Err, refl, sym, ap, ◌∙◌, arith, inl, inr, subst}
use Rattle.std.specs.Prelude.{get_or, nat_lt, true}
use Rattle.std.proofs.lemmas.List.{take_all, length-take}
use Rattle.std.proofs.lemmas.Bool.{cases_lt}
use Rattle.std.proofs.lemmas.Bool.Decides.{nat_tests}
use Rattle.cat_program.specs.Checked.{Checked}
use Rattle.cn_tables.specs.declared.fault.RowKind.TheVariants.{Long}
use Rattle.cn_tables.specs.Table.{Bad, Fields, Step, table_rows, then_rows, read_rows, read_table}
use Rattle.event_arrivals.specs.Arrivals.{arrivals_of, lists_or_bad, timings_of}
use Rattle.forecast_table.specs.Table.{forecast_of, with_some}
use Rattle.harvest_trace.specs.FailsTable.{fails_of}
use Rattle.harvest_trace.specs.TraceTable.{trace_of}
use Rattle.harvest_trace.specs.declared.row.TraceRow.{TraceRow}
use Rattle.nv_memory.specs.declared.device.Device.{Device}
use Rattle.catnap_words.specs.declared.form.Form.{Form}
use Rattle.catnap_words.specs.declared.form.Form.TheVariants.{Run, List as Listing, Check, CheckForecast, Plan, Replay, ReplayForecast, Image, Resume, Uplink, Object, RunObject, Bench}
use Rattle.catnap_top.specs.declared.refusal.SourceFault.{SourceFault}
use Rattle.catnap_top.specs.declared.fault.ProfileFault.{ProfileFault}
use Rattle.catnap_top.specs.declared.fault.ProfileFault.TheVariants as profile
use Rattle.catnap_top.specs.declared.fault.Table.{Table}
use Rattle.catnap_top.specs.declared.fault.Fault.TheVariants as fault
use Rattle.catnap_top.specs.Answer.{Answer, most_bytes}
use Rattle.catnap_top.specs.Source.{most_source, IsRefused, too_long, no_tokens, no_tree, unchecked}
use Rattle.catnap_top.specs.Files.{IsSource, program_in, IsProfile, device_in, table_in, trace_in, arrivals_in, failures_in, forecast_in, files_in}
use Rattle.catnap_top.specs.Look.{Look}
use Rattle.catnap_top.specs.Uplink.{links_in}
use Rattle.catnap_top.specs.declared.files.ReplayFiles.{ReplayFiles}
use Rattle.cn_uplink.specs.Table.{links_of}
use Rattle.catnap_top.specs.Reply.{looks_of, CallsFor}
use Rattle.catnap_top.specs.RunObject.{IsObject, object_in}
use Rattle.catnap_top.specs.Resume.{IsImage, start_in}
use Rattle.degradation.specs.declared.chosen.Chosen.{Chosen}
use Rattle.catnap_top.proofs.ImageFiles.{image_long}
use Rattle.catnap_top.proofs.ObjectFiles.{object_long}
use Rattle.catnap_top.proofs.Looks.{Leads, by_leads, then_leads, comes_to_leads}

abbrev pub front : List ℕ → List ℕ
front file = take (most_bytes + 1) file

front_long : (file : List ℕ) → most_bytes < length file → most_bytes < length (front file)
front_long file lt = simp length-take (omega arith)

front_short : (file : List ℕ) → length file ≤ most_bytes → front file ≡ file
front_short file le = take_all (most_bytes + 1) file (omega arith)

-- what holds of the front of a long file, and of a short file, holds of every file
by_front : (P : List ℕ → Type 0) (file : List ℕ) → (most_bytes < length file → most_bytes < length (front file) → P (front file) → P file) → P (front file) → P file
by_front P file long h =
    elim (cases_lt most_bytes (length file)) [
      | inl lt ↦ long lt (front_long file lt) h
      | inr le ↦ subst P (front_short file le) h
    ]

-- ---- a source

-- a source that long is refused either way
refused_long : (file : List ℕ) (refusal : SourceFault) → most_bytes < length file → most_bytes < length (front file)
    → IsRefused (front file) refusal → IsRefused file refusal
refused_long file refusal lt more (too_long long kind place) = too_long (omega arith) kind place
refused_long file refusal lt more (no_tokens tokens fault le lexes kind place) = absurd (omega arith)
refused_long file refusal lt more (no_tree tokens fault le lexes is kind place) = absurd (omega arith)
refused_long file refusal lt more (unchecked tokens tree fault le lexes spelled is kind place) = absurd (omega arith)

source_long : (file : List ℕ) (came : Result Checked SourceFault) → most_bytes < length file → most_bytes < length (front file)
    → IsSource (front file) came → IsSource file came
source_long file (Ok p) lt more is = let le : length (front file) ≤ most_source = is.within in absurd (omega (arith, more, le))
source_long file (Err refusal) lt more is = refused_long file refusal lt more is

pub program_cut : (file : List ℕ) → Leads (program_in (front file)) (program_in file)
program_cut file =
    by_leads fault.Source (IsSource (front file)) (IsSource file) (λ came. by_front (λ f. IsSource f came) file (source_long file came))

-- ---- a profile

-- a profile that long is refused for its length
profile_long : (file : List ℕ) (came : Result Device ProfileFault) → most_bytes < length file → most_bytes < length (front file)
    → IsProfile (front file) came → IsProfile file came
profile_long file (Ok d) lt more is = let le : length (front file) ≤ most_bytes = is.0 in absurd (omega (arith, more, le))
profile_long file (Err profile.Long) lt more is = lt
profile_long file (Err profile.Syntax) lt more is = let le : length (front file) ≤ most_bytes = is.0 in absurd (omega (arith, more, le))
profile_long file (Err (profile.Missing key)) lt more is = let le : length (front file) ≤ most_bytes = is.0 in absurd (omega (arith, more, le))
profile_long file (Err profile.Extra) lt more is = let le : length (front file) ≤ most_bytes = is.0 in absurd (omega (arith, more, le))
profile_long file (Err (profile.Range key)) lt more is = let le : length (front file) ≤ most_bytes = is.0 in absurd (omega (arith, more, le))

pub device_cut : (file : List ℕ) → Leads (device_in (front file)) (device_in file)
device_cut file =
    by_leads fault.Device (IsProfile (front file)) (IsProfile file) (λ came. by_front (λ f. IsProfile f came) file (profile_long file came))

-- ---- a table

is_less : (m n : ℕ) → m < n → nat_lt m n ≡ true
is_less m n lt = grind (arith, nat_tests)

too_many : (header : Fields) (bytes : List ℕ) → most_bytes < length bytes → table_rows header bytes ≡ Err (0, Long)
too_many header bytes lt = rw (is_less most_bytes (length bytes) lt) refl

rows_long : (header : Fields) (file : List ℕ) → most_bytes < length file → most_bytes < length (front file) → table_rows header (front file) ≡ table_rows header file
rows_long header file lt more = too_many header (front file) more ∙ sym (too_many header file lt)

rows_cut : (header : Fields) (file : List ℕ) → table_rows header (front file) ≡ table_rows header file
rows_cut header file =
    by_front (λ f. table_rows header (front file) ≡ table_rows header f) file (λ lt more h. rows_long header file lt more) refl

table_cut : {A : Type 0} (header : Fields) (step : Step A) (start : A) (file : List ℕ) → read_table header step start (front file) ≡ read_table header step start file
table_cut header step start file = ap (λ rows. then_rows (read_rows step 1 start) rows) (rows_cut header file)

told_leads : {A : Type 0} (which : Table) (told same : Result A Bad) → told ≡ same → Leads (table_in which told) (table_in which same)
told_leads which told same e = by_leads (λ bad. fault.Table which bad.0 bad.1) (λ came. told ≡ came) (λ came. same ≡ came) (λ came h. sym e ∙ h)

pub trace_cut : (file : List ℕ) → Leads (trace_in (front file)) (trace_in file)
trace_cut file = told_leads _ (trace_of (front file)) (trace_of file) (table_cut _ _ _ file)

pub arrivals_cut : (p : Checked) (trace : List TraceRow) (file : List ℕ) → Leads (arrivals_in p trace (front file)) (arrivals_in p trace file)
arrivals_cut p trace file =
    told_leads _ (arrivals_of p.headers trace (front file)) (arrivals_of p.headers trace file)
    (ap (λ rows. lists_or_bad (timings_of p.headers) trace rows) (table_cut _ _ _ file))

pub failures_cut : (file : List ℕ) → Leads (failures_in (front file)) (failures_in file)
failures_cut file = told_leads _ (fails_of (front file)) (fails_of file) (table_cut _ _ _ file)

pub forecast_cut : (file : List ℕ) → Leads (forecast_in (front file)) (forecast_in file)
forecast_cut file = told_leads _ (forecast_of (front file)) (forecast_of file) (ap with_some (table_cut _ _ _ file))

pub links_cut : (file : List ℕ) → Leads (links_in (front file)) (links_in file)
links_cut file = told_leads _ (links_of (front file)) (links_of file) (table_cut _ _ _ file)

-- ---- an object file, and a saved image

pub object_cut : (file : List ℕ) → Leads (object_in (front file)) (object_in file)
object_cut file =
    by_leads fault.Object (IsObject (front file)) (IsObject file) (λ came. by_front (λ f. IsObject f came) file (λ lt more. object_long (front file) file came more lt))

pub image_cut : (files : ReplayFiles) (chosen : List Chosen) (file : List ℕ) → Leads (start_in files chosen (front file)) (start_in files chosen file)
image_cut files chosen file =
    by_leads fault.Image (IsImage files chosen (front file)) (IsImage files chosen file)
    (λ came. by_front (λ f. IsImage files chosen f came) file (λ lt more. image_long files chosen file came lt))

-- ---- a form

-- the file at a place among fronts
front_at : (files : List (List ℕ)) (place : ℕ) → get_or (map front files) place [] ≡ front (get_or files place [])
front_at [] place = refl
front_at (file ∷ files) zero = refl
front_at (file ∷ files) (suc place) = front_at files place

-- a look at the file at a place
at_place : {A : Type 0} (look : List ℕ → Look A) → ((file : List ℕ) → Leads (look (front file)) (look file)) → (files : List (List ℕ)) (place : ℕ)
    → Leads (look (get_or (map front files) place [])) (look (get_or files place []))
at_place look cut files place =
    subst (λ file. Leads (look file) (look (get_or files place []))) (sym (front_at files place)) (cut (get_or files place []))

abbrev replay_files : List (List ℕ) → Look ReplayFiles
replay_files files = files_in (get_or files 0 []) (get_or files 1 []) (get_or files 2 []) (get_or files 3 []) (get_or files 4 []) None

replay_files_cut : (files : List (List ℕ)) → Leads (replay_files (map front files)) (replay_files files)
replay_files_cut files =
    then_leads _ _ _ _ (at_place program_in program_cut files 0)
    (λ p. then_leads _ _ _ _ (at_place device_in device_cut files 1)
    (λ d. then_leads _ _ _ _ (at_place trace_in trace_cut files 2)
    (λ t. then_leads _ _ _ _ (at_place (arrivals_in p t) (arrivals_cut p t) files 3)
    (λ a. then_leads _ _ _ _ (at_place failures_in failures_cut files 4) (λ f came h. h)))))

abbrev forecast_files : List (List ℕ) → Look ReplayFiles
forecast_files files = files_in (get_or files 0 []) (get_or files 1 []) (get_or files 2 []) (get_or files 3 []) (get_or files 4 []) (Some (get_or files 5 []))

forecast_files_cut : (files : List (List ℕ)) → Leads (forecast_files (map front files)) (forecast_files files)
forecast_files_cut files =
    then_leads _ _ _ _ (at_place program_in program_cut files 0)
    (λ p. then_leads _ _ _ _ (at_place device_in device_cut files 1)
    (λ d. then_leads _ _ _ _ (at_place trace_in trace_cut files 2)
    (λ t. then_leads _ _ _ _ (at_place (arrivals_in p t) (arrivals_cut p t) files 3)
    (λ a. then_leads _ _ _ _ (at_place failures_in failures_cut files 4)
    (λ f. then_leads _ _ _ _ (then_leads _ _ _ _ (at_place forecast_in forecast_cut files 5) (λ rows came h. h)) (λ w came h. h))))))

looks_cut : (form : Form) (files : List (List ℕ)) → Leads (looks_of form (map front files)) (looks_of form files)
looks_cut (Run steps) files = then_leads _ _ _ _ (at_place program_in program_cut files 0) (λ p came h. h)
looks_cut Listing files = then_leads _ _ _ _ (at_place program_in program_cut files 0) (λ p came h. h)
looks_cut Object files = then_leads _ _ _ _ (at_place program_in program_cut files 0) (λ p came h. h)
looks_cut Check files =
    then_leads _ _ _ _ (at_place program_in program_cut files 0) (λ p. then_leads _ _ _ _ (at_place device_in device_cut files 1) (λ d came h. h))
looks_cut CheckForecast files =
    then_leads _ _ _ _ (at_place program_in program_cut files 0)
    (λ p. then_leads _ _ _ _ (at_place device_in device_cut files 1) (λ d. then_leads _ _ _ _ (at_place forecast_in forecast_cut files 2) (λ rows came h. h)))
looks_cut Replay files = then_leads _ _ _ _ (replay_files_cut files) (λ x came h. h)
looks_cut ReplayForecast files = then_leads _ _ _ _ (forecast_files_cut files) (λ x came h. h)
looks_cut Plan files =
    then_leads _ _ _ _ (at_place program_in program_cut files 0) (λ p. then_leads _ _ _ _ (at_place device_in device_cut files 1) (λ d came h. h))
looks_cut Image files = then_leads _ _ _ _ (replay_files_cut files) (λ x came h. h)
looks_cut Resume files =
    then_leads _ _ _ _ (replay_files_cut files)
    (λ x. then_leads _ _ _ _ (λ came h. h) (λ c. then_leads _ _ _ _ (at_place (start_in x c) (image_cut x c) files 5) (λ start came h. h)))
looks_cut (RunObject steps) files = then_leads _ _ _ _ (at_place object_in object_cut files 0) (λ o came h. h)
looks_cut (Bench size) files = λ came h. h
looks_cut Uplink files = then_leads _ _ _ _ (replay_files_cut files) (λ x. then_leads _ _ _ _ (at_place links_in links_cut files 5) (λ steps came h. h))

pub form_cut : (form : Form) (files : List (List ℕ)) (due : Answer)
    → CallsFor form (map (λ file. take (most_bytes + 1) file) files) due → CallsFor form files due
form_cut form files due h = comes_to_leads (looks_of form (map front files)) (looks_of form files) (looks_cut form files) due h
