use Rattle.std.proofs.Common.{◌≡◌, ◌≤◌, List, [], ◌∷◌, get_or, ap, ◌∙◌, sym, subst}
use Rattle.cn_runtime.specs.Planned.{IsChosenFor, IsPrepared}
use Rattle.cn_runtime.specs.Steady.{SteadyChoices, steady_rows}
use Rattle.cn_runtime.specs.declared.prepared.Prepared.{Prepared}
use Rattle.degradation.specs.declared.chosen.Chosen.{Chosen}
use Rattle.forecast_table.specs.declared.epoch.Epoch.{Epoch}
use Rattle.catnap_top.specs.declared.files.ReplayFiles.{ReplayFiles}
use Rattle.nv_memory.specs.declared.device.Device.{Device}
use Rattle.catnap_top.specs.Look.{Stops}
use Rattle.catnap_top.specs.Resume.{going}
use Rattle.catnap_top.specs.Resumed.{start_of}
use Rattle.catnap_top.specs.Served.{stop_of_replay}
use Rattle.catnap_top.proofs.Living.{replay_stops}
use Rattle.catnap_top.proofs.Looks.{stops_first}
use Rattle.catnap_top.proofs.Resuming.{are_for, can, formed, going_stops, gone_looks, gone_told, in_cap, in_life, whole}
use Rattle.catnap_top.proofs.resume.go_on.Goals as goal

-- there is one choice
chosen_for_steady : (files : ReplayFiles) (before : Prepared) → SteadyChoices → IsPrepared files.program files.device files.arrivals files.forecast before
    → files.forecast ≡ steady_rows files.device → (chosen : Chosen) × (before.chosen ≡ chosen ∷ [])
chosen_for_steady files before law is steady =
    let found : IsChosenFor files.program files.device before.plan.layout (steady_rows files.device) before.chosen =
    subst (λ (rows : List Epoch). IsChosenFor files.program files.device before.plan.layout rows before.chosen) steady is.chosen in
    let one = law.one files.program files.device before.plan.layout before.chosen found in
    (one.0, one.1)

-- and it is the one that is read
alone_first : (files : ReplayFiles) (before : Prepared) → SteadyChoices → IsPrepared files.program files.device files.arrivals files.forecast before → files.forecast ≡ steady_rows files.device
    → (items : List Chosen) → items ≡ before.chosen → (first : Chosen) → first ≡ get_or items 0 first → before.chosen ≡ first ∷ []
alone_first files before law is steady items same first at =
    let one = chosen_for_steady files before law is steady in
    let all : items ≡ one.0 ∷ [] = same ∙ one.1 in
    let here : first ≡ one.0 = at ∙ ap (λ (l : List Chosen). get_or l 0 first) all in
    one.1 ∙ ap (λ (c : Chosen). c ∷ []) (sym here)

pub returns-in-Err-clause-looks : goal.returns-in-Err-clause-looks
returns-in-Err-clause-looks c =
    let files = c.args.files in
    subst (λ stop. Stops (going files c.args.image.now) stop) (sym c.stop_for_replay.ensures)
    (stops_first _ _ (stop_of_replay files.given c.in-Err.fault) (replay_stops files.program files.device files.given files.forecast c.in-Err.fault c.in-Err.ensures.refused))

pub saved_in-requires-clause-belong : goal.saved_in-requires-clause-belong
saved_in-requires-clause-belong c = are_for c.args.files c.in-Ok.prepared c.in-Ok.ensures.prepared c.requires.given c.requires.steady c.index-as_slice-0.result (alone_first c.args.files c.in-Ok.prepared c.steady_law.ensures.choices c.in-Ok.ensures.prepared c.requires.steady c.as_slice.result.now c.as_slice.ensures c.index-as_slice-0.result c.index-as_slice-0.is)

pub returns-in-Err-saved_in-clause-looks : goal.returns-in-Err-saved_in-clause-looks
returns-in-Err-saved_in-clause-looks c =
    going_stops c.args.files c.in-Ok.prepared c.in-Ok.ensures.prepared c.requires.given c.requires.steady c.index-as_slice-0.result (alone_first c.args.files c.in-Ok.prepared c.steady_law.ensures.choices c.in-Ok.ensures.prepared c.requires.steady c.as_slice.result.now c.as_slice.ensures c.index-as_slice-0.result c.index-as_slice-0.is) c.args.image.now c.in-Err-saved_in.stop c.in-Err-saved_in.ensures

pub begin_again-requires-clause-in_life : goal.begin_again-requires-clause-in_life
begin_again-requires-clause-in_life c =
    in_life c.args.files c.in-Ok.prepared c.in-Ok.ensures.prepared c.requires.given c.requires.steady c.index-as_slice-0.result (alone_first c.args.files c.in-Ok.prepared c.steady_law.ensures.choices c.in-Ok.ensures.prepared c.requires.steady c.as_slice.result.now c.as_slice.ensures c.index-as_slice-0.result c.index-as_slice-0.is) c.args.image.now c.layouts_are_numbers.ensures (start_of c.in-Ok-saved_in.saved) c.in-Ok-saved_in.ensures

pub begin_again-requires-clause-in_cap : goal.begin_again-requires-clause-in_cap
begin_again-requires-clause-in_cap c =
    let within = in_cap c.args.files c.in-Ok.prepared c.in-Ok.ensures.prepared c.requires.given c.requires.steady c.index-as_slice-0.result (alone_first c.args.files c.in-Ok.prepared c.steady_law.ensures.choices c.in-Ok.ensures.prepared c.requires.steady c.as_slice.result.now c.as_slice.ensures c.index-as_slice-0.result c.index-as_slice-0.is) c.args.image.now c.layouts_are_numbers.ensures (start_of c.in-Ok-saved_in.saved) c.in-Ok-saved_in.ensures in
    subst (λ (d : Device). c.in-Ok-saved_in.saved.stored ≤ d.cap) (sym c.copy-own.ensures) within

pub begin_again-requires-clause-size : goal.begin_again-requires-clause-size
begin_again-requires-clause-size c =
    whole c.args.files c.in-Ok.prepared c.in-Ok.ensures.prepared c.requires.given c.requires.steady c.index-as_slice-0.result (alone_first c.args.files c.in-Ok.prepared c.steady_law.ensures.choices c.in-Ok.ensures.prepared c.requires.steady c.as_slice.result.now c.as_slice.ensures c.index-as_slice-0.result c.index-as_slice-0.is) c.args.image.now c.layouts_are_numbers.ensures (start_of c.in-Ok-saved_in.saved) c.in-Ok-saved_in.ensures

pub begin_again-requires-clause-formed : goal.begin_again-requires-clause-formed
begin_again-requires-clause-formed c =
    formed c.args.files c.in-Ok.prepared c.in-Ok.ensures.prepared c.requires.given c.requires.steady c.index-as_slice-0.result (alone_first c.args.files c.in-Ok.prepared c.steady_law.ensures.choices c.in-Ok.ensures.prepared c.requires.steady c.as_slice.result.now c.as_slice.ensures c.index-as_slice-0.result c.index-as_slice-0.is) c.args.image.now c.layouts_are_numbers.ensures (start_of c.in-Ok-saved_in.saved) c.in-Ok-saved_in.ensures

pub run_on-requires-clause-can : goal.run_on-requires-clause-can
run_on-requires-clause-can c =
    can c.args.files c.in-Ok.prepared c.in-Ok.ensures.prepared c.requires.given c.requires.steady c.index-as_slice-0.result (alone_first c.args.files c.in-Ok.prepared c.steady_law.ensures.choices c.in-Ok.ensures.prepared c.requires.steady c.as_slice.result.now c.as_slice.ensures c.index-as_slice-0.result c.index-as_slice-0.is) c.args.image.now c.layouts_are_numbers.ensures (start_of c.in-Ok-saved_in.saved) c.in-Ok-saved_in.ensures
    c.fit_images_begin.ensures c.copy-own.result c.copy-own.ensures c.in-Ok-begin_again.begun c.in-Ok-begin_again.ensures

pub returns-in-Ok-begin_again-clause-looks : goal.returns-in-Ok-begin_again-clause-looks
returns-in-Ok-begin_again-clause-looks c =
    gone_looks c.args.files c.in-Ok.prepared c.in-Ok.ensures.prepared c.requires.given c.requires.steady c.index-as_slice-0.result (alone_first c.args.files c.in-Ok.prepared c.steady_law.ensures.choices c.in-Ok.ensures.prepared c.requires.steady c.as_slice.result.now c.as_slice.ensures c.index-as_slice-0.result c.index-as_slice-0.is) c.args.image.now c.layouts_are_numbers.ensures (start_of c.in-Ok-saved_in.saved) c.in-Ok-saved_in.ensures
    c.fit_images_begin.ensures c.copy-own.result c.copy-own.ensures c.in-Ok-begin_again.begun c.in-Ok-begin_again.ensures c.run_on.result c.run_on.ensures

pub returns-in-Ok-begin_again-clause-written : goal.returns-in-Ok-begin_again-clause-written
returns-in-Ok-begin_again-clause-written c =
    gone_told c.args.files c.in-Ok.prepared c.in-Ok.ensures.prepared c.requires.given c.requires.steady c.index-as_slice-0.result (alone_first c.args.files c.in-Ok.prepared c.steady_law.ensures.choices c.in-Ok.ensures.prepared c.requires.steady c.as_slice.result.now c.as_slice.ensures c.index-as_slice-0.result c.index-as_slice-0.is) c.args.image.now c.layouts_are_numbers.ensures (start_of c.in-Ok-saved_in.saved) c.in-Ok-saved_in.ensures
    c.fit_images_begin.ensures c.copy-own.result c.copy-own.ensures c.in-Ok-begin_again.begun c.in-Ok-begin_again.ensures c.run_on.result c.run_on.ensures

pub saved_in-requires-clause-alone : goal.saved_in-requires-clause-alone
saved_in-requires-clause-alone c =
    alone_first c.args.files c.in-Ok.prepared c.steady_law.ensures.choices c.in-Ok.ensures.prepared c.requires.steady c.as_slice.result.now c.as_slice.ensures c.index-as_slice-0.result c.index-as_slice-0.is
