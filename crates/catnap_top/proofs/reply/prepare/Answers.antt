use Rattle.std.proofs.Common.{◌≡◌, ap, ◌∙◌, subst, arith, length}
use Rattle.catnap_words.specs.declared.form.Form.TheVariants.{Run, List as Listing, Check, CheckForecast, Plan, Replay, ReplayForecast, Image, Resume, Uplink, Object, RunObject, Bench}
use Rattle.catnap_words.specs.Words.{file_count}
use Rattle.catnap_top.specs.Look.{LooksAs}
use Rattle.catnap_top.specs.Reply.{reply_answer}
use Rattle.catnap_top.specs.Run.{running}
use Rattle.catnap_top.specs.Listed.{listing}
use Rattle.catnap_top.specs.Object.{compiling}
use Rattle.catnap_top.specs.RunObject.{running_object}
use Rattle.catnap_top.proofs.Preparing.{contents, file_at, looks_as_form}
use Rattle.catnap_top.proofs.reply.prepare.Goals as goal

pub returns-in-Run-clause-looks : goal.returns-in-Run-clause-looks
returns-in-Run-clause-looks c =
    let files = c.args.files.now in
    let count : length files ≡ 1 = c.requires ∙ ap file_count c.in-Run.is in
    looks_as_form c.args.form (Run c.in-Run.steps) (contents files) c.prepare_run.result c.in-Run.is
    (subst (λ source. LooksAs reply_answer (running c.in-Run.steps source) c.prepare_run.result)
    (file_at files 0 c.index-files-0.result c.as_slice.result.now (omega arith) c.as_slice.ensures.value c.index-files-0.is) c.prepare_run.ensures.looks)

pub returns-in-List-clause-looks : goal.returns-in-List-clause-looks
returns-in-List-clause-looks c =
    let files = c.args.files.now in
    let count : length files ≡ 1 = c.requires ∙ ap file_count c.in-List.is in
    looks_as_form c.args.form Listing (contents files) c.prepare_list.result c.in-List.is
    (subst (λ source. LooksAs reply_answer (listing source) c.prepare_list.result)
    (file_at files 0 c.index-files-0-in-List.result c.as_slice-in-List.result.now (omega arith) c.as_slice-in-List.ensures.value c.index-files-0-in-List.is)
    c.prepare_list.ensures.looks)

pub returns-in-Object-clause-looks : goal.returns-in-Object-clause-looks
returns-in-Object-clause-looks c =
    let files = c.args.files.now in
    let count : length files ≡ 1 = c.requires ∙ ap file_count c.in-Object.is in
    looks_as_form c.args.form Object (contents files) c.prepare_object.result c.in-Object.is
    (subst (λ source. LooksAs reply_answer (compiling source) c.prepare_object.result)
    (file_at files 0 c.index-files-0-in-Object.result c.as_slice-in-Object.result.now (omega arith) c.as_slice-in-Object.ensures.value c.index-files-0-in-Object.is)
    c.prepare_object.ensures.looks)

pub returns-in-Check-clause-looks : goal.returns-in-Check-clause-looks
returns-in-Check-clause-looks c =
    let files = c.args.files.now in
    let count : length files ≡ 2 = c.requires ∙ ap file_count c.in-Check.is in
    let source = file_at files 0 c.index-files-0-in-Check.result c.as_slice-in-Check.result.now (omega arith) c.as_slice-in-Check.ensures.value c.index-files-0-in-Check.is in
    let profile = file_at files 1 c.index-files-1.result c.as_slice-in-Check-2.result.now (omega arith) c.as_slice-in-Check-2.ensures.value c.index-files-1.is in
    looks_as_form c.args.form Check (contents files) c.prepare_check.result c.in-Check.is
    (rw (source, profile) at c.prepare_check.ensures.looks)

pub returns-in-CheckForecast-clause-looks : goal.returns-in-CheckForecast-clause-looks
returns-in-CheckForecast-clause-looks c =
    let files = c.args.files.now in
    let count : length files ≡ 3 = c.requires ∙ ap file_count c.in-CheckForecast.is in
    let source = file_at files 0 c.index-files-0-in-CheckForecast.result c.as_slice-in-CheckForecast.result.now (omega arith) c.as_slice-in-CheckForecast.ensures.value c.index-files-0-in-CheckForecast.is in
    let profile = file_at files 1 c.index-files-1-in-CheckForecast.result c.as_slice-in-CheckForecast-2.result.now (omega arith) c.as_slice-in-CheckForecast-2.ensures.value c.index-files-1-in-CheckForecast.is in
    let forecast = file_at files 2 c.index-files-2.result c.as_slice-in-CheckForecast-3.result.now (omega arith) c.as_slice-in-CheckForecast-3.ensures.value c.index-files-2.is in
    looks_as_form c.args.form CheckForecast (contents files) c.prepare_check_rows.result c.in-CheckForecast.is
    (rw (source, profile, forecast) at c.prepare_check_rows.ensures.looks)

pub returns-in-Plan-clause-looks : goal.returns-in-Plan-clause-looks
returns-in-Plan-clause-looks c =
    let files = c.args.files.now in
    let count : length files ≡ 2 = c.requires ∙ ap file_count c.in-Plan.is in
    let source = file_at files 0 c.index-files-0-in-Plan.result c.as_slice-in-Plan.result.now (omega arith) c.as_slice-in-Plan.ensures.value c.index-files-0-in-Plan.is in
    let profile = file_at files 1 c.index-files-1-in-Plan.result c.as_slice-in-Plan-2.result.now (omega arith) c.as_slice-in-Plan-2.ensures.value c.index-files-1-in-Plan.is in
    looks_as_form c.args.form Plan (contents files) c.prepare_plan.result c.in-Plan.is
    (rw (source, profile) at c.prepare_plan.ensures.looks)

pub returns-in-Replay-clause-looks : goal.returns-in-Replay-clause-looks
returns-in-Replay-clause-looks c =
    let files = c.args.files.now in
    let count : length files ≡ 5 = c.requires ∙ ap file_count c.in-Replay.is in
    let source = file_at files 0 c.index-files-0-in-Replay.result c.as_slice-in-Replay.result.now (omega arith) c.as_slice-in-Replay.ensures.value c.index-files-0-in-Replay.is in
    let profile = file_at files 1 c.index-files-1-in-Replay.result c.as_slice-in-Replay-2.result.now (omega arith) c.as_slice-in-Replay-2.ensures.value c.index-files-1-in-Replay.is in
    let trace = file_at files 2 c.index-files-2-in-Replay.result c.as_slice-in-Replay-3.result.now (omega arith) c.as_slice-in-Replay-3.ensures.value c.index-files-2-in-Replay.is in
    let arrivals = file_at files 3 c.index-files-3.result c.as_slice-in-Replay-4.result.now (omega arith) c.as_slice-in-Replay-4.ensures.value c.index-files-3.is in
    let failures = file_at files 4 c.index-files-4.result c.as_slice-in-Replay-5.result.now (omega arith) c.as_slice-in-Replay-5.ensures.value c.index-files-4.is in
    looks_as_form c.args.form Replay (contents files) c.prepare_replay.result c.in-Replay.is
    (rw (source, profile, trace, arrivals, failures) at c.prepare_replay.ensures.looks)

pub returns-in-ReplayForecast-clause-looks : goal.returns-in-ReplayForecast-clause-looks
returns-in-ReplayForecast-clause-looks c =
    let files = c.args.files.now in
    let count : length files ≡ 6 = c.requires ∙ ap file_count c.in-ReplayForecast.is in
    let source = file_at files 0 c.index-files-0-in-ReplayForecast.result c.as_slice-in-ReplayForecast.result.now (omega arith) c.as_slice-in-ReplayForecast.ensures.value c.index-files-0-in-ReplayForecast.is in
    let profile = file_at files 1 c.index-files-1-in-ReplayForecast.result c.as_slice-in-ReplayForecast-2.result.now (omega arith) c.as_slice-in-ReplayForecast-2.ensures.value c.index-files-1-in-ReplayForecast.is in
    let trace = file_at files 2 c.index-files-2-in-ReplayForecast.result c.as_slice-in-ReplayForecast-3.result.now (omega arith) c.as_slice-in-ReplayForecast-3.ensures.value c.index-files-2-in-ReplayForecast.is in
    let arrivals = file_at files 3 c.index-files-3-in-ReplayForecast.result c.as_slice-in-ReplayForecast-4.result.now (omega arith) c.as_slice-in-ReplayForecast-4.ensures.value c.index-files-3-in-ReplayForecast.is in
    let failures = file_at files 4 c.index-files-4-in-ReplayForecast.result c.as_slice-in-ReplayForecast-5.result.now (omega arith) c.as_slice-in-ReplayForecast-5.ensures.value c.index-files-4-in-ReplayForecast.is in
    let forecast = file_at files 5 c.index-files-5.result c.as_slice-in-ReplayForecast-6.result.now (omega arith) c.as_slice-in-ReplayForecast-6.ensures.value c.index-files-5.is in
    looks_as_form c.args.form ReplayForecast (contents files) c.prepare_replay-in-ReplayForecast.result c.in-ReplayForecast.is
    (rw (source, profile, trace, arrivals, failures, forecast) at c.prepare_replay-in-ReplayForecast.ensures.looks)

pub returns-in-Image-clause-looks : goal.returns-in-Image-clause-looks
returns-in-Image-clause-looks c =
    let files = c.args.files.now in
    let count : length files ≡ 5 = c.requires ∙ ap file_count c.in-Image.is in
    let source = file_at files 0 c.index-files-0-in-Image.result c.as_slice-in-Image.result.now (omega arith) c.as_slice-in-Image.ensures.value c.index-files-0-in-Image.is in
    let profile = file_at files 1 c.index-files-1-in-Image.result c.as_slice-in-Image-2.result.now (omega arith) c.as_slice-in-Image-2.ensures.value c.index-files-1-in-Image.is in
    let trace = file_at files 2 c.index-files-2-in-Image.result c.as_slice-in-Image-3.result.now (omega arith) c.as_slice-in-Image-3.ensures.value c.index-files-2-in-Image.is in
    let arrivals = file_at files 3 c.index-files-3-in-Image.result c.as_slice-in-Image-4.result.now (omega arith) c.as_slice-in-Image-4.ensures.value c.index-files-3-in-Image.is in
    let failures = file_at files 4 c.index-files-4-in-Image.result c.as_slice-in-Image-5.result.now (omega arith) c.as_slice-in-Image-5.ensures.value c.index-files-4-in-Image.is in
    looks_as_form c.args.form Image (contents files) c.prepare_image.result c.in-Image.is
    (rw (source, profile, trace, arrivals, failures) at c.prepare_image.ensures.looks)

pub returns-in-Resume-clause-looks : goal.returns-in-Resume-clause-looks
returns-in-Resume-clause-looks c =
    let files = c.args.files.now in
    let count : length files ≡ 6 = c.requires ∙ ap file_count c.in-Resume.is in
    let source = file_at files 0 c.index-files-0-in-Resume.result c.as_slice-in-Resume.result.now (omega arith) c.as_slice-in-Resume.ensures.value c.index-files-0-in-Resume.is in
    let profile = file_at files 1 c.index-files-1-in-Resume.result c.as_slice-in-Resume-2.result.now (omega arith) c.as_slice-in-Resume-2.ensures.value c.index-files-1-in-Resume.is in
    let trace = file_at files 2 c.index-files-2-in-Resume.result c.as_slice-in-Resume-3.result.now (omega arith) c.as_slice-in-Resume-3.ensures.value c.index-files-2-in-Resume.is in
    let arrivals = file_at files 3 c.index-files-3-in-Resume.result c.as_slice-in-Resume-4.result.now (omega arith) c.as_slice-in-Resume-4.ensures.value c.index-files-3-in-Resume.is in
    let failures = file_at files 4 c.index-files-4-in-Resume.result c.as_slice-in-Resume-5.result.now (omega arith) c.as_slice-in-Resume-5.ensures.value c.index-files-4-in-Resume.is in
    let image = file_at files 5 c.index-files-5-in-Resume.result c.as_slice-in-Resume-6.result.now (omega arith) c.as_slice-in-Resume-6.ensures.value c.index-files-5-in-Resume.is in
    looks_as_form c.args.form Resume (contents files) c.prepare_resume.result c.in-Resume.is
    (rw (source, profile, trace, arrivals, failures, image) at c.prepare_resume.ensures.looks)

pub returns-in-RunObject-clause-looks : goal.returns-in-RunObject-clause-looks
returns-in-RunObject-clause-looks c =
    let files = c.args.files.now in
    let count : length files ≡ 1 = c.requires ∙ ap file_count c.in-RunObject.is in
    looks_as_form c.args.form (RunObject c.in-RunObject.steps) (contents files) c.prepare_runobject.result c.in-RunObject.is
    (subst (λ bytes. LooksAs reply_answer (running_object c.in-RunObject.steps bytes) c.prepare_runobject.result)
    (file_at files 0 c.index-files-0-in-RunObject.result c.as_slice-in-RunObject.result.now (omega arith) c.as_slice-in-RunObject.ensures.value c.index-files-0-in-RunObject.is)
    c.prepare_runobject.ensures.looks)

pub returns-in-Bench-clause-looks : goal.returns-in-Bench-clause-looks
returns-in-Bench-clause-looks c = looks_as_form c.args.form (Bench c.in-Bench.size) (contents c.args.files.now) c.prepare_bench.result c.in-Bench.is c.prepare_bench.ensures.looks

pub returns-in-Uplink-clause-looks : goal.returns-in-Uplink-clause-looks
returns-in-Uplink-clause-looks c =
    let files = c.args.files.now in
    let count : length files ≡ 6 = c.requires ∙ ap file_count c.in-Uplink.is in
    let source = file_at files 0 c.index-files-0-in-Uplink.result c.as_slice-in-Uplink.result.now (omega arith) c.as_slice-in-Uplink.ensures.value c.index-files-0-in-Uplink.is in
    let profile = file_at files 1 c.index-files-1-in-Uplink.result c.as_slice-in-Uplink-2.result.now (omega arith) c.as_slice-in-Uplink-2.ensures.value c.index-files-1-in-Uplink.is in
    let trace = file_at files 2 c.index-files-2-in-Uplink.result c.as_slice-in-Uplink-3.result.now (omega arith) c.as_slice-in-Uplink-3.ensures.value c.index-files-2-in-Uplink.is in
    let arrivals = file_at files 3 c.index-files-3-in-Uplink.result c.as_slice-in-Uplink-4.result.now (omega arith) c.as_slice-in-Uplink-4.ensures.value c.index-files-3-in-Uplink.is in
    let failures = file_at files 4 c.index-files-4-in-Uplink.result c.as_slice-in-Uplink-5.result.now (omega arith) c.as_slice-in-Uplink-5.ensures.value c.index-files-4-in-Uplink.is in
    let link = file_at files 5 c.index-files-5-in-Uplink.result c.as_slice-in-Uplink-6.result.now (omega arith) c.as_slice-in-Uplink-6.ensures.value c.index-files-5-in-Uplink.is in
    looks_as_form c.args.form Uplink (contents files) c.prepare_uplink.result c.in-Uplink.is
    (rw (source, profile, trace, arrivals, failures, link) at c.prepare_uplink.ensures.looks)
