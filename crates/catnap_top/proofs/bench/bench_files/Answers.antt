use Rattle.std.proofs.Common.{◌≡◌, ◌∙◌}
use Rattle.bench_input.specs.Input.{source_text, profile_text, trace_text, arrivals_text, failures_text}
use Rattle.catnap_top.proofs.bench.bench_files.Goals as goal

pub returns-clause-looks : goal.returns-clause-looks
returns-clause-looks c =
    let source : c.as_bytes.result.now ≡ source_text = c.as_bytes.ensures.value ∙ c.source.ensures in
    let profile : c.as_bytes-2.result.now ≡ profile_text = c.as_bytes-2.ensures.value ∙ c.profile.ensures in
    let trace : c.as_slice.result.now ≡ trace_text c.args.size = c.as_slice.ensures.value ∙ c.in_ok-trace.ensures in
    let arrivals : c.as_slice-2.result.now ≡ arrivals_text c.args.size = c.as_slice-2.ensures.value ∙ c.in_ok-arrivals.ensures in
    let failures : c.as_slice-3.result.now ≡ failures_text c.args.size = c.as_slice-3.ensures.value ∙ c.in_ok-failures.ensures in
    rw (source, profile, trace, arrivals, failures) at c.replay_files.ensures.looks
