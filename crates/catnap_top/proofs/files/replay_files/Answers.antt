use Rattle.std.proofs.Common.{Ok, refl, sym, subst}
use Rattle.std.specs.Prelude.{option_map}
use Rattle.std.specs.Option.{is_some}
use Rattle.catnap_top.specs.Files.{files_in}
use Rattle.catnap_top.specs.Look.{Looks, goes}
use Rattle.catnap_top.proofs.Looks.{stops_first, stops_next, passes_on}
use Rattle.catnap_top.proofs.files.replay_files.Goals as goal

pub returns-in_err-program-clause-looks : goal.returns-in_err-program-clause-looks
returns-in_err-program-clause-looks c =
    passes_on (λ x. x) (files_in c.args.source.now c.args.profile.now c.args.trace.now c.args.arrivals.now c.args.failures.now (option_map (λ file. file.now) c.args.forecast)) c.from_residual.result c.in_err-program.field-0.0 c.from_residual.ensures.1
    (stops_first _ _ c.in_err-program.field-0.0 c.in_err-program.ensures)

pub returns-in_err-device-clause-looks : goal.returns-in_err-device-clause-looks
returns-in_err-device-clause-looks c =
    passes_on (λ x. x) (files_in c.args.source.now c.args.profile.now c.args.trace.now c.args.arrivals.now c.args.failures.now (option_map (λ file. file.now) c.args.forecast)) c.from_residual-in_err-device.result c.in_err-device.field-0.0 c.from_residual-in_err-device.ensures.1
    (stops_next _ _ c.in_ok-program.program c.in_err-device.field-0.0 c.in_ok-program.ensures
    (stops_first _ _ c.in_err-device.field-0.0 c.in_err-device.ensures))

pub returns-in_err-trace-clause-looks : goal.returns-in_err-trace-clause-looks
returns-in_err-trace-clause-looks c =
    passes_on (λ x. x) (files_in c.args.source.now c.args.profile.now c.args.trace.now c.args.arrivals.now c.args.failures.now (option_map (λ file. file.now) c.args.forecast)) c.from_residual-in_err-trace.result c.in_err-trace.field-0.0 c.from_residual-in_err-trace.ensures.1
    (stops_next _ _ c.in_ok-program.program c.in_err-trace.field-0.0 c.in_ok-program.ensures
    (stops_next _ _ c.in_ok-device.device c.in_err-trace.field-0.0 c.in_ok-device.ensures
    (stops_first _ _ c.in_err-trace.field-0.0 c.in_err-trace.ensures)))

pub returns-in_err-arrivals-clause-looks : goal.returns-in_err-arrivals-clause-looks
returns-in_err-arrivals-clause-looks c =
    passes_on (λ x. x) (files_in c.args.source.now c.args.profile.now c.args.trace.now c.args.arrivals.now c.args.failures.now (option_map (λ file. file.now) c.args.forecast)) c.from_residual-in_err-arrivals.result c.in_err-arrivals.field-0.0 c.from_residual-in_err-arrivals.ensures.1
    (stops_next _ _ c.in_ok-program.program c.in_err-arrivals.field-0.0 c.in_ok-program.ensures
    (stops_next _ _ c.in_ok-device.device c.in_err-arrivals.field-0.0 c.in_ok-device.ensures
    (stops_next _ _ c.in_ok-trace.trace c.in_err-arrivals.field-0.0 c.in_ok-trace.ensures
    (stops_first _ _ c.in_err-arrivals.field-0.0 c.in_err-arrivals.ensures.looks))))

pub returns-in_err-failures-clause-looks : goal.returns-in_err-failures-clause-looks
returns-in_err-failures-clause-looks c =
    passes_on (λ x. x) (files_in c.args.source.now c.args.profile.now c.args.trace.now c.args.arrivals.now c.args.failures.now (option_map (λ file. file.now) c.args.forecast)) c.from_residual-in_err-failures.result c.in_err-failures.field-0.0 c.from_residual-in_err-failures.ensures.1
    (stops_next _ _ c.in_ok-program.program c.in_err-failures.field-0.0 c.in_ok-program.ensures
    (stops_next _ _ c.in_ok-device.device c.in_err-failures.field-0.0 c.in_ok-device.ensures
    (stops_next _ _ c.in_ok-trace.trace c.in_err-failures.field-0.0 c.in_ok-trace.ensures
    (stops_next _ _ c.in_ok-arrivals.arrivals c.in_err-failures.field-0.0 c.in_ok-arrivals.ensures.looks
    (stops_first _ _ c.in_err-failures.field-0.0 c.in_err-failures.ensures)))))

pub returns-in_err-forecast-clause-looks : goal.returns-in_err-forecast-clause-looks
returns-in_err-forecast-clause-looks c =
    passes_on (λ x. x) (files_in c.args.source.now c.args.profile.now c.args.trace.now c.args.arrivals.now c.args.failures.now (option_map (λ file. file.now) c.args.forecast)) c.from_residual-in_err-forecast.result c.in_err-forecast.field-0.0 c.from_residual-in_err-forecast.ensures.1
    (stops_next _ _ c.in_ok-program.program c.in_err-forecast.field-0.0 c.in_ok-program.ensures
    (stops_next _ _ c.in_ok-device.device c.in_err-forecast.field-0.0 c.in_ok-device.ensures
    (stops_next _ _ c.in_ok-trace.trace c.in_err-forecast.field-0.0 c.in_ok-trace.ensures
    (stops_next _ _ c.in_ok-arrivals.arrivals c.in_err-forecast.field-0.0 c.in_ok-arrivals.ensures.looks
    (stops_next _ _ c.in_ok-failures.failures c.in_err-forecast.field-0.0 c.in_ok-failures.ensures
    (stops_first _ _ c.in_err-forecast.field-0.0 c.in_err-forecast.ensures.looks))))))

pub returns-clause-looks : goal.returns-clause-looks
returns-clause-looks c =
    subst (λ given. Looks (files_in c.args.source.now c.args.profile.now c.args.trace.now c.args.arrivals.now c.args.failures.now (option_map (λ file. file.now) c.args.forecast))
    (Ok (record {
      program = c.in_ok-program.program;
      device = c.in_ok-device.device;
      trace = c.in_ok-trace.trace;
      arrivals = c.in_ok-arrivals.arrivals;
      failures = c.in_ok-failures.failures;
      given = given;
      forecast = c.in_ok-forecast.forecast;
    })))
    (sym c.is_some-given.ensures)
    (goes c.in_ok-program.program c.in_ok-program.ensures
    (goes c.in_ok-device.device c.in_ok-device.ensures
    (goes c.in_ok-trace.trace c.in_ok-trace.ensures
    (goes c.in_ok-arrivals.arrivals c.in_ok-arrivals.ensures.looks
    (goes c.in_ok-failures.failures c.in_ok-failures.ensures
    (goes (record { given = is_some c.args.forecast; rows = c.in_ok-forecast.forecast }) c.in_ok-forecast.ensures.looks refl))))))

pub returns-clause-given : goal.returns-clause-given
returns-clause-given c = c.is_some-given.ensures

pub returns-clause-steady : goal.returns-clause-steady
returns-clause-steady c = c.in_ok-forecast.ensures.steady
