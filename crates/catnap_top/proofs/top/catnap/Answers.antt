use Rattle.catnap_words.specs.declared.form.Form.TheVariants.{Replay, ReplayForecast, Resume}
use Rattle.catnap_top.specs.Headline.{IsForecastHeadline, IsResumed, IsSteadyHeadline}
use Rattle.catnap_top.proofs.Causes.{asked, causes, complete}
use Rattle.catnap_top.proofs.HeadlineAnswer.{has_shown}
use Rattle.catnap_top.proofs.top.catnap.Goals as goal

pub returns : goal.returns
returns g c =
    record {
      answer = c.respond.ensures.answer;
      asked = asked _ _ _ _ _ c.respond.ensures.answer;
      causes = causes _ _ _ _ _ c.respond.ensures.answer;
      complete = complete _ _ _ _ _ c.respond.ensures.answer;
      headline = record {
        steady = has_shown Replay IsSteadyHeadline c.replays_show_runs.ensures.steady _ _ _ _ _ c.respond.ensures.answer;
        forecast = has_shown ReplayForecast IsForecastHeadline c.replays_show_runs.ensures.forecast _ _ _ _ _ c.respond.ensures.answer;
      };
      rest = has_shown Resume IsResumed c.resumes_show_runs.ensures _ _ _ _ _ c.respond.ensures.answer;
      files = c.respond.ensures.files;
    }
