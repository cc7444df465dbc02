use Rattle.catnap_top.proofs.HeadlineAnswer.{resumes_show}
use Rattle.catnap_top.proofs.headline.resumes_show_runs.Goals as goal

pub returns : goal.returns
returns c =
    resumes_show
    (record {
      program = c.checked_law.ensures.checked;
      timings = c.told_arrivals_are_sound.ensures.timings;
      events = c.told_arrivals_are_sound.ensures.events;
      sound = c.told_arrivals_are_sound.ensures.sound;
      suits = c.choices_suit.ensures;
      set_up = c.plans_are_set_up.ensures;
      planned = c.plans_are_planned.ensures;
      forecasts = record { steady = c.steady_law.ensures.choices.forecast; told = c.told_forecasts_are_sound.ensures };
    })
    c.records_are_read_again.ensures c.lawful_timelines_hold.ensures c.starts_belong.ensures c.images_stand_for_one.ensures c.agrees_with_one.ensures
    c.arrivals_are_counted.ensures c.own_runs_handle_arrivals.ensures c.resumed_runs_are_on_time.ensures c.layouts_are_numbers.ensures c.fit_images_begin.ensures
