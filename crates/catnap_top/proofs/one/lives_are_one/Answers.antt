use Rattle.catnap_top.proofs.HeadlineFiles.{is_set_up, tells_files}
use Rattle.catnap_top.proofs.OneLife.{life_one}
use Rattle.catnap_top.proofs.one.lives_are_one.Goals as goal

pub returns : goal.returns
returns c = λ source profile trace arrivals failures forecast files chosen one other told served.
    life_one
    (record {
      layouts = c.layouts_are_numbers.ensures;
      images = c.first_image_is_one.ensures;
      rules = c.rules_decide.ensures;
      starts = c.starts_belong.ensures;
      ends = c.timelines_end_alike.ensures;
    })
    files chosen one other
    (λ plan.
    is_set_up
    (record {
      program = c.checked_law.ensures.checked;
      timings = c.told_arrivals_are_sound.ensures.timings;
      events = c.told_arrivals_are_sound.ensures.events;
      sound = c.told_arrivals_are_sound.ensures.sound;
      suits = c.choices_suit.ensures;
      set_up = c.plans_are_set_up.ensures;
      planned = c.plans_are_planned.ensures;
      forecasts = record { steady = c.steady_law.ensures.choices.forecast; told = c.told_forecasts_are_sound.ensures };
    })
    source arrivals files (tells_files (record { steady = c.steady_law.ensures.choices.forecast; told = c.told_forecasts_are_sound.ensures }) source profile trace arrivals failures forecast files told) chosen plan served)
