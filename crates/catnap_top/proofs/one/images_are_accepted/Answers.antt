use Rattle.catnap_top.proofs.Accepting.{images_are_accepted}
use Rattle.catnap_top.proofs.one.images_are_accepted.Goals as goal

pub returns : goal.returns
returns c =
    images_are_accepted
    (record {
      program = c.checked_law.ensures.checked;
      timings = c.told_arrivals_are_sound.ensures.timings;
      events = c.told_arrivals_are_sound.ensures.events;
      sound = c.told_arrivals_are_sound.ensures.sound;
      suits = c.choices_suit.ensures;
      set_up = c.plans_are_set_up.ensures;
      planned = c.plans_are_planned.ensures;
      forecasts = record { steady = c.steady_law.ensures.choices.forecast; told = c.told_forecasts_are_sound.ensures };
    })
    c.layouts_are_numbers.ensures c.saved_images_fit.ensures
