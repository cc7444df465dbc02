use Rattle.std.proofs.Common.{None}
use Rattle.catnap_top.proofs.HeadlineFiles.{is_set_up, steady_files, tells_files}
use Rattle.catnap_top.proofs.OneLife.{rest_one}
use Rattle.catnap_top.proofs.Resuming.{starts_saved}
use Rattle.catnap_top.proofs.one.rests_are_one.Goals as goal

pub returns : goal.returns
returns c = λ source profile trace arrivals failures image files chosen start one other told served accepted.
    rest_one
    (record {
      layouts = c.layouts_are_numbers.ensures;
      images = c.first_image_is_one.ensures;
      rules = c.rules_decide.ensures;
      starts = c.starts_belong.ensures;
      ends = c.timelines_end_alike.ensures;
    })
    files chosen start one other
    (λ plan.
    is_set_up
    (record {
      program = c.checked_law.ensures.checked;
      timings = c.told_arrivals_are_sound.ensures.timings;
      events = c.told_arrivals_are_sound.ensures.events;
      sound = c.told_arrivals_are_sound.ensures.sound;
      suits = c.choices_suit.ensures;
      set_up = c.plans_are_set_up.ensures;
      planned = c.plans_are_planned.ensures;
      forecasts = record { steady = c.steady_law.ensures.choices.forecast; told = c.told_forecasts_are_sound.ensures };
    })
    source arrivals files (tells_files (record { steady = c.steady_law.ensures.choices.forecast; told = c.told_forecasts_are_sound.ensures }) source profile trace arrivals failures None files told) chosen plan served)
    (λ goes_on. ((c.starts_belong.ensures files.program goes_on.goes.plan).saved _ (starts_saved c.layouts_are_numbers.ensures c.fit_images_begin.ensures files chosen image start one (steady_files source profile trace arrivals failures files told).0 accepted goes_on)).begins)
