use Rattle.catnap_top.proofs.OneAnswer.{one_answer}
use Rattle.catnap_top.proofs.one.one_answer.Goals as goal

pub returns : goal.returns
returns c =
    one_answer c.one_source.ensures c.one_profile.ensures c.one_choice.ensures
    c.same_steps_law.ensures.first c.same_steps_law.ensures.step c.same_code_law.ensures.listing c.same_code_law.ensures.code c.lives_are_one.ensures c.one_uplink_text.ensures c.one_plan.ensures
    c.one_object.ensures c.one_image.ensures c.rests_are_one.ensures
