use Rattle.lawful_timeline.specs.Working.{setting_of}
use Rattle.lawful_timeline.proofs.Starts.{begins, belong, fresh, fresh_size, saved}
use Rattle.lawful_timeline.proofs.laws.starts_belong.Goals as goal

pub returns : goal.returns
returns c = λ program plan. record {
  begins = begins program plan c.writes_are_local.ensures (c.parts_are_apart.ensures plan.layout) (c.slots_are_read_again.ensures.size plan.layout) (c.images_stand_for_one.ensures plan.layout program)
      (c.own_runs_go_on.ensures (setting_of program plan));
  fresh = fresh program plan c.writes_are_local.ensures (c.parts_are_apart.ensures plan.layout) (c.slots_are_read_again.ensures.size plan.layout) (c.images_stand_for_one.ensures plan.layout program)
      (c.own_runs_go_on.ensures (setting_of program plan));
  size = λ p starts. fresh_size program plan c.writes_are_local.ensures (c.parts_are_apart.ensures plan.layout) (c.slots_are_read_again.ensures.size plan.layout) (c.images_stand_for_one.ensures plan.layout program)
      (c.own_runs_go_on.ensures (setting_of program plan)) p.board.image starts.fresh;
  saved = saved program plan;
  belong = belong program plan;
}
