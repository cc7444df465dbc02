use Rattle.lawful_timeline.specs.Working.{setting_of}
use Rattle.lawful_timeline.proofs.Whole.{holds_throughout}
use Rattle.lawful_timeline.proofs.laws.lawful_timelines_hold.Goals as goal

pub returns : goal.returns
returns c = λ program plan. record {
  holds = λ p cs set_up begins lawful. holds_throughout program plan
      (record {
        runs = c.runs_are_steps.ensures program;
        writes = c.commits_are_safe.ensures;
        go_on = c.own_runs_go_on.ensures (setting_of program plan);
        ordered = c.earlier_runs_are_ordered.ensures (setting_of program plan);
        tells = c.entries_tell.ensures;
        kept = c.commits_are_kept.ensures plan.layout program;
        safe = c.operations_are_safe.ensures plan.layout program;
      })
      set_up (c.images_stand_for_one.ensures plan.layout program) p cs begins lawful;
}
