use Rattle.lawful_timeline.specs.Working.{setting_of}
use Rattle.lawful_timeline.proofs.Kept.{Laws}
use Rattle.lawful_timeline.proofs.Ending.{saved_throughout, sizes_throughout}
use Rattle.lawful_timeline.proofs.laws.ends_hold.Goals as goal

pub returns : goal.returns
returns c = λ program plan.
    let laws : Laws program plan =
    record {
      runs = c.runs_are_steps.ensures program;
      writes = c.commits_are_safe.ensures;
      go_on = c.own_runs_go_on.ensures (setting_of program plan);
      ordered = c.earlier_runs_are_ordered.ensures (setting_of program plan);
      tells = c.entries_tell.ensures;
      kept = c.commits_are_kept.ensures plan.layout program;
      safe = c.operations_are_safe.ensures plan.layout program;
    } in
    record {
      saved = λ p cs set_up begins saved time lawful. saved_throughout program plan laws set_up (c.images_stand_for_one.ensures plan.layout program) p cs begins saved time lawful;
      size = λ p cs set_up begins lawful. sizes_throughout program plan laws set_up (c.images_stand_for_one.ensures plan.layout program) p cs begins lawful;
    }
