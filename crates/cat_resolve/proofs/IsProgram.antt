-- The program of a source that meets all conditions is a checked one.
use Rattle.cn_base.specs.declared.tree.Tree.{Tree}
use Rattle.cat_program.specs.Checked as program
use Rattle.cat_program.specs.Checked.{Checked}
use Rattle.cat_conditions.specs.Conditions.{MeetsConditions}
use Rattle.cat_resolve.specs.Program.{IsProgramOf}
use Rattle.cat_resolve.proofs.HeaderWorks.{header_works}
use Rattle.cat_resolve.proofs.NamesDiffer.{names_differ}
use Rattle.cat_resolve.proofs.StandingCounts.{BlocksAreAsDeep}
use Rattle.cat_resolve.proofs.Working.{bodies_work}

pub is_checked : BlocksAreAsDeep → (tree : Tree) (p : Checked) → MeetsConditions tree → IsProgramOf tree p → program.IsChecked p
is_checked as_deep tree p checked of =
    let header = header_works tree p checked of in
    let bodies = bodies_work as_deep tree p checked of in
    record {
      laid_out = header.laid_out;
      few_words = header.few_words;
      named = header.named;
      names_differ = names_differ tree p checked of;
      declares = header.declares;
      mentions_in = header.mentions_in;
      degrades = header.degrades;
      tasks_in = header.tasks_in;
      events_in = header.events_in;
      few_tasks = header.few_tasks;
      few_events = header.few_events;
      lower = header.lower;
      tasks_shallow = bodies.tasks_shallow;
      events_shallow = bodies.events_shallow;
      tasks_work = bodies.tasks_work;
      events_work = bodies.events_work;
      started = header.started;
      short = bodies.short;
    }
