-- What a checked program declares, and how its blocks are numbered.
use Rattle.std.proofs.Common.{◌≡◌, ◌≤◌, length, ap, sym, ◌∙◌, subst}
use Rattle.cn_base.specs.declared.tree.Tree.{Tree}
use Rattle.cat_program.specs.Checked.{Checked, EachBelow, EachListBelow, EachLower}
use Rattle.cat_program.specs.Declares.{IsLaidOut, EachEventIs, EachDegrades}
use Rattle.cat_conditions.specs.Conditions.{MeetsConditions}
use Rattle.cat_resolve.specs.Names.{names_of}
use Rattle.cat_resolve.specs.Header.{event_count}
use Rattle.cat_resolve.specs.Content.{mentions_in}
use Rattle.cat_resolve.specs.Program.{IsProgramOf}
use Rattle.cat_resolve.proofs.Counted.{has_counts, started_of_each, versions_length}
use Rattle.cat_resolve.proofs.Numbers.{tasks_below, events_below, blocks_lower}
use Rattle.cat_resolve.proofs.LaidOut.{laid_out, declares}
use Rattle.cat_resolve.proofs.Mentions.{mention_events, mentions_below}
use Rattle.cat_resolve.proofs.Degrades.{degrades}

pub record HeaderWorks (p : Checked) : Type 0 where
  pub laid_out : IsLaidOut 0 p.variables (length p.words)
  pub few_words : length p.words ≤ 1024
  pub named : length p.names ≡ length p.tasks
  pub declares : EachEventIs p.headers p.events
  pub mentions_in : EachBelow (length p.events) p.mentions
  pub degrades : EachDegrades p.mentions 0 p.events
  pub tasks_in : EachBelow (length p.blocks) p.tasks
  pub events_in : EachListBelow (length p.blocks) p.events
  pub few_tasks : length p.tasks ≤ 16
  pub few_events : length p.events ≤ 16
  pub lower : EachLower 0 p.blocks
  pub started : length p.started ≡ length p.tasks

mentions_within : (tree : Tree) (p : Checked) → MeetsConditions tree → IsProgramOf tree p → EachBelow (length p.events) p.mentions
mentions_within tree p checked of =
    let names = names_of tree.items in
    let count : length p.events ≡ event_count tree.items = ap length of.events ∙ versions_length names 0 tree.items in
    let below : EachBelow (event_count tree.items) (mentions_in names tree.items) = mentions_below names (event_count tree.items) tree.items (mention_events tree checked) in
    subst (EachBelow (length p.events)) (sym of.mentions) (subst (λ n. EachBelow n (mentions_in names tree.items)) (sym count) below)

pub header_works : (tree : Tree) (p : Checked) → MeetsConditions tree → IsProgramOf tree p → HeaderWorks p
header_works tree p checked of =
    let counts = has_counts tree p checked of in
    record {
      laid_out = laid_out tree p checked of;
      few_words = counts.few_words;
      named = counts.named;
      declares = declares tree p checked of;
      mentions_in = mentions_within tree p checked of;
      degrades = degrades tree p checked of;
      tasks_in = tasks_below tree p of;
      events_in = events_below tree p of;
      few_tasks = counts.few_tasks;
      few_events = counts.few_events;
      lower = blocks_lower tree p of;
      started = started_of_each tree p of;
    }
