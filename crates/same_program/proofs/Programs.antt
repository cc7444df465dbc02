-- The programs of one source say the same.
use Rattle.std.proofs.Common.{◌≡◌, ℕ, List, length, ap, sym, ◌∙◌}
use Rattle.std.specs.Prelude.{replicate}
use Rattle.cn_base.specs.declared.tree.Tree.{Tree}
use Rattle.cn_base.specs.declared.tree.Item.{Item}
use Rattle.cat_program.specs.Checked.{Checked}
use Rattle.cat_resolve.specs.Names.{names_of}
use Rattle.cat_resolve.specs.Header.{words_in, variables_in, tasks_in, events_in}
use Rattle.cat_resolve.specs.Content.{blocks_from, bodies_from, versions_from, mentions_in, started_from}
use Rattle.cat_resolve.specs.Program.{IsProgramOf}
use Rattle.same_program.specs.Same.{IsSame}

pub same_of_tree : (a b : Tree) (p q : Checked) → a.items ≡ b.items → IsProgramOf a p → IsProgramOf b q → IsSame p q
same_of_tree a b p q same of_p of_q =
    let names : p.names ≡ q.names = of_p.names ∙ ap tasks_in same ∙ sym of_q.names in
    record {
      variables = of_p.variables ∙ ap (variables_in 0) same ∙ sym of_q.variables;
      words = of_p.words ∙ ap words_in same ∙ sym of_q.words;
      names = names;
      headers = of_p.headers ∙ ap events_in same ∙ sym of_q.headers;
      started = of_p.started ∙ ap (λ (items : List Item). started_from (names_of items) items (replicate (length p.names) 0)) same
          ∙ ap (λ (l : List (List ℕ)). started_from (names_of b.items) b.items (replicate (length l) 0)) names ∙ sym of_q.started;
      tasks = of_p.tasks ∙ ap (λ (items : List Item). bodies_from (names_of items) 0 items) same ∙ sym of_q.tasks;
      events = of_p.events ∙ ap (λ (items : List Item). versions_from (names_of items) 0 items) same ∙ sym of_q.events;
      mentions = of_p.mentions ∙ ap (λ (items : List Item). mentions_in (names_of items) items) same ∙ sym of_q.mentions;
      blocks = of_p.blocks ∙ ap (λ (items : List Item). blocks_from (names_of items) 0 items) same ∙ sym of_q.blocks;
    }
