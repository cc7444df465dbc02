-- The parts of a program, each by itself, make the program of its source.
use Rattle.std.proofs.Common.{◌≡◌, ℕ, ◌<◌, ◌^◌, List, length, ap, sym, ◌∙◌, subst}
use Rattle.std.specs.Prelude.{replicate}
use mathlib.Core.Path.{fun_ext}
use Rattle.cn_base.specs.declared.tree.Item.{Item}
use Rattle.cn_base.specs.declared.tree.Tree.{Tree}
use Rattle.cat_program.specs.Checked.{Checked}
use Rattle.cat_resolve.specs.Names.{Meanings, names_of}
use Rattle.cat_resolve.specs.Form.{commands}
use Rattle.cat_resolve.specs.Header.{words_in, variables_in, tasks_in, events_in}
use Rattle.cat_resolve.specs.Content.{blocks_from, bodies_from, versions_from, mentions_in, started_from}
use Rattle.cat_resolve.specs.Program.{IsProgramOf}

-- the names are those of the source
named_as : (all items : List Item) (names : Meanings) → items ≡ all → ((y : List ℕ) → names y ≡ names_of items y) → names ≡ names_of all
named_as all items names e named = fun_ext (λ y. named y ∙ ap (λ l. names_of l y) e)

pub fits_as : (all items : List Item) (names : Meanings) → items ≡ all → ((y : List ℕ) → names y ≡ names_of items y) → length (blocks_from (names_of all) 0 all) < 2 ^ 32
    → length (blocks_from names 0 items) < 2 ^ 32
fits_as all items names e named h =
    subst (λ (n : Meanings). length (blocks_from n 0 items) < 2 ^ 32) (sym (named_as all items names e named))
    (subst (λ (l : List Item). length (blocks_from (names_of all) 0 l) < 2 ^ 32) (sym e) h)

pub program_is : (tree : Tree) (items : List Item) (names : Meanings) (p : Checked) → items ≡ tree.items → ((y : List ℕ) → names y ≡ names_of items y)
    → p.variables ≡ variables_in 0 items → p.words ≡ words_in items → p.names ≡ tasks_in items → p.headers ≡ events_in items
    → p.started ≡ started_from names items (replicate (length p.names) 0) → p.tasks ≡ bodies_from names 0 items → p.events ≡ versions_from names 0 items
    → p.mentions ≡ mentions_in names items → commands p.blocks ≡ blocks_from names 0 items → IsProgramOf tree p
program_is tree items names p e named variables words tasks headers started bodies events mentions blocks =
    let all = tree.items in
    let n : names ≡ names_of all = named_as all items names e named in
    record {
      variables = variables ∙ ap (variables_in 0) e;
      words = words ∙ ap words_in e;
      names = tasks ∙ ap tasks_in e;
      headers = headers ∙ ap events_in e;
      started =
          started
          ∙ ap (λ (m : Meanings). started_from m items (replicate (length p.names) 0)) n
          ∙ ap (λ (l : List Item). started_from (names_of all) l (replicate (length p.names) 0)) e;
      tasks = bodies ∙ ap (λ (m : Meanings). bodies_from m 0 items) n ∙ ap (bodies_from (names_of all) 0) e;
      events = events ∙ ap (λ (m : Meanings). versions_from m 0 items) n ∙ ap (versions_from (names_of all) 0) e;
      mentions = mentions ∙ ap (λ (m : Meanings). mentions_in m items) n ∙ ap (mentions_in (names_of all)) e;
      blocks = blocks ∙ ap (λ (m : Meanings). blocks_from m 0 items) n ∙ ap (blocks_from (names_of all) 0) e;
    }
