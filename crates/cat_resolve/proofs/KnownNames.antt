-- Each name of a source that meets the conditions stands for the words and tasks that a statement takes.
use Rattle.std.proofs.Common.{◌≡◌, ℕ, ◌+◌, ◌<◌, ◌≤◌, true, Option, Some, None, ap, arith}
use Rattle.std.proofs.lemmas.Bool.{false≢true}
use Rattle.cn_base.specs.declared.tree.Tree.{Tree}
use Rattle.cat_conditions.specs.declared.sort.Sort.{Sort}
use Rattle.cat_conditions.specs.declared.sort.Sort.TheVariants as sort
use Rattle.cat_conditions.specs.Pieces.{pieces}
use Rattle.cat_conditions.specs.Names.{declarations, sort_of}
use Rattle.cat_conditions.specs.Types.{is_plain, is_array, is_task}
use Rattle.cat_conditions.specs.Conditions.{MeetsConditions}
use Rattle.cat_resolve.specs.declared.names.Meaning.{Meaning}
use Rattle.cat_resolve.specs.Names.{names_of}
use Rattle.cat_resolve.specs.Header.{word_count, task_count}
use Rattle.cat_resolve.proofs.Targets.{word_of, base_of, len_of, task_of}
use Rattle.cat_resolve.proofs.Sorts.{StandsFor, IsWord, names_stand}
use Rattle.cat_resolve.proofs.BodiesWork.{Knows}

is_word : (words : ℕ) (m : Option Meaning) → IsWord words m → word_of m < words
is_word words m h = let w : word_of m ≡ h.0 = ap word_of h.1 in omega (arith, w, h.2)

a_word : (words tasks events : ℕ) (s : Option Sort) (m : Option Meaning) → is_plain s ≡ true → StandsFor words tasks events s m → word_of m < words
a_word words tasks events None m e h = absurd (false≢true e)
a_word words tasks events (Some sort.Int) m e h = is_word words m h
a_word words tasks events (Some sort.Bool) m e h = is_word words m h
a_word words tasks events (Some sort.Array) m e h = absurd (false≢true e)
a_word words tasks events (Some sort.Task) m e h = absurd (false≢true e)
a_word words tasks events (Some sort.Event) m e h = absurd (false≢true e)

an_array : (words tasks events : ℕ) (s : Option Sort) (m : Option Meaning) → is_array s ≡ true → StandsFor words tasks events s m → (0 < len_of m) × (base_of m + len_of m ≤ words)
an_array words tasks events None m e h = absurd (false≢true e)
an_array words tasks events (Some sort.Int) m e h = absurd (false≢true e)
an_array words tasks events (Some sort.Bool) m e h = absurd (false≢true e)
an_array words tasks events (Some sort.Array) m e h =
    let base : base_of m ≡ h.0 = ap base_of h.2 in
    let len : len_of m ≡ h.1 = ap len_of h.2 in
    (omega (arith, len, h.3), omega (arith, base, len, h.4))
an_array words tasks events (Some sort.Task) m e h = absurd (false≢true e)
an_array words tasks events (Some sort.Event) m e h = absurd (false≢true e)

a_task : (words tasks events : ℕ) (s : Option Sort) (m : Option Meaning) → is_task s ≡ true → StandsFor words tasks events s m → task_of m < tasks
a_task words tasks events None m e h = absurd (false≢true e)
a_task words tasks events (Some sort.Int) m e h = absurd (false≢true e)
a_task words tasks events (Some sort.Bool) m e h = absurd (false≢true e)
a_task words tasks events (Some sort.Array) m e h = absurd (false≢true e)
a_task words tasks events (Some sort.Task) m e h = let t : task_of m ≡ h.0 = ap task_of h.1 in omega (arith, t, h.2)
a_task words tasks events (Some sort.Event) m e h = absurd (false≢true e)

pub names_known : (tree : Tree) → MeetsConditions tree → Knows (sort_of (declarations (pieces tree))) (names_of tree.items) (word_count tree.items) (task_count tree.items)
names_known tree checked =
    let sorts = sort_of (declarations (pieces tree)) in
    let names = names_of tree.items in
    record {
      word = λ x plain. a_word _ _ _ (sorts x) (names x) plain (names_stand tree checked x);
      array = λ x array. an_array _ _ _ (sorts x) (names x) array (names_stand tree checked x);
      task = λ x task. a_task _ _ _ (sorts x) (names x) task (names_stand tree checked x);
    }
