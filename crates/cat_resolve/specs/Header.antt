-- What the items of a source declare: its variables with their first words, its tasks and its events, each in the order of declaration.
use Rattle.std.specs.Prelude.{ℕ, ◌+◌, ◌≤◌, ℤ, pos, Bool, true, false, List, [], ◌∷◌, ◌++◌, length, replicate}
use Rattle.std.specs.Int.{w32, cast_signed, int_wrapping_neg}
use Rattle.cn_base.specs.declared.tree.Item.{Item}
use Rattle.cn_base.specs.declared.tree.Item.TheVariants as item
use Rattle.cn_base.specs.declared.tree.Timing.{Timing as SourceTiming}
use Rattle.cn_base.specs.declared.tree.Timing.TheVariants as source
use Rattle.cat_program.specs.declared.headers.Variable.{Variable}
use Rattle.cat_program.specs.declared.headers.Event.{Event}
use Rattle.cat_program.specs.declared.headers.Timing.{Timing}
use Rattle.cat_program.specs.declared.headers.Timing.TheVariants as timing
use Rattle.cat_program.specs.Value.{truth}
use Rattle.cat_resolve.specs.Names.{words_of, tasks_of, events_of}

-- the first value of an `int`, in 32 bits
abbrev pub first_value : Bool → ℕ → ℤ
first_value true n = int_wrapping_neg w32 (cast_signed w32 n)
first_value false n = cast_signed w32 n

abbrev pub item_words : Item → List ℤ
item_words (item.Int x negative n) = first_value negative n ∷ []
item_words (item.Bool x b) = truth b ∷ []
item_words (item.Array x n) = replicate n (pos 0)
item_words _ = []

abbrev pub words_in : List Item → List ℤ
words_in [] = []
words_in (i ∷ items) = item_words i ++ words_in items

abbrev pub variable : List ℕ → ℕ → ℕ → Bool → Variable
variable x base len is_array = record { name = x; base = base; len = len; array = is_array }

-- behind so many words
abbrev pub item_variables : ℕ → Item → List Variable
item_variables at (item.Int x negative n) = variable x at 1 false ∷ []
item_variables at (item.Bool x b) = variable x at 1 false ∷ []
item_variables at (item.Array x n) = variable x at n true ∷ []
item_variables at _ = []

abbrev pub variables_in : ℕ → List Item → List Variable
variables_in at [] = []
variables_in at (i ∷ items) = item_variables at i ++ variables_in (at + words_of i) items

abbrev pub item_tasks : Item → List (List ℕ)
item_tasks (item.Task x body) = x ∷ []
item_tasks _ = []

abbrev pub tasks_in : List Item → List (List ℕ)
tasks_in [] = []
tasks_in (i ∷ items) = item_tasks i ++ tasks_in items

abbrev pub timing_of : SourceTiming → Timing
timing_of (source.Every period offset) = timing.Every period offset
timing_of (source.Spacing least) = timing.Spacing least

abbrev pub event : List ℕ → SourceTiming → ℕ → ℕ → Event
event x t deadline versions = record { name = x; timing = timing_of t; deadline = deadline; versions = versions }

abbrev pub item_events : Item → List Event
item_events (item.Event x t deadline versions) = event x t deadline (length versions) ∷ []
item_events _ = []

abbrev pub events_in : List Item → List Event
events_in [] = []
events_in (i ∷ items) = item_events i ++ events_in items

-- few enough words, tasks and events, as the conditions say
abbrev pub word_count : List Item → ℕ
word_count [] = 0
word_count (i ∷ items) = words_of i + word_count items

abbrev pub task_count : List Item → ℕ
task_count [] = 0
task_count (i ∷ items) = tasks_of i + task_count items

abbrev pub event_count : List Item → ℕ
event_count [] = 0
event_count (i ∷ items) = events_of i + event_count items

abbrev pub HasFewVersions : Item → Type 0
HasFewVersions (item.Event x t deadline versions) = length versions ≤ 4
HasFewVersions _ = Unit {0}

abbrev pub AllHaveFewVersions : List Item → Type 0
AllHaveFewVersions [] = Unit {0}
AllHaveFewVersions (i ∷ items) = HasFewVersions i × AllHaveFewVersions items

pub record IsSmall (items : List Item) : Type 0 where
  pub few_words : word_count items ≤ 1024
  pub few_tasks : task_count items ≤ 16
  pub few_events : event_count items ≤ 16
  pub few_versions : AllHaveFewVersions items
