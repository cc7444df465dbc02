-- What the names of a source stand for.
use Rattle.std.specs.Prelude.{◌≡◌, ℕ, ◌+◌, List, [], ◌∷◌, Option, Some, None, bytes_eq, if◌then◌else◌}
use Rattle.cn_base.specs.declared.tree.Item.{Item}
use Rattle.cn_base.specs.declared.tree.Item.TheVariants as item
use Rattle.cat_resolve.specs.declared.names.Meaning.{Meaning}
use Rattle.cat_resolve.specs.declared.names.Meaning.TheVariants as meaning

-- what each name stands for, where it stands for something
abbrev pub Meanings : Type 0
Meanings = List ℕ → Option Meaning

-- the first of two that there is
abbrev pub first_of : Option Meaning → Option Meaning → Option Meaning
first_of (Some m) other = Some m
first_of None other = other

-- a meaning of this name alone
abbrev pub of_name : List ℕ → Meaning → Meanings
of_name x m y = if bytes_eq x y then Some m else None

-- the same names, and this one, unless it was among them
abbrev pub Gives : Meanings → Meanings → List ℕ → Meaning → Type 0
Gives before now x m = (y : List ℕ) → now y ≡ first_of (before y) (of_name x m y)

-- ---- what the items of a source declare

-- Words are numbered in the order of declaration, an array taking as many as its length. Tasks and events are numbered likewise.
abbrev pub words_of : Item → ℕ
words_of (item.Int x negative n) = 1
words_of (item.Bool x truth) = 1
words_of (item.Array x n) = n
words_of _ = 0

abbrev pub tasks_of : Item → ℕ
tasks_of (item.Task x body) = 1
tasks_of _ = 0

abbrev pub events_of : Item → ℕ
events_of (item.Event x timing deadline versions) = 1
events_of _ = 0

-- what an item declares behind so many words, tasks and events
abbrev pub declared_by : ℕ → ℕ → ℕ → Item → Meanings
declared_by w t e (item.Int x negative n) = of_name x (meaning.Word w)
declared_by w t e (item.Bool x truth) = of_name x (meaning.Word w)
declared_by w t e (item.Array x n) = of_name x (meaning.Array w n)
declared_by w t e (item.Task x body) = of_name x (meaning.Task t)
declared_by w t e (item.Event x timing deadline versions) = of_name x (meaning.Event e)
declared_by w t e _ = λ y. None

abbrev pub names_from : ℕ → ℕ → ℕ → List Item → Meanings
names_from w t e [] y = None
names_from w t e (i ∷ items) y = first_of (declared_by w t e i y) (names_from (w + words_of i) (t + tasks_of i) (e + events_of i) items y)

-- what a name of the source stands for, by the first item that declares it
abbrev pub names_of : List Item → Meanings
names_of items = names_from 0 0 0 items
