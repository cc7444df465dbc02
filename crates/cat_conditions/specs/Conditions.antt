-- The sixteen conditions, each as the pieces that offend against it.
use Rattle.std.specs.Prelude.{ℕ, ◌+◌, ◌<◌, ◌≤◌, ◌⊎◌, List, [], ◌∷◌, length, take, Result, MatchResult, sum_by, flat_map, ⊤}
use Rattle.cn_base.specs.declared.tree.Tree.{Tree}
use Rattle.cat_conditions.specs.declared.fault.TypeFault.{TypeFault}
use Rattle.cat_conditions.specs.declared.fault.TypeFault.TheVariants as fault
use Rattle.cat_conditions.specs.Pieces.{Piece, pieces}
use Rattle.cat_conditions.specs.Offences.{At, Exceeds, NoneOf, IsFirst}
use Rattle.cat_conditions.specs.Local.{is_out_of_range, has_many_versions, is_event_loop, is_task_turns, is_task_payload, is_late}
use Rattle.cat_conditions.specs.Names.{declaration, declarations, sort_of, is_declared_before, has_unknown_name}
use Rattle.cat_conditions.specs.Types.{has_wrong_type}
use Rattle.cat_conditions.specs.Counts.{words, one_event, one_task, versions_of, mentioned, degrades_too_often, needs_too_many, runs_too_long, task_size, event_size}

-- in the order in which they are looked at
pub data Condition : Type 0 where
  numbers_in_range : Condition
  few_words : Condition
  few_events : Condition
  few_tasks : Condition
  few_versions : Condition
  names_differ : Condition
  names_known : Condition
  types_agree : Condition
  no_while_in_events : Condition
  no_repeat_in_tasks : Condition
  no_payload_in_tasks : Condition
  deadlines_in_time : Condition
  degrades_not_too_often : Condition
  operands_fit : Condition
  handlers_short : Condition
  code_short : Condition

-- the second of two declarations of a name
abbrev pub DeclaresTwice : List Piece → ℕ → Type 0
DeclaresTwice ps k = At (λ p. is_declared_before (declarations (take k ps)) (declaration p)) ps k

-- a degrade order with a mention too many
abbrev pub DegradesTooOften : List Piece → ℕ → Type 0
DegradesTooOften ps k = At (degrades_too_often (versions_of ps) (flat_map mentioned (take (k + 1) ps))) ps k

-- the code holds all tasks and then all events: a task with which it is too long, or an event where the tasks alone are not
abbrev pub MakesCodeLong : List Piece → ℕ → Type 0
MakesCodeLong ps k = Exceeds task_size 60000 ps k ⊎ ((sum_by task_size ps ≤ 60000) × (60000 < sum_by task_size ps + sum_by event_size (take (k + 1) ps)))

-- the piece at this place offends
abbrev pub Offends : Condition → List Piece → ℕ → Type 0
Offends numbers_in_range ps = At is_out_of_range ps
Offends few_words ps = Exceeds words 1024 ps
Offends few_events ps = Exceeds one_event 16 ps
Offends few_tasks ps = Exceeds one_task 16 ps
Offends few_versions ps = At has_many_versions ps
Offends names_differ ps = DeclaresTwice ps
Offends names_known ps = At (has_unknown_name (sort_of (declarations ps))) ps
Offends types_agree ps = At (has_wrong_type (sort_of (declarations ps))) ps
Offends no_while_in_events ps = At is_event_loop ps
Offends no_repeat_in_tasks ps = At is_task_turns ps
Offends no_payload_in_tasks ps = At is_task_payload ps
Offends deadlines_in_time ps = At is_late ps
Offends degrades_not_too_often ps = DegradesTooOften ps
Offends operands_fit ps = At needs_too_many ps
Offends handlers_short ps = At runs_too_long ps
Offends code_short ps = MakesCodeLong ps

-- no piece offends
abbrev pub Holds : Condition → List Piece → Type 0
Holds condition ps = NoneOf (length ps) (Offends condition ps)

-- these hold
abbrev pub AllHold : List Condition → List Piece → Type 0
AllHold [] ps = ⊤
AllHold (condition ∷ conditions) ps = Holds condition ps × AllHold conditions ps

abbrev pub all_conditions : List Condition
all_conditions = numbers_in_range ∷ few_words ∷ few_events ∷ few_tasks ∷ few_versions ∷ names_differ ∷ names_known ∷ types_agree
    ∷ no_while_in_events ∷ no_repeat_in_tasks ∷ no_payload_in_tasks ∷ deadlines_in_time ∷ degrades_not_too_often ∷ operands_fit
    ∷ handlers_short ∷ code_short ∷ []

-- the first of these that fails does so first at this place
abbrev pub FailsAt : List Condition → List Piece → Condition → ℕ → Type 0
FailsAt before ps condition place = AllHold before ps × IsFirst (length ps) (Offends condition ps) place

-- the conditions before the n-th, and the n-th
abbrev pub IsFault : List Piece → TypeFault → Type 0
IsFault ps (fault.BadNumber place) = FailsAt [] ps numbers_in_range place
IsFault ps (fault.TooManyVars place) = FailsAt (take 1 all_conditions) ps few_words place
IsFault ps (fault.TooManyEvents place) = FailsAt (take 2 all_conditions) ps few_events place
IsFault ps (fault.TooManyTasks place) = FailsAt (take 3 all_conditions) ps few_tasks place
IsFault ps (fault.TooManyVersions place) = FailsAt (take 4 all_conditions) ps few_versions place
IsFault ps (fault.Twice place) = FailsAt (take 5 all_conditions) ps names_differ place
IsFault ps (fault.Unknown place) = FailsAt (take 6 all_conditions) ps names_known place
IsFault ps (fault.WrongType place) = FailsAt (take 7 all_conditions) ps types_agree place
IsFault ps (fault.WhileInEvent place) = FailsAt (take 8 all_conditions) ps no_while_in_events place
IsFault ps (fault.RepeatInTask place) = FailsAt (take 9 all_conditions) ps no_repeat_in_tasks place
IsFault ps (fault.PayloadInTask place) = FailsAt (take 10 all_conditions) ps no_payload_in_tasks place
IsFault ps (fault.DeadlineTooLong place) = FailsAt (take 11 all_conditions) ps deadlines_in_time place
IsFault ps (fault.DegradeTooOften place) = FailsAt (take 12 all_conditions) ps degrades_not_too_often place
IsFault ps (fault.StackTooDeep place) = FailsAt (take 13 all_conditions) ps operands_fit place
IsFault ps (fault.HandlerTooLong place) = FailsAt (take 14 all_conditions) ps handlers_short place
IsFault ps (fault.CodeTooLong place) = FailsAt (take 15 all_conditions) ps code_short place
IsFault ps fault.NoMemory = ⊤

-- all conditions hold of the tree
abbrev pub MeetsConditions : Tree → Type 0
MeetsConditions tree = AllHold all_conditions (pieces tree)

-- the tree is checked, or this is the lowest condition that fails, with its first piece that offends
abbrev pub IsVerdict : {T : Type 0} → Tree → Result T TypeFault → Type 0
IsVerdict tree result = MatchResult result (λ _. MeetsConditions tree) (λ f. IsFault (pieces tree) f)
