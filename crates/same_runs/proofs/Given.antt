-- What the layers below promise of programs that say the same, and of reference runs.
use Rattle.std.specs.Prelude.{◌≡◌, ℕ, ℤ, Option, Some}
use Rattle.cat_program.specs.Body.{Body}
use Rattle.cat_program.specs.Checked.{Checked, body_at, first_state, rest_at, version_at}
use Rattle.cat_program.specs.Meaning.{Store, TaskState, TaskStep, handled, task_step_of}
use Rattle.cat_program.specs.Resting.{RestsAt}
use Rattle.reference_run.specs.Reference.{IsReference, Moment, Setting}
use Rattle.reference_run.specs.declared.schedule.Schedule.{Schedule}
use Rattle.same_program.specs.Same.{IsSame}
use Rattle.same_program.specs.Alike.{ListIsLike, StateIsLike, StepIsLike}
use Rattle.same_program.specs.Own.{IsOwnList, RestsLike}

pub record SameSteps : Type 0 where
  pub first : (p q : Checked) → IsSame p q → StateIsLike (first_state p) (first_state q)
  pub step : (p q : Checked) (s t : TaskState) → IsSame p q → StateIsLike s t → StepIsLike (task_step_of (body_at p) s) (task_step_of (body_at q) t)
  pub handled : (p q : Checked) (event version : ℕ) (payload : ℤ) (s : Store) → IsSame p q → handled (version_at p event version) payload s ≡ handled (version_at q event version) payload s

pub record Likeness : Type 0 where
  pub turned : (s t : TaskState) → StateIsLike s t → StateIsLike t s
  pub onward : (r s t : TaskState) → StateIsLike r s → StateIsLike s t → StateIsLike r t

pub record SamePlaces : Type 0 where
  pub place : (p q : Checked) (pc : ℕ) → IsSame p q → ListIsLike (rest_at p pc) (rest_at q pc)
  pub rests : (p q : Checked) (pc : Option ℕ) (list : Option Body) → IsSame p q → RestsAt p pc list → RestsLike q pc list

pub record OwnLists : Type 0 where
  pub place : (p : Checked) (pc : ℕ) → IsOwnList p (rest_at p pc)
  pub first : (p : Checked) → IsOwnList p (first_state p).current
  pub step : (p : Checked) (s : TaskState) (step : TaskStep) → IsOwnList p s.current → task_step_of (body_at p) s ≡ Some step → IsOwnList p step.after.current
  pub one : (p : Checked) (k l : Option Body) → IsOwnList p k → IsOwnList p l → ListIsLike k l → k ≡ l

abbrev pub OneEnd : Type 0
OneEnd = (s : Setting) (schedule : Schedule) (a b : Moment) → IsReference s schedule a → IsReference s schedule b → a ≡ b
