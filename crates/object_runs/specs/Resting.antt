-- Objects that can be run, and the states between two sections.
use Rattle.std.specs.Prelude.{◌≡◌, ℕ, [], length, None}
use Rattle.cat_machine.specs.CodeValue.{CodeValue}
use Rattle.cat_machine.specs.Held.{Held}
use Rattle.cat_machine.specs.Fits.{HasShape}
use Rattle.cn_object.specs.declared.object.Object.{Object}
use Rattle.cn_object.specs.Spelling.{IsSmall}
use Rattle.cn_object.specs.Verdict.{IsVerifiedObject}
use Rattle.cn_object.specs.Fitting.{CanBeKept}

-- an object as the verifier gives it: within the limits of a file, and its code keeps the rules
pub record IsRunnable (o : Object) : Type 0 where
  pub small : IsSmall o
  pub verified : IsVerifiedObject o

-- between two sections, with no handler that runs: at no place, or at one of a task where nothing is on the stack
pub record IsResting (words tasks : ℕ) (code : CodeValue) (h : Held) : Type 0 where
  pub shape : HasShape words tasks h
  pub place : CanBeKept code h.place
  pub free : h.kept ≡ None
  pub empty : h.stack ≡ []

abbrev pub IsAtRest : Object → Held → Type 0
IsAtRest o h = IsResting (length o.words) (length o.started) o.code h
