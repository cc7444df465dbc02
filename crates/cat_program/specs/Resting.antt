-- What a place of the code stands for.
use Rattle.std.specs.Prelude.{◌≡◌, ℕ, Option, Some, None}
use Rattle.cat_program.specs.Body.{Body}
use Rattle.cat_program.specs.Places.{Marks, rest_in}
use Rattle.cat_program.specs.Checked.{Checked, program_marks}

-- a place stands for the list of statements that is left there, and no place for none
abbrev pub StandsFor : Marks → Option ℕ → Option Body → Type 0
StandsFor marks None None = Unit {0}
StandsFor marks (Some pc) (Some k) = rest_in marks pc ≡ Some k
StandsFor marks None (Some k) = ⊥
StandsFor marks (Some pc) None = ⊥

-- so it is with the places of a program
abbrev pub RestsAt : Checked → Option ℕ → Option Body → Type 0
RestsAt program pc current = StandsFor (program_marks program) pc current
