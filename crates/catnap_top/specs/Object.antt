-- `object SRC`: the object file of a source's program.
use Rattle.std.specs.Prelude.{ℕ, List}
use Rattle.cat_program.specs.Checked.{Checked}
use Rattle.cn_object.specs.Spelling.{program_object, spelling}
use Rattle.catnap_top.specs.declared.status.Status.TheVariants.{Done}
use Rattle.catnap_top.specs.Answer.{Answer}
use Rattle.catnap_top.specs.Look.{Look, ◌>>=◌, found}
use Rattle.catnap_top.specs.Files.{program_in}

-- a file that is written as it is
abbrev pub filed : List ℕ → Answer
filed bytes = record { status = Done; text = bytes }

-- the file of a program's code, with the first values of its words and the posts with which its tasks are started
abbrev pub compiled : Checked → Answer
compiled p = filed (spelling (program_object p))

-- `object` over a source
abbrev pub compiling : List ℕ → Look Answer
compiling source = do
  p ← program_in source
  found (compiled p)
