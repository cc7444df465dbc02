-- `list SRC`: the listing of a source's code.
use Rattle.std.specs.Prelude.{ℕ, List}
use Rattle.cat_program.specs.Checked.{Checked}
use Rattle.cat_machine.specs.Code.{code_of}
use Rattle.cat_compile.specs.Listing.{listing_text}
use Rattle.catnap_top.specs.declared.status.Status.TheVariants.{Done}
use Rattle.catnap_top.specs.Answer.{Answer}
use Rattle.catnap_top.specs.Look.{Look, ◌>>=◌, found}
use Rattle.catnap_top.specs.Files.{program_in}

-- the listing of a program's code
abbrev pub listed : Checked → Answer
listed p = record { status = Done; text = listing_text p (code_of p) }

-- `list` over a source
abbrev pub listing : List ℕ → Look Answer
listing source = do
  p ← program_in source
  found (listed p)
