-- `image SRC DEVICE TRACE ARRIVALS FAILS`: what a device holds at the end of a life, as a file from which it can go on.
use Rattle.std.specs.Prelude.{ℕ, List, None}
use Rattle.cn_resume.specs.Saved.{saved_bytes}
use Rattle.catnap_top.specs.Answer.{Answer}
use Rattle.catnap_top.specs.Files.{files_in}
use Rattle.catnap_top.specs.Lives.{Lived, status_of}
use Rattle.catnap_top.specs.Look.{Look, ◌>>=◌, found}
use Rattle.catnap_top.specs.Replay.{living}

-- the saved image of a life's end
abbrev pub saved : Lived → Answer
saved lived = record { status = status_of lived.life.end; text = saved_bytes lived.life.state }

-- the life of a replay of the same files, and then its image in place of the report
abbrev pub saving : List ℕ → List ℕ → List ℕ → List ℕ → List ℕ → Look Answer
saving source profile trace arrivals failures = do
  files ← files_in source profile trace arrivals failures None
  lived ← living files
  found (saved lived)
