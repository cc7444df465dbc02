-- `replay SRC DEVICE TRACE ARRIVALS FAILS` and `replay SRC DEVICE TRACE ARRIVALS FAILS FORECAST`: the report of a source's life on a device.
use Rattle.std.specs.Prelude.{ℕ, List, Option}
use Rattle.degradation.specs.declared.chosen.Chosen.{Chosen}
use Rattle.catnap_top.specs.declared.files.ReplayFiles.{ReplayFiles}
use Rattle.catnap_top.specs.Answer.{Answer}
use Rattle.catnap_top.specs.Look.{Look, ◌>>=◌, found, Finding}
use Rattle.catnap_top.specs.Files.{files_in}
use Rattle.catnap_top.specs.Served.{versions_in}
use Rattle.catnap_top.specs.Lives.{Life, Lived, Lives, reported}

abbrev pub versions_for : ReplayFiles → Look (List Chosen)
versions_for files = versions_in files.program files.device files.given files.forecast

-- the life that files and versions call for
abbrev pub life_in : ReplayFiles → List Chosen → Look Life
life_in files chosen = Finding (Lives files chosen)

-- the versions in which the device can serve the events, for each row of the forecast, and then the life
abbrev pub living : ReplayFiles → Look Lived
living files = do
  chosen ← versions_for files
  life ← life_in files chosen
  found (record { files = files; chosen = chosen; life = life })

-- the files in their order, and then the rest
abbrev pub replaying : List ℕ → List ℕ → List ℕ → List ℕ → List ℕ → Option (List ℕ) → Look Answer
replaying source profile trace arrivals failures forecast = do
  files ← files_in source profile trace arrivals failures forecast
  lived ← living files
  found (reported lived.files lived.chosen lived.life)
