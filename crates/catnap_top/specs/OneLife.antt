-- That files and versions call for one life.
use Rattle.std.specs.Prelude.{◌≡◌, ℕ, List, Option, Ok}
use Rattle.degradation.specs.declared.chosen.Chosen.{Chosen}
use Rattle.catnap_top.specs.declared.files.ReplayFiles.{ReplayFiles}
use Rattle.catnap_top.specs.Files.{files_in}
use Rattle.catnap_top.specs.Lives.{Life, Lives}
use Rattle.catnap_top.specs.Replay.{versions_for}

-- Where bytes tell the files of a replay, and the device can serve the events in some versions, the lawful timeline on the board that
-- follows is one.
abbrev pub LivesAreOne : Type 0
LivesAreOne =
    (source profile trace arrivals failures : List ℕ) (forecast : Option (List ℕ)) (files : ReplayFiles) (chosen : List Chosen) (one other : Life) → files_in source profile trace arrivals failures forecast (Ok files)
    → versions_for files (Ok chosen) → Lives files chosen one → Lives files chosen other → one ≡ other
