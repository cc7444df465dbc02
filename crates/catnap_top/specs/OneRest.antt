-- That files, versions and a saved image call for one life that goes on.
use Rattle.std.specs.Prelude.{◌≡◌, ℕ, List, None, Ok}
use Rattle.degradation.specs.declared.chosen.Chosen.{Chosen}
use Rattle.catnap_top.specs.declared.files.ReplayFiles.{ReplayFiles}
use Rattle.catnap_top.specs.Files.{files_in}
use Rattle.catnap_top.specs.Lives.{Life}
use Rattle.catnap_top.specs.Resume.{GoesOn, Start, start_in}
use Rattle.catnap_top.specs.Replay.{versions_for}

-- Where bytes tell the files of a replay, the device can serve the events in some versions, and an image of it was saved, the lawful
-- timeline that goes on from the image is one.
abbrev pub RestsAreOne : Type 0
RestsAreOne =
    (source profile trace arrivals failures image : List ℕ) (files : ReplayFiles) (chosen : List Chosen) (start : Start) (one other : Life)
    → files_in source profile trace arrivals failures None (Ok files) → versions_for files (Ok chosen)
    → start_in files chosen image (Ok start) → GoesOn files chosen start one → GoesOn files chosen start other → one ≡ other
