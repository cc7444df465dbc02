-- That a saved image is one from which the device can go on.
use Rattle.std.specs.Prelude.{ℕ, List, None, Ok}
use Rattle.cn_resume.specs.Saved.{saved_bytes}
use Rattle.degradation.specs.declared.chosen.Chosen.{Chosen}
use Rattle.catnap_top.specs.declared.files.ReplayFiles.{ReplayFiles}
use Rattle.catnap_top.specs.Files.{files_in}
use Rattle.catnap_top.specs.Lives.{Life, Lives}
use Rattle.catnap_top.specs.Resume.{GoesOn, Start, start_for, start_in}
use Rattle.catnap_top.specs.Replay.{versions_for}

-- what a life leaves is accepted with the same files: its last tick, its units and its image
abbrev pub IsAccepted : ReplayFiles → List Chosen → Life → Type 0
IsAccepted files chosen life = start_in files chosen (saved_bytes life.state) (Ok (start_for (saved_bytes life.state)))

-- So it is with every life that files call for, and with every one that goes on from a saved image of theirs.
pub record ImagesAreAccepted : Type 0 where
  pub lives : (source profile trace arrivals failures : List ℕ) (files : ReplayFiles) (chosen : List Chosen) (life : Life) → files_in source profile trace arrivals failures None (Ok files)
      → versions_for files (Ok chosen) → Lives files chosen life → IsAccepted files chosen life
  pub rests : (source profile trace arrivals failures image : List ℕ) (files : ReplayFiles) (chosen : List Chosen) (start : Start) (life : Life)
      → files_in source profile trace arrivals failures None (Ok files) → versions_for files (Ok chosen)
      → start_in files chosen image (Ok start) → GoesOn files chosen start life → IsAccepted files chosen life
