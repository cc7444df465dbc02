use Rattle.std.proofs.Common.{◌≡◌, ℕ, List, refl}
use Rattle.cn_resume.specs.declared.fault.ImageFault.{ImageFault}
use Rattle.cn_resume.specs.declared.fault.ImageFault.TheVariants.{BadImage, NoMemory}
use Rattle.cn_resume.specs.declared.fault.ImageKind.{ImageKind}
use Rattle.cn_resume.specs.Fit.{Purpose, IsFit, IsFirstFault, IsRefused}
use Rattle.cn_resume.proofs.laws.fit_files_are_accepted.Goals as goal

only_memory : ((p : Purpose) (file : List ℕ) (k : ImageKind) (at : ℕ) → IsFit p file → IsFirstFault p file k at → ⊥) → (p : Purpose) (file : List ℕ) (why : ImageFault) → IsFit p file → IsRefused p file why → why ≡ NoMemory
only_memory never p file (BadImage kind at) fit refused = absurd (never p file kind at fit refused)
only_memory never p file NoMemory fit refused = refl

pub returns : goal.returns
returns c = λ p file why fit refused. only_memory c.one_verdict.ensures.fit p file why fit refused
