-- Looks that come to the same.
use Rattle.std.specs.Prelude.{◌≡◌, Result, Ok, Err}
use Rattle.cat_program.specs.Checked.{Checked, IsChecked}
use Rattle.same_program.specs.Same.{IsSame}
use Rattle.catnap_top.specs.declared.files.ReplayFiles.{ReplayFiles}
use Rattle.catnap_top.specs.Lives.{Lived}

-- both find something, and these are the same; or both have this fault
abbrev pub AreAlike : {A B E : Type 0} → (A → B → Type 0) → Result A E → Result B E → Type 0
AreAlike same (Ok x) (Ok y) = same x y
AreAlike same (Ok x) (Err g) = ⊥
AreAlike same (Err f) (Ok y) = ⊥
AreAlike same (Err f) (Err g) = f ≡ g

-- whatever the one comes to, the other comes to nothing else
abbrev pub Agree : {A B E : Type 0} → (A → B → Type 0) → (Result A E → Type 0) → (Result B E → Type 0) → Type 0
Agree {A = A} {B = B} {E = E} same look other = (came : Result A E) (also : Result B E) → look came → other also → AreAlike same came also

-- checked programs that say the same, wherever their expressions lie in memory
pub record IsSameProgram (p q : Checked) : Type 0 where
  pub first : IsChecked p
  pub second : IsChecked q
  pub same : IsSame p q

-- files of a replay that tell the same
pub record AreSameFiles (x y : ReplayFiles) : Type 0 where
  pub program : IsSameProgram x.program y.program
  pub device : x.device ≡ y.device
  pub trace : x.trace ≡ y.trace
  pub arrivals : x.arrivals ≡ y.arrivals
  pub failures : x.failures ≡ y.failures
  pub given : x.given ≡ y.given
  pub forecast : x.forecast ≡ y.forecast

-- lives of files that tell the same
pub record AreSameLived (a b : Lived) : Type 0 where
  pub files : AreSameFiles a.files b.files
  pub chosen : a.chosen ≡ b.chosen
  pub life : a.life ≡ b.life
