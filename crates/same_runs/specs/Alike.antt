-- Settings and purposes that differ at most in where the expressions of their programs lie in memory, and moments of their runs.
use Rattle.std.specs.Prelude.{◌≡◌}
use Rattle.same_program.specs.Alike.{StateIsLike}
use Rattle.same_program.specs.Same.{IsSame}
use Rattle.reference_run.specs.Reference.{Setting, Moment}
use Rattle.cn_resume.specs.Fit.{Purpose}

-- programs that say the same, in the same versions, with the same arrivals
pub record AreSameSettings (s t : Setting) : Type 0 where
  pub programs : IsSame s.program t.program
  pub versions : s.versions ≡ t.versions
  pub arrivals : s.arrivals ≡ t.arrivals

-- the same steps and entries, in states that are alike
pub record MomentIsLike (m n : Moment) : Type 0 where
  pub state : StateIsLike m.state n.state
  pub steps : m.steps ≡ n.steps
  pub entries : m.entries ≡ n.entries

-- the same settings on the same device, for the same life
pub record AreSamePurposes (p q : Purpose) : Type 0 where
  pub settings : AreSameSettings p.setting q.setting
  pub layout : p.layout ≡ q.layout
  pub cap : p.cap ≡ q.cap
  pub life : p.life ≡ q.life
