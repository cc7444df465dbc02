-- What a board may rest on from a tick on, without another look at its trace and its failures.
use Rattle.std.specs.Prelude.{◌≡◌, ℕ, ◌<◌, ◌≤◌, None}
use Rattle.harvest_trace.specs.Timeline.{extra_at, harvest_at, life_of}
use Rattle.harvest_trace.specs.Failures.{first_in}
use Rattle.board_core.specs.declared.origin.ModelOrigin.{ModelOrigin}
use Rattle.board_core.specs.declared.outlook.Outlook.{Outlook}

pub record IsOutlook (o : ModelOrigin) (tick : ℕ) (outlook : Outlook) : Type 0 where
  pub harvest : (t : ℕ) → tick ≤ t → t < outlook.until → harvest_at o.trace t ≡ outlook.harvest
  pub extra : (t : ℕ) → tick ≤ t → t < outlook.until → extra_at o.trace t ≡ outlook.extra
  pub calm : first_in tick outlook.failure o.fails ≡ None
  pub in_life : outlook.until ≤ life_of o.trace
  pub harvest_in_range : outlook.harvest ≤ 1000000
  pub extra_in_range : outlook.extra ≤ 1000000
