-- Bounds, as contracts see them.
use Rattle.std.specs.Prelude.{ℕ, ◌<◌, max, List, [], length, map, Option, slice_get, unwrap_or, Vec}
use Rattle.std.specs.Global.{Global}
use Rattle.cost_bounds.specs.declared.job.Job.{Job}

-- the jobs of each event's versions, and the bounds of a section, a checkpoint and a wake
pub record BoundsValue : Type 0 where
  pub jobs : List (List Job)
  pub section : Job
  pub checkpoint : Job
  pub wake : Job

abbrev pub jobs_of : List (Vec Job Global) → List (List Job)
jobs_of = map (λ (v : Vec Job Global). v.items)

abbrev pub bounds_by : List (Vec Job Global) → Job → Job → Job → BoundsValue
bounds_by jobs section checkpoint wake = record { jobs = jobs_of jobs; section = section; checkpoint = checkpoint; wake = wake }

abbrev pub versions_in : BoundsValue → ℕ → List Job
versions_in b event = unwrap_or (slice_get b.jobs event) []

-- an event and a version of it that the bounds have
abbrev pub HasJob : BoundsValue → ℕ → ℕ → Type 0
HasJob b event version = (event < length b.jobs) × (version < length (versions_in b event))

abbrev pub job_at : BoundsValue → ℕ → ℕ → Option Job
job_at b event version = slice_get (versions_in b event) version

-- the most ticks of what is not an event, and at least the one of sleep
abbrev pub longest_of : BoundsValue → ℕ
longest_of b = max (max (max b.section.ticks b.checkpoint.ticks) b.wake.ticks) 1
