-- The law of calm stretches.
use Rattle.std.specs.Prelude.{◌≡◌, ℕ, ◌+◌, ◌≤◌, List, ◌∷◌, ◌++◌, All}
use Rattle.cat_program.specs.Checked.{Checked}
use Rattle.nv_memory.specs.declared.device.Device.{Device}
use Rattle.nv_memory.specs.declared.entry.Entry.{Entry}
use Rattle.cost_bounds.specs.BoundsValue.{BoundsValue}
use Rattle.cn_scheduler.specs.declared.plan.Plan.{Plan}
use Rattle.cn_scheduler.specs.declared.plan.PlanRow.{PlanRow}
use Rattle.cn_scheduler.specs.Belongs.{BelongTogether}
use Rattle.cn_scheduler.specs.Point.{Point}
use Rattle.cn_scheduler.specs.Chunks.{Link, IsLawful, point_after, entries_of}
use Rattle.calm_timeline.specs.Calm.{IsCalm, board_after}
use Rattle.calm_timeline.specs.Claims.{MeetsDeadlines}
use Rattle.calm_timeline.specs.Numbers.{IsPlanned, IsFeasibleRow, IsBoardOf, AtEachPoint, DoneHasCome}

-- a lawful timeline on a device's board, at each decision point of which plan, engine and board belong together, and what is done has
-- come
pub record IsRun (program : Checked) (device : Device) (plan : Plan) (origin : ℕ) (first : Point) (links : List Link) : Type 0 where
  pub lawful : IsLawful plan first links
  pub board : IsBoardOf device origin first.board
  pub belong : AtEachPoint (BelongTogether program plan) first links
  pub done : AtEachPoint (DoneHasCome plan) first links

-- every calm stretch meets its deadlines, from whichever decision point on
abbrev pub KeepsDeadlines : Device → BoundsValue → Plan → ℕ → Point → List Link → Type 0
KeepsDeadlines device b plan origin first links =
    (before after : List Link) (chunk : Link) (row : PlanRow) (p q z : ℕ) → links ≡ before ++ chunk ∷ after → IsFeasibleRow b device p q row →
    IsCalm device plan row p q origin (point_after first before) (chunk ∷ after) z → MeetsDeadlines plan row (point_after first before) (chunk ∷ after) z

abbrev pub CalmLaw : Type 0
CalmLaw =
    (program : Checked) (device : Device) (b : BoundsValue) (plan : Plan) (origin : ℕ) (first : Point) (links : List Link) →
    IsPlanned program device b plan → IsRun program device plan origin first links → KeepsDeadlines device b plan origin first links

-- no operation of a run ends after its last tick
abbrev pub EntriesEnd : Type 0
EntriesEnd =
    (program : Checked) (device : Device) (b : BoundsValue) (plan : Plan) (origin : ℕ) (first : Point) (links : List Link) →
    IsPlanned program device b plan → IsRun program device plan origin first links →
    All (λ (entry : Entry). entry.tick + entry.ticks ≤ (board_after first links).tick) (entries_of links)
