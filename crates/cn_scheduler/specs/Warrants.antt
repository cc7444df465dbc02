-- What each choice of the policy says.
use Rattle.std.specs.Prelude.{◌≡◌, ◌⊎◌, ◌≤◌, ◌<◌, true, false, Option, Some, None, slice_index}
use Rattle.event_queue.specs.declared.queue.Due.{Due}
use Rattle.cn_scheduler.specs.declared.plan.Plan.{Plan}
use Rattle.cn_scheduler.specs.declared.choice.Choice.{Choice}
use Rattle.cn_scheduler.specs.declared.choice.Choice.TheVariants.{Job, Section, Checkpoint, Wake, Sleep}
use Rattle.cn_scheduler.specs.InForce.{need_at, level_at, units_of}
use Rattle.cn_scheduler.specs.Point.{Point}
use Rattle.cn_scheduler.specs.Policy.{IsNextDue, has_step}

-- what is next at a decision point
abbrev pub IsNextAt : Plan → Point → Option Due → Type 0
IsNextAt plan p next = IsNextDue plan.queue (slice_index p.work.done) p.board.tick next

-- nothing is pending, or what is next is too dear
abbrev pub Waits : Plan → Point → Type 0
Waits plan p = IsNextAt plan p None ⊎ ((due : Due) × IsNextAt plan p (Some due) × (p.board.stored < units_of plan.rows due))

abbrev pub Warrants : Plan → Point → Choice → Type 0
Warrants plan p (Job due) = IsNextAt plan p (Some due) × (units_of plan.rows due ≤ p.board.stored)
Warrants plan p Section = IsNextAt plan p None × (has_step plan p.work ≡ true) × (p.board.on ≡ true) × (need_at plan.rows p.board.tick ≤ p.board.stored)
Warrants plan p Wake = IsNextAt plan p None × (has_step plan p.work ≡ true) × (p.board.on ≡ false) × (level_at plan.rows p.board.tick ≤ p.board.stored)
Warrants plan p Checkpoint = (p.dirty ≡ true) × Waits plan p
Warrants plan p Sleep = (p.dirty ≡ false) × Waits plan p
