-- Chunks extend the timeline, and make lawful ones.
use Rattle.std.proofs.Common.{◌≡◌, List, [], ◌∷◌, refl, ◌∙◌}
use Rattle.cn_scheduler.specs.declared.plan.Plan.{Plan}
use Rattle.cn_scheduler.specs.declared.choice.Choice.{Choice}
use Rattle.cn_scheduler.specs.declared.choice.Choice.TheVariants.{Job, Section, Checkpoint, Wake, Sleep}
use Rattle.cn_scheduler.specs.declared.engine.Chunk.{Chunk}
use Rattle.cn_scheduler.specs.Point.{Point}
use Rattle.cn_scheduler.specs.Policy.{Chooses}
use Rattle.nv_memory.specs.declared.entry.Op.TheVariants as op
use Rattle.cn_scheduler.specs.declared.engine.Chunk.TheVariants.{Ended}
use Rattle.cn_scheduler.specs.Paths.{run_acts}
use Rattle.cn_scheduler.specs.Asked.{plain, path_asks}
use Rattle.cn_scheduler.specs.Chunks.{task_limits, no_floor, commit_asks, job_asks, after_job, Does, JobAsks, Link, IsChunk, SleepsOn, Last_tick, Further}
use Rattle.cn_scheduler.specs.Chunks.JobAsks.{Early, Late}
use Rattle.cn_scheduler.specs.Lawful.{Extends, last_outcome, AreChunks}
use Rattle.cn_scheduler.proofs.Asking.{asked_timed, both_timed}

pub chunk_told : (plan : Plan) (p : Point) (choice : Choice) (o : Chunk) (q : Point) → Does plan p choice o q → Extends p.board q.board
chunk_told plan p Section o q d = asked_timed (task_limits plan) (path_asks plan.layout p.work.len (run_acts plan.code d.run)) o p.board q.board d.asked
chunk_told plan p (Job due) o q d = by_asks d.asks
  where
    by_asks : JobAsks plan p due d.run o q.board → Extends p.board q.board
    by_asks (Early not a) = asked_timed (no_floor plan) (job_asks plan p due d.run) o p.board q.board a
    by_asks (Late mid a fit entry slot c) = both_timed p.board mid q.board (asked_timed (no_floor plan) (job_asks plan p due d.run) Ended p.board mid a) (asked_timed (no_floor plan) (commit_asks plan (after_job p.work due d.run) mid.image) o mid q.board c)
chunk_told plan p Checkpoint o q d = asked_timed (no_floor plan) (commit_asks plan p.work p.board.image) o p.board q.board d.asked
chunk_told plan p Wake o q d = asked_timed (no_floor plan) (plain op.Wake ∷ []) o p.board q.board d.asked
chunk_told plan p Sleep o q d = asked_timed (no_floor plan) (plain op.Sleep ∷ []) o p.board q.board d.asked

abbrev link : Choice → Chunk → (p q : Point) → Extends p.board q.board → Link
link choice o p q t = record { choice = choice; outcome = o; entries = t.entries; after = q }

linked : (plan : Plan) (p : Point) (choice : Choice) (o : Chunk) (q : Point) → Chooses plan p choice → (d : Does plan p choice o q) → IsChunk plan p (link choice o p q (chunk_told plan p choice o q d))
linked plan p choice o q chosen d = record { chosen = chosen; does = d; timeline = (chunk_told plan p choice o q d).timeline }

last_more : (c : Link) (cs : List Link) → c.outcome ≡ Ended → last_outcome (c ∷ cs) ≡ last_outcome cs
last_more c [] e = e
last_more c (d ∷ cs) e = refl

pub chunk_lawful : (plan : Plan) (p : Point) (choice : Choice) (o : Chunk) (q : Point) → Chooses plan p choice → Does plan p choice o q → AreChunks plan p o q
chunk_lawful plan p choice o q chosen d = record {
  chunks = link choice o p q (chunk_told plan p choice o q d) ∷ [];
  lawful = (linked plan p choice o q chosen d, (λ _. refl), tt);
  leads = refl;
  last = refl;
}

pub sleeps_lawful : (plan : Plan) (p : Point) (o : Chunk) (q : Point) → SleepsOn plan p o q → AreChunks plan p o q
sleeps_lawful plan p o q (Last_tick a b outcome chosen d) = chunk_lawful plan a Sleep outcome b chosen d
sleeps_lawful plan p o q (Further a mid b outcome chosen d rest) =
    let first = linked plan a Sleep Ended mid chosen d in
    let later = sleeps_lawful plan mid outcome b rest in
    record {
      chunks = link Sleep Ended a mid (chunk_told plan a Sleep Ended mid d) ∷ later.chunks;
      lawful = (first, (λ no. cc), later.lawful);
      leads = later.leads;
      last = last_more (link Sleep Ended a mid (chunk_told plan a Sleep Ended mid d)) later.chunks refl ∙ later.last;
    }
