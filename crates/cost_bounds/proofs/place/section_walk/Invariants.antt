use Rattle.cost_bounds.specs.Pass.{front_of}
use Rattle.cost_bounds.proofs.KnownJobs.{Walking}
use Rattle.cost_bounds.proofs.place.section_walk.Given as goal

abbrev pub invariant-steps : goal.invariant-steps
invariant-steps l = Walking l.device (front_of l.tasks l.code) l.from l.pc l.sum l.counter
