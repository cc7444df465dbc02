-- So many sections of an object, from a working state between two sections, and the answer that they give.
use Rattle.object_runs.specs.Resting.{IsAtRest, IsRunnable}
use Rattle.catnap_top.specs.declared.loaded.Loaded.{Loaded}
use Rattle.catnap_top.specs.declared.status.Status.TheVariants.{Done}
use Rattle.catnap_top.specs.Answer.{Answer}
use Rattle.catnap_top.specs.Run.{run_text}
use Rattle.catnap_top.specs.RunObject.{section_answers}

-- the object is one that was verified, and the state is one of its code
pub record CanRun (loaded : Loaded) : Type 0 where
  pub runnable : IsRunnable loaded.object
  pub at_rest : IsAtRest loaded.object loaded.working

abbrev pub loaded_answer : Loaded → Answer
loaded_answer loaded = record { status = Done; text = run_text (section_answers loaded.object.code loaded.steps loaded.working) }
