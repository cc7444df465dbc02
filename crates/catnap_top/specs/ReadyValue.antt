-- So many steps of a program, from a state of its tasks, and the answer that they give.
use Rattle.std.specs.Prelude.{ℕ}
use Rattle.cat_program.specs.Checked.{Checked, body_at}
use Rattle.cat_eval.specs.StateValue.{StateValue}
use Rattle.cat_eval.specs.Cursor.{state_of}
use Rattle.catnap_top.specs.Answer.{Answer}
use Rattle.catnap_top.specs.Run.{run_text, answers}
use Rattle.catnap_top.specs.declared.status.Status.TheVariants.{Done}

pub record ReadyValue : Type 0 where
  pub steps : ℕ
  pub program : Checked
  pub state : StateValue

abbrev pub ready_answer : ReadyValue → Answer
ready_answer r = record { status = Done; text = run_text (answers (body_at r.program) r.steps (state_of r.program r.state)) }
