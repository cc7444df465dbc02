-- No section and no handler costs more than the bounds say.
use Rattle.std.specs.Prelude.{◌≡◌, ℕ, ◌+◌, ◌≤◌, ℤ, Some}
use Rattle.nv_memory.specs.declared.device.Class.TheVariants.{Basic}
use Rattle.cat_program.specs.Checked.{Checked, bodies_of, version_at}
use Rattle.cat_machine.specs.declared.instr.Mode.TheVariants.{Task, Handler}
use Rattle.cat_machine.specs.CodeValue.{EntryAt}
use Rattle.cat_machine.specs.Held.{Held}
use Rattle.cat_machine.specs.Machine.{Ended', entered, until}
use Rattle.cat_machine.specs.Code.{code_of}
use Rattle.cat_machine.specs.Costs.{Costs, place_cost, path_cost, tasks_most, handler_most}

-- whatever each class costs, from any idle state
pub record Spends (u : Costs) (p : Checked) (h : Held) : Type 0 where
  pub section : (run : Ended') → until 1000000 Task (code_of p) h ≡ Some run → path_cost (place_cost u (code_of p)) run.path ≤ tasks_most u (bodies_of p)
  pub handler : (event version entry : ℕ) (payload : ℤ) (run : Ended') → EntryAt (code_of p) event version entry → until 1000000 Handler (code_of p) (entered h entry payload) ≡ Some run → path_cost (place_cost u (code_of p)) run.path ≤ handler_most u (version_at p event version) + u Basic
