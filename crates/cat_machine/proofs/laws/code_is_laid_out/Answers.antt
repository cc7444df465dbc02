use Rattle.cat_machine.specs.declared.instr.Instr.{Instr}
use Rattle.cat_machine.proofs.At.{has_front, has_rest, has_all}
use Rattle.cat_machine.proofs.Expressions.{expr_length}
use Rattle.cat_machine.proofs.Sizes.{operands_length, body_length}
use Rattle.cat_machine.proofs.Tasks.{task_code_length}
use Rattle.cat_machine.proofs.Entering.{tasks_code_length, version_length, versions_length, version_stands}
use Rattle.cat_machine.proofs.Unread.{begins_below}
use Rattle.cat_machine.proofs.Bounds.{tasks_le, handler_ones}
use Rattle.cat_machine.proofs.laws.code_is_laid_out.Goals as goal

pub returns : goal.returns
returns c = record {
  sizes = record { expr = expr_length; operands = operands_length; body = body_length; task = task_code_length; tasks = tasks_code_length; version = version_length; versions = versions_length };
  stands = record { front = has_front {A = Instr}; rest = has_rest {A = Instr}; all = has_all {A = Instr}; version = version_stands; section = begins_below };
  ones = record { tasks = tasks_le; handler = handler_ones };
}
