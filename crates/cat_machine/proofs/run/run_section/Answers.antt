use Rattle.std.proofs.Common.{◌-◌, ◌+◌, [], ap, arith}
use Rattle.cat_machine.specs.declared.instr.Mode.TheVariants.{Task}
use Rattle.cat_machine.specs.Machine.{goes_on}
use Rattle.cat_machine.proofs.Going.{going_steps, going_on, going_stops, going_over, task_stops, less_left}
use Rattle.cat_machine.proofs.run.run_section.Goals as goal

pub advance-requires : goal.advance-requires
advance-requires c = going_steps Task c.args.code.now c.args.working.now c.turns.working _ (1000000 - (c.turns.counter + 1)) [] (less_left c.turns.counter c.turns-test.true) c.turns.invariant

pub returns-in_default : goal.returns-in_default
returns-in_default c =
    going_stops Task c.args.code.now c.args.working.now c.turns.working _ (1000000 - (c.turns.counter + 1)) [] (record { did = c.advance.result; after = c.advance.new.working }) (less_left c.turns.counter c.turns-test.true) c.turns.invariant c.advance.ensures (task_stops c.advance.result c.in_default.not-Went)

pub turns-preserved : goal.turns-preserved
turns-preserved c =
    going_on Task c.args.code.now c.args.working.now c.turns.working _ (1000000 - (c.turns.counter + 1)) [] [] (record { did = c.advance.result; after = c.advance.new.working }) (less_left c.turns.counter c.turns-test.true) c.turns.invariant c.advance.ensures (ap (goes_on Task) c.in-Went.is)

pub unreachable-requires : goal.unreachable-requires
unreachable-requires c = going_over Task c.args.code.now c.args.working.now c.turns.working _ [] (omega arith) c.turns.invariant
