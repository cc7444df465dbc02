use Rattle.cat_machine.proofs.Fitting.{fetched_of}
use Rattle.cat_machine.proofs.run.advance.Goals as goal

pub unreachable-requires : goal.unreachable-requires
unreachable-requires c =
    let f = fetched_of c.args.mode c.args.code.now c.args.working.now c.requires.0 c.requires.1 in
    c.in-None.ensures.is (record { pc = f.pc; instr = f.instr }) (f.next, f.at)
