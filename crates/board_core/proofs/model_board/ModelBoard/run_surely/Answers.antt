use Rattle.std.proofs.Common.{◌≤◌, ◌+◌, refl, arith, rules}
use Rattle.nv_memory.specs.declared.entry.Op.TheVariants.{Instr}
use Rattle.board_core.proofs.Foreseen.{instr_of, run_is, run_reached, run_sound}
use Rattle.board_core.specs.Kept.{entries_of}
use Rattle.board_core.proofs.Outlooks.{later}
use Rattle.board_core.proofs.model_board.ModelBoard.run_surely.Goals as goal

pub overflow_add-self : goal.overflow_add-self
overflow_add-self c =
    let b = c.args.self.now in
    omega (arith, c.requires.until, b.ahead.in_life, b.origin.life_in_range)

pub invariant_of-self : goal.invariant_of-self
invariant_of-self c =
    let b = c.args.self.now in
    let begun : b.origin.tick ≤ b.tick = omega (arith, b.sound.passed) in
    record {
      sound = run_sound c.operations_are_bounded.ensures b.origin b.image.items b.image.items (entries_of b.timeline) (entries_of c.push_instr.new.self) b.tick b.stored b.losses b.on c.args.class (Instr c.args.class c.args.pc) c.args.sure b.outlook
          (instr_of b.origin.device c.args.class c.args.pc) c.requires b.ahead begun tt refl c.push_instr.ensures.entries c.boards_stay_sound.ensures b.sound.bytes b.sound;
      reached = run_reached c.operations_are_bounded.ensures b.origin b.image.items b.image.items (entries_of b.timeline) (entries_of c.push_instr.new.self) b.tick b.stored b.losses b.on c.args.class (Instr c.args.class c.args.pc) c.args.sure b.outlook
          (instr_of b.origin.device c.args.class c.args.pc) c.requires b.ahead begun tt refl c.push_instr.ensures.entries b.reached;
      ahead = later b.origin b.tick (b.tick + c.args.sure.ticks) b.outlook (omega arith) b.ahead;
      cap = search rules;
      room = search rules;
    }

pub returns-clause-run : goal.returns-clause-run
returns-clause-run c =
    let b = c.args.self.now in
    let begun : b.origin.tick ≤ b.tick = omega (arith, b.sound.passed) in
    run_is c.operations_are_bounded.ensures b.origin b.image.items b.image.items (entries_of b.timeline) (entries_of c.push_instr.new.self) b.tick b.stored b.losses b.on c.args.class (Instr c.args.class c.args.pc) c.args.sure b.outlook
    (instr_of b.origin.device c.args.class c.args.pc) c.requires b.ahead begun tt refl c.push_instr.ensures.entries
