use Rattle.std.proofs.Common.{◌≤◌, ◌+◌, ◌∙◌, arith, rules}
use Rattle.board_core.specs.Sure.{write_class, write_of}
use Rattle.board_core.proofs.Foreseen.{run_is, run_reached, run_sound, write_image, write_in, write_of_class}
use Rattle.board_core.specs.Kept.{entries_of}
use Rattle.board_core.proofs.Outlooks.{later}
use Rattle.board_core.proofs.model_board.ModelBoard.write_surely.Goals as goal

pub overflow_add-self : goal.overflow_add-self
overflow_add-self c =
    let b = c.args.self.now in
    omega (arith, c.requires.sure.until, b.ahead.in_life, b.origin.life_in_range)

pub invariant_of-self : goal.invariant_of-self
invariant_of-self c =
    let b = c.args.self.now in
    let begun : b.origin.tick ≤ b.tick = omega (arith, b.sound.passed) in
    record {
      sound = run_sound c.operations_are_bounded.ensures b.origin b.image.items c.put_bytes.new.image.items (entries_of b.timeline) (entries_of c.push_write.new.self) b.tick b.stored b.losses b.on (write_class c.args.pc) (write_of c.args.pc c.args.at c.args.bytes.now) c.args.sure b.outlook
          (write_of_class b.origin.device c.args.pc c.args.at c.args.bytes.now) c.requires.sure b.ahead begun (write_in c.args.pc c.args.at c.args.bytes.now b.image.items c.requires.in_image) (c.put_bytes.ensures.image ∙ write_image c.args.pc c.args.at c.args.bytes.now b.image.items) c.push_write.ensures.entries c.boards_stay_sound.ensures c.put_bytes.ensures.bytes b.sound;
      reached = run_reached c.operations_are_bounded.ensures b.origin b.image.items c.put_bytes.new.image.items (entries_of b.timeline) (entries_of c.push_write.new.self) b.tick b.stored b.losses b.on (write_class c.args.pc) (write_of c.args.pc c.args.at c.args.bytes.now) c.args.sure b.outlook
          (write_of_class b.origin.device c.args.pc c.args.at c.args.bytes.now) c.requires.sure b.ahead begun (write_in c.args.pc c.args.at c.args.bytes.now b.image.items c.requires.in_image) (c.put_bytes.ensures.image ∙ write_image c.args.pc c.args.at c.args.bytes.now b.image.items) c.push_write.ensures.entries b.reached;
      ahead = later b.origin b.tick (b.tick + c.args.sure.ticks) b.outlook (omega arith) b.ahead;
      cap = search rules;
      room = search rules;
    }

pub returns-clause-run : goal.returns-clause-run
returns-clause-run c =
    let b = c.args.self.now in
    let begun : b.origin.tick ≤ b.tick = omega (arith, b.sound.passed) in
    run_is c.operations_are_bounded.ensures b.origin b.image.items c.put_bytes.new.image.items (entries_of b.timeline) (entries_of c.push_write.new.self) b.tick b.stored b.losses b.on (write_class c.args.pc) (write_of c.args.pc c.args.at c.args.bytes.now) c.args.sure b.outlook
    (write_of_class b.origin.device c.args.pc c.args.at c.args.bytes.now) c.requires.sure b.ahead begun (write_in c.args.pc c.args.at c.args.bytes.now b.image.items c.requires.in_image) (c.put_bytes.ensures.image ∙ write_image c.args.pc c.args.at c.args.bytes.now b.image.items) c.push_write.ensures.entries
