use Rattle.std.proofs.Common.{◌≡◌, ◌-◌, ◌≤◌, length, Some, true}
use Rattle.cat_program.specs.Checked.{Checked}
use Rattle.cat_machine.specs.Fits.{Fits}
use Rattle.cat_machine.specs.Machine.{Ended', until}
use Rattle.nv_memory.specs.Layout.{size_of}
use Rattle.cn_scheduler.specs.Floor.{HoldsFloor}
use Rattle.cn_scheduler.proofs.Going.{Onward}
use Rattle.cn_scheduler.proofs.path.run_path.Given as goal

abbrev pub invariant-turns : goal.invariant-turns
invariant-turns g l =
    record {
      onward : (run : Ended') → until 1000000 l.mode l.plan.code l.fn.working ≡ Some run
          → Onward l.plan l.mode l.fn.working l.fn.len (g.B.Board.state l.fn.board) run l.working l.len (g.B.Board.state l.board) (1000000 - l.counter);
      fits : (p : Checked) → Fits p l.plan.code l.fn.working → Fits p l.plan.code l.working;
      kept : l.working.kept ≡ l.fn.working.kept;
      on : (g.B.Board.state l.board).on ≡ true;
      image : size_of l.plan.layout ≤ length (g.B.Board.state l.board).image;
      floor : HoldsFloor l.plan l.floor (g.B.Board.state l.board).tick;
      few : l.len ≤ l.plan.layout.log;
      origin : g.B.Board.origin l.board ≡ g.B.Board.origin l.fn.board;
    }
