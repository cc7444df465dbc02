use Rattle.std.proofs.Common.{◌≡◌, ◌-◌, ◌≤◌, Bool, length}
use Rattle.cn_base.specs.declared.TheConstants.{MOST_TICKS}
use Rattle.nv_memory.specs.Board.{IsSound, State}
use Rattle.nv_memory.specs.Layout.{size_of}
use Rattle.migration.specs.Stretch.{CanBegin, Moves}
use Rattle.migration.proofs.stretch.move_on.Given as goal

-- what comes from here on comes from the start on
abbrev pub invariant-moving : goal.invariant-moving
invariant-moving g l =
    let state = g.B.Board.state in
    record {
      so_far : (u : State) (moved : Bool) → Moves l.old l.new l.enough (state l.board) moved u → Moves l.old l.new l.enough (state l.fn.board) moved u;
      can : CanBegin l.old l.new (state l.board).image;
      size : size_of l.new ≤ length (state l.board).image;
      sound : IsSound (g.B.Board.start (g.B.Board.origin l.board)) (state l.board);
      same_origin : g.B.Board.origin l.board ≡ g.B.Board.origin l.fn.board;
    }

abbrev pub decreases-moving : goal.decreases-moving
decreases-moving g l = MOST_TICKS - (g.B.Board.state l.board).tick
