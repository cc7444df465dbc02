use Rattle.std.proofs.Common.{◌≡◌, ◌++◌, take}
use Rattle.cn_base.specs.Lines.{line_text}
use Rattle.cn_base.specs.Pages.{IsHeld}
use Rattle.cn_base.specs.PageWords.{held_in, sink_in, sink_name}
use Rattle.cn_base.proofs.page.Page.line.Given as goal

abbrev pub invariant-loop-piece : goal.invariant-loop-piece
invariant-loop-piece g l =
    (sink_name l.self ≡ sink_name l.fn.self)
    × IsHeld (g.K.Sink.written (sink_in l.fn.self)) (g.K.Sink.written (sink_in l.self)) (held_in l.fn.self ++ line_text (take l.piece-index l.pieces)) (held_in l.self)
    × (g.K.Sink.faults (sink_in l.self) ≡ g.K.Sink.faults (sink_in l.fn.self))
