use Rattle.std.proofs.Common.{◌≤◌, sym, subst, arith}
use Rattle.nv_memory.specs.Board.{ticks_of}
use Rattle.board_core.specs.declared.fate.Fate.{Fate}
use Rattle.board_core.specs.Rules.{class_ticks}
use Rattle.board_core.proofs.Fates.{fate_bounded}
use Rattle.board_core.proofs.model_board.ModelBoard.act.Goals as goal

pub stored_after-stored-requires-clause-within : goal.stored_after-stored-requires-clause-within
stored_after-stored-requires-clause-within c =
    let b = c.args.self.now in
    let ticks = ticks_of (class_ticks b.origin.device) c.args.op in
    let few : c.fate-fate.result.ticks ≤ ticks = subst (λ (f : Fate). f.ticks ≤ ticks) (sym c.fate-fate.ensures) (fate_bounded c.operations_are_bounded.ensures b.origin b.tick b.stored c.args.op).no_more_ticks in
    omega (arith, few, c.requires.fits)
