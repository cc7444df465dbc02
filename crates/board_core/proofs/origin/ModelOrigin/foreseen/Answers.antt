use Rattle.std.proofs.Common.{◌≡◌, ◌+◌, ◌-◌, ◌≤◌, None, ◌∙◌, sym, arith}
use Rattle.nv_memory.specs.Board.{ticks_of}
use Rattle.nv_memory.specs.AnyBoard.{actual_of}
use Rattle.board_core.specs.Rules.{class_ticks}
use Rattle.board_core.proofs.Outlooks.{fate_foreseen, stored_foreseen}
use Rattle.board_core.proofs.origin.ModelOrigin.foreseen.Goals as goal

pub returns-clause-fate : goal.returns-clause-fate
returns-clause-fate c =
    let o = c.args.self.now in
    let op = c.args.op.now in
    let outlook = c.args.outlook.now in
    let ticks_are : c.ticks-ticks.result ≡ ticks_of (class_ticks o.device) op = c.ticks-ticks.ensures.value in
    let cost_is = c.actual.ensures.value in
    let some : 1 ≤ ticks_of (class_ticks o.device) op = omega (arith, ticks_are, c.ticks-ticks.ensures.some) in
    let until : c.args.tick + ticks_of (class_ticks o.device) op ≤ outlook.until = omega (arith, ticks_are, c.if-outlook-end.false) in
    let failure : c.args.tick + ticks_of (class_ticks o.device) op ≤ outlook.failure = omega (arith, ticks_are, c.if-outlook-end-2.false) in
    let affordable : actual_of o.device op + outlook.extra ≤ c.args.stored = omega (arith, cost_is, c.if-stored-drawn.false) in
    (λ i. record { drawn = cost_is i + outlook.extra; ticks = ticks_are i; torn = None })
    ∙ sym (fate_foreseen o c.args.tick c.args.stored op outlook c.requires.outlook c.requires.awake some until failure affordable)

pub returns-clause-stored : goal.returns-clause-stored
returns-clause-stored c =
    let o = c.args.self.now in
    let outlook = c.args.outlook.now in
    let is = stored_foreseen o c.args.tick (c.args.stored - (c.actual.result + outlook.extra)) c.ticks-ticks.result outlook c.requires.outlook (omega (arith, c.if-outlook-end.false)) in
    c.refilled-left.ensures.value ∙ sym is
