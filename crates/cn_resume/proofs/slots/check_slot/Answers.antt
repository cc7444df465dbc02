use Rattle.std.proofs.Common.{◌<◌, ℕ, sym, ap, ◌∙◌, subst, arith}
use Rattle.checkpoint_slots.specs.declared.slot.Slot.{Slot}
use Rattle.checkpoint_slots.specs.Image.{committed_bytes, committed_slot, IsWellFormed}
use Rattle.cn_resume.specs.declared.fault.ImageFault.TheVariants.{BadImage}
use Rattle.cn_resume.specs.declared.fault.ImageKind.TheVariants as kind
use Rattle.cn_resume.specs.Stages.{SlotFault, NotFormed, TooManySteps}
use Rattle.cn_resume.proofs.Looking.{untrue, no_rest}
use Rattle.cn_resume.proofs.slots.check_slot.Goals as goal

pub returns-then-not-well_formed-clause-refused : goal.returns-then-not-well_formed-clause-refused
returns-then-not-well_formed-clause-refused g c =
    let l = c.args.layout.now in
    let image = (g.B.Board.state c.args.board.now).image in
    let no = untrue (IsWellFormed l (committed_bytes l image)) c.well_formed-2.result c.well_formed-2.ensures c.if-not-well_formed.true in
    subst (λ (n : ℕ). SlotFault l c.args.program.now c.args.tick image (BadImage kind.Slot n)) (sym (c.from.ensures ∙ c.selected.ensures)) (NotFormed no)

pub returns-then-slot-tick-clause-refused : goal.returns-then-slot-tick-clause-refused
returns-then-slot-tick-clause-refused g c =
    let l = c.args.layout.now in
    let image = (g.B.Board.state c.args.board.now).image in
    let formed = c.well_formed-2.ensures.0 c.if-not-well_formed.false in
    let steps = ap (λ (s : Slot). s.steps) c.load.ensures in
    let more : c.args.tick < (committed_slot l image).steps = omega (arith, steps, c.if-slot-tick.true) in
    subst (λ (n : ℕ). SlotFault l c.args.program.now c.args.tick image (BadImage kind.Steps n)) (sym (c.from-then-slot-tick.ensures ∙ steps)) (TooManySteps formed more)

pub returns-clause-refused : goal.returns-clause-refused
returns-clause-refused g c =
    let l = c.args.layout.now in
    let image = (g.B.Board.state c.args.board.now).image in
    let formed = c.well_formed-2.ensures.0 c.if-not-well_formed.false in
    no_rest l c.args.program.now c.args.tick image c.load.new.slot c.check_place.result c.load.ensures formed c.if-slot-tick.false c.check_place.ensures.refused
