use Rattle.std.proofs.Common.{◌≡◌, ℕ, ◌*◌, ◌<◌, ◌≤◌, subst, arith}
use Rattle.std.specs.Prelude.{IsTrue, ◌↔◌}
use Rattle.nv_memory.specs.Layout.{cells_of, lines_of, slot_at}
use Rattle.checkpoint_slots.specs.Image.{number_in, selected_of}
use Rattle.checkpoint_slots.proofs.WellFormed.{too_long, too_many, all_formed}
use Rattle.checkpoint_slots.proofs.loading.well_formed.Goals as goal

pub returns-then-number-layout : goal.returns-then-number-layout
returns-then-number-layout g c =
    let l = c.args.layout.now in
    let image = (g.B.Board.state c.args.board.now).image in
    let at_is : c.slot_at-at.result ≡ slot_at l (selected_of image) = cc in
    too_long l (c.parts_are_apart.ensures l) image c.slot_at-at.result at_is (omega arith)

pub returns-then-not-at_most : goal.returns-then-not-at_most
returns-then-not-at_most g c =
    let l = c.args.layout.now in
    let image = (g.B.Board.state c.args.board.now).image in
    let at_is : c.slot_at-at.result ≡ slot_at l (selected_of image) = cc in
    too_many l (c.parts_are_apart.ensures l) image c.slot_at-at.result at_is c.at_most.result c.at_most.ensures (cc)

pub returns : goal.returns
returns g c =
    let l = c.args.layout.now in
    let image = (g.B.Board.state c.args.board.now).image in
    let at = c.slot_at-at.result in
    let at_is : at ≡ slot_at l (selected_of image) = cc in
    let filled : IsTrue c.at_most-2.result ↔ ((k : ℕ) → cells_of l ≤ k → k < 16 * lines_of l → number_in image at k ≤ 0) =
    subst (λ (n : ℕ). IsTrue c.at_most-2.result ↔ ((k : ℕ) → n ≤ k → k < 16 * lines_of l → number_in image at k ≤ 0)) c.cells.ensures
    (subst (λ (n : ℕ). IsTrue c.at_most-2.result ↔ ((k : ℕ) → c.cells.result ≤ k → k < 16 * n → number_in image at k ≤ 0)) c.lines.ensures.value c.at_most-2.ensures) in
    all_formed l (c.parts_are_apart.ensures l) image at at_is c.at_most-2.result c.at_most.result filled c.at_most.ensures (cc) (omega arith)
