use Rattle.std.proofs.Common.{◌≡◌, ◌+◌, ◌*◌, ◌<◌, ℕ, List, refl, ◌∙◌, ap, subst, arith}
use Rattle.nv_memory.specs.declared.board.Answer.{Answer}
use Rattle.nv_memory.specs.declared.board.Answer.TheVariants.{Lost, Over}
use Rattle.nv_memory.specs.Board.{Runs}
use Rattle.nv_memory.specs.Bytes.{written, bytes_at}
use Rattle.nv_memory.specs.Layout.{lines_of, slot_at}
use Rattle.migration.specs.Moves.{line_part, missing}
use Rattle.migration.proofs.Upto.{one_more, stopped}
use Rattle.migration.proofs.Lines.{first, next, new_is, within, spells}
use Rattle.migration.proofs.moving.bring_lines.Goals as goal

pub returns-in-Lost-clause-runs : goal.returns-in-Lost-clause-runs
returns-in-Lost-clause-runs g c =
    let o = c.args.old.now in
    let n = c.args.new.now in
    let old = g.B.Board.state c.args.board.now in
    let image = old.image in
    let i = c.loop-i.i in
    let now = g.B.Board.state c.loop-i.board in
    let all : i < lines_of o = omega (arith, c.lines-i-end.ensures.value) in
    let W = c.writes_are_local.ensures in
    let P = c.parts_are_apart.ensures in
    let R = c.requires in
    let from : c.slot_at.result + 64 * i ≡ slot_at o c.args.s + 64 * i = ap (λ (at : ℕ). at + 64 * i) c.slot_at.ensures in
    let at_is : c.slot_at-in-loop-i.result + 64 * i ≡ (line_part o n image i).at = ap (λ (at : ℕ). at + 64 * i) c.slot_at-in-loop-i.ensures ∙ new_is W P o n image R.layouts R.image c.args.s R.selected R.slot i all in
    let bytes_are : c.bytes.result.now ≡ (line_part o n image i).bytes = c.bytes.ensures.bytes
    ∙ spells W P o n image R.layouts R.image c.args.s R.selected R.slot i all now.image c.line_at-line.result c.loop-i.invariant.upto.front (c.line_at-line.ensures ∙ ap (λ (at : ℕ). bytes_at at 64 now.image) from) in
    let new = g.B.Board.state c.bring.new.board in
    let moved = subst (λ (l : List ℕ). Runs now (missing now.image (record { at = (line_part o n image i).at; bytes = l })) c.bring.result new) bytes_are
    (subst (λ (at : ℕ). Runs now (missing now.image (record { at = at; bytes = c.bytes.result.now })) c.bring.result new) at_is c.bring.ensures.runs) in
    let run = subst (λ (answer : Answer). Runs now (missing now.image (line_part o n image i)) answer new) c.in-Lost.is moved in
    stopped W c.runs_are_joined.ensures (line_part o n image) old i now c.loop-i.invariant.upto (lines_of o) Lost new all (λ no. cc) run

pub returns-in-Over-clause-runs : goal.returns-in-Over-clause-runs
returns-in-Over-clause-runs g c =
    let o = c.args.old.now in
    let n = c.args.new.now in
    let old = g.B.Board.state c.args.board.now in
    let image = old.image in
    let i = c.loop-i.i in
    let now = g.B.Board.state c.loop-i.board in
    let all : i < lines_of o = omega (arith, c.lines-i-end.ensures.value) in
    let W = c.writes_are_local.ensures in
    let P = c.parts_are_apart.ensures in
    let R = c.requires in
    let from : c.slot_at.result + 64 * i ≡ slot_at o c.args.s + 64 * i = ap (λ (at : ℕ). at + 64 * i) c.slot_at.ensures in
    let at_is : c.slot_at-in-loop-i.result + 64 * i ≡ (line_part o n image i).at = ap (λ (at : ℕ). at + 64 * i) c.slot_at-in-loop-i.ensures ∙ new_is W P o n image R.layouts R.image c.args.s R.selected R.slot i all in
    let bytes_are : c.bytes.result.now ≡ (line_part o n image i).bytes = c.bytes.ensures.bytes
    ∙ spells W P o n image R.layouts R.image c.args.s R.selected R.slot i all now.image c.line_at-line.result c.loop-i.invariant.upto.front (c.line_at-line.ensures ∙ ap (λ (at : ℕ). bytes_at at 64 now.image) from) in
    let new = g.B.Board.state c.bring.new.board in
    let moved = subst (λ (l : List ℕ). Runs now (missing now.image (record { at = (line_part o n image i).at; bytes = l })) c.bring.result new) bytes_are
    (subst (λ (at : ℕ). Runs now (missing now.image (record { at = at; bytes = c.bytes.result.now })) c.bring.result new) at_is c.bring.ensures.runs) in
    let run = subst (λ (answer : Answer). Runs now (missing now.image (line_part o n image i)) answer new) c.in-Over.is moved in
    stopped W c.runs_are_joined.ensures (line_part o n image) old i now c.loop-i.invariant.upto (lines_of o) Over new all (λ no. cc) run

pub loop-i-preserved : goal.loop-i-preserved
loop-i-preserved g c =
    let o = c.args.old.now in
    let n = c.args.new.now in
    let old = g.B.Board.state c.args.board.now in
    let image = old.image in
    let i = c.loop-i.i in
    let now = g.B.Board.state c.loop-i.board in
    let all : i < lines_of o = omega (arith, c.lines-i-end.ensures.value) in
    let W = c.writes_are_local.ensures in
    let P = c.parts_are_apart.ensures in
    let R = c.requires in
    let from : c.slot_at.result + 64 * i ≡ slot_at o c.args.s + 64 * i = ap (λ (at : ℕ). at + 64 * i) c.slot_at.ensures in
    let at_is : c.slot_at-in-loop-i.result + 64 * i ≡ (line_part o n image i).at = ap (λ (at : ℕ). at + 64 * i) c.slot_at-in-loop-i.ensures ∙ new_is W P o n image R.layouts R.image c.args.s R.selected R.slot i all in
    let bytes_are : c.bytes.result.now ≡ (line_part o n image i).bytes = c.bytes.ensures.bytes
    ∙ spells W P o n image R.layouts R.image c.args.s R.selected R.slot i all now.image c.line_at-line.result c.loop-i.invariant.upto.front (c.line_at-line.ensures ∙ ap (λ (at : ℕ). bytes_at at 64 now.image) from) in
    let new = g.B.Board.state c.bring.new.board in
    let moved = subst (λ (l : List ℕ). Runs now (missing now.image (record { at = (line_part o n image i).at; bytes = l })) c.bring.result new) bytes_are
    (subst (λ (at : ℕ). Runs now (missing now.image (record { at = at; bytes = c.bytes.result.now })) c.bring.result new) at_is c.bring.ensures.runs) in
    let run = subst (λ (answer : Answer). Runs now (missing now.image (line_part o n image i)) answer new) c.in-Done.is moved in
    let image_is : new.image ≡ written (line_part o n image i).at (line_part o n image i).bytes now.image =
    c.in-Done.ensures.image refl ∙ (λ j. written (at_is j) (bytes_are j) now.image) in
    record {
      upto = one_more W c.runs_are_joined.ensures (line_part o n image) old i now c.loop-i.invariant.upto new (first W P o n image R.layouts R.image c.args.s R.selected R.slot i all) (next W P o n image R.layouts R.image c.args.s R.selected R.slot i all)
          (omega (arith, within W P o n image R.layouts R.image c.args.s R.selected R.slot i all, c.loop-i.invariant.upto.size)) run image_is (c.in-Done.ensures.on refl);
      same_origin = c.in-Done.ensures.origin ∙ c.loop-i.invariant.same_origin;
    }
