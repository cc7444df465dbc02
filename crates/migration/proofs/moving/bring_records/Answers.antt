use Rattle.std.proofs.Common.{◌≡◌, ◌+◌, ◌*◌, ◌<◌, ℕ, List, length, refl, ◌∙◌, ap, subst, arith}
use Rattle.std.specs.Prelude.{map}
use Rattle.std.specs.List.{range_with_len}
use Rattle.nv_memory.specs.declared.board.Answer.{Answer}
use Rattle.nv_memory.specs.declared.board.Answer.TheVariants.{Lost, Over}
use Rattle.nv_memory.specs.Board.{Runs}
use Rattle.nv_memory.specs.Bytes.{written}
use Rattle.nv_memory.specs.Layout.{record_at}
use Rattle.migration.specs.Moves.{len_in, missing, record_part, writes_of}
use Rattle.migration.proofs.Upto.{none_yet, one_more, stopped}
use Rattle.migration.proofs.Records.{in_image, some, first, next, within, spells}
use Rattle.migration.proofs.moving.bring_records.Goals as goal

pub loop-k-init : goal.loop-k-init
loop-k-init g c =
    let old = g.B.Board.state c.args.board.now in
    record { upto = none_yet (record_part c.args.old.now c.args.new.now old.image) old c.requires.on; same_origin = refl }

pub moved_record-record-requires-clause-image : goal.moved_record-record-requires-clause-image
moved_record-record-requires-clause-image g c =
    let image = (g.B.Board.state c.args.board.now).image in
    omega (arith, c.loop-k.invariant.upto.size, in_image c.writes_are_local.ensures c.parts_are_apart.ensures c.entries_are_spelled_once.ensures c.records_are_read_again.ensures c.args.old.now c.args.new.now image c.requires.can)

pub bring-requires-clause-on : goal.bring-requires-clause-on
bring-requires-clause-on g c = c.loop-k.invariant.upto.on

pub bring-requires-clause-some : goal.bring-requires-clause-some
bring-requires-clause-some g c =
    let o = c.args.old.now in
    let n = c.args.new.now in
    let old = g.B.Board.state c.args.board.now in
    let image = old.image in
    let k = c.loop-k.k in
    let now = g.B.Board.state c.loop-k.board in
    let can = c.requires.can in
    let below : k < len_in o image = omega (arith, c.requires.all) in
    let W = c.writes_are_local.ensures in
    let P = c.parts_are_apart.ensures in
    let S = c.entries_are_spelled_once.ensures in
    let A = c.records_are_read_again.ensures in
    let bytes_are : c.bytes.result.now ≡ (record_part o n image k).bytes = c.bytes.ensures.bytes ∙ spells W P S A o n image can k below now.image c.moved_record-record.result c.loop-k.invariant.upto.front c.moved_record-record.ensures in
    omega (arith, ap length bytes_are, some W P S A o n image can k below)

pub bring-requires-clause-within : goal.bring-requires-clause-within
bring-requires-clause-within g c =
    let o = c.args.old.now in
    let n = c.args.new.now in
    let old = g.B.Board.state c.args.board.now in
    let image = old.image in
    let k = c.loop-k.k in
    let now = g.B.Board.state c.loop-k.board in
    let can = c.requires.can in
    let below : k < len_in o image = omega (arith, c.requires.all) in
    let W = c.writes_are_local.ensures in
    let P = c.parts_are_apart.ensures in
    let S = c.entries_are_spelled_once.ensures in
    let A = c.records_are_read_again.ensures in
    let bytes_are : c.bytes.result.now ≡ (record_part o n image k).bytes = c.bytes.ensures.bytes ∙ spells W P S A o n image can k below now.image c.moved_record-record.result c.loop-k.invariant.upto.front c.moved_record-record.ensures in
    let at_is : c.log_at.result + c.record_len.result * k ≡ record_at n k = cc in
    omega (arith, at_is, ap length bytes_are, within W P S A o n image can k below, c.loop-k.invariant.upto.size)

pub returns-in-Lost-clause-runs : goal.returns-in-Lost-clause-runs
returns-in-Lost-clause-runs g c =
    let o = c.args.old.now in
    let n = c.args.new.now in
    let old = g.B.Board.state c.args.board.now in
    let image = old.image in
    let k = c.loop-k.k in
    let now = g.B.Board.state c.loop-k.board in
    let can = c.requires.can in
    let below : k < len_in o image = omega (arith, c.requires.all) in
    let W = c.writes_are_local.ensures in
    let P = c.parts_are_apart.ensures in
    let S = c.entries_are_spelled_once.ensures in
    let A = c.records_are_read_again.ensures in
    let bytes_are : c.bytes.result.now ≡ (record_part o n image k).bytes = c.bytes.ensures.bytes ∙ spells W P S A o n image can k below now.image c.moved_record-record.result c.loop-k.invariant.upto.front c.moved_record-record.ensures in
    let at_is : c.log_at.result + c.record_len.result * k ≡ record_at n k = cc in
    let new = g.B.Board.state c.bring.new.board in
    let moved = subst (λ (l : List ℕ). Runs now (missing now.image (record { at = record_at n k; bytes = l })) c.bring.result new) bytes_are
    (subst (λ (at : ℕ). Runs now (missing now.image (record { at = at; bytes = c.bytes.result.now })) c.bring.result new) at_is c.bring.ensures.runs) in
    let run = subst (λ (answer : Answer). Runs now (missing now.image (record_part o n image k)) answer new) c.in-Lost.is moved in
    subst (λ (len : ℕ). Runs old (writes_of image (map (record_part o n image) (range_with_len 0 len))) Lost new) c.requires.all
    (stopped W c.runs_are_joined.ensures (record_part o n image) old k now c.loop-k.invariant.upto c.args.len Lost new (omega arith) (λ no. cc) run)

pub returns-in-Over-clause-runs : goal.returns-in-Over-clause-runs
returns-in-Over-clause-runs g c =
    let o = c.args.old.now in
    let n = c.args.new.now in
    let old = g.B.Board.state c.args.board.now in
    let image = old.image in
    let k = c.loop-k.k in
    let now = g.B.Board.state c.loop-k.board in
    let can = c.requires.can in
    let below : k < len_in o image = omega (arith, c.requires.all) in
    let W = c.writes_are_local.ensures in
    let P = c.parts_are_apart.ensures in
    let S = c.entries_are_spelled_once.ensures in
    let A = c.records_are_read_again.ensures in
    let bytes_are : c.bytes.result.now ≡ (record_part o n image k).bytes = c.bytes.ensures.bytes ∙ spells W P S A o n image can k below now.image c.moved_record-record.result c.loop-k.invariant.upto.front c.moved_record-record.ensures in
    let at_is : c.log_at.result + c.record_len.result * k ≡ record_at n k = cc in
    let new = g.B.Board.state c.bring.new.board in
    let moved = subst (λ (l : List ℕ). Runs now (missing now.image (record { at = record_at n k; bytes = l })) c.bring.result new) bytes_are
    (subst (λ (at : ℕ). Runs now (missing now.image (record { at = at; bytes = c.bytes.result.now })) c.bring.result new) at_is c.bring.ensures.runs) in
    let run = subst (λ (answer : Answer). Runs now (missing now.image (record_part o n image k)) answer new) c.in-Over.is moved in
    subst (λ (len : ℕ). Runs old (writes_of image (map (record_part o n image) (range_with_len 0 len))) Over new) c.requires.all
    (stopped W c.runs_are_joined.ensures (record_part o n image) old k now c.loop-k.invariant.upto c.args.len Over new (omega arith) (λ no. cc) run)

pub loop-k-preserved : goal.loop-k-preserved
loop-k-preserved g c =
    let o = c.args.old.now in
    let n = c.args.new.now in
    let old = g.B.Board.state c.args.board.now in
    let image = old.image in
    let k = c.loop-k.k in
    let now = g.B.Board.state c.loop-k.board in
    let can = c.requires.can in
    let below : k < len_in o image = omega (arith, c.requires.all) in
    let W = c.writes_are_local.ensures in
    let P = c.parts_are_apart.ensures in
    let S = c.entries_are_spelled_once.ensures in
    let A = c.records_are_read_again.ensures in
    let bytes_are : c.bytes.result.now ≡ (record_part o n image k).bytes = c.bytes.ensures.bytes ∙ spells W P S A o n image can k below now.image c.moved_record-record.result c.loop-k.invariant.upto.front c.moved_record-record.ensures in
    let at_is : c.log_at.result + c.record_len.result * k ≡ record_at n k = cc in
    let new = g.B.Board.state c.bring.new.board in
    let moved = subst (λ (l : List ℕ). Runs now (missing now.image (record { at = record_at n k; bytes = l })) c.bring.result new) bytes_are
    (subst (λ (at : ℕ). Runs now (missing now.image (record { at = at; bytes = c.bytes.result.now })) c.bring.result new) at_is c.bring.ensures.runs) in
    let run = subst (λ (answer : Answer). Runs now (missing now.image (record_part o n image k)) answer new) c.in-Done.is moved in
    let image_is : new.image ≡ written (record_at n k) (record_part o n image k).bytes now.image =
    c.in-Done.ensures.image refl ∙ (λ i. written (at_is i) (bytes_are i) now.image) in
    record {
      upto = one_more W c.runs_are_joined.ensures (record_part o n image) old k now c.loop-k.invariant.upto new (first W P S A o n image can k below) (next W P S A o n image can k below)
          (omega (arith, within W P S A o n image can k below, c.loop-k.invariant.upto.size)) run image_is (c.in-Done.ensures.on refl);
      same_origin = c.in-Done.ensures.origin ∙ c.loop-k.invariant.same_origin;
    }
