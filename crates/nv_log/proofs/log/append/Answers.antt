use Rattle.std.proofs.Common.{◌≡◌, ◌≢◌, ◌+◌, ◌*◌, ◌<◌, ℕ, List, sym, ◌∙◌, subst, arith}
use Rattle.nv_memory.specs.Layout.{record_at}
use Rattle.nv_memory.specs.Board.{Steps}
use Rattle.nv_log.specs.Record.{record_of}
use Rattle.nv_log.specs.Append.{op_of}
use Rattle.nv_log.proofs.AppendLemmas.{done_step, keeps_step}
use Rattle.nv_log.proofs.log.append.Goals as goal

pub returns-clause-keeps : goal.returns-clause-keeps
returns-clause-keeps g c =
    let l = c.args.layout.now in
    let len = c.args.len in
    let old = g.B.Board.state c.args.board.now in
    let new = g.B.Board.state c.write_by-answer.new.board in
    let at_is : c.log_at.result + c.record_len.result * len ≡ record_at l len = cc in
    let bytes_are : c.bytes.result.now ≡ record_of l c.args.entry.now = cc in
    let not_full : len ≢ l.log = c.if-len-layout.false in
    let room : len < l.log = omega arith in
    let step = subst (λ (b : List ℕ). Steps old (op_of c.args.by (record_at l len) b) c.write_by-answer.result new) bytes_are
    (subst (λ (at : ℕ). Steps old (op_of c.args.by at c.bytes.result.now) c.write_by-answer.result new) at_is c.write_by-answer.ensures.step) in
    keeps_step c.writes_are_local.ensures c.parts_are_apart.ensures l len c.args.by c.args.entry.now old new c.write_by-answer.result room c.requires.image step

pub returns-clause-done : goal.returns-clause-done
returns-clause-done g c = λ same.
    let l = c.args.layout.now in
    let len = c.args.len in
    let old = g.B.Board.state c.args.board.now in
    let new = g.B.Board.state c.write_by-answer.new.board in
    let at_is : c.log_at.result + c.record_len.result * len ≡ record_at l len = cc in
    let bytes_are : c.bytes.result.now ≡ record_of l c.args.entry.now = cc in
    let not_full : len ≢ l.log = c.if-len-layout.false in
    let room : len < l.log = omega arith in
    let step = subst (λ (b : List ℕ). Steps old (op_of c.args.by (record_at l len) b) c.write_by-answer.result new) bytes_are
    (subst (λ (at : ℕ). Steps old (op_of c.args.by at c.bytes.result.now) c.write_by-answer.result new) at_is c.write_by-answer.ensures.step) in
    done_step c.writes_are_local.ensures c.parts_are_apart.ensures l len c.args.by c.args.entry.now old new c.write_by-answer.result room c.requires.image step (sym c.put_of.ensures ∙ same)
