use Rattle.std.proofs.Common.{◌≡◌, ℕ, ◌<◌, ◌≤◌, ◌++◌, arith, subst, sym, ◌∙◌, refl}
use Rattle.std.proofs.lemmas.List.{append-nil}
use Rattle.std.proofs.lemmas.Result.{err_from_is_err_and}
use Rattle.cn_base.specs.Pages.{IsHeld}
use Rattle.cn_base.specs.PageSums.{held_whole}
use Rattle.cn_base.specs.PageWords.{held_in, sink_in}
use Rattle.cn_base.specs.Texts.{in_turn}
use Rattle.cn_base.specs.TextSums.{cut_held_in_turn, held_in_turn}
use Rattle.recovery.specs.Past.{past_of, last_slot, committed_at}
use Rattle.cn_report.specs.Outcome.{log_line, record_line}
use Rattle.cn_report.proofs.Moments.{starts}
use Rattle.cn_report.proofs.Records.{record-is}
use Rattle.cn_report.proofs.log.add_log.Goals as goal

pub loop-place-init : goal.loop-place-init
loop-place-init g c =
    let past = past_of c.args.layout.now (g.B.Board.start (g.B.Board.origin c.args.board.now)) (g.B.Board.state c.args.board.now) in
    let none : (n : ℕ) → n < 0 → (committed_at past n).len ≤ 0 = λ n less. absurd (omega (arith, less)) in
    rw c.at-cursor.ensures (record {
      same_sink = refl;
      passed = starts past c.args.heads c.requires.heads;
      before = none;
      text = held_whole _ _ _ (sym (append-nil (held_in c.args.page.now)));
      faults = refl;
    })

pub returns-in_err-add_record-clause-text : goal.returns-in_err-add_record-clause-text
returns-in_err-add_record-clause-text g c =
    let p = err_from_is_err_and c.from_residual.result c.from_residual.ensures.1 in
    let past = past_of c.args.layout.now (g.B.Board.start (g.B.Board.origin c.args.board.now)) (g.B.Board.state c.args.board.now) in
    let headers = c.args.program.now.headers in
    let lists = c.args.arrivals.now in
    let place = c.loop-place.place in
    let entry = c.committed_entry-entry in
    let known = c.known_at-done in
    let start = c.args.from in
    let less : place < (last_slot past).len = omega (arith, c.requires.len, c.loop-place-test.true) in
    let piece = record-is headers lists past start place known.result entry.result known.ensures.known entry.ensures.entry in
    rw p.1 (cut_held_in_turn (record_line headers lists past start) place (last_slot past).len _ _ _ _ _ (log_line headers lists known.result entry.result) less c.loop-place.invariant.text piece c.in_err-add_record.ensures.text)

pub loop-place-preserved : goal.loop-place-preserved
loop-place-preserved g c =
    let past = past_of c.args.layout.now (g.B.Board.start (g.B.Board.origin c.args.board.now)) (g.B.Board.state c.args.board.now) in
    let headers = c.args.program.now.headers in
    let lists = c.args.arrivals.now in
    let place = c.loop-place.place in
    let entry = c.committed_entry-entry in
    let known = c.known_at-done in
    let start = c.args.from in
    let piece = record-is headers lists past start place known.result entry.result known.ensures.known entry.ensures.entry in
    record {
      same_sink = c.in_ok-add_record.ensures.same_sink ∙ c.loop-place.invariant.same_sink;
      passed = known.ensures.passed;
      before = λ n earlier. omega (arith, known.ensures.before n earlier);
      text = held_in_turn (record_line headers lists past start) place _ _ _ _ _ _ (log_line headers lists known.result entry.result) c.loop-place.invariant.text piece c.in_ok-add_record.ensures.text;
      faults = c.in_ok-add_record.ensures.cause.kept ∙ c.loop-place.invariant.faults;
    }

pub returns-clause-text : goal.returns-clause-text
returns-clause-text g c =
    let past = past_of c.args.layout.now (g.B.Board.start (g.B.Board.origin c.args.board.now)) (g.B.Board.state c.args.board.now) in
    let all : c.loop-place.place ≡ (last_slot past).len = omega (arith, c.loop-place-test.false, c.loop-place.auto.place-end, c.requires.len) in
    subst (λ (n : ℕ). IsHeld (g.K.Sink.written (sink_in c.args.page.now)) (g.K.Sink.written (sink_in c.loop-place.page)) (held_in c.args.page.now ++ in_turn (record_line c.args.program.now.headers c.args.arrivals.now past c.args.from) n) (held_in c.loop-place.page))
    all c.loop-place.invariant.text
