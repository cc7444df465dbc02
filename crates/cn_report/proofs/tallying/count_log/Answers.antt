use Rattle.std.proofs.Common.{ℕ, ◌<◌, ◌≤◌, ap, arith, ◌∙◌, refl, not}
use Rattle.std.specs.Prelude.{count_by}
use Rattle.std.specs.List.{range_with_len}
use Rattle.cn_report.specs.Counts.{is_out, is_ran, is_met}
use Rattle.recovery.specs.Past.{past_of, committed_at, entry_in, done_at}
use Rattle.cn_report.proofs.Counting.{at_most_one, counted_more, counted_places}
use Rattle.cn_report.proofs.Moments.{starts}
use Rattle.cn_report.proofs.tallying.count_log.Goals as goal

pub loop-place-init : goal.loop-place-init
loop-place-init g c =
    let past = past_of c.args.layout.now (g.B.Board.start (g.B.Board.origin c.args.board.now)) (g.B.Board.state c.args.board.now) in
    let none : (n : ℕ) → n < 0 → (committed_at past n).len ≤ 0 = λ n less. absurd (omega (arith, less)) in
    rw c.at-cursor.ensures (record {
      passed = starts past c.args.heads c.requires.heads;
      before = none;
      ran = refl;
      met = refl;
      outs = refl;
      few_ran = omega arith;
      few_met = omega arith;
      few_outs = omega arith;
    })

pub loop-place-preserved : goal.loop-place-preserved
loop-place-preserved g c =
    let past = past_of c.args.layout.now (g.B.Board.start (g.B.Board.origin c.args.board.now)) (g.B.Board.state c.args.board.now) in
    let headers = c.args.program.now.headers in
    let lists = c.args.arrivals.now in
    let place = c.loop-place.place in
    let found = c.committed_entry-entry in
    let known = c.done-done in
    let now = c.loop-place.invariant in
    let less : place < c.args.len = omega (arith, c.loop-place-test.true) in
    let out = c.is_out-out.ensures ∙ ap is_out found.ensures.entry in
    let met = c.is_met.ensures ∙ ap (λ (t : ℕ). is_met headers lists t found.result) known.ensures.done ∙ ap (is_met headers lists (done_at past place)) found.ensures.entry in
    record {
      passed = known.ensures.passed;
      before = λ n earlier. omega (arith, known.ensures.before n earlier);
      ran = counted_more (λ (k : ℕ). is_ran (entry_in past k)) c.args.len place c.loop-place.ran c.one_if-ran.result _ less now.ran c.one_if-ran.ensures (ap not out);
      met = counted_more (λ (k : ℕ). is_met headers lists (done_at past k) (entry_in past k)) c.args.len place c.loop-place.met c.one_if-met.result _ less now.met c.one_if-met.ensures met;
      outs = counted_more (λ (k : ℕ). is_out (entry_in past k)) c.args.len place c.loop-place.outs c.one_if-outs.result _ less now.outs c.one_if-outs.ensures out;
      few_ran = omega (arith, now.few_ran, at_most_one _ c.one_if-ran.result c.one_if-ran.ensures);
      few_met = omega (arith, now.few_met, at_most_one _ c.one_if-met.result c.one_if-met.ensures);
      few_outs = omega (arith, now.few_outs, at_most_one _ c.one_if-outs.result c.one_if-outs.ensures);
    }

pub returns-clause-ran : goal.returns-clause-ran
returns-clause-ran g c =
    let past = past_of c.args.layout.now (g.B.Board.start (g.B.Board.origin c.args.board.now)) (g.B.Board.state c.args.board.now) in
    let test = λ (k : ℕ). is_ran (entry_in past k) in
    c.loop-place.invariant.ran ∙ counted_places test c.args.len c.loop-place.place (omega arith) (omega arith) ∙ ap (λ (n : ℕ). count_by test (range_with_len 0 n)) c.requires.len

pub returns-clause-met : goal.returns-clause-met
returns-clause-met g c =
    let past = past_of c.args.layout.now (g.B.Board.start (g.B.Board.origin c.args.board.now)) (g.B.Board.state c.args.board.now) in
    let test = λ (k : ℕ). is_met c.args.program.now.headers c.args.arrivals.now (done_at past k) (entry_in past k) in
    c.loop-place.invariant.met ∙ counted_places test c.args.len c.loop-place.place (omega arith) (omega arith) ∙ ap (λ (n : ℕ). count_by test (range_with_len 0 n)) c.requires.len

pub returns-clause-outs : goal.returns-clause-outs
returns-clause-outs g c =
    let past = past_of c.args.layout.now (g.B.Board.start (g.B.Board.origin c.args.board.now)) (g.B.Board.state c.args.board.now) in
    let test = λ (k : ℕ). is_out (entry_in past k) in
    c.loop-place.invariant.outs ∙ counted_places test c.args.len c.loop-place.place (omega arith) (omega arith) ∙ ap (λ (n : ℕ). count_by test (range_with_len 0 n)) c.requires.len
