use Rattle.std.proofs.Common.{◌≡◌, ◌≤◌, inl, inr, ap, arith, ◌∙◌}
use Rattle.std.proofs.lemmas.Bool.{cases_lt}
use Rattle.checkpoint_slots.specs.declared.slot.Slot.{Slot}
use Rattle.recovery.specs.Past.{past_of, image_at, committed_at}
use Rattle.cn_report.proofs.Moments.{committed-is, done-is, more_left}
use Rattle.cn_report.proofs.cursor.Cursor.done.Goals as goal

pub pass-requires-clause-more : goal.pass-requires-clause-more
pass-requires-clause-more g c =
    let past = past_of c.args.layout.now (g.B.Board.start (g.B.Board.origin c.args.board.now)) (g.B.Board.state c.args.board.now) in
    let at = c.loop-self.self.passed in
    let len : c.len.result ≡ (committed_at past at).len = c.len.ensures c.args.layout.now (image_at past at) c.loop-self.invariant.passed.heads ∙ ap (λ (s : Slot). s.len) (committed-is past at) in
    more_left past c.args.place at c.loop-self.invariant.passed.within (omega (arith, len, c.loop-self-test.true)) c.requires.committed

pub loop-self-preserved : goal.loop-self-preserved
loop-self-preserved g c =
    let past = past_of c.args.layout.now (g.B.Board.start (g.B.Board.origin c.args.board.now)) (g.B.Board.state c.args.board.now) in
    let at = c.loop-self.self.passed in
    let len : c.len.result ≡ (committed_at past at).len = c.len.ensures c.args.layout.now (image_at past at) c.loop-self.invariant.passed.heads ∙ ap (λ (s : Slot). s.len) (committed-is past at) in
    let here : (committed_at past at).len ≤ c.args.place = omega (arith, len, c.loop-self-test.true) in
    record {
      passed = c.pass.ensures.passed;
      before = λ n less. elim (cases_lt n at) [
        | inl earlier ↦ c.loop-self.invariant.before n earlier
        | inr from ↦ omega (arith, here, ap (λ (s : Slot). s.len) (c.pass.ensures.quiet n from less))
      ];
    }

pub returns-clause-done : goal.returns-clause-done
returns-clause-done g c =
    let past = past_of c.args.layout.now (g.B.Board.start (g.B.Board.origin c.args.board.now)) (g.B.Board.state c.args.board.now) in
    let at = c.loop-self.self.passed in
    let len : c.len.result ≡ (committed_at past at).len = c.len.ensures c.args.layout.now (image_at past at) c.loop-self.invariant.passed.heads ∙ ap (λ (s : Slot). s.len) (committed-is past at) in
    done-is past c.args.place c.loop-self.self c.loop-self.invariant.passed c.loop-self.invariant.before c.requires.later (omega (arith, len, c.loop-self-test.false))
