use Rattle.std.proofs.Common.{ℕ, ◌+◌, ◌<◌, List, subst, sym, ap, ◌∙◌, arith, rules}
use Rattle.recovery.specs.Past.{past_of, image_at}
use Rattle.checkpoint_slots.specs.Image.{committed_slot}
use Rattle.cn_report.specs.Passed.{HasPassed}
use Rattle.cn_report.specs.Windows.{AreHeads}
use Rattle.cn_report.proofs.Moments.{committed-is, goes_on}
use Rattle.cn_report.proofs.Silence.{same_image}
use Rattle.cn_report.proofs.cursor.Cursor.pass.Goals as goal

pub returns-clause-passed : goal.returns-clause-passed
returns-clause-passed g c =
    let past = past_of c.args.layout.now (g.B.Board.start (g.B.Board.origin c.args.board.now)) (g.B.Board.state c.args.board.now) in
    let old = c.args.self.now in
    let last = c.last_silent-last.result in
    let rests = c.last_silent-last.ensures in
    let before = subst (λ (image : List ℕ). AreHeads c.args.layout.now image old.heads) (same_image past old.passed last rests.later rests.silent) c.requires.passed.heads in
    let heads = c.follow.ensures (image_at past last) before in
    subst (λ tick. HasPassed past (record { passed = last + 1; heads = c.follow.new.self; ended = tick })) (sym c.ended-self.ensures)
    (goes_on past last c.entry-entry.result c.follow.new.self c.entry-entry.ensures.value heads)

pub returns-clause-quiet : goal.returns-clause-quiet
returns-clause-quiet g c = λ n from until.
    let past = past_of c.args.layout.now (g.B.Board.start (g.B.Board.origin c.args.board.now)) (g.B.Board.state c.args.board.now) in
    let rests = c.last_silent-last.ensures in
    let within : n < c.last_silent-last.result + 1 = search rules in
    let image = same_image past c.args.self.now.passed n from (λ k first less. rests.silent k first (omega (arith, less, within))) in
    sym (committed-is past n) ∙ ap (λ (i : List ℕ). committed_slot past.layout i) (sym image) ∙ committed-is past c.args.self.now.passed
