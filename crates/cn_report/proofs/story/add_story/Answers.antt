use Rattle.std.proofs.Common.{◌≡◌, ℕ, ◌+◌, List, ◌++◌, length, ap, arith, ◌∙◌, sym, subst, refl}
use Rattle.std.proofs.lemmas.List.{append-nil}
use Rattle.std.proofs.lemmas.Result.{err_from_is_err_and}
use Rattle.cn_base.specs.Pages.{IsHeld}
use Rattle.cn_base.specs.PageSums.{held_whole}
use Rattle.cn_base.specs.PageWords.{held_in, sink_in}
use Rattle.cn_base.specs.Texts.{in_turn}
use Rattle.cn_base.specs.TextSums.{cut_held_in_turn, held_in_turn}
use Rattle.checkpoint_slots.specs.declared.slot.Slot.{Slot}
use Rattle.recovery.specs.Past.{past_of, image_at, committed_at}
use Rattle.cn_report.specs.Story.{entry_line, moment_line}
use Rattle.cn_report.specs.Windows.{AreHeads}
use Rattle.cn_report.proofs.Moments.{committed-is, heads-more, image-none, moment-is}
use Rattle.cn_report.proofs.Silence.{same_image, same_text}
use Rattle.cn_report.proofs.story.add_story.Goals as goal

pub loop-place-init : goal.loop-place-init
loop-place-init g c =
    let past = past_of c.args.layout.now (g.B.Board.start (g.B.Board.origin c.args.board.now)) (g.B.Board.state c.args.board.now) in
    record {
      same_sink = refl;
      text = held_whole _ _ _ (sym (append-nil (held_in c.args.page.now)));
      within = omega arith;
      heads = subst (λ (image : List ℕ). AreHeads c.args.layout.now image c.args.heads) (image-none past) c.requires;
      faults = refl;
    }

pub returns-in_err-add_entry-clause-text : goal.returns-in_err-add_entry-clause-text
returns-in_err-add_entry-clause-text g c =
    let p = err_from_is_err_and c.from_residual.result c.from_residual.ensures.1 in
    let past = past_of c.args.layout.now (g.B.Board.start (g.B.Board.origin c.args.board.now)) (g.B.Board.state c.args.board.now) in
    let here = c.loop-place.place in
    let k = c.last_silent-last.result in
    let rests = c.last_silent-last.ensures in
    let before = subst (λ (image : List ℕ). AreHeads c.args.layout.now image c.loop-place.heads) (same_image past here k rests.later rests.silent) c.loop-place.invariant.heads in
    let text = subst (λ t. IsHeld (g.K.Sink.written (sink_in c.args.page.now)) (g.K.Sink.written (sink_in c.loop-place.page)) (held_in c.args.page.now ++ t) (held_in c.loop-place.page))
    (same_text past here k rests.later rests.silent) c.loop-place.invariant.text in
    let slot : Slot = committed_at past (k + 1) in
    let entry = c.entry-entry.result in
    let heads = heads-more past k entry c.follow.new.self c.entry-entry.ensures.value (c.follow.ensures (image_at past k) before) in
    let len : slot.len ≡ c.len.result = sym (c.len.ensures c.args.layout.now (image_at past (k + 1)) heads ∙ ap (λ (s : Slot). s.len) (committed-is past (k + 1))) in
    let steps : slot.steps ≡ c.steps.result = sym (c.steps.ensures c.args.layout.now (image_at past (k + 1)) heads ∙ ap (λ (s : Slot). s.steps) (committed-is past (k + 1))) in
    rw p.1 (cut_held_in_turn (moment_line past) k (length past.timeline) _ _ _ _ _ (entry_line slot entry) rests.within text (moment-is past k entry c.entry-entry.ensures.value) (c.in_err-add_entry.ensures.text slot len steps))

pub loop-place-preserved : goal.loop-place-preserved
loop-place-preserved g c =
    let past = past_of c.args.layout.now (g.B.Board.start (g.B.Board.origin c.args.board.now)) (g.B.Board.state c.args.board.now) in
    let here = c.loop-place.place in
    let k = c.last_silent-last.result in
    let rests = c.last_silent-last.ensures in
    let before = subst (λ (image : List ℕ). AreHeads c.args.layout.now image c.loop-place.heads) (same_image past here k rests.later rests.silent) c.loop-place.invariant.heads in
    let text = subst (λ t. IsHeld (g.K.Sink.written (sink_in c.args.page.now)) (g.K.Sink.written (sink_in c.loop-place.page)) (held_in c.args.page.now ++ t) (held_in c.loop-place.page))
    (same_text past here k rests.later rests.silent) c.loop-place.invariant.text in
    let slot : Slot = committed_at past (k + 1) in
    let entry = c.entry-entry.result in
    let heads = heads-more past k entry c.follow.new.self c.entry-entry.ensures.value (c.follow.ensures (image_at past k) before) in
    let len : slot.len ≡ c.len.result = sym (c.len.ensures c.args.layout.now (image_at past (k + 1)) heads ∙ ap (λ (s : Slot). s.len) (committed-is past (k + 1))) in
    let steps : slot.steps ≡ c.steps.result = sym (c.steps.ensures c.args.layout.now (image_at past (k + 1)) heads ∙ ap (λ (s : Slot). s.steps) (committed-is past (k + 1))) in
    record {
      same_sink = c.in_ok-add_entry.ensures.same_sink ∙ c.loop-place.invariant.same_sink;
      text = held_in_turn (moment_line past) k _ _ _ _ _ _ (entry_line slot entry) text (moment-is past k entry c.entry-entry.ensures.value) (c.in_ok-add_entry.ensures.text slot len steps);
      within = omega (arith, rests.within);
      heads = heads;
      faults = c.in_ok-add_entry.ensures.cause.kept ∙ c.loop-place.invariant.faults;
    }

pub returns-clause-text : goal.returns-clause-text
returns-clause-text g c =
    let past = past_of c.args.layout.now (g.B.Board.start (g.B.Board.origin c.args.board.now)) (g.B.Board.state c.args.board.now) in
    let all : c.loop-place.place ≡ length past.timeline = omega (arith, c.loop-place-test.false, c.loop-place.invariant.within, c.entries-entries.ensures.value) in
    subst (λ (n : ℕ). IsHeld (g.K.Sink.written (sink_in c.args.page.now)) (g.K.Sink.written (sink_in c.loop-place.page)) (held_in c.args.page.now ++ in_turn (moment_line past) n) (held_in c.loop-place.page))
    all c.loop-place.invariant.text
