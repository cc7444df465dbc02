use Rattle.std.proofs.Common.{ℕ, ◌++◌, List, length, sym, ap, ◌∙◌, refl, subst, append_assoc}
use Rattle.std.proofs.lemmas.Result.{err_from_is_err_and}
use Rattle.cn_base.specs.Pages.{Adds, IsHeld}
use Rattle.cn_base.specs.PageSums.{adds_cut, adds_on, held_adds}
use Rattle.cn_base.specs.PageWords.{held_in, sink_in}
use Rattle.cn_base.specs.TextSums.{cut_behind_held}
use Rattle.cn_base.specs.Writing.{IsCut}
use Rattle.checkpoint_slots.specs.declared.slot.Slot.{Slot}
use Rattle.checkpoint_slots.specs.Slot.{IsMadeFor}
use Rattle.recovery.specs.Past.{past_of, last_slot}
use Rattle.cn_report.specs.Outcome.{log_text, end_line, variables_text}
use Rattle.cn_report.specs.Whole.{outcome_text}
use Rattle.cn_report.proofs.Records.{committed-made, image-formed, image-long, slot-is}
use Rattle.cn_report.proofs.Texts.{end-is}
use Rattle.cn_report.proofs.report.add_outcome.Goals as goal

pub recover-requires-clause-image : goal.recover-requires-clause-image
recover-requires-clause-image g c =
    image-long c.args.layout.now (g.B.Board.start (g.B.Board.origin c.args.board.now)) (g.B.Board.state c.args.board.now) c.requires.sound c.requires.large

pub recover-requires-clause-formed : goal.recover-requires-clause-formed
recover-requires-clause-formed g c =
    image-formed c.args.program.now c.args.layout.now (g.B.Board.start (g.B.Board.origin c.args.board.now)) (g.B.Board.state c.args.board.now) c.requires.sound c.requires.replayed

pub add_log-requires-clause-len : goal.add_log-requires-clause-len
add_log-requires-clause-len g c =
    let slot = slot-is c.args.program.now c.args.layout.now (g.B.Board.start (g.B.Board.origin c.args.board.now)) (g.B.Board.state c.args.board.now) c.requires.sound c.requires.replayed in
    ap (λ (s : Slot). s.len) (c.recover.ensures ∙ slot)

-- what was read back is made for the layout
pub returns-in_err-add_log-clause-made : goal.returns-in_err-add_log-clause-made
returns-in_err-add_log-clause-made g c = subst (λ (s : Slot). IsMadeFor c.args.layout.now s) (sym c.recover.ensures) (committed-made c.args.layout.now (g.B.Board.state c.args.board.now).image)

pub returns-in_err-add_end-clause-made : goal.returns-in_err-add_end-clause-made
returns-in_err-add_end-clause-made g c = subst (λ (s : Slot). IsMadeFor c.args.layout.now s) (sym c.recover.ensures) (committed-made c.args.layout.now (g.B.Board.state c.args.board.now).image)

pub returns-clause-made : goal.returns-clause-made
returns-clause-made g c = subst (λ (s : Slot). IsMadeFor c.args.layout.now s) (sym c.recover.ensures) (committed-made c.args.layout.now (g.B.Board.state c.args.board.now).image)

pub add_variables-requires : goal.add_variables-requires
add_variables-requires g c =
    ap (λ (s : Slot). length s.words) c.recover.ensures ∙ (committed-made c.args.layout.now (g.B.Board.state c.args.board.now).image).words ∙ c.requires.words

pub returns-in_err-add_log-clause-text : goal.returns-in_err-add_log-clause-text
returns-in_err-add_log-clause-text g c =
    let p = err_from_is_err_and c.from_residual.result c.from_residual.ensures.1 in
    let past = past_of c.args.layout.now (g.B.Board.start (g.B.Board.origin c.args.board.now)) (g.B.Board.state c.args.board.now) in
    let state = g.B.Board.state c.args.board.now in
    let program = c.args.program.now in
    rw p.1 (cut_behind_held _ _ (held_in c.args.page.now) (log_text program.headers c.args.arrivals.now past c.args.from) (end_line state.tick state.stored (last_slot past).steps c.args.end ++ variables_text (last_slot past) program.variables)
    c.in_err-add_log.ensures.text)

pub returns-in_err-add_end-clause-text : goal.returns-in_err-add_end-clause-text
returns-in_err-add_end-clause-text g c =
    let p = err_from_is_err_and c.from_residual-in_err-add_end.result c.from_residual-in_err-add_end.ensures.1 in
    let past = past_of c.args.layout.now (g.B.Board.start (g.B.Board.origin c.args.board.now)) (g.B.Board.state c.args.board.now) in
    let state = g.B.Board.state c.args.board.now in
    let program = c.args.program.now in
    let lists = c.args.arrivals.now in
    let slot = slot-is program c.args.layout.now (g.B.Board.start (g.B.Board.origin c.args.board.now)) state c.requires.sound c.requires.replayed in
    let piece = end-is c.tick.result c.stored.result c.recover.new.into.steps state.tick state.stored (last_slot past).steps c.word.result.now c.args.end
    c.tick.ensures.value c.stored.ensures.value (ap (λ (s : Slot). s.steps) (c.recover.ensures ∙ slot)) c.word.ensures in
    rw p.1 (adds_cut _ _ _ _ _ (log_text program.headers lists past c.args.from) (end_line state.tick state.stored (last_slot past).steps c.args.end) (variables_text (last_slot past) program.variables)
    (outcome_text program.headers program.variables lists past c.args.from state.tick state.stored c.args.end) refl c.in_ok-add_log.ensures.text
    (subst (λ t. IsCut (g.K.Sink.written (sink_in c.add_log.new.page)) (g.K.Sink.written (sink_in c.add_end.new.page)) (held_in c.add_log.new.page ++ t)) piece c.in_err-add_end.ensures.text))

pub returns-clause-text : goal.returns-clause-text
returns-clause-text g c =
    let past = past_of c.args.layout.now (g.B.Board.start (g.B.Board.origin c.args.board.now)) (g.B.Board.state c.args.board.now) in
    let state = g.B.Board.state c.args.board.now in
    let program = c.args.program.now in
    let lists = c.args.arrivals.now in
    let slot = slot-is program c.args.layout.now (g.B.Board.start (g.B.Board.origin c.args.board.now)) state c.requires.sound c.requires.replayed in
    let piece = end-is c.tick.result c.stored.result c.recover.new.into.steps state.tick state.stored (last_slot past).steps c.word.result.now c.args.end
    c.tick.ensures.value c.stored.ensures.value (ap (λ (s : Slot). s.steps) (c.recover.ensures ∙ slot)) c.word.ensures in
    let log : List ℕ = log_text program.headers lists past c.args.from in
    let end : List ℕ = end_line state.tick state.stored (last_slot past).steps c.args.end in
    let vars : List ℕ = variables_text (last_slot past) program.variables in
    let first = c.add_log.new.page in
    let second = c.add_end.new.page in
    let last = c.add_variables.new.page in
    let ended = subst (λ t. IsHeld (g.K.Sink.written (sink_in first)) (g.K.Sink.written (sink_in second)) (held_in first ++ t) (held_in second)) piece c.in_ok-add_end.ensures.text in
    let listed = subst (λ (s : Slot). Adds (g.K.Sink.written (sink_in second)) (g.K.Sink.written (sink_in last)) (held_in second) (held_in last) (variables_text s program.variables) c.add_variables.result) (c.recover.ensures ∙ slot) c.add_variables.ensures.text in
    adds_on _ _ _ _ _ _ (log ++ end) vars (outcome_text program.headers program.variables lists past c.args.from state.tick state.stored c.args.end) c.add_variables.result
    (append_assoc log end vars) (held_adds _ _ _ _ _ _ log end (log ++ end) refl c.in_ok-add_log.ensures.text ended) listed
