use Rattle.std.proofs.Common.{◌≡◌, false, length, ◌++◌, ◌∙◌, ap, refl, rules, sym, subst, append_assoc}
use Rattle.std.specs.Prelude.{slice_get}
use Rattle.std.proofs.lemmas.Result.{err_from_is_err_and}
use Rattle.cn_base.specs.Pages.{Adds}
use Rattle.cn_base.specs.PageSums.{adds_cut, adds_on, held_adds}
use Rattle.cn_base.specs.PageWords.{held_in, sink_in}
use Rattle.cn_base.specs.Texts.{in_turn}
use Rattle.cn_base.specs.TextSums.{cut_behind_held}
use Rattle.cat_compile.specs.Listing.{line_at, place_lines, task_header, event_headers}
use Rattle.cat_compile.proofs.Begins.{no_task, no_version}
use Rattle.cat_compile.proofs.text.add_place.Goals as goal

pub returns-then-not-may_begin-clause-text : goal.returns-then-not-may_begin-clause-text
returns-then-not-may_begin-clause-text g c =
    let p = c.args.program.now in
    let code = c.args.code.now in
    let pc = c.args.pc in
    let none : c.may_begin.result ≡ false = search rules in
    let inside = c.may_begin.ensures none in
    let last = line_at pc (slice_get code.instrs pc) in
    let versions = in_turn (event_headers p code pc) (length code.versions) in
    let whole : place_lines p code pc ≡ line_at pc (slice_get code.instrs pc) =
    ap (λ t. t ++ (versions ++ last)) (no_task c.code_is_laid_out.ensures.sizes p code pc c.requires.code inside)
    ∙ ap (λ t. t ++ last) (no_version c.code_is_laid_out.ensures.sizes p code pc c.requires.code inside) in
    subst (λ t. Adds (g.K.Sink.written (sink_in c.args.page.now)) (g.K.Sink.written (sink_in c.add_instr.new.page)) (held_in c.args.page.now) (held_in c.add_instr.new.page) t c.add_instr.result)
    (sym (whole ∙ ap (line_at pc) c.instr.ensures)) c.add_instr.ensures.text

pub returns-in_err-add_tasks-clause-text : goal.returns-in_err-add_tasks-clause-text
returns-in_err-add_tasks-clause-text g c =
    let p = err_from_is_err_and c.from_residual.result c.from_residual.ensures.1 in
    let program = c.args.program.now in
    let code = c.args.code.now in
    let pc = c.args.pc in
    rw p.1 (cut_behind_held _ _ (held_in c.args.page.now) (in_turn (task_header program code pc) (length code.tasks))
    (in_turn (event_headers program code pc) (length code.versions) ++ line_at pc (slice_get code.instrs pc)) c.in_err-add_tasks.ensures.text)

pub returns-in_err-add_events-clause-text : goal.returns-in_err-add_events-clause-text
returns-in_err-add_events-clause-text g c =
    let p = err_from_is_err_and c.from_residual-in_err-add_events.result c.from_residual-in_err-add_events.ensures.1 in
    rw p.1 (adds_cut _ _ _ _ _ _ _ _ _ refl c.in_ok-add_tasks.ensures.text c.in_err-add_events.ensures.text)

pub returns-clause-text : goal.returns-clause-text
returns-clause-text g c =
    let program = c.args.program.now in
    let code = c.args.code.now in
    let pc = c.args.pc in
    let tasks = in_turn (task_header program code pc) (length code.tasks) in
    let versions = in_turn (event_headers program code pc) (length code.versions) in
    let last = line_at pc (slice_get code.instrs pc) in
    let before = c.add_events.new.page in
    let now = c.add_instr-2.new.page in
    let line = subst (λ o. Adds (g.K.Sink.written (sink_in before)) (g.K.Sink.written (sink_in now)) (held_in before) (held_in now) (line_at pc o) c.add_instr-2.result) (sym c.instr-2.ensures) c.add_instr-2.ensures.text in
    adds_on _ _ _ _ _ _ (tasks ++ versions) last (place_lines program code pc) c.add_instr-2.result (append_assoc tasks versions last)
    (held_adds _ _ _ _ _ _ tasks versions (tasks ++ versions) refl c.in_ok-add_tasks.ensures.text c.in_ok-add_events.ensures.text) line
