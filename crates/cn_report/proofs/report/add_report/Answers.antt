use Rattle.std.proofs.Common.{ℕ, ◌++◌, List, ◌∙◌, refl, append_assoc}
use Rattle.std.proofs.lemmas.Result.{err_from_is_err_and}
use Rattle.cn_base.specs.PageSums.{adds_cut, adds_on, held_adds}
use Rattle.cn_base.specs.PageWords.{held_in}
use Rattle.cn_base.specs.TextSums.{cut_behind_held}
use Rattle.recovery.specs.Past.{past_of}
use Rattle.cn_report.specs.Report.{rows_text}
use Rattle.cn_report.specs.Story.{dropped_text, story_text}
use Rattle.cn_report.specs.Whole.{outcome_text, resumed_text}
use Rattle.cn_report.proofs.report.add_report.Goals as goal

pub returns-in_err-add_rows-clause-text : goal.returns-in_err-add_rows-clause-text
returns-in_err-add_rows-clause-text g c =
    let p = err_from_is_err_and c.from_residual.result c.from_residual.ensures.1 in
    let past = past_of c.args.layout.now (g.B.Board.start (g.B.Board.origin c.args.board.now)) (g.B.Board.state c.args.board.now) in
    let state = g.B.Board.state c.args.board.now in
    let program = c.args.program.now in
    let lists = c.args.arrivals.now in
    let choice : List ℕ = rows_text program.headers c.args.shown c.args.forecast.now c.args.chosen.now in
    let dropped : List ℕ = dropped_text program.headers lists.dropped in
    let outcome : List ℕ = outcome_text program.headers program.variables lists past c.args.from state.tick state.stored c.args.end in
    let whole : List ℕ = resumed_text program.headers program.variables c.args.shown c.args.forecast.now c.args.chosen.now lists past c.args.from state.tick state.stored c.args.end in
    let page = c.args.page.now in
    let one = c.add_rows.new.page in
    rw p.1 (cut_behind_held _ _ (held_in page) choice (dropped ++ (story_text past ++ outcome))
    c.in_err-add_rows.ensures.text)

pub returns-in_err-add_dropped-clause-text : goal.returns-in_err-add_dropped-clause-text
returns-in_err-add_dropped-clause-text g c =
    let p = err_from_is_err_and c.from_residual-in_err-add_dropped.result c.from_residual-in_err-add_dropped.ensures.1 in
    let past = past_of c.args.layout.now (g.B.Board.start (g.B.Board.origin c.args.board.now)) (g.B.Board.state c.args.board.now) in
    let state = g.B.Board.state c.args.board.now in
    let program = c.args.program.now in
    let lists = c.args.arrivals.now in
    let choice : List ℕ = rows_text program.headers c.args.shown c.args.forecast.now c.args.chosen.now in
    let dropped : List ℕ = dropped_text program.headers lists.dropped in
    let outcome : List ℕ = outcome_text program.headers program.variables lists past c.args.from state.tick state.stored c.args.end in
    let whole : List ℕ = resumed_text program.headers program.variables c.args.shown c.args.forecast.now c.args.chosen.now lists past c.args.from state.tick state.stored c.args.end in
    let page = c.args.page.now in
    let one = c.add_rows.new.page in
    let first = c.in_ok-add_rows.ensures.text in
    rw p.1 (adds_cut _ _ _ _ _ choice dropped (story_text past ++ outcome) whole refl first c.in_err-add_dropped.ensures.text)

pub returns-in_err-add_story-clause-text : goal.returns-in_err-add_story-clause-text
returns-in_err-add_story-clause-text g c =
    let p = err_from_is_err_and c.from_residual-in_err-add_story.result c.from_residual-in_err-add_story.ensures.1 in
    let past = past_of c.args.layout.now (g.B.Board.start (g.B.Board.origin c.args.board.now)) (g.B.Board.state c.args.board.now) in
    let state = g.B.Board.state c.args.board.now in
    let program = c.args.program.now in
    let lists = c.args.arrivals.now in
    let choice : List ℕ = rows_text program.headers c.args.shown c.args.forecast.now c.args.chosen.now in
    let dropped : List ℕ = dropped_text program.headers lists.dropped in
    let outcome : List ℕ = outcome_text program.headers program.variables lists past c.args.from state.tick state.stored c.args.end in
    let whole : List ℕ = resumed_text program.headers program.variables c.args.shown c.args.forecast.now c.args.chosen.now lists past c.args.from state.tick state.stored c.args.end in
    let page = c.args.page.now in
    let one = c.add_rows.new.page in
    let first = c.in_ok-add_rows.ensures.text in
    let second = held_adds _ _ _ _ _ _ choice dropped (choice ++ dropped) refl first c.in_ok-add_dropped.ensures.text in
    rw p.1 (adds_cut _ _ _ _ _ (choice ++ dropped) (story_text past) outcome whole (append_assoc choice dropped (story_text past ++ outcome)) second c.in_err-add_story.ensures.text)

pub returns-clause-text : goal.returns-clause-text
returns-clause-text g c =
    let past = past_of c.args.layout.now (g.B.Board.start (g.B.Board.origin c.args.board.now)) (g.B.Board.state c.args.board.now) in
    let state = g.B.Board.state c.args.board.now in
    let program = c.args.program.now in
    let lists = c.args.arrivals.now in
    let choice : List ℕ = rows_text program.headers c.args.shown c.args.forecast.now c.args.chosen.now in
    let dropped : List ℕ = dropped_text program.headers lists.dropped in
    let outcome : List ℕ = outcome_text program.headers program.variables lists past c.args.from state.tick state.stored c.args.end in
    let whole : List ℕ = resumed_text program.headers program.variables c.args.shown c.args.forecast.now c.args.chosen.now lists past c.args.from state.tick state.stored c.args.end in
    let page = c.args.page.now in
    let one = c.add_rows.new.page in
    let first = c.in_ok-add_rows.ensures.text in
    let second = held_adds _ _ _ _ _ _ choice dropped (choice ++ dropped) refl first c.in_ok-add_dropped.ensures.text in
    let third = held_adds _ _ _ _ _ _ (choice ++ dropped) (story_text past) ((choice ++ dropped) ++ story_text past) refl second c.in_ok-add_story.ensures.text in
    adds_on _ _ _ _ _ _ ((choice ++ dropped) ++ story_text past) outcome whole c.add_outcome.result
    (append_assoc (choice ++ dropped) (story_text past) outcome ∙ append_assoc choice dropped (story_text past ++ outcome)) third c.add_outcome.ensures.text
