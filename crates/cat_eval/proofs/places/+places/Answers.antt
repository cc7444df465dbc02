use Rattle.std.proofs.Common.{ℕ, List, length, Some, refl, sym, ap, ◌∙◌, ◌+◌, ◌-◌, ◌<◌, ◌≤◌, subst, rules, arith}
use Rattle.std.specs.Prelude.{slice_get}
use Rattle.std.proofs.lemmas.Option.{slice_get-get_or}
use Rattle.cat_program.specs.Body.{tree_of, block_at}
use Rattle.cat_program.specs.Places.{body_size, expr_size, marks_of}
use Rattle.cat_eval.specs.declared.state.Frame.{Frame}
use Rattle.cat_eval.specs.Cursor.{frame_body, cursor_body}
use Rattle.cat_eval.specs.Places.{Stands, IsStmtIn}
use Rattle.cat_eval.proofs.Frames.{frame}
use Rattle.cat_eval.proofs.Parts.{one}
use Rattle.cat_program.specs.declared.syntax.Stmt.TheVariants.{Set, SetAt, Out, Post, If, While}
use Rattle.cat_eval.proofs.Finding.{finding_starts, finding_short, finding_here, finding_goes, finding_found, finding_over, room_for_one, frame_at, at_first_as, at_none_as, at_plain, at_repeat, test_short, loop_short, when_in, when_stands, choice_in, choice_stands, loop_before, loop_in, loop_stands, loop_back, jump_stands, second_stands}
use Rattle.cat_eval.proofs.places.+places.Goals as goal

pub find-loop-stmt-init : goal.find-loop-stmt-init
find-loop-stmt-init t c = record {
  finding = finding_starts c.blocks_law.ensures c.args.program.now c.args.b c.args.at c.args.rest.now c.requires;
  same = refl;
}

pub find-stmt_size-size-requires-clause-names : goal.find-stmt_size-size-requires-clause-names
find-stmt_size-size-requires-clause-names t c =
    let ss = c.block-statements.result.now in
    let item = slice_get-get_or ss c.loop-stmt.stmt-index c.stmt-item.result c.loop-stmt-test.true ∙ ap Some (sym c.stmt-item.is) in
    let here = ap (λ l. slice_get l c.loop-stmt.stmt-index) (sym c.block-statements.ensures) ∙ item in
    c.blocks_law.ensures.lower c.args.program.now.blocks c.args.b c.loop-stmt.stmt-index c.stmt-item.result c.requires.lower here

pub find-stmt_size-size-requires-clause-short : goal.find-stmt_size-size-requires-clause-short
find-stmt_size-size-requires-clause-short t c =
    let ss = c.block-statements.result.now in
    let item = slice_get-get_or ss c.loop-stmt.stmt-index c.stmt-item.result c.loop-stmt-test.true ∙ ap Some (sym c.stmt-item.is) in
    let here = ap (λ l. slice_get l c.loop-stmt.stmt-index) (sym c.block-statements.ensures) ∙ item in
    let p = c.args.program.now in
    finding_short c.blocks_law.ensures p c.args.b c.args.at c.args.rest.now c.requires c.loop-stmt.left c.loop-stmt.place c.loop-stmt.stmt-index c.stmt-item.result here c.loop-stmt.invariant.finding

pub find-find_at-requires : goal.find-find_at-requires
find-find_at-requires t c =
    let p = c.args.program.now in
    let b = c.args.b in
    let n = c.loop-stmt.stmt-index in
    let s = c.stmt-item.result in
    let left = c.loop-stmt.left in
    let f = c.loop-stmt.invariant.finding in
    let ss = c.block-statements.result.now in
    let item = slice_get-get_or ss n s c.loop-stmt-test.true ∙ ap Some (sym c.stmt-item.is) in
    let here = ap (λ l. slice_get l n) (sym c.block-statements.ensures) ∙ item in
    let names = c.blocks_law.ensures.lower p.blocks b n s c.requires.lower here in
    let lt : left < body_size (one (tree_of p.blocks) s) = omega (arith, c.if-left-size.true, c.stmt_size-size.ensures) in
    let is = finding_here c.blocks_law.ensures p b c.args.at c.args.rest.now c.requires left c.loop-stmt.place n s here f names lt in
    let placed : IsStmtIn p (frame b c.loop-stmt.place) s left c.args.rest.now = subst (λ (m : ℕ). IsStmtIn p (frame b m) s left c.args.rest.now) (sym f.place_is) is in
    (search rules, subst (λ (fs : List Frame). IsStmtIn p (frame b c.loop-stmt.place) s left fs) (sym c.loop-stmt.invariant.same) placed)

pub find-returns-then-left-size : goal.find-returns-then-left-size
find-returns-then-left-size t c =
    let p = c.args.program.now in
    let b = c.args.b in
    let fs = c.args.rest.now in
    let n = c.loop-stmt.stmt-index in
    let left = c.loop-stmt.left in
    let found = c.find_at.result in
    let new = c.find_at.new.rest in
    let f = c.loop-stmt.invariant.finding in
    let here = subst (λ (gs : List Frame). Stands p (marks_of (frame_body p (frame b c.loop-stmt.place)) (cursor_body p gs)) left found new) c.loop-stmt.invariant.same c.find_at.ensures in
    let at = subst (λ (m : ℕ). Stands p (marks_of (frame_body p (frame b m)) (cursor_body p fs)) left found new) f.place_is here in
    finding_found c.blocks_law.ensures p b c.args.at fs c.requires left c.loop-stmt.place n found new f at

pub find-loop-stmt-preserved : goal.find-loop-stmt-preserved
find-loop-stmt-preserved t c =
    let p = c.args.program.now in
    let b = c.args.b in
    let n = c.loop-stmt.stmt-index in
    let s = c.stmt-item.result in
    let left = c.loop-stmt.left in
    let place = c.loop-stmt.place in
    let f = c.loop-stmt.invariant.finding in
    let ss = c.block-statements.result.now in
    let item = slice_get-get_or ss n s c.loop-stmt-test.true ∙ ap Some (sym c.stmt-item.is) in
    let here = ap (λ l. slice_get l n) (sym c.block-statements.ensures) ∙ item in
    let le : body_size (one (tree_of p.blocks) s) ≤ left = omega (arith, c.if-left-size.false, c.stmt_size-size.ensures) in
    let goes = finding_goes c.blocks_law.ensures p b c.args.at c.args.rest.now c.requires left place n s here f le in
    record { finding = rw c.stmt_size-size.ensures goes; same = c.loop-stmt.invariant.same }

pub find-unreachable-requires : goal.find-unreachable-requires
find-unreachable-requires t c =
    let p = c.args.program.now in
    let n = c.loop-stmt.stmt-index in
    let same = ap length c.block-statements.ensures in
    let over : length (block_at p.blocks c.args.b) ≤ n = omega (arith, c.loop-stmt-test.false, same) in
    absurd (finding_over c.blocks_law.ensures p c.args.b c.args.at c.args.rest.now c.requires c.loop-stmt.left c.loop-stmt.place n over c.loop-stmt.invariant.finding)

pub find_at-open-requires : goal.find_at-open-requires
find_at-open-requires t c =
    room_for_one c.args.program.now c.args.b c.args.place c.args.stmt.now c.args.at c.args.rest.now c.requires

pub find_at-open-requires-then-at-eq0-2 : goal.find_at-open-requires-then-at-eq0-2
find_at-open-requires-then-at-eq0-2 t c =
    room_for_one c.args.program.now c.args.b c.args.place c.args.stmt.now c.args.at c.args.rest.now c.requires

pub find_at-open-requires-in-While : goal.find_at-open-requires-in-While
find_at-open-requires-in-While t c =
    room_for_one c.args.program.now c.args.b c.args.place c.args.stmt.now c.args.at c.args.rest.now c.requires

pub find_at-open_behind-requires-clause-room : goal.find_at-open_behind-requires-clause-room
find_at-open_behind-requires-clause-room t c =
    room_for_one c.args.program.now c.args.b c.args.place c.args.stmt.now c.args.at c.args.rest.now c.requires

pub find_at-open_first-requires : goal.find_at-open_first-requires
find_at-open_first-requires t c =
    room_for_one c.args.program.now c.args.b c.args.place c.args.stmt.now c.args.at c.args.rest.now c.requires

pub find_at-open_first-requires-in-SetAt : goal.find_at-open_first-requires-in-SetAt
find_at-open_first-requires-in-SetAt t c =
    room_for_one c.args.program.now c.args.b c.args.place c.args.stmt.now c.args.at c.args.rest.now c.requires

pub find_at-open_first-requires-in-Out : goal.find_at-open_first-requires-in-Out
find_at-open_first-requires-in-Out t c =
    room_for_one c.args.program.now c.args.b c.args.place c.args.stmt.now c.args.at c.args.rest.now c.requires

pub find_at-open_first-requires-in-Post : goal.find_at-open_first-requires-in-Post
find_at-open_first-requires-in-Post t c =
    room_for_one c.args.program.now c.args.b c.args.place c.args.stmt.now c.args.at c.args.rest.now c.requires

pub find_at-returns-then-at-eq0 : goal.find_at-returns-then-at-eq0
find_at-returns-then-at-eq0 t c =
    rw c.open.ensures (at_first_as c.args.program.now c.args.b c.args.place c.args.stmt.now c.args.at c.args.rest.now c.requires (If c.in-If.test c.in-If.yes c.in-If.no) c.in-If.is tt c.if-at-eq0.true)

pub find_at-returns-then-at-eq0-2 : goal.find_at-returns-then-at-eq0-2
find_at-returns-then-at-eq0-2 t c =
    rw c.open-then-at-eq0-2.ensures (at_first_as c.args.program.now c.args.b c.args.place c.args.stmt.now c.args.at c.args.rest.now c.requires (While c.in-While.test c.in-While.body) c.in-While.is tt c.if-at-eq0-2.true)

pub find_at-expr_size-head-requires : goal.find_at-expr_size-head-requires
find_at-expr_size-head-requires t c =
    let short = test_short c.args.program.now c.args.b c.args.place c.args.stmt.now c.args.at c.args.rest.now c.requires c.in-If.test c.in-If.yes c.in-If.no c.in-If.is in
    omega (arith, short)

pub find_at-expr_size-head-requires-in-While : goal.find_at-expr_size-head-requires-in-While
find_at-expr_size-head-requires-in-While t c =
    let short = loop_short c.args.program.now c.args.b c.args.place c.args.stmt.now c.args.at c.args.rest.now c.requires c.in-While.test c.in-While.body c.in-While.is in
    omega (arith, short)

pub find_at-overflow_add-head : goal.find_at-overflow_add-head
find_at-overflow_add-head t c =
    let short = test_short c.args.program.now c.args.b c.args.place c.args.stmt.now c.args.at c.args.rest.now c.requires c.in-If.test c.in-If.yes c.in-If.no c.in-If.is in
    omega (arith, short, c.expr_size-head.ensures)

pub find_at-overflow_add-head-in-While : goal.find_at-overflow_add-head-in-While
find_at-overflow_add-head-in-While t c =
    let short = loop_short c.args.program.now c.args.b c.args.place c.args.stmt.now c.args.at c.args.rest.now c.requires c.in-While.test c.in-While.body c.in-While.is in
    omega (arith, short, c.expr_size-head-in-While.ensures)

pub find_at-returns-then-at-head : goal.find_at-returns-then-at-head
find_at-returns-then-at-head t c =
    at_none_as c.args.program.now c.args.b c.args.place c.args.stmt.now c.args.at c.args.rest.now c.requires (If c.in-If.test c.in-If.yes c.in-If.no) c.args.rest.now c.in-If.is tt (omega (arith, c.if-at-eq0.false)) (omega (arith, c.if-at-head.true, c.expr_size-head.ensures))

pub find_at-returns-then-at-head-2 : goal.find_at-returns-then-at-head-2
find_at-returns-then-at-head-2 t c =
    at_none_as c.args.program.now c.args.b c.args.place c.args.stmt.now c.args.at c.args.rest.now c.requires (While c.in-While.test c.in-While.body) c.args.rest.now c.in-While.is tt (omega (arith, c.if-at-eq0-2.false)) (omega (arith, c.if-at-head-2.true, c.expr_size-head-in-While.ensures))

pub find_at-open_behind-requires-clause-place : goal.find_at-open_behind-requires-clause-place
find_at-open_behind-requires-clause-place t c =
    (frame_at c.args.program.now c.args.b c.args.place c.args.stmt.now c.args.at c.args.rest.now c.requires).place

pub find_at-find-requires : goal.find_at-find-requires
find_at-find-requires t c =
    let e = c.in-If.is ∙ ap (If c.in-If.test c.in-If.yes) c.in-None.is in
    let is = when_in c.args.program.now c.args.b c.args.place c.args.stmt.now c.args.at c.args.rest.now c.requires c.open_behind.new.rest c.open_behind.ensures.body c.open_behind.ensures.at c.open_behind.ensures.room c.in-If.test c.in-If.yes e (omega (arith, c.if-at-head.false, c.expr_size-head.ensures)) in
    (first_of (search rules, grind (arith, is.before)), rw c.expr_size-head.ensures is)

pub find_at-returns-in-None : goal.find_at-returns-in-None
find_at-returns-in-None t c =
    let e = c.in-If.is ∙ ap (If c.in-If.test c.in-If.yes) c.in-None.is in
    when_stands c.args.program.now c.args.b c.args.place c.args.stmt.now c.args.at c.args.rest.now c.requires c.open_behind.new.rest c.open_behind.ensures.body c.open_behind.ensures.at c.open_behind.ensures.room c.in-If.test c.in-If.yes e (omega (arith, c.if-at-head.false, c.expr_size-head.ensures)) c.find.result c.find.new.rest (rw c.expr_size-head.ensures at c.find.ensures)

pub find_at-find_either-requires : goal.find_at-find_either-requires
find_at-find_either-requires t c =
    let e = c.in-If.is ∙ ap (If c.in-If.test c.in-If.yes) c.in-Some.is in
    let is = choice_in c.args.program.now c.args.b c.args.place c.args.stmt.now c.args.at c.args.rest.now c.requires c.open_behind.new.rest c.open_behind.ensures.body c.open_behind.ensures.at c.open_behind.ensures.room c.in-If.test c.in-If.yes c.in-Some.no e (omega (arith, c.if-at-head.false, c.expr_size-head.ensures)) in
    (first_of (search rules, grind (arith, is.first, is.second)), rw c.expr_size-head.ensures is)

pub find_at-returns-in-Some : goal.find_at-returns-in-Some
find_at-returns-in-Some t c =
    let e = c.in-If.is ∙ ap (If c.in-If.test c.in-If.yes) c.in-Some.is in
    choice_stands c.args.program.now c.args.b c.args.place c.args.stmt.now c.args.at c.args.rest.now c.requires c.open_behind.new.rest c.open_behind.ensures.body c.open_behind.ensures.at c.open_behind.ensures.room c.in-If.test c.in-If.yes c.in-Some.no e (omega (arith, c.if-at-head.false, c.expr_size-head.ensures)) c.find_either.result c.find_either.new.rest (rw c.expr_size-head.ensures at c.find_either.ensures)

pub find_at-block_size-requires-clause-short : goal.find_at-block_size-requires-clause-short
find_at-block_size-requires-clause-short t c =
    (loop_before c.args.program.now c.args.b c.args.place c.args.stmt.now c.args.at c.args.rest.now c.requires c.in-While.test c.in-While.body c.in-While.is (omega (arith, c.if-at-head-2.false, c.expr_size-head-in-While.ensures))).short

pub find_at-find-requires-then-at-head-3 : goal.find_at-find-requires-then-at-head-3
find_at-find-requires-then-at-head-3 t c =
    let lt : c.args.at - (expr_size c.in-While.test + 1) < body_size (tree_of c.args.program.now.blocks c.in-While.body) = omega (arith, c.if-at-head-3.true, c.expr_size-head-in-While.ensures, c.block_size.ensures) in
    let is = loop_in c.args.program.now c.args.b c.args.place c.args.stmt.now c.args.at c.args.rest.now c.requires c.in-While.test c.in-While.body c.in-While.is (omega (arith, c.if-at-head-2.false, c.expr_size-head-in-While.ensures)) lt in
    (first_of (search rules, grind (arith, is.before)), rw (c.expr_size-head-in-While.ensures, c.open-in-While.ensures) is)

pub find_at-returns-then-at-head-3 : goal.find_at-returns-then-at-head-3
find_at-returns-then-at-head-3 t c =
    let lt : c.args.at - (expr_size c.in-While.test + 1) < body_size (tree_of c.args.program.now.blocks c.in-While.body) = omega (arith, c.if-at-head-3.true, c.expr_size-head-in-While.ensures, c.block_size.ensures) in
    loop_stands c.args.program.now c.args.b c.args.place c.args.stmt.now c.args.at c.args.rest.now c.requires c.in-While.test c.in-While.body c.in-While.is (omega (arith, c.if-at-head-2.false, c.expr_size-head-in-While.ensures)) c.find-then-at-head-3.result c.find-then-at-head-3.new.rest lt (rw (c.expr_size-head-in-While.ensures, c.open-in-While.ensures) at c.find-then-at-head-3.ensures)

pub find_at-returns-else-at-head-3 : goal.find_at-returns-else-at-head-3
find_at-returns-else-at-head-3 t c =
    let le : body_size (tree_of c.args.program.now.blocks c.in-While.body) ≤ c.args.at - (expr_size c.in-While.test + 1) = omega (arith, c.if-at-head-3.false, c.expr_size-head-in-While.ensures, c.block_size.ensures) in
    rw c.open-in-While.ensures (loop_back c.args.program.now c.args.b c.args.place c.args.stmt.now c.args.at c.args.rest.now c.requires c.in-While.test c.in-While.body c.in-While.is (omega (arith, c.if-at-head-2.false, c.expr_size-head-in-While.ensures)) le)

pub find_at-returns-in-Repeat : goal.find_at-returns-in-Repeat
find_at-returns-in-Repeat t c =
    at_repeat c.args.program.now c.args.b c.args.place c.args.stmt.now c.args.at c.args.rest.now c.requires c.args.rest.now c.in-Repeat.count c.in-Repeat.body c.in-Repeat.is

pub find_at-returns-in-Set : goal.find_at-returns-in-Set
find_at-returns-in-Set t c =
    at_plain c.args.program.now c.args.b c.args.place c.args.stmt.now c.args.at c.args.rest.now c.requires (Set c.in-Set.word c.in-Set.value) c.open_first.result c.open_first.new.rest c.in-Set.is tt (omega arith) c.open_first.ensures.first c.open_first.ensures.later

pub find_at-returns-in-SetAt : goal.find_at-returns-in-SetAt
find_at-returns-in-SetAt t c =
    at_plain c.args.program.now c.args.b c.args.place c.args.stmt.now c.args.at c.args.rest.now c.requires (SetAt c.in-SetAt.base c.in-SetAt.len c.in-SetAt.index c.in-SetAt.value) c.open_first-in-SetAt.result c.open_first-in-SetAt.new.rest c.in-SetAt.is tt (omega arith) c.open_first-in-SetAt.ensures.first c.open_first-in-SetAt.ensures.later

pub find_at-returns-in-Out : goal.find_at-returns-in-Out
find_at-returns-in-Out t c =
    at_plain c.args.program.now c.args.b c.args.place c.args.stmt.now c.args.at c.args.rest.now c.requires (Out c.in-Out.channel c.in-Out.value) c.open_first-in-Out.result c.open_first-in-Out.new.rest c.in-Out.is tt (omega arith) c.open_first-in-Out.ensures.first c.open_first-in-Out.ensures.later

pub find_at-returns-in-Post : goal.find_at-returns-in-Post
find_at-returns-in-Post t c =
    at_plain c.args.program.now c.args.b c.args.place c.args.stmt.now c.args.at c.args.rest.now c.requires (Post c.in-Post.task) c.open_first-in-Post.result c.open_first-in-Post.new.rest c.in-Post.is tt (omega arith) c.open_first-in-Post.ensures.first c.open_first-in-Post.ensures.later

pub find_either-returns-then-at-size-2 : goal.find_either-returns-then-at-size-2
find_either-returns-then-at-size-2 t c =
    jump_stands c.args.program.now c.args.yes c.args.no c.args.at c.args.rest.now c.requires (omega (arith, c.if-at-size-2.true, c.block_size-size.ensures))

pub find_either-returns : goal.find_either-returns
find_either-returns t c =
    second_stands c.args.program.now c.args.yes c.args.no c.args.at c.args.rest.now c.requires c.find-2.result c.find-2.new.rest (omega (arith, c.if-at-size.false, c.if-at-size-2.false, c.block_size-size.ensures)) (rw c.block_size-size.ensures at c.find-2.ensures)
