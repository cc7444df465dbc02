use Rattle.std.proofs.Common.{◌≡◌, ◌∙◌, List, Some, reverse, sym, ap}
use Rattle.cat_program.specs.Body.{Body}
use Rattle.cat_eval.specs.declared.state.Frame.{Frame}
use Rattle.cat_eval.specs.Cursor.{cursor_body}
use Rattle.cat_eval.proofs.Told.{frames_told}
use Rattle.cat_eval.proofs.standing.is_left_at.Goals as goal

pub returns-in-Some : goal.returns-in-Some
returns-in-Some c =
    let p = c.args.program.now in
    let there = c.in-Some.ensures in
    let now : Some (cursor_body p c.left.result) ≡ Some (cursor_body p (reverse c.args.frames.now)) = ap (λ (k : Body). Some k) c.left.ensures.body in (
      λ yes. there.body ∙ ap (λ (fs : List Frame). Some (cursor_body p fs)) (sym (c.is.ensures.0 yes)) ∙ now,
      λ same. (let e : Some (cursor_body p c.left.result) ≡ Some (cursor_body p c.in-Some.rest) = now ∙ sym same ∙ there.body in
          let one : cursor_body p c.left.result ≡ cursor_body p c.in-Some.rest = cc in
          c.is.ensures.1 (frames_told p c.left.result c.in-Some.rest c.left.ensures.at there.at one)),
    )
