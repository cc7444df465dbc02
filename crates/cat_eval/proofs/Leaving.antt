-- What is left of a list, frame by frame, the outermost first.
use Rattle.std.proofs.Common.{◌≡◌, ℕ, ◌+◌, ◌<◌, ◌≤◌, List, [], ◌∷◌, ◌++◌, length, take, drop, get_or, reverse, refl, sym, ap, ◌∙◌, subst, arith}
use Rattle.std.proofs.lemmas.List.{reverse-append, take_more, take-append-drop, take_all, length-reverse}
use Rattle.cat_program.specs.Body.{join, block_at}
use Rattle.cat_program.specs.Checked.{Checked}
use Rattle.cat_eval.specs.declared.state.Frame.{Frame}
use Rattle.cat_eval.specs.Cursor.{CursorFits, frame_body, cursor_body}
use Rattle.cat_eval.specs.Places.{AreAtStatements}
use Rattle.cat_eval.proofs.Frames.{cursor_over, few_frames}

-- what was kept of the first n frames
pub record Leaving (p : Checked) (frames rest : List Frame) (n : ℕ) : Type 0 where
  pub body : cursor_body p rest ≡ cursor_body p (reverse (take n frames))
  pub at : AreAtStatements p rest
  pub few : length rest ≤ n

pub leaving_starts : (p : Checked) (frames : List Frame) → Leaving p frames [] 0
leaving_starts p frames = record { body = refl; at = tt; few = omega arith }

fits_back : (p : Checked) (xs ys : List Frame) → CursorFits p (xs ++ ys) → CursorFits p ys
fits_back p [] ys fits = fits
fits_back p (x ∷ xs) ys fits = fits_back p xs ys fits.1

module _ (p : Checked) (frames : List Frame) (n : ℕ) (d f : Frame) (lt : n < length frames) (is : get_or frames n d ≡ f) (fits : CursorFits p (reverse frames)) where
  more : reverse (take (n + 1) frames) ≡ f ∷ reverse (take n frames)
  more = ap reverse (take_more frames n d lt ∙ ap (λ x. take n frames ++ x ∷ []) is) ∙ reverse-append (take n frames) (f ∷ [])

  inner : CursorFits p (f ∷ reverse (take n frames))
  inner =
      let whole : reverse frames ≡ reverse (drop (n + 1) frames) ++ reverse (take (n + 1) frames) = ap reverse (sym (take-append-drop (n + 1) frames)) ∙ reverse-append (take (n + 1) frames) (drop (n + 1) frames) in
      subst (CursorFits p) more (fits_back p (reverse (drop (n + 1) frames)) (reverse (take (n + 1) frames)) (subst (CursorFits p) whole fits))

  pub leaving_block : f.block < length p.blocks
  leaving_block = inner.0.block

  pub leaving_room : (rest : List Frame) → Leaving p frames rest n → length rest < 32
  leaving_room rest l = omega (arith, l.few, few_frames p (reverse frames) fits, length-reverse frames, lt)

  -- a frame at a statement is kept
  pub leaving_keeps : (rest : List Frame) → Leaving p frames rest n → f.place < length (block_at p.blocks f.block) → Leaving p frames (f ∷ rest) (n + 1)
  leaving_keeps rest l within = record {
    body = ap (join (frame_body p f)) l.body ∙ ap (cursor_body p) (sym more);
    at = (record { block = leaving_block; place = within }, l.at);
    few = omega (arith, l.few);
  }

  -- one at its block's end isn't
  pub leaving_drops : (rest : List Frame) → Leaving p frames rest n → length (block_at p.blocks f.block) ≤ f.place → Leaving p frames rest (n + 1)
  leaving_drops rest l over = record {
    body = l.body ∙ sym (cursor_over p f.block f.place (reverse (take n frames)) over) ∙ ap (cursor_body p) (sym more);
    at = l.at;
    few = omega (arith, l.few);
  }

pub leaving_ends : (p : Checked) (frames rest : List Frame) (n : ℕ) → length frames ≤ n → Leaving p frames rest n → cursor_body p rest ≡ cursor_body p (reverse frames)
leaving_ends p frames rest n over l = l.body ∙ ap (λ fs. cursor_body p (reverse fs)) (take_all n frames over)
