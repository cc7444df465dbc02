-- Frames at statements are told by the list that they stand for.
use Rattle.std.proofs.Common.{◌≡◌, ℕ, zero, suc, ◌+◌, ◌<◌, List, [], ◌∷◌, length, Option, Some, None, refl, sym, ap, ◌∙◌, subst, arith}
use Rattle.std.specs.Prelude.{slice_get}
use Rattle.cat_program.specs.declared.syntax.Stmt.{Stmt}
use Rattle.cat_program.specs.declared.syntax.Stmt.TheVariants.{Set, SetAt, Out, Post, If, While, Repeat}
use Rattle.cat_program.specs.Body.{Body, Empty, Plain, When, Choice, Loop, Turns, join, with_stmt, tree_of, block_at}
use Rattle.cat_program.specs.Checked.{Checked}
use Rattle.cat_eval.specs.declared.state.Frame.{Frame}
use Rattle.cat_eval.specs.Cursor.{frame_body, cursor_body}
use Rattle.cat_eval.specs.Places.{IsAtStatement, AreAtStatements}
use Rattle.cat_eval.proofs.Frames.{frame, frame_next}

-- where a list's first statement stands
abbrev name_of : Body → Option Frame
name_of Empty = None
name_of (Plain b p s rest) = Some (frame b p)
name_of (When b p e on rest) = Some (frame b p)
name_of (Choice b p e on off rest) = Some (frame b p)
name_of (Loop b p e body rest) = Some (frame b p)
name_of (Turns b p n body rest) = Some (frame b p)

-- what follows it
abbrev later_of : Body → Body
later_of Empty = Empty
later_of (Plain b p s rest) = rest
later_of (When b p e on rest) = rest
later_of (Choice b p e on off rest) = rest
later_of (Loop b p e body rest) = rest
later_of (Turns b p n body rest) = rest

-- what follows a list is told by the whole
join_told : (k a b : Body) → join k a ≡ join k b → a ≡ b
join_told Empty a b e = e
join_told (Plain c p s rest) a b e = join_told rest a b (ap later_of e)
join_told (When c p s on rest) a b e = join_told rest a b (ap later_of e)
join_told (Choice c p s on off rest) a b e = join_told rest a b (ap later_of e)
join_told (Loop c p s body rest) a b e = join_told rest a b (ap later_of e)
join_told (Turns c p n body rest) a b e = join_told rest a b (ap later_of e)

stmt_named : (f : ℕ → Body) (b n : ℕ) (s : Stmt) (rest k : Body) → name_of (join (with_stmt f b n s rest) k) ≡ Some (frame b n)
stmt_named f b n (Set word value) rest k = refl
stmt_named f b n (SetAt base len index value) rest k = refl
stmt_named f b n (Out channel value) rest k = refl
stmt_named f b n (Post task) rest k = refl
stmt_named f b n (If test on None) rest k = refl
stmt_named f b n (If test on (Some off)) rest k = refl
stmt_named f b n (While test body) rest k = refl
stmt_named f b n (Repeat count body) rest k = refl

item_there : (ss : List Stmt) (n : ℕ) → n < length ss → (s : Stmt) × (slice_get ss n ≡ Some s)
item_there [] n lt = absurd (omega (arith, lt))
item_there (s ∷ ss) zero lt = (s, refl)
item_there (s ∷ ss) (suc n) lt = item_there ss n (omega (arith, lt))

-- the first frame is where the list's first statement stands
frame_named : (p : Checked) (f : Frame) (fs : List Frame) → IsAtStatement p f → name_of (cursor_body p (f ∷ fs)) ≡ Some f
frame_named p f fs at =
    let item = item_there (block_at p.blocks f.block) f.place at.place in
    ap (λ body. name_of (join body (cursor_body p fs))) (frame_next p f.block f.place item.0 item.1)
    ∙ stmt_named (tree_of p.blocks) f.block f.place item.0 (frame_body p (frame f.block (f.place + 1))) (cursor_body p fs)

pub frames_told : (p : Checked) (fs gs : List Frame) → AreAtStatements p fs → AreAtStatements p gs → cursor_body p fs ≡ cursor_body p gs → fs ≡ gs
frames_told p [] [] a b e = refl
frames_told p [] (g ∷ gs) a b e = let never : None ≡ Some g = ap name_of e ∙ frame_named p g gs b.0 in cc
frames_told p (f ∷ fs) [] a b e = let never : Some f ≡ None = sym (frame_named p f fs a.0) ∙ ap name_of e in cc
frames_told p (f ∷ fs) (g ∷ gs) a b e =
    let named : Some f ≡ Some g = sym (frame_named p f fs a.0) ∙ ap name_of e ∙ frame_named p g gs b.0 in
    let same : f ≡ g = cc in
    let here : cursor_body p (g ∷ fs) ≡ cursor_body p (g ∷ gs) = subst (λ x. cursor_body p (x ∷ fs) ≡ cursor_body p (g ∷ gs)) same e in
    let later : fs ≡ gs = frames_told p fs gs a.1 b.1 (join_told (frame_body p g) (cursor_body p fs) (cursor_body p gs) here) in
    ap (λ x. x ∷ fs) same ∙ ap (λ l. g ∷ l) later
