use Rattle.std.proofs.Common.{◌≡◌, ◌∙◌, eqb, Decides, List, reverse, sym, ap, arith}
use Rattle.std.specs.Prelude.{◌&&◌}
use Rattle.std.proofs.lemmas.Bool.Decides.{nat_tests}
use Rattle.std.proofs.lemmas.List.{reverse-reverse}
use Rattle.std.proofs.lemmas.Slice.Eq.{slice_eq-Decides}
use Rattle.cat_eval.specs.declared.state.Frame.{Frame}
use Rattle.cat_eval.proofs.rest.Rest.is.Goals as goal

frame_told : (a b : Frame) → Decides (eqb a.block b.block && eqb a.place b.place) (a ≡ b)
frame_told a b = (λ e. grind (arith, nat_tests), λ e. grind (arith, nat_tests))

reverse_told : (xs ys : List Frame) → reverse xs ≡ reverse ys → xs ≡ ys
reverse_told xs ys e = sym (reverse-reverse xs) ∙ ap reverse e ∙ reverse-reverse ys

pub returns : goal.returns
returns c =
    let xs = c.as_slice.result.now in
    let ys = c.as_slice-2.result.now in
    let told = slice_eq-Decides frame_told xs ys c.eq.result c.eq.ensures in
    let own : reverse xs ≡ c.args.self.now = ap reverse c.as_slice.ensures.value ∙ c.self.view_is in
    let further : reverse ys ≡ c.args.other.now = ap reverse c.as_slice-2.ensures.value ∙ c.other.view_is in
    (λ yes. sym own ∙ ap reverse (told.0 yes) ∙ further, λ same. told.1 (reverse_told xs ys (own ∙ same ∙ sym further)))
