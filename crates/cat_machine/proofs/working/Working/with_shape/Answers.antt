use Rattle.std.proofs.Common.{◌≡◌, [], refl, sym, subst}
use Rattle.std.specs.Prelude.{pos}
use Rattle.cat_program.specs.Checked.{first_state, program_marks}
use Rattle.cat_machine.specs.Held.{Held}
use Rattle.cat_machine.specs.Code.{code_of}
use Rattle.cat_machine.specs.Fits.{Corresponds, Fits}
use Rattle.cat_machine.proofs.Firsts.{first_fits}
use Rattle.cat_machine.proofs.working.Working.with_shape.Goals as goal

pub returns-in-Ok : goal.returns-in-Ok
returns-in-Ok c =
    let p = c.args.program.now in
    let both = first_fits p c.first_posts-checked.ensures.checked p.words p.started [] (pos 0) refl refl refl in
    subst (λ (h : Held). Fits p (code_of p) h × Corresponds (program_marks p) h (first_state p) × (h.payload ≡ pos 0)) (sym c.in-Ok.ensures)
    (both.0, both.1, refl)
