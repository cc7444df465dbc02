use Rattle.std.proofs.Common.{sym, ◌∙◌, arith}
use Rattle.std.proofs.lemmas.Option.{slice_get_within}
use Rattle.cat_machine.proofs.Fitting.{fits_step, fits_after, answer_means, step_is_act}
use Rattle.cat_machine.proofs.run.step_fetched.Goals as goal

pub execute-requires : goal.execute-requires
execute-requires c =
    let s = fits_step c.requires.fits.0 c.args.mode c.args.code.now c.args.working.now c.requires.fits.1 c.requires.fits.2 in
    record {
      does = (s.0, sym (step_is_act c.args.mode c.args.code.now c.args.working.now c.args.next c.requires.next) ∙ s.1);
      within = omega (arith, c.is_short.ensures, slice_get_within c.args.code.now.instrs c.args.next.pc c.args.next.instr c.requires.next.1);
    }

pub returns-clause-does : goal.returns-clause-does
returns-clause-does c = step_is_act c.args.mode c.args.code.now c.args.working.now c.args.next c.requires.next ∙ c.execute.ensures

pub returns-clause-keeps : goal.returns-clause-keeps
returns-clause-keeps c = λ p fits. fits_after p c.args.mode c.args.code.now c.args.working.now _ fits c.requires.fits.2 (step_is_act c.args.mode c.args.code.now c.args.working.now c.args.next c.requires.next ∙ c.execute.ensures)

pub returns-clause-means : goal.returns-clause-means
returns-clause-means c = λ p fits. answer_means p c.args.mode c.args.code.now c.args.working.now _ fits c.requires.fits.2 (step_is_act c.args.mode c.args.code.now c.args.working.now c.args.next c.requires.next ∙ c.execute.ensures)
