use Rattle.std.proofs.Common.{◌∙◌, sym, subst}
use Rattle.cat_machine.specs.Fits.{SectionIs}
use Rattle.cat_machine.proofs.Fitting.{fits_idle, section_none, section_starts, section_is}
use Rattle.cat_machine.proofs.run.section.Goals as goal

pub run_section-did-requires : goal.run_section-did-requires
run_section-did-requires c = section_starts c.requires.fits.0 c.args.code.now c.args.working.now c.next_place.result c.next_place.ensures (λ e. let both = sym e ∙ c.in-Some.is in cc) c.requires.fits.1 c.requires.free c.requires.empty

pub returns-in-None-clause-is : goal.returns-in-None-clause-is
returns-in-None-clause-is c = λ p s fits same. section_none p c.args.code.now c.args.working.now s c.next_place.result c.next_place.ensures c.in-None.is fits same

pub returns-in-Some-clause-keeps : goal.returns-in-Some-clause-keeps
returns-in-Some-clause-keeps c = λ p fits.
    let idle = fits_idle p c.args.code.now c.args.working.now fits c.requires.free c.requires.empty in
    (section_is p c.args.code.now c.args.working.now idle.state c.run_section-did.result c.run_section-did.new.working c.run_section-did.ensures fits idle.corresponds).1

pub returns-in-Some-clause-is : goal.returns-in-Some-clause-is
returns-in-Some-clause-is c = λ p s fits same.
    subst (λ a. SectionIs p s c.args.working.now a c.run_section-did.new.working) (sym c.stepped.ensures)
    (section_is p c.args.code.now c.args.working.now s c.run_section-did.result c.run_section-did.new.working c.run_section-did.ensures fits same).0
