use Rattle.std.proofs.Common.{◌≡◌, ◌∙◌, ◌≤◌, List, inr, length, refl, reverse, ap, subst}
use Rattle.reference_run.specs.Held.{moment_of}
use Rattle.reference_run.specs.Reference.{IsRun, setting_of}
use Rattle.reference_run.specs.declared.schedule.Item.{Item}
use Rattle.reference_run.proofs.Going.{all_taken, starts}
use Rattle.reference_run.proofs.whole.reference.Goals as goal

pub items-init : goal.items-init
items-init c = starts (setting_of c.args.program.now c.args.versions.now c.args.arrivals.now) c.as_slice-items.result.now c.in-Ok.run' c.in-Ok.ensures

pub returns-in-Ok-false-advance-clause-fault : goal.returns-in-Ok-false-advance-clause-fault
returns-in-Ok-false-advance-clause-fault c =
    let s = setting_of c.args.program.now c.args.versions.now c.args.arrivals.now in
    let items : List Item = c.as_slice-items.result.now in
    let taken = all_taken s items c.items.i c.items.run c.items-test.false c.items.invariant in
    inr (record {
      all = ap length c.as_slice-items.ensures;
      before = moment_of s.program c.items.run;
      run = subst (λ xs. IsRun s (reverse xs) (moment_of s.program c.items.run)) c.as_slice-items.ensures taken;
      stuck = c.in-Ok-false-advance.ensures.none c.in-Ok-false-advance.field-0-test;
    })

pub returns-clause-end : goal.returns-clause-end
returns-clause-end c =
    let s = setting_of c.args.program.now c.args.versions.now c.args.arrivals.now in
    let items : List Item = c.as_slice-items.result.now in
    let taken = all_taken s items c.items.i c.items.run c.items-test.false c.items.invariant in
    let went = c.in-Ok-true-advance.ensures.all c.in-Ok-true-advance.field-0-test in
    record {
      fits = went.fits;
      end = moment_of s.program c.advance.new.run;
      run = record {
        begun = moment_of s.program c.items.run;
        items = subst (λ xs. IsRun s (reverse xs) (moment_of s.program c.items.run)) c.as_slice-items.ensures taken;
        total = went.moment;
      };
      state_is = refl;
      entries_are = c.in-Ok-outs_of.ensures ∙ c.as_slice.ensures.value;
    }
