use Rattle.std.proofs.Common.{ap, subst}
use Rattle.cat_machine.specs.CodeValue.{CodeValue}
use Rattle.cost_bounds.specs.Pass.{AreMade, tasks_in}
use Rattle.cn_object.specs.declared.object.Object.{Object}
use Rattle.compiled_objects.proofs.laws.objects_have_program_bounds.Goals as goal

pub returns : goal.returns
returns c = λ p bytes o device lines made known checked fits file good is.
    let same = ap (λ (x : Object). x.code) (c.objects_of_programs_are_accepted.ensures.same p bytes o file good) in
    let bounds = c.compiled_bounds_law.ensures p device lines made checked fits (subst (λ (code : CodeValue). AreMade code device lines (tasks_in code) made) same is) in
    (bounds, λ others. c.one_bounds_law.ensures p device lines made known bounds others)
