use Rattle.std.proofs.Common.{◌≡◌, ◌≤◌, List, ◌++◌, Some, length, arith, ap, sym, ◌∙◌, subst, refl}
use Rattle.std.specs.List.{flat_map}
use Rattle.std.specs.Prelude.{slice_get}
use Rattle.std.proofs.lemmas.List.{append-nil, take_all}
use Rattle.std.proofs.lemmas.Option.{slice_get_read}
use Rattle.std.proofs.lemmas.Result.{err_from_is_err_and}
use Rattle.cn_base.specs.Pages.{IsHeld}
use Rattle.cn_base.specs.PageSums.{held_whole}
use Rattle.cn_base.specs.PageWords.{held_in, sink_in}
use Rattle.cn_base.specs.TextSums.{cut_held_flat, held_flat}
use Rattle.cat_program.specs.declared.headers.Variable.{Variable}
use Rattle.cn_report.specs.Outcome.{variable_line}
use Rattle.cn_report.proofs.Texts.{laid_within}
use Rattle.cn_report.proofs.variables.add_variables.Goals as goal

pub loop-variable-init : goal.loop-variable-init
loop-variable-init g c = record {
  same_sink = refl;
  text = held_whole _ _ _ (sym (append-nil (held_in c.args.page.now)));
  faults = refl;
}

pub add_variable-requires-clause-within : goal.add_variable-requires-clause-within
add_variable-requires-clause-within g c =
    let program = c.args.program.now in
    let items = c.variables-variable-items in
    let v = c.variable-item.result in
    let at : slice_get items.result.now c.loop-variable.variable-index ≡ Some v = slice_get_read items.result.now (length items.result.now) c.loop-variable.variable-index v refl (omega arith) c.variable-item.is in
    let is : slice_get program.variables c.loop-variable.variable-index ≡ Some v = subst (λ (l : List Variable). slice_get l c.loop-variable.variable-index ≡ Some v) items.ensures at in
    omega (arith, laid_within 0 program.variables (length program.words) c.loop-variable.variable-index v c.bodies-checked.ensures.checked.laid_out is)

pub returns-in_err-add_variable-clause-text : goal.returns-in_err-add_variable-clause-text
returns-in_err-add_variable-clause-text g c =
    let p = err_from_is_err_and c.from_residual.result c.from_residual.ensures.1 in
    let program = c.args.program.now in
    let items = c.variables-variable-items in
    let v = c.variable-item.result in
    let at : slice_get items.result.now c.loop-variable.variable-index ≡ Some v = slice_get_read items.result.now (length items.result.now) c.loop-variable.variable-index v refl (omega arith) c.variable-item.is in
    let is : slice_get program.variables c.loop-variable.variable-index ≡ Some v = subst (λ (l : List Variable). slice_get l c.loop-variable.variable-index ≡ Some v) items.ensures at in
    rw p.1 (cut_held_flat (variable_line c.args.slot.now) program.variables c.loop-variable.variable-index v _ _ _ _ _ is c.loop-variable.invariant.text c.in_err-add_variable.ensures.text)

pub loop-variable-preserved : goal.loop-variable-preserved
loop-variable-preserved g c =
    let program = c.args.program.now in
    let items = c.variables-variable-items in
    let v = c.variable-item.result in
    let at : slice_get items.result.now c.loop-variable.variable-index ≡ Some v = slice_get_read items.result.now (length items.result.now) c.loop-variable.variable-index v refl (omega arith) c.variable-item.is in
    let is : slice_get program.variables c.loop-variable.variable-index ≡ Some v = subst (λ (l : List Variable). slice_get l c.loop-variable.variable-index ≡ Some v) items.ensures at in
    let one = c.in_ok-add_variable in
    record {
      same_sink = one.ensures.same_sink ∙ c.loop-variable.invariant.same_sink;
      text = held_flat (variable_line c.args.slot.now) program.variables c.loop-variable.variable-index v _ _ _ _ _ _ is c.loop-variable.invariant.text one.ensures.text;
      faults = one.ensures.cause.kept ∙ c.loop-variable.invariant.faults;
    }

pub returns-clause-text : goal.returns-clause-text
returns-clause-text g c =
    let variables = c.args.program.now.variables in
    let i = c.loop-variable.variable-index in
    let long : length variables ≤ i = omega (arith, ap length c.variables-variable-items.ensures, c.loop-variable-test.false) in
    subst (λ (l : List Variable). IsHeld (g.K.Sink.written (sink_in c.args.page.now)) (g.K.Sink.written (sink_in c.loop-variable.page)) (held_in c.args.page.now ++ flat_map (variable_line c.args.slot.now) l) (held_in c.loop-variable.page))
    (take_all i variables long) c.loop-variable.invariant.text
