use Rattle.std.proofs.Common.{◌≡◌, ℕ, ◌+◌, List, ◌++◌, ap, sym, subst, ◌∙◌, refl, append_assoc}
use Rattle.std.specs.Prelude.{codes}
use Rattle.std.specs.Fmt.{signed_decimal}
use Rattle.std.proofs.lemmas.Result.{err_from_is_err_and}
use Rattle.cn_base.specs.PageSums.{adds_cut, adds_on, held_adds}
use Rattle.cn_base.specs.PageWords.{held_in, sink_in}
use Rattle.cn_base.specs.Texts.{in_turn}
use Rattle.cn_base.specs.TextSums.{cut_behind_held}
use Rattle.cn_base.specs.Writing.{IsCut}
use Rattle.cat_program.specs.declared.headers.Variable.{Variable}
use Rattle.checkpoint_slots.specs.declared.slot.Slot.{Slot}
use Rattle.cn_report.specs.Outcome.{value_of, variable_line}
use Rattle.cn_report.proofs.Texts.{words_line}
use Rattle.cn_report.proofs.variables.add_variable.Goals as goal

abbrev values : Slot → Variable → List ℕ
values slot v = in_turn (λ k. codes " " ++ signed_decimal (value_of slot (v.base + k))) v.len

-- its name, its values, and the end of the line
whole : (slot : Slot) (v : Variable) (name : List ℕ) → name ≡ v.name → (codes "var " ++ name) ++ (values slot v ++ codes "\n") ≡ variable_line slot v
whole slot v name is =
    append_assoc (codes "var ") name (values slot v ++ codes "\n")
    ∙ ap (λ t. codes "var " ++ (t ++ (values slot v ++ codes "\n"))) is
    ∙ ap (λ t. codes "var " ++ t) (sym (words_line v.name signed_decimal (value_of slot) v.base v.len))

pub returns-in_err-add_name-clause-text : goal.returns-in_err-add_name-clause-text
returns-in_err-add_name-clause-text g c =
    let p = err_from_is_err_and c.from_residual.result c.from_residual.ensures.1 in
    let slot = c.args.slot.now in
    let v = c.args.variable.now in
    let name = c.as_bytes.result.now in
    let held = held_in c.args.page.now in
    rw p.1 (subst (λ t. IsCut (g.K.Sink.written (sink_in c.args.page.now)) (g.K.Sink.written (sink_in c.add_name.new.page)) (held ++ t))
    (whole slot v name (c.as_bytes.ensures.value ∙ c.as_str.ensures))
    (cut_behind_held _ _ held (codes "var " ++ name) (values slot v ++ codes "\n") c.in_err-add_name.ensures.text))

pub returns-in_err-add_values-clause-text : goal.returns-in_err-add_values-clause-text
returns-in_err-add_values-clause-text g c =
    let p = err_from_is_err_and c.from_residual-in_err-add_values.result c.from_residual-in_err-add_values.ensures.1 in
    let slot = c.args.slot.now in
    let v = c.args.variable.now in
    let name = c.as_bytes.result.now in
    rw p.1 (adds_cut _ _ _ _ _ (codes "var " ++ name) (values slot v) (codes "\n") (variable_line slot v) (whole slot v name (c.as_bytes.ensures.value ∙ c.as_str.ensures)) c.in_ok-add_name.ensures.text c.in_err-add_values.ensures.text)

pub returns-clause-text : goal.returns-clause-text
returns-clause-text g c =
    let slot = c.args.slot.now in
    let v = c.args.variable.now in
    let name = c.as_bytes.result.now in
    let front : List ℕ = codes "var " ++ name in
    adds_on _ _ _ _ _ _ (front ++ values slot v) (codes "\n") (variable_line slot v) c.text.result
    (append_assoc front (values slot v) (codes "\n") ∙ whole slot v name (c.as_bytes.ensures.value ∙ c.as_str.ensures))
    (held_adds _ _ _ _ _ _ front (values slot v) (front ++ values slot v) refl c.in_ok-add_name.ensures.text c.in_ok-add_values.ensures.text)
    c.text.ensures.text
