use Rattle.std.proofs.Common.{◌∙◌, ◌+◌, ◌++◌, List, sym, ap, drop, append_assoc}
use Rattle.std.proofs.lemmas.Option.{slice_get-get_or}
use Rattle.reference_run.specs.declared.schedule.Item.{Item}
use Rattle.logged_runs.specs.Own.{items_in}
use Rattle.cn_resume.proofs.Items.{items_next}
use Rattle.cn_resume.proofs.schedules.items_of.Goals as goal

pub loop-entry-preserved : goal.loop-entry-preserved
loop-entry-preserved c =
    let es = c.args.entries.now in
    let k = c.loop-entry.entry-index in
    let item = slice_get-get_or es k _ c.loop-entry-test.true in
    let rest = items_in (drop (k + 1) es) in
    ap (λ (l : List Item). l ++ rest) (c.in_ok-add.ensures {u = tt})
    ∙ append_assoc c.loop-entry.items.items _ rest
    ∙ ap (λ (l : List Item). c.loop-entry.items.items ++ l) (sym (items_next es k _ item))
    ∙ c.loop-entry.invariant
