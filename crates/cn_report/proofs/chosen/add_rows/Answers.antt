use Rattle.std.proofs.Common.{◌≡◌, ◌<◌, ◌≤◌, ◌++◌, List, Some, length, get_or, refl, sym, ap, ◌∙◌, arith, subst}
use Rattle.std.specs.List.{flat_map, zip}
use Rattle.std.specs.Prelude.{slice_get}
use Rattle.std.proofs.lemmas.List.{append-nil, take_all}
use Rattle.std.proofs.lemmas.Option.{slice_get-get_or, slice_get_read}
use Rattle.cn_base.specs.Pages.{IsHeld}
use Rattle.cn_base.specs.PageSums.{held_whole}
use Rattle.cn_base.specs.PageWords.{held_in, sink_in}
use Rattle.cn_base.specs.TextSums.{cut_held_flat, held_flat}
use Rattle.degradation.specs.declared.chosen.Chosen.{Chosen}
use Rattle.forecast_table.specs.declared.epoch.Epoch.{Epoch}
use Rattle.cn_report.specs.Report.{row_text}
use Rattle.cn_report.proofs.Texts.{zip_at, zip_few}
use Rattle.cn_report.proofs.chosen.add_rows.Goals as goal

abbrev no_row : Epoch
no_row = record { tick = 0; p = 0; q = 0 }

pub loop-i-init : goal.loop-i-init
loop-i-init g c = record {
  same_sink = refl;
  text = held_whole _ _ _ (sym (append-nil (held_in c.args.page.now)));
  faults = refl;
}

pub returns-in-Err-clause-text : goal.returns-in-Err-clause-text
returns-in-Err-clause-text g c =
    let items = c.rows-row-items in
    let i = c.loop-i.i in
    let row : Epoch = get_or items.result.now i no_row in
    let chosen : Chosen = c.index-chosen-i.result in
    let row_is : slice_get c.args.forecast.now i ≡ Some row = subst (λ (l : List Epoch). slice_get l i ≡ Some row) items.ensures.rows (slice_get-get_or items.result.now i no_row c.loop-i-test.true) in
    let within : i < length c.args.chosen.now = omega (arith, c.loop-i-test.true, c.requires.count, ap length items.ensures.rows) in
    let chosen_is : slice_get c.args.chosen.now i ≡ Some chosen = slice_get_read c.args.chosen.now (length c.args.chosen.now) i chosen refl within c.index-chosen-i.is in
    cut_held_flat (row_text c.args.program.now.headers c.args.shown) (zip c.args.forecast.now c.args.chosen.now) i (row, chosen) _ _ _ _ _
    (zip_at c.args.forecast.now c.args.chosen.now i row chosen row_is chosen_is) c.loop-i.invariant.text c.in-Err.ensures.text

pub loop-i-preserved : goal.loop-i-preserved
loop-i-preserved g c =
    let items = c.rows-row-items in
    let i = c.loop-i.i in
    let row : Epoch = get_or items.result.now i no_row in
    let chosen : Chosen = c.index-chosen-i.result in
    let row_is : slice_get c.args.forecast.now i ≡ Some row = subst (λ (l : List Epoch). slice_get l i ≡ Some row) items.ensures.rows (slice_get-get_or items.result.now i no_row c.loop-i-test.true) in
    let within : i < length c.args.chosen.now = omega (arith, c.loop-i-test.true, c.requires.count, ap length items.ensures.rows) in
    let chosen_is : slice_get c.args.chosen.now i ≡ Some chosen = slice_get_read c.args.chosen.now (length c.args.chosen.now) i chosen refl within c.index-chosen-i.is in
    record {
      same_sink = c.in-Ok.ensures.same_sink ∙ c.loop-i.invariant.same_sink;
      text = held_flat (row_text c.args.program.now.headers c.args.shown) (zip c.args.forecast.now c.args.chosen.now) i (row, chosen) _ _ _ _ _ _
          (zip_at c.args.forecast.now c.args.chosen.now i row chosen row_is chosen_is) c.loop-i.invariant.text c.in-Ok.ensures.text;
      faults = c.in-Ok.ensures.cause.kept ∙ c.loop-i.invariant.faults;
    }

pub returns-clause-text : goal.returns-clause-text
returns-clause-text g c =
    let i = c.loop-i.i in
    let pairs = zip c.args.forecast.now c.args.chosen.now in
    let few = zip_few c.args.forecast.now c.args.chosen.now in
    let long : length pairs ≤ i = omega (arith, few, ap length c.rows-row-items.ensures.rows, c.loop-i-test.false) in
    subst (λ (l : List (Epoch × Chosen)). IsHeld (g.K.Sink.written (sink_in c.args.page.now)) (g.K.Sink.written (sink_in c.loop-i.page)) (held_in c.args.page.now ++ flat_map (row_text c.args.program.now.headers c.args.shown) l) (held_in c.loop-i.page))
    (take_all i pairs long) c.loop-i.invariant.text
