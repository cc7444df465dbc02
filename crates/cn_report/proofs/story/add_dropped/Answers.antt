use Rattle.std.proofs.Common.{◌≡◌, ◌≤◌, ◌<◌, List, ◌++◌, Some, length, get_or, refl, sym, ap, ◌∙◌, arith, subst}
use Rattle.std.specs.List.{flat_map}
use Rattle.std.specs.Prelude.{slice_get}
use Rattle.std.proofs.lemmas.List.{append-nil, take_all}
use Rattle.std.proofs.lemmas.Option.{slice_get-get_or}
use Rattle.std.proofs.lemmas.Result.{err_from_is_err_and}
use Rattle.cn_base.specs.Pages.{IsHeld}
use Rattle.cn_base.specs.PageSums.{held_whole}
use Rattle.cn_base.specs.PageWords.{held_in, sink_in}
use Rattle.cn_base.specs.TextSums.{cut_held_flat, held_flat}
use Rattle.event_arrivals.specs.declared.arrival.Dropped.{Dropped}
use Rattle.cn_report.specs.Story.{dropped_line}
use Rattle.cn_report.proofs.story.add_dropped.Goals as goal

abbrev none : Dropped
none = record { tick = 0; event = 0 }

pub loop-dropped-init : goal.loop-dropped-init
loop-dropped-init g c = record {
  same_sink = refl;
  text = held_whole _ _ _ (sym (append-nil (held_in c.args.page.now)));
  faults = refl;
}

pub returns-in_err-add_dropped_one-clause-text : goal.returns-in_err-add_dropped_one-clause-text
returns-in_err-add_dropped_one-clause-text g c =
    let p = err_from_is_err_and c.from_residual.result c.from_residual.ensures.1 in
    let items = c.dropped-dropped-items in
    let i = c.loop-dropped.dropped-index in
    let lt : i < length items.result.now = omega arith in
    let is : slice_get c.args.arrivals.now.dropped i ≡ Some (get_or items.result.now i none) =
    subst (λ (l : List Dropped). slice_get l i ≡ Some (get_or items.result.now i none)) items.ensures (slice_get-get_or items.result.now i none lt) in
    rw p.1 (cut_held_flat (dropped_line c.args.program.now.headers) c.args.arrivals.now.dropped i (get_or items.result.now i none) _ _ _ _ _ is c.loop-dropped.invariant.text c.in_err-add_dropped_one.ensures.text)

pub loop-dropped-preserved : goal.loop-dropped-preserved
loop-dropped-preserved g c =
    let items = c.dropped-dropped-items in
    let i = c.loop-dropped.dropped-index in
    let lt : i < length items.result.now = omega arith in
    let is : slice_get c.args.arrivals.now.dropped i ≡ Some (get_or items.result.now i none) =
    subst (λ (l : List Dropped). slice_get l i ≡ Some (get_or items.result.now i none)) items.ensures (slice_get-get_or items.result.now i none lt) in
    let one = c.in_ok-add_dropped_one in
    record {
      same_sink = one.ensures.same_sink ∙ c.loop-dropped.invariant.same_sink;
      text = held_flat (dropped_line c.args.program.now.headers) c.args.arrivals.now.dropped i (get_or items.result.now i none) _ _ _ _ _ _ is c.loop-dropped.invariant.text one.ensures.text;
      faults = one.ensures.cause.kept ∙ c.loop-dropped.invariant.faults;
    }

pub returns-clause-text : goal.returns-clause-text
returns-clause-text g c =
    let items = c.dropped-dropped-items in
    let dropped = c.args.arrivals.now.dropped in
    let i = c.loop-dropped.dropped-index in
    let long : length dropped ≤ i = omega (arith, ap length items.ensures, c.loop-dropped-test.false) in
    subst (λ (l : List Dropped). IsHeld (g.K.Sink.written (sink_in c.args.page.now)) (g.K.Sink.written (sink_in c.loop-dropped.page)) (held_in c.args.page.now ++ flat_map (dropped_line c.args.program.now.headers) l) (held_in c.loop-dropped.page))
    (take_all i dropped long) c.loop-dropped.invariant.text
