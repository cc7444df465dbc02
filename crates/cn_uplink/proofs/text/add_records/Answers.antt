use Rattle.std.proofs.Common.{◌∙◌}
use Rattle.std.proofs.lemmas.Option.{slice_get-get_or}
use Rattle.std.proofs.lemmas.Result.{err_from_is_err_and}
use Rattle.cn_base.specs.TextSums.{cut_held_flat, held_flat}
use Rattle.cn_uplink.specs.Text.{record_line}
use Rattle.cn_uplink.proofs.text.add_records.Goals as goal

pub returns-in_err-add_record-clause-text : goal.returns-in_err-add_record-clause-text
returns-in_err-add_record-clause-text g c =
    let p = err_from_is_err_and c.from_residual.result c.from_residual.ensures.1 in
    let records = c.args.records.now in
    rw p.1
    (cut_held_flat (record_line c.args.program.now.headers) records c.loop-entry.entry-index _ _ _ _ _ _ (slice_get-get_or records c.loop-entry.entry-index _ c.loop-entry-test.true)
    c.loop-entry.invariant.text c.in_err-add_record.ensures.text)

pub loop-entry-preserved : goal.loop-entry-preserved
loop-entry-preserved g c =
    let records = c.args.records.now in
    record {
      same_sink = c.in_ok-add_record.ensures.same_sink ∙ c.loop-entry.invariant.same_sink;
      text = held_flat (record_line c.args.program.now.headers) records c.loop-entry.entry-index _ _ _ _ _ _ _ (slice_get-get_or records c.loop-entry.entry-index _ c.loop-entry-test.true)
          c.loop-entry.invariant.text c.in_ok-add_record.ensures.text;
      faults = c.in_ok-add_record.ensures.cause.kept ∙ c.loop-entry.invariant.faults;
    }
