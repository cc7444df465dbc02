use Rattle.std.proofs.Common.{◌∙◌, sym, true, false}
use Rattle.cn_tables.proofs.Header.{flip, flop, header_field}
use Rattle.cn_tables.proofs.reading.Rows.is.Goals as goal

pub returns-then-ne : goal.returns-then-ne
returns-then-ne c =
    let (same, size) = c.loop-place.invariant in
    let cell = rw c.field.ensures at (flip _ c.ne.result c.ne.ensures c.if-ne.true) in
    sym (same ∙ header_field c.args.self.now.current c.args.header.now c.loop-place.place _ false size c.loop-place-test.true cell)

pub loop-place-preserved : goal.loop-place-preserved
loop-place-preserved c =
    let (same, size) = c.loop-place.invariant in
    let cell = rw c.field.ensures at (flop _ c.ne.result c.ne.ensures c.if-ne.false) in
    (same ∙ header_field c.args.self.now.current c.args.header.now c.loop-place.place _ true size c.loop-place-test.true cell, size)
