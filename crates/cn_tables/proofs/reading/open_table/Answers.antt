use Rattle.std.proofs.Common.{◌≡◌, ◌∙◌, Bor, List, ℕ, map, rules, false}
use Rattle.cn_tables.specs.Table.{begins_with_mark}
use Rattle.cn_tables.proofs.Header.{table_rows-is}
use Rattle.cn_tables.proofs.reading.open_table.Goals as goal

pub returns-in-Ok-clause-rows : goal.returns-in-Ok-clause-rows
returns-in-Ok-clause-rows c =
    let plain : begins_with_mark c.args.bytes.now ≡ false = search rules in
    let e = table_rows-is (map (λ (f : Bor (List ℕ)). f.now) c.args.header.now) c.args.bytes.now c.if-bytes-gt-MOST_BYTES.false plain in
    e ∙ rw (← c.over-rows.ensures) c.in-Ok.ensures.rows

pub returns-clause-fault : goal.returns-clause-fault
returns-clause-fault c =
    let plain : begins_with_mark c.args.bytes.now ≡ false = search rules in
    let e = table_rows-is (map (λ (f : Bor (List ℕ)). f.now) c.args.header.now) c.args.bytes.now c.if-bytes-gt-MOST_BYTES.false plain in
    rw (e, ← c.over-rows.ensures) c.in-Err.ensures.fault
