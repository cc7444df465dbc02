use Rattle.std.proofs.Common.{◌≡◌, ◌<◌, true, length, arith, sym, ◌∙◌}
use Rattle.board_core.specs.Records.{is_silent}
use Rattle.board_core.proofs.RecordLemmas.{length_of_ends, silent_more, silent_none}
use Rattle.board_core.proofs.timeline.Timeline.silent.Goals as goal

pub records-init : goal.records-init
records-init c =
    let t = c.args.self.now in
    let f = c.record_at-nth.ensures in
    silent_none t.cap t.left.items t.records.items t.ends.items t.count c.record_at-nth.result c.args.place t.kept f.most f.point c.requires

pub index-end-requires : goal.index-end-requires
index-end-requires c =
    let t = c.args.self.now in
    let inside : c.records.nth < length t.records.items = omega (arith, c.records-test.true, c.len.ensures) in
    omega (arith, inside, t.ends.ok, length_of_ends t.cap t.records.items t.ends.items t.left.items t.count t.kept)

pub records-preserved : goal.records-preserved
records-preserved c =
    let t = c.args.self.now in
    let inside : c.records.nth < length t.records.items = omega (arith, c.records-test.true, c.len.ensures) in
    let silent : is_silent c.index.result.now ≡ true = sym c.is_silent.ensures ∙ c.if-is_silent.true in
    silent_more t.cap t.left.items t.records.items t.ends.items t.count c.args.place c.records.nth c.records.end c.index-end.result.now c.index.result.now t.kept c.records.invariant inside c.index.ensures silent c.index-end.ensures
