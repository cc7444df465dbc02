use Rattle.std.proofs.Common.{ℕ, ◌-◌, List, ◌∙◌, ap, sym, arith}
use Rattle.std.specs.Prelude.{slice_get}
use Rattle.board_core.specs.declared.record.Record.TheVariants.{Slept}
use Rattle.board_core.specs.Records.{entries_by}
use Rattle.board_core.proofs.RecordLemmas.{found_at, length_of_ends, shown_at}
use Rattle.board_core.proofs.timeline.Timeline.entry.Goals as goal

pub index-record-requires : goal.index-record-requires
index-record-requires c =
    let t = c.args.self.now in
    let f = c.record_at-nth.ensures in
    let found = found_at t.cap t.left.items t.records.items t.ends.items t.count c.record_at-nth.result c.args.place (Slept 0 0 0 0) t.kept f.most f.point c.requires in
    omega (arith, found.inside, t.records.ok)

pub index-requires : goal.index-requires
index-requires c =
    let t = c.args.self.now in
    let f = c.record_at-nth.ensures in
    let found = found_at t.cap t.left.items t.records.items t.ends.items t.count c.record_at-nth.result c.args.place (Slept 0 0 0 0) t.kept f.most f.point c.requires in
    omega (arith, found.inside, t.ends.ok, length_of_ends t.cap t.records.items t.ends.items t.left.items t.count t.kept)

pub overflow_sub-first : goal.overflow_sub-first
overflow_sub-first c =
    let t = c.args.self.now in
    let f = c.record_at-nth.ensures in
    (shown_at t.cap t.left.items t.records.items t.ends.items t.count c.record_at-nth.result c.args.place c.index-record.result.now c.index.result.now c.width.result t.kept f.most f.point c.requires c.index-record.ensures c.index.ensures c.width.ensures).begins

pub overflow_sub-place : goal.overflow_sub-place
overflow_sub-place c =
    let t = c.args.self.now in
    let f = c.record_at-nth.ensures in
    (shown_at t.cap t.left.items t.records.items t.ends.items t.count c.record_at-nth.result c.args.place c.index-record.result.now c.index.result.now c.width.result t.kept f.most f.point c.requires c.index-record.ensures c.index.ensures c.width.ensures).before

pub entry-requires : goal.entry-requires
entry-requires c =
    let t = c.args.self.now in
    let f = c.record_at-nth.ensures in
    let shown = shown_at t.cap t.left.items t.records.items t.ends.items t.count c.record_at-nth.result c.args.place c.index-record.result.now c.index.result.now c.width.result t.kept f.most f.point c.requires c.index-record.ensures c.index.ensures c.width.ensures in
    record { held = rw c.as_slice.ensures.value shown.held; nth = shown.nth }

pub returns : goal.returns
returns c =
    let t = c.args.self.now in
    let f = c.record_at-nth.ensures in
    let shown = shown_at t.cap t.left.items t.records.items t.ends.items t.count c.record_at-nth.result c.args.place c.index-record.result.now c.index.result.now c.width.result t.kept f.most f.point c.requires c.index-record.ensures c.index.ensures c.width.ensures in
    shown.entry
    ∙ ap (λ (l : List ℕ). slice_get (entries_by t.cap l c.index-record.result.now) (c.args.place - (c.index.result.now - c.width.result))) (sym c.as_slice.ensures.value)
    ∙ c.entry.ensures
