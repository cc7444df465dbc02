use Rattle.std.proofs.Common.{arith}
use Rattle.std.proofs.lemmas.List.Elements.{All-get_or}
use Rattle.harvest_trace.specs.Timeline.{IsInRange}
use Rattle.harvest_trace.proofs.Timelines.{ends-rise, row_in}
use Rattle.harvest_trace.proofs.timeline.Trace.at.Goals as goal

pub ended_by-place-requires : goal.ended_by-place-requires
ended_by-place-requires c = rw c.as_slice.ensures.value (ends-rise c.self.inside.rows.items c.self.inside.ends.items c.self.inside.life c.self.invariant)

pub index-requires : goal.index-requires
index-requires c =
    let f = rw c.as_slice.ensures.value at c.ended_by-place.ensures in
    let r = row_in c.self.inside.rows.items c.self.inside.ends.items c.self.inside.life c.args.tick c.ended_by-place.result c.self.invariant f.most f.point (rw c.self.view_is c.requires) in
    let lt = r.0 in
    omega (arith, lt, c.self.inside.rows.ok)

pub returns-clause-row : goal.returns-clause-row
returns-clause-row c =
    let f = rw c.as_slice.ensures.value at c.ended_by-place.ensures in
    let r = row_in c.self.inside.rows.items c.self.inside.ends.items c.self.inside.life c.args.tick c.ended_by-place.result c.self.invariant f.most f.point (rw c.self.view_is c.requires) in
    rw (← c.self.view_is, c.index.ensures) (r.1 c.index.result.now)

pub returns-clause-in_range : goal.returns-clause-in_range
returns-clause-in_range c =
    let f = rw c.as_slice.ensures.value at c.ended_by-place.ensures in
    let r = row_in c.self.inside.rows.items c.self.inside.ends.items c.self.inside.life c.args.tick c.ended_by-place.result c.self.invariant f.most f.point (rw c.self.view_is c.requires) in
    rw c.index.ensures (All-get_or IsInRange c.self.inside.rows.items c.ended_by-place.result c.index.result.now r.0 c.self.invariant.in_range)
