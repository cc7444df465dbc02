use Rattle.std.proofs.Common.{ℕ, arith, sym, subst}
use Rattle.harvest_trace.proofs.Timelines.{IsStretch, ends-rise, length_of_ends, stretch_in}
use Rattle.harvest_trace.proofs.timeline.Trace.until.Goals as goal

pub ended_by-place-requires : goal.ended_by-place-requires
ended_by-place-requires c = rw c.as_slice.ensures.value (ends-rise c.self.inside.rows.items c.self.inside.ends.items c.self.inside.life c.self.invariant)

pub index-requires : goal.index-requires
index-requires c =
    let f = rw c.as_slice.ensures.value at c.ended_by-place.ensures in
    let r = stretch_in c.self.inside.rows.items c.self.inside.ends.items c.self.inside.life c.args.tick c.ended_by-place.result c.self.invariant f.most f.point (rw c.self.view_is c.requires) 0 in
    omega (arith, r.inside, length_of_ends c.self.inside.rows.items c.self.inside.ends.items c.self.inside.life c.self.invariant, c.self.inside.ends.ok)

pub returns : goal.returns
returns c =
    let rows = c.self.inside.rows.items in
    let f = rw c.as_slice.ensures.value at c.ended_by-place.ensures in
    let found = stretch_in rows c.self.inside.ends.items c.self.inside.life c.args.tick c.ended_by-place.result c.self.invariant f.most f.point (rw c.self.view_is c.requires) c.index.result.now in
    let r = subst (λ (end : ℕ). IsStretch rows c.args.tick c.ended_by-place.result end) (sym c.index.ensures) found in
    rw (← c.self.view_is) (record { later = r.later; within = r.within; alike = r.alike })
