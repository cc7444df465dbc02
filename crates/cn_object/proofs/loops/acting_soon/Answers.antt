use Rattle.std.proofs.Common.{◌≡◌, ◌<◌, ◌+◌, ◌-◌, length, refl, ap, ◌∙◌, subst, false, arith}
use Rattle.std.specs.Prelude.{slice_index_or, slice_set}
use Rattle.cn_object.proofs.Acting.{SoonFrom, soon_at, soon_goes}
use Rattle.cn_object.proofs.loops.acting_soon.Goals as goal

pub acts_soon_at-value-requires-clause-later : goal.acts_soon_at-value-requires-clause-later
acts_soon_at-value-requires-clause-later c =
    soon_at c.args.code.now (c.len-len.result - c.loop-done.done) c.loop-done.soon.items c.loop-done.invariant (c.len-len.result - 1 - c.loop-done.done + 1) (omega (arith, c.loop-done-test.true)) c.is_soon-later.result
    (c.is_soon-later.ensures ∙ ap (λ l. slice_index_or l (c.len-len.result - 1 - c.loop-done.done + 1) false) c.deref.ensures.value)

pub loop-done-preserved : goal.loop-done-preserved
loop-done-preserved c =
    let n = c.len-len.result - 1 - c.loop-done.done in
    let up : c.len-len.result - c.loop-done.done ≡ n + 1 = omega (arith, c.loop-done-test.true) in
    let down : n ≡ c.len-len.result - (c.loop-done.done + 1) = omega (arith, c.loop-done-test.true) in
    let before : SoonFrom c.args.code.now (n + 1) c.loop-done.soon.items = subst (λ m. SoonFrom c.args.code.now m c.loop-done.soon.items) up c.loop-done.invariant in
    let low : n < length c.loop-done.soon.items = omega (arith, c.loop-done-test.true, c.loop-done.invariant.size, c.len-len.ensures) in
    subst (λ m. SoonFrom c.args.code.now m (slice_set c.loop-done.soon.items n c.acts_soon_at-value.result)) down
    (soon_goes c.args.code.now n c.loop-done.soon.items _ c.acts_soon_at-value.result before low c.acts_soon_at-value.ensures refl)
