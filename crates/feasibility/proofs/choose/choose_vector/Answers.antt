use Rattle.std.proofs.Common.{◌≡◌, ℕ, ◌<◌, List, length, All, inl, inr, sym, subst, ◌∙◌, arith}
use Rattle.std.proofs.lemmas.Bool.{cases_lt}
use Rattle.demand_core.specs.declared.Load.{Load}
use Rattle.demand_core.specs.Demand.{IsWindow, IsFeasible}
use Rattle.feasibility.specs.Chosen.{vector_loads, AreTables}
use Rattle.feasibility.proofs.Vectors.{repeats_of, window_same}
use Rattle.feasibility.proofs.choose.choose_vector.Goals as goal

-- what is so of the loads as read is so of those of the first vector, and the window is that of each vector
window_read : (p : ℕ) (tables : List (List Load)) (order : List ℕ) (read : List Load) (window k : ℕ) → AreTables tables order →
    read ≡ vector_loads tables order 0 → IsWindow p read window → IsWindow p (vector_loads tables order k) window
window_read p tables order read window k are same is =
    window_same p tables order 0 k window are (subst (λ (xs : List Load). IsWindow p xs window) same is)

pub window-requires-clause-spacings : goal.window-requires-clause-spacings
window-requires-clause-spacings c =
    let items : c.in-Ok.whole.items ≡ vector_loads c.args.tables.now c.args.order.now 0 = c.in-Ok.ensures in
    subst (λ (xs : List Load). All (λ x. 0 < x.spacing) xs) (sym (c.as_slice.ensures.value ∙ items))
    (repeats_of c.args.base.now c.args.tables.now c.args.order.now 0 c.requires.p c.requires.tables).spacings

pub try_vector-requires-clause-repeats : goal.try_vector-requires-clause-repeats
try_vector-requires-clause-repeats c = repeats_of c.args.base.now c.args.tables.now c.args.order.now c.loop-k.k c.requires.p c.requires.tables

pub try_vector-requires-clause-window : goal.try_vector-requires-clause-window
try_vector-requires-clause-window c =
    let items : c.in-Ok.whole.items ≡ vector_loads c.args.tables.now c.args.order.now 0 = c.in-Ok.ensures in
    let known = c.in-Ok-window.ensures in
    window_read c.args.base.now.p c.args.tables.now c.args.order.now c.as_slice.result.now c.in-Ok-window.span c.loop-k.k c.requires.tables
    (c.as_slice.ensures.value ∙ items) known.0

pub try_vector-requires-2-clause-repeats : goal.try_vector-requires-2-clause-repeats
try_vector-requires-2-clause-repeats c =
    repeats_of c.args.base.now c.args.tables.now c.args.order.now (length c.args.order.now) c.requires.p c.requires.tables

pub try_vector-requires-2-clause-window : goal.try_vector-requires-2-clause-window
try_vector-requires-2-clause-window c =
    let items : c.in-Ok.whole.items ≡ vector_loads c.args.tables.now c.args.order.now 0 = c.in-Ok.ensures in
    let known = c.in-Ok-window.ensures in
    window_read c.args.base.now.p c.args.tables.now c.args.order.now c.as_slice.result.now c.in-Ok-window.span (length c.args.order.now) c.requires.tables
    (c.as_slice.ensures.value ∙ items) known.0

pub returns-in-Ok-Fails-try_vector-clause-refused : goal.returns-in-Ok-Fails-try_vector-clause-refused
returns-in-Ok-Fails-try_vector-clause-refused c =
    let items : c.in-Ok.whole.items ≡ vector_loads c.args.tables.now c.args.order.now 0 = c.in-Ok.ensures in
    let known = c.in-Ok-window.ensures in
    let last = rw c.in-Ok-Fails-try_vector.field-0-is at c.in-Ok-Fails-try_vector.ensures in
    record {
      window = c.in-Ok-window.span;
      is = window_read c.args.base.now.p c.args.tables.now c.args.order.now c.as_slice.result.now c.in-Ok-window.span (length c.args.order.now) c.requires.tables
          (c.as_slice.ensures.value ∙ items) known.0;
      short = known.1;
      gives = last.0;
      none = λ k within fits. elim (cases_lt k (length c.args.order.now)) [
        | inl sooner ↦ c.loop-k.invariant k (omega (arith, c.loop-k-test.false)) fits
        | inr end ↦
            let same : k ≡ length c.args.order.now = omega arith in
            last.1 (subst (λ (n : ℕ). IsFeasible c.args.base.now (vector_loads c.args.tables.now c.args.order.now n) c.in-Ok-window.span) same fits)
      ];
    }
