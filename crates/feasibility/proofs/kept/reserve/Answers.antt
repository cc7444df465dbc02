use Rattle.std.proofs.Common.{ℕ, ◌-◌, ◌*◌, ◌<◌, ◌≤◌, List, All, take, take_all, inl, inr, subst, le_trans, arith}
use Rattle.std.proofs.lemmas.Bool.{cases_lt}
use Rattle.std.proofs.lemmas.List.Elements.{All-more, All-weaker}
use Rattle.demand_core.specs.declared.Load.{Load}
use Rattle.demand_core.specs.Demand.{rbf, sbf, reserve}
use Rattle.feasibility.proofs.Lists.{none_of}
use Rattle.feasibility.proofs.Short.{spacings_short}
use Rattle.feasibility.proofs.kept.reserve.Goals as goal

-- at the multiples of this spacing below `upto` the difference is at most `most`
abbrev Bounds : (ℕ → ℕ) → ℕ → ℕ → Load → Type 0
Bounds f upto most x = (k : ℕ) → k * x.spacing < upto → f (k * x.spacing) ≤ most

-- past `upto` the difference is at most that at 0
bounds_whole : (f : ℕ → ℕ) (upto window most : ℕ) → ((l : ℕ) → upto ≤ l → l < window → f l ≤ f 0) → f 0 ≤ most → (x : Load) → Bounds f upto most x → Bounds f window most x
bounds_whole f upto window most ample first x bounds k below =
    elim (cases_lt (k * x.spacing) upto) [
      | inl near ↦ bounds k near
      | inr far ↦ le_trans (ample (k * x.spacing) far below) first
    ]

pub most_at_multiples-most-requires-clause-spacing_short : goal.most_at_multiples-most-requires-clause-spacing_short
most_at_multiples-most-requires-clause-spacing_short c =
    spacings_short c.args.base.now.p c.args.loads.now c.args.window 1000000 c.requires.window c.requires.short c.loop-x.x-index none_of c.loop-x-test.true

pub loop-x-preserved : goal.loop-x-preserved
loop-x-preserved c =
    let f : ℕ → ℕ = λ n. rbf c.args.loads.now n - sbf c.args.base.now n in
    let next = c.most_at_multiples-most in
    record {
      first = le_trans c.loop-x.invariant.first next.ensures.floor;
      each = All-more (Bounds f c.ample_from-upto.result next.result) c.args.loads.now c.loop-x.x-index none_of c.loop-x-test.true
          (All-weaker (Bounds f c.ample_from-upto.result c.loop-x.most) (Bounds f c.ample_from-upto.result next.result)
          (λ x old k below. le_trans (old k below) next.ensures.floor) (take c.loop-x.x-index c.args.loads.now) c.loop-x.invariant.each)
          next.ensures.each;
      covered = next.ensures.least (reserve c.args.base.now c.args.loads.now c.args.window) c.loop-x.invariant.covered
          (λ l below. c.points_law.ensures.covers c.args.base.now c.args.loads.now c.args.window l (omega (arith, c.ample_from-upto.ensures.within)));
      bound = next.ensures.bound;
    }

pub returns-clause-value : goal.returns-clause-value
returns-clause-value c =
    let f : ℕ → ℕ = λ n. rbf c.args.loads.now n - sbf c.args.base.now n in
    let whole = take_all c.loop-x.x-index c.args.loads.now c.loop-x-test.false in
    let each = subst (λ (xs : List Load). All (Bounds f c.ample_from-upto.result c.loop-x.most) xs) whole c.loop-x.invariant.each in
    let all = All-weaker (Bounds f c.ample_from-upto.result c.loop-x.most) (Bounds f c.args.window c.loop-x.most)
    (bounds_whole f c.ample_from-upto.result c.args.window c.loop-x.most c.ample_from-upto.ensures.ample c.loop-x.invariant.first) c.args.loads.now each in
    let least = c.points_law.ensures.kept c.args.base.now c.args.loads.now c.args.window c.loop-x.most c.requires.repeats c.loop-x.invariant.first all in
    omega (arith, c.loop-x.invariant.covered)
