use Rattle.std.proofs.Common.{◌≡◌, ℕ, ◌+◌, ◌*◌, ◌<◌, ◌≤◌, List, All, take, take_all, inl, inr, subst, le_trans, arith}
use Rattle.std.proofs.lemmas.Bool.{cases_lt}
use Rattle.std.proofs.lemmas.List.Elements.{All-more, All-weaker}
use Rattle.demand_core.specs.declared.Load.{Load}
use Rattle.demand_core.specs.declared.Base.{Base}
use Rattle.demand_core.specs.Demand.{FitsAt, dbf, block, least_deadline}
use Rattle.feasibility.proofs.Lists.{none_of}
use Rattle.feasibility.proofs.Short.{spacings_short, deadlines_short}
use Rattle.feasibility.proofs.late.first_late.Goals as goal

-- at the points of this event below `upto` the work fits
abbrev Fits : Base → List Load → ℕ → Load → Type 0
Fits base loads upto x = (k : ℕ) → x.deadline + k * x.spacing < upto → FitsAt base loads (x.deadline + k * x.spacing)

pub least_deadline-requires : goal.least_deadline-requires
least_deadline-requires c = deadlines_short c.args.base.now c.args.loads.now c.args.window 1000000 c.requires.repeats c.requires.window c.requires.short

pub first_late_of-first-requires-clause-deadline : goal.first_late_of-first-requires-clause-deadline
first_late_of-first-requires-clause-deadline c =
    deadlines_short c.args.base.now c.args.loads.now c.args.window 1000000 c.requires.repeats c.requires.window c.requires.short c.loop-x.x-index none_of c.loop-x-test.true

pub first_late_of-first-requires-clause-spacing_short : goal.first_late_of-first-requires-clause-spacing_short
first_late_of-first-requires-clause-spacing_short c =
    spacings_short c.args.base.now.p c.args.loads.now c.args.window 1000000 c.requires.window c.requires.short c.loop-x.x-index none_of c.loop-x-test.true

pub loop-x-preserved : goal.loop-x-preserved
loop-x-preserved c =
    let next = c.first_late_of-first in
    let old = c.loop-x.invariant in
    let least = c.points_law.ensures.least c.args.loads.now c.loop-x.x-index none_of c.loop-x-test.true in
    record {
      within = le_trans next.ensures.within old.within;
      each = All-more (Fits c.args.base.now c.args.loads.now next.result) c.args.loads.now c.loop-x.x-index none_of c.loop-x-test.true
          (All-weaker (Fits c.args.base.now c.args.loads.now c.loop-x.first) (Fits c.args.base.now c.args.loads.now next.result)
          (λ x fits k below. fits k (le_trans below next.ensures.within)) (take c.loop-x.x-index c.args.loads.now) old.each)
          next.ensures.fits;
      from = λ below. elim (cases_lt next.result c.loop-x.first) [
        | inl sooner ↦ le_trans least (next.ensures.from sooner)
        | inr same ↦
            let is : c.loop-x.first ≡ next.result = omega (arith, next.ensures.within) in
            subst (λ (n : ℕ). least_deadline c.args.loads.now ≤ n) is (old.from (omega arith))
      ];
      late = λ below. elim (cases_lt next.result c.loop-x.first) [
        | inl sooner ↦ next.ensures.late sooner
        | inr same ↦
            let is : c.loop-x.first ≡ next.result = omega (arith, next.ensures.within) in
            subst (λ (n : ℕ). n < dbf c.args.loads.now n + block c.args.base.now c.args.loads.now n) is (old.late (omega arith))
      ];
    }

pub returns-then-first-end : goal.returns-then-first-end
returns-then-first-end c =
    let known = c.in_ok-least.ensures in
    let whole = take_all c.loop-x.x-index c.args.loads.now c.loop-x-test.false in
    let each = subst (λ (xs : List Load). All (Fits c.args.base.now c.args.loads.now c.loop-x.first) xs) whole c.loop-x.invariant.each in
    record {
      some = known.0;
      from = c.loop-x.invariant.from c.if-first-end.true;
      within = omega (arith, known.1, c.ample_from-end.ensures.within);
      before = λ l from below. c.points_law.ensures.fits c.args.base.now c.args.loads.now c.loop-x.first l c.requires.repeats known.0 each from below;
      late = c.loop-x.invariant.late c.if-first-end.true;
    }

pub returns-else-first-end : goal.returns-else-first-end
returns-else-first-end c l some from below =
    let known = c.in_ok-least.ensures in
    let whole = take_all c.loop-x.x-index c.args.loads.now c.loop-x-test.false in
    let each = subst (λ (xs : List Load). All (Fits c.args.base.now c.args.loads.now c.loop-x.first) xs) whole c.loop-x.invariant.each in
    elim (cases_lt l c.loop-x.first) [
      | inl near ↦ c.points_law.ensures.fits c.args.base.now c.args.loads.now c.loop-x.first l c.requires.repeats some each from near
      | inr far ↦ c.ample_from-end.ensures.ample l (omega arith) (omega (arith, known.1))
    ]
