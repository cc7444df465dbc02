use Rattle.std.proofs.Common.{◌≡◌, length, List, ap, arith}
use Rattle.demand_core.specs.declared.Load.{Load}
use Rattle.feasibility.specs.Chosen.{loads_of}
use Rattle.feasibility.proofs.Vectors.{length-loads_of}
use Rattle.feasibility.proofs.choose.try_vector.Goals as goal

pub feasible-verdict-requires-clause-few : goal.feasible-verdict-requires-clause-few
feasible-verdict-requires-clause-few c =
    let items : c.in-Ok.loads.items ≡ loads_of c.args.tables.now c.args.front.now (length c.args.tables.now) = c.in-Ok.ensures in
    omega (arith, ap (λ (xs : List Load). length xs) c.as_slice.ensures.value, ap (λ (xs : List Load). length xs) items, length-loads_of c.args.tables.now c.args.front.now (length c.args.tables.now))

pub reserve-kept-requires-clause-few : goal.reserve-kept-requires-clause-few
reserve-kept-requires-clause-few c =
    let items : c.in-Ok.loads.items ≡ loads_of c.args.tables.now c.args.front.now (length c.args.tables.now) = c.in-Ok.ensures in
    omega (arith, ap (λ (xs : List Load). length xs) c.as_slice-2.ensures.value, ap (λ (xs : List Load). length xs) items, length-loads_of c.args.tables.now c.args.front.now (length c.args.tables.now))
