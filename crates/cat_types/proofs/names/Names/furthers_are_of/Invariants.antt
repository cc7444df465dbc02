use Rattle.std.proofs.Common.{◌≡◌, map, drop}
use Rattle.cat_conditions.specs.Plain.{further_of, furthers_of}
use Rattle.cat_conditions.specs.Types.{furthers_are_of}
use Rattle.cat_types.specs.Sorts.{sorts}
use Rattle.cat_types.proofs.names.Names.furthers_are_of.Given as goal

abbrev pub invariant-loop-other : goal.invariant-loop-other
invariant-loop-other l = furthers_are_of (sorts l.self) l.value_type (furthers_of (map further_of (drop l.other-index l.others)))
    ≡ furthers_are_of (sorts l.self) l.value_type (furthers_of (map further_of l.others))
