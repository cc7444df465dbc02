use Rattle.std.proofs.Common.{map}
use Rattle.cat_conditions.specs.Plain.{further_of, furthers_of}
use Rattle.cat_conditions.specs.Pieces.{further_terms}
use Rattle.cat_types.proofs.Adding.{Continues}
use Rattle.cat_types.proofs.pieces.+expr.Given as goal

-- what is found, and what stands in the operands that are left
abbrev pub invariant-add_furthers-loop-other : goal.invariant-add_furthers-loop-other
invariant-add_furthers-loop-other l = Continues (λ others. further_terms l.in_event (furthers_of (map further_of others))) l.initial.found.items l.found.items l.others l.other-index
