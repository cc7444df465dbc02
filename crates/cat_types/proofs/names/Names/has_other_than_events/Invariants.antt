use Rattle.std.proofs.Common.{◌≡◌, drop}
use Rattle.std.specs.Prelude.{not}
use Rattle.std.specs.List.{list_any}
use Rattle.cat_conditions.specs.Types.{is_event}
use Rattle.cat_types.specs.Sorts.{sorts}
use Rattle.cat_types.proofs.names.Names.has_other_than_events.Given as goal

abbrev pub invariant-loop-name : goal.invariant-loop-name
invariant-loop-name l = list_any (λ x. not (is_event (sorts l.self x))) (drop l.name-index l.list) ≡ list_any (λ x. not (is_event (sorts l.self x))) l.list
