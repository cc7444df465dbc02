use Rattle.std.proofs.Common.{◌≡◌, ◌++◌, drop}
use Rattle.std.specs.Prelude.{map}
use Rattle.cat_resolve.specs.Meanings.{meanings}
use Rattle.cat_resolve.specs.Content as spec
use Rattle.cat_resolve.proofs.bodies.mention.Given as goal

abbrev pub invariant-loop-event : goal.invariant-loop-event
invariant-loop-event l = l.mentions.items ++ map (λ x. spec.event_number (meanings l.names x)) (drop l.event-index l.events)
    ≡ l.initial.mentions.items ++ map (λ x. spec.event_number (meanings l.names x)) l.events
