use Rattle.cat_conditions.specs.Plain.{block_of}
use Rattle.cat_places.specs.Walk.{after_actions, actions_lefts}
use Rattle.cat_places.proofs.Going.{Goes}
use Rattle.cat_places.proofs.places.+stmt.Given as goal

abbrev pub invariant-statements-loop-statement : goal.invariant-statements-loop-statement
invariant-statements-loop-statement l =
    Goes (λ xs ws. after_actions (block_of xs) ws) (λ xs ws. actions_lefts (block_of xs) ws) l.initial.cursor l.initial.found.items l.cursor l.found.items l.block l.statement-index
