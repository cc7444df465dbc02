use Rattle.cat_conditions.specs.Plain.{block_of}
use Rattle.cat_conditions.specs.Pieces.{block_pieces}
use Rattle.cat_types.proofs.Adding.{Continues}
use Rattle.cat_types.proofs.pieces.+stmt.Given as goal

-- what is found, and what the statements that are left have
abbrev pub invariant-add_block-loop-statement : goal.invariant-add_block-loop-statement
invariant-add_block-loop-statement l = Continues (λ block. block_pieces l.in_event l.room (block_of block)) l.initial.found.items l.found.items l.block l.statement-index
