-- What a reference to a piece shows.
use Rattle.std.specs.Prelude.{◌≡◌, List, ◌++◌, map}
use Rattle.cat_types.specs.declared.pieces.Piece.{Piece}
use Rattle.cat_types.specs.declared.pieces.Piece.TheVariants.{Item, Statement, Expression}
use Rattle.cat_conditions.specs.Plain.{term_of, action_of}
use Rattle.cat_conditions.specs.Pieces as spec

abbrev pub shown : Piece → spec.Piece
shown (Item item) = spec.an_item item.now
shown (Statement in_event room statement) = spec.a_statement in_event room (action_of statement.now)
shown (Expression in_event expression) = spec.an_expression in_event (term_of expression.now)

abbrev pub all_shown : List Piece → List spec.Piece
all_shown = map shown

-- references to these pieces came behind what was there before
pub record Adds (before now : List Piece) (more : List spec.Piece) : Type 0 where
  pub same : all_shown now ≡ all_shown before ++ more
