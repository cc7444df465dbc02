-- The runs of a whole move.
use Rattle.std.proofs.Common.{◌≡◌, ◌≢◌, List, [], ◌∷◌, ◌++◌, sym, ◌∙◌, ap, subst, append_assoc}
use Rattle.nv_memory.specs.declared.layout.Layout.{Layout}
use Rattle.nv_memory.specs.declared.entry.Op.{Op}
use Rattle.nv_memory.specs.declared.board.Answer.{Answer}
use Rattle.nv_memory.specs.declared.board.Answer.TheVariants.{Done}
use Rattle.nv_memory.specs.Board.{State, Runs, Steps}
use Rattle.nv_memory.specs.Laws.{RunsAreJoined}
use Rattle.migration.specs.Moves.{records_of, lines_in, writes_of, move_writes, format_write}
use Rattle.migration.proofs.Upto.{writes-append}

module _ (joins : RunsAreJoined) (old new : Layout) (start : State) where
  abbrev first : List Op
  first = writes_of start.image (records_of old new start.image)

  abbrev second : List Op
  second = writes_of start.image (lines_in old new start.image)

  all_writes : move_writes old new start.image ≡ first ++ (second ++ format_write ∷ [])
  all_writes = ap (λ (ops : List Op). ops ++ format_write ∷ []) (writes-append start.image (records_of old new start.image) (lines_in old new start.image)) ∙ append_assoc first second (format_write ∷ [])

  -- a record was not written
  pub in_records : (answer : Answer) (end : State) → answer ≢ Done → Runs start first answer end → Runs start (move_writes old new start.image) answer end
  in_records answer end stops run = subst (λ (ops : List Op). Runs start ops answer end) (sym all_writes) (joins.stopped first (second ++ format_write ∷ []) start end answer stops run)

  module _ (mid : State) (records : Runs start first Done mid) where
    -- a line was not written
    pub in_lines : (answer : Answer) (end : State) → answer ≢ Done → Runs mid second answer end → Runs start (move_writes old new start.image) answer end
    in_lines answer end stops run =
        subst (λ (ops : List Op). Runs start ops answer end) (sym all_writes) (joins.joined first (second ++ format_write ∷ []) start mid end answer records (joins.stopped second (format_write ∷ []) mid end answer stops run))

    -- the format byte, behind all parts
    pub at_format : (late end : State) (answer : Answer) → Runs mid second Done late → Steps late format_write answer end → Runs start (move_writes old new start.image) answer end
    at_format late end answer run step =
        subst (λ (ops : List Op). Runs start ops answer end) (sym all_writes)
        (joins.joined first (second ++ format_write ∷ []) start mid end answer records (joins.joined second (format_write ∷ []) mid late end answer run (joins.one format_write late end answer step)))
