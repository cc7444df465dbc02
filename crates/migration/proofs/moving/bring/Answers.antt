use Rattle.std.proofs.Common.{Bool, [], ◌∷◌, length, refl, sym, ◌∙◌, subst}
use Rattle.std.specs.Prelude.{if◌then◌else◌}
use Rattle.nv_memory.specs.declared.board.Answer.TheVariants.{Done}
use Rattle.nv_memory.specs.declared.entry.Op.TheVariants.{Write}
use Rattle.nv_memory.specs.Board.{Runs}
use Rattle.nv_memory.specs.Bytes.{bytes_at}
use Rattle.migration.proofs.Brought.{same_by}
use Rattle.migration.proofs.moving.bring.Goals as goal

pub returns-then-stands-clause-runs : goal.returns-then-stands-clause-runs
returns-then-stands-clause-runs g c =
    let old = g.B.Board.state c.args.board.now in
    let at = c.args.at in
    let bytes = c.args.bytes.now in
    let same = same_by c.stands.result (bytes_at at (length bytes) old.image) bytes c.stands.ensures ∙ c.if-stands.true in
    subst (λ (b : Bool). Runs old (if b then [] else Write at bytes ∷ []) Done old) (sym same) refl

pub returns-clause-runs : goal.returns-clause-runs
returns-clause-runs g c =
    let old = g.B.Board.state c.args.board.now in
    let new = g.B.Board.state c.write.new.self in
    let at = c.args.at in
    let bytes = c.args.bytes.now in
    let same = same_by c.stands.result (bytes_at at (length bytes) old.image) bytes c.stands.ensures ∙ c.if-stands.false in
    subst (λ (b : Bool). Runs old (if b then [] else Write at bytes ∷ []) c.write.result new) (sym same) (c.runs_are_joined.ensures.one (Write at bytes) old new c.write.result c.write.ensures.step)
