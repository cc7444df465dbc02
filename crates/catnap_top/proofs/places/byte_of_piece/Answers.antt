use Rattle.std.proofs.Common.{length, sym, ◌∙◌}
use Rattle.catnap_top.specs.Places.{byte_of_token}
use Rattle.catnap_top.proofs.Named.{read_there, read_behind}
use Rattle.catnap_top.proofs.places.byte_of_piece.Goals as goal

pub returns-in-Some : goal.returns-in-Some
returns-in-Some c =
    c.byte_of_token.ensures
    ∙ read_there (byte_of_token c.args.source.now c.args.tokens.now) c.args.starts.now c.args.number (length c.args.source.now) c.in-Some.first (sym c.start_at.ensures ∙ c.in-Some.is)

pub returns-in-None : goal.returns-in-None
returns-in-None c =
    read_behind (byte_of_token c.args.source.now c.args.tokens.now) c.args.starts.now c.args.number (length c.args.source.now) (sym c.start_at.ensures ∙ c.in-None.is)
