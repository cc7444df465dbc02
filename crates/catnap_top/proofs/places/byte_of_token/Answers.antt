use Rattle.std.proofs.Common.{length, sym, ◌∙◌}
use Rattle.cat_tokens.specs.declared.token.Token.{Token}
use Rattle.catnap_top.proofs.Named.{read_there, read_behind}
use Rattle.catnap_top.proofs.places.byte_of_token.Goals as goal

pub returns-in-Some : goal.returns-in-Some
returns-in-Some c =
    read_there (λ (t : Token). t.from) c.args.tokens.now c.args.number (length c.args.source.now) c.in-Some.token (sym c.token_at.ensures ∙ c.in-Some.is)

pub returns-in-None : goal.returns-in-None
returns-in-None c = read_behind (λ (t : Token). t.from) c.args.tokens.now c.args.number (length c.args.source.now) (sym c.token_at.ensures ∙ c.in-None.is)
