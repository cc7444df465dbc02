use Rattle.std.proofs.Common.{◌≡◌, ◌∙◌, sym, ap, subst}
use Rattle.cat_places.specs.Starts.{first_tokens}
use Rattle.catnap_top.specs.Source.{stop_of}
use Rattle.catnap_top.specs.Files.{program_in}
use Rattle.catnap_top.specs.Look.{Stops}
use Rattle.catnap_top.specs.Places.{piece_named, byte_of_piece}
use Rattle.catnap_top.specs.Refusals.{kind_of_type_fault}
use Rattle.catnap_top.proofs.Refusing.{type_refused}
use Rattle.catnap_top.proofs.source.unchecked.Goals as goal

pub starts-requires-clause-spelled : goal.starts-requires-clause-spelled
starts-requires-clause-spelled c = (c.args.source.now, c.requires.spelled)

pub returns-in-Ok : goal.returns-in-Ok
returns-in-Ok c =
    let source = c.args.source.now in
    let tokens = c.args.tokens.now in
    let found : c.as_slice.result.now ≡ first_tokens c.requires.spelled.derived = c.as_slice.ensures.value ∙ c.in-Ok.ensures.starts source c.requires.spelled.derived in
    subst (Stops (program_in source))
    (sym (c.stop.ensures
    ∙ (ap (λ k. stop_of k c.byte_of_piece.result) c.kind_of_type_fault.ensures
    ∙ ap (stop_of (kind_of_type_fault c.args.fault))
    (c.byte_of_piece.ensures
    ∙ (ap (byte_of_piece source tokens c.as_slice.result.now) c.piece_named.ensures
    ∙ ap (λ starts. byte_of_piece source tokens starts (piece_named c.args.fault)) found)))))
    (type_refused source tokens c.args.tree.now c.args.fault c.requires.within c.requires.lexed c.requires.spelled c.requires.fault)
